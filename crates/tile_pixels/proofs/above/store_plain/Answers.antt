use Rattle.std.proofs.Common.{◌≡◌, ◌*◌, ◌∙◌, ap, sym, length, ℕ, arith}
use Rattle.tile_pixels.specs.Stored.{numbers_from, stored_bytes}
use Rattle.tile_pixels.proofs.TwoRows.{row_above-plain}
use Rattle.tile_pixels.proofs.above.store_plain.Goals as goal

pub returns : goal.returns
returns c =
    let bits = c.args.depth.bitpix in
    let above : length c.mean_rows.new.out ≡ c.args.count = omega arith in
    let upper : length c.read_row.new.numbers ≡ 2 * c.args.count = omega arith in
    let lower : length c.read_row-2.new.numbers ≡ 2 * c.args.count = omega arith in
    c.write_row.ensures.bytes ∙ ap (stored_bytes bits)
    (row_above-plain c.args.depth.combine bits c.args.depth.blank c.args.count c.args.top.now c.args.bottom.now c.mean_rows.new.out c.read_row.new.numbers c.read_row-2.new.numbers above
    (c.read_row.ensures.numbers ∙ ap (λ (k : ℕ). numbers_from bits k c.args.top.now) (sym c.read_row.auto.numbers ∙ upper))
    (c.read_row-2.ensures.numbers ∙ ap (λ (k : ℕ). numbers_from bits k c.args.bottom.now) (sym c.read_row-2.auto.numbers ∙ lower))
    c.mean_rows.ensures.combined)
