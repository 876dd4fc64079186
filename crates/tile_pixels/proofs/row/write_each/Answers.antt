use Rattle.std.proofs.Common.{◌≡◌, ◌/◌, ◌<◌, ℕ, ℤ, pos, List, ◌++◌, length, take, get_or, rules, sym, ap, ◌∙◌, arith, w64}
use Rattle.std.proofs.lemmas.Int.{to_z-of_z}
use Rattle.parent_rule.specs.Depth.{IsNumber}
use Rattle.tile_pixels.specs.Stored.{number_bytes, stored_bytes}
use Rattle.tile_pixels.proofs.HalvedRow.{number_bits}
use Rattle.tile_pixels.proofs.RowAbove.{above_none, place_fits}
use Rattle.tile_pixels.proofs.Rows.{stored_more, written_all}
use Rattle.tile_pixels.proofs.row.write_each.Goals as goal

pub loop-i-init : goal.loop-i-init
loop-i-init g c = above_none g.N.PixelNumber.bits c.args.bytes.now

pub of-requires : goal.of-requires
of-requires g c = number_bits (IsNumber g.N.PixelNumber.bits) c.args.numbers.now c.loop-i.i c.requires.range (omega arith) (search rules)

pub write-requires : goal.write-requires
write-requires g c = place_fits c.loop-i.i (length c.args.numbers.now) (g.N.PixelNumber.bits / 8) _ (omega arith) (c.loop-i.auto.bytes ∙ c.requires.room)

pub loop-i-preserved : goal.loop-i-preserved
loop-i-preserved g c =
    let bits : ℕ = g.N.PixelNumber.bits in
    let i = c.loop-i.i in
    let numbers = c.args.numbers.now in
    let within : i < length numbers = omega arith in
    let number : g.N.PixelNumber.value c.of.result ≡ get_or numbers i (pos 0) = c.of.ensures ∙ to_z-of_z w64 _ (search rules) in
    c.write.ensures ∙ ap (λ (bytes : List ℕ). bytes ++ number_bytes bits (g.N.PixelNumber.value c.of.result)) c.loop-i.invariant
    ∙ ap (λ (v : ℤ). stored_bytes bits (take i numbers) ++ number_bytes bits v) number ∙ sym (stored_more bits numbers i within)

pub returns : goal.returns
returns g c = written_all g.N.PixelNumber.bits c.args.numbers.now c.loop-i.bytes c.loop-i.i (omega arith) (c.loop-i.auto.bytes ∙ c.requires.room) c.loop-i.invariant
