use Rattle.std.proofs.Common.{◌≡◌, ◌*◌, ◌/◌, ◌^◌, ◌<◌, ◌≤◌, ◌∙◌, ap, arith}
use Rattle.std.proofs.lemmas.Nat.{pow_pos}
use Rattle.std.proofs.Math.Nat.{div-lt_iff_lt-mul}
use Rattle.healpix_nested.specs.Place.{stored_z, stored_column, stored_line}
use Rattle.healpix_nested.specs.PlaceLaws.{stored_column_below, stored_line_below, stored_z_below, side_at_most, square_of_side}
use Rattle.pyramid_model.proofs.plain.cell_at.Goals as goal

pub overflow_sub-width-2 : goal.overflow_sub-width-2
overflow_sub-width-2 c =
    let width_is : c.pow-width.result ≡ 2 ^ c.args.n = c.pow-width.ensures ∙ ap (λ n. 2 ^ n) c.from.ensures in
    let side : 0 < 2 ^ c.args.n = pow_pos c.args.n in
    let within : c.args.place < 2 ^ c.args.n * 2 ^ c.args.n = rw (square_of_side c.args.n) c.requires.place in
    let line : c.args.place / 2 ^ c.args.n < 2 ^ c.args.n = (div-lt_iff_lt-mul side).1 within in
    rw width_is (omega arith)

pub interleave-requires-clause-col : goal.interleave-requires-clause-col
interleave-requires-clause-col c =
    let width_is : c.pow-width.result ≡ 2 ^ c.args.n = c.pow-width.ensures ∙ ap (λ n. 2 ^ n) c.from.ensures in
    let column : stored_column c.args.n c.args.place < 2 ^ c.args.n = stored_column_below c.args.n c.args.place in
    let side : 2 ^ c.args.n ≤ 512 = side_at_most c.args.n c.requires.n in
    rw width_is (omega arith)

pub interleave-requires-clause-row : goal.interleave-requires-clause-row
interleave-requires-clause-row c =
    let width_is : c.pow-width.result ≡ 2 ^ c.args.n = c.pow-width.ensures ∙ ap (λ n. 2 ^ n) c.from.ensures in
    let line : stored_line c.args.n c.args.place < 2 ^ c.args.n = stored_line_below c.args.n c.args.place in
    let side : 2 ^ c.args.n ≤ 512 = side_at_most c.args.n c.requires.n in
    rw width_is (omega arith)

pub overflow_add-result : goal.overflow_add-result
overflow_add-result c =
    let width_is : c.pow-width.result ≡ 2 ^ c.args.n = c.pow-width.ensures ∙ ap (λ n. 2 ^ n) c.from.ensures in
    let z : c.interleave.result ≡ stored_z c.args.n c.args.place = rw width_is at c.interleave.ensures.number in
    let below : stored_z c.args.n c.args.place < 4 ^ c.args.n = stored_z_below c.args.n c.args.place in
    rw (c.cells_below.ensures.count, z) (omega arith)
