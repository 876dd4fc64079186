use Rattle.std.proofs.Common.{◌≡◌, ◌^◌, ◌<◌, ◌≤◌, ◌∙◌, ap, arith, rules, length, get_or, w64, pos}
use Rattle.std.proofs.lemmas.Int.{to_z-of_z}
use Rattle.std.proofs.lemmas.Option.{slice_get-get_or}
use Rattle.healpix_nested.specs.Place.{stored_at_z, line_of}
use Rattle.healpix_nested.specs.CellLaws.{four_pow_mono}
use Rattle.healpix_nested.specs.PlaceLaws.{stored_at_z_below, line_of_below}
use Rattle.pyramid_model.proofs.plain.number_at.Goals as goal
use mir.Val.{SFits}

pub split-col-requires : goal.split-col-requires
split-col-requires c = let within : 4 ^ c.args.n ≤ 4 ^ 9 = four_pow_mono c.args.n 9 c.requires.n in omega arith

pub overflow_sub-result-2 : goal.overflow_sub-result-2
overflow_sub-result-2 c =
    let width_is : c.pow-width.result ≡ 2 ^ c.args.n = c.pow-width.ensures ∙ ap (λ n. 2 ^ n) c.from.ensures in
    let within : line_of c.args.z < 2 ^ c.args.n = line_of_below c.args.n c.args.z c.requires.z in
    omega arith

pub bounds-numbers-width : goal.bounds-numbers-width
bounds-numbers-width c =
    let width_is : c.pow-width.result ≡ 2 ^ c.args.n = c.pow-width.ensures ∙ ap (λ n. 2 ^ n) c.from.ensures in
    rw (width_is, c.split-col.ensures.line, c.split-col.ensures.column, c.requires.numbers) (stored_at_z_below c.args.n c.args.z c.requires.z)

pub returns : goal.returns
returns c =
    let width_is : c.pow-width.result ≡ 2 ^ c.args.n = c.pow-width.ensures ∙ ap (λ n. 2 ^ n) c.from.ensures in
    let below : stored_at_z c.args.n c.args.z < length c.args.numbers.now = rw c.requires.numbers (stored_at_z_below c.args.n c.args.z c.requires.z) in
    let fits : SFits w64 (get_or c.args.numbers.now (stored_at_z c.args.n c.args.z) (pos 0)) = search rules in
    rw (width_is, c.split-col.ensures.line, c.split-col.ensures.column, to_z-of_z w64 _ fits) (slice_get-get_or c.args.numbers.now (stored_at_z c.args.n c.args.z) (pos 0) below)
