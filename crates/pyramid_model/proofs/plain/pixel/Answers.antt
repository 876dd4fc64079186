use Rattle.std.proofs.Common.{◌≡◌, ◌/◌, ◌%◌, ◌^◌, ◌∙◌, sym, ap, rules, w64, Some}
use Rattle.std.specs.Prelude.{slice_get}
use Rattle.std.proofs.lemmas.Int.{to_z-of_z}
use Rattle.healpix_nested.specs.Place.{stored_at_z}
use Rattle.pyramid_model.proofs.ValueLemmas.{pixel_of_missing, pixel_of_leaf, leaf_length, leaf_number}
use Rattle.pyramid_model.proofs.plain.pixel.Goals as goal
use mir.Val.{SFits}

pub number_at-requires-clause-numbers : goal.number_at-requires-clause-numbers
number_at-requires-clause-numbers c =
    let n_is : c.shape.inside.n ≡ c.args.shape.now.n = ap (λ s. s.n) c.shape.view_is in
    rw (c.deref.ensures.value, n_is) (leaf_length c.args.shape.now c.args.leaves.now.entries (c.args.cell / c.cells_below-below.result) c.in-Some.numbers.now c.requires.fits (sym c.in-Some.ensures.value))

pub returns-in-None-clause-pixel : goal.returns-in-None-clause-pixel
returns-in-None-clause-pixel c =
    let blank_fits : SFits w64 c.blank.result = search rules in
    let below_is : c.cells_below-below.result ≡ 4 ^ c.args.shape.now.n = c.cells_below-below.ensures.count ∙ ap (λ s. 4 ^ s.n) c.shape.view_is in
    let blank_is : c.blank.result ≡ c.args.shape.now.depth.blank = c.blank.ensures.blank ∙ ap (λ s. s.depth.blank) c.shape.view_is in
    to_z-of_z w64 c.blank.result blank_fits ∙ blank_is ∙ sym (pixel_of_missing c.args.shape.now c.args.leaves.now.entries (c.args.cell / 4 ^ c.args.shape.now.n) (c.args.cell % 4 ^ c.args.shape.now.n) (sym (rw below_is at c.in-None.ensures.value)))

pub returns-in-Some-clause-pixel : goal.returns-in-Some-clause-pixel
returns-in-Some-clause-pixel c =
    let number_fits : SFits w64 c.number_at.result = search rules in
    let n_is : c.shape.inside.n ≡ c.args.shape.now.n = ap (λ s. s.n) c.shape.view_is in
    let below_is : c.cells_below-below.result ≡ 4 ^ c.args.shape.now.n = c.cells_below-below.ensures.count ∙ ap (λ n. 4 ^ n) n_is in
    let at : slice_get c.in-Some.numbers.now.items (stored_at_z c.args.shape.now.n (c.args.cell % 4 ^ c.args.shape.now.n)) ≡ Some c.number_at.result = rw (c.deref.ensures.value, n_is, below_is) at c.number_at.ensures in
    to_z-of_z w64 c.number_at.result number_fits ∙ sym (pixel_of_leaf c.args.shape.now c.args.leaves.now.entries (c.args.cell / 4 ^ c.args.shape.now.n) (c.args.cell % 4 ^ c.args.shape.now.n) c.in-Some.numbers.now c.number_at.result (sym (rw below_is at c.in-Some.ensures.value)) at)

pub returns-in-Some-clause-number : goal.returns-in-Some-clause-number
returns-in-Some-clause-number c =
    let number_fits : SFits w64 c.number_at.result = search rules in
    let at : slice_get c.in-Some.numbers.now.items (stored_at_z c.shape.inside.n (c.args.cell % c.cells_below-below.result)) ≡ Some c.number_at.result = rw c.deref.ensures.value at c.number_at.ensures in
    rw to_z-of_z (leaf_number c.args.shape.now c.args.leaves.now.entries (c.args.cell / c.cells_below-below.result) (stored_at_z c.shape.inside.n (c.args.cell % c.cells_below-below.result)) c.in-Some.numbers.now c.number_at.result c.requires.fits (sym c.in-Some.ensures.value) at)
