use Rattle.std.proofs.Common.{◌≡◌, ◌+◌, ◌-◌, ◌∙◌, sym, ap, arith, rules, w64}
use Rattle.std.proofs.lemmas.Int.{to_z-of_z}
use Rattle.pyramid_model.specs.Leaves.{leaf_map}
use Rattle.pyramid_model.proofs.Quads.{children_fit}
use Rattle.pyramid_model.specs.ValueLaws.{blank_below, value_pixel}
use Rattle.pyramid_model.proofs.ValueLemmas.{numbers_of_four, value_of_four}
use Rattle.pyramid_model.proofs.plain.+value.Goals as goal
use mir.Val.{SFits}

pub overflow_mul-first : goal.overflow_mul-first
overflow_mul-first t c =
    let top_is : c.shape.inside.top + c.shape.inside.n ≡ c.args.shape.now.top + c.args.shape.now.n = ap (λ s. s.top + s.n) c.shape.view_is in
    let fit = children_fit c.args.order c.args.cell (omega arith) c.requires.cell in
    omega (arith, fit.1)

pub overflow_add-first : goal.overflow_add-first
overflow_add-first t c =
    let top_is : c.shape.inside.top + c.shape.inside.n ≡ c.args.shape.now.top + c.args.shape.now.n = ap (λ s. s.top + s.n) c.shape.view_is in
    let fit = children_fit c.args.order c.args.cell (omega arith) c.requires.cell in
    omega (arith, fit.1)

pub overflow_add-first-2 : goal.overflow_add-first-2
overflow_add-first-2 t c =
    let top_is : c.shape.inside.top + c.shape.inside.n ≡ c.args.shape.now.top + c.args.shape.now.n = ap (λ s. s.top + s.n) c.shape.view_is in
    let fit = children_fit c.args.order c.args.cell (omega arith) c.requires.cell in
    omega (arith, fit.1)

pub overflow_add-first-3 : goal.overflow_add-first-3
overflow_add-first-3 t c =
    let top_is : c.shape.inside.top + c.shape.inside.n ≡ c.args.shape.now.top + c.args.shape.now.n = ap (λ s. s.top + s.n) c.shape.view_is in
    let fit = children_fit c.args.order c.args.cell (omega arith) c.requires.cell in
    omega (arith, fit.1)

pub mean4-requires : goal.mean4-requires
mean4-requires t c = numbers_of_four c.args.shape.now.depth.bitpix c.shape.inside.depth.bitpix c.value-v0.result c.value-v1.result c.value-v2.result c.value-v3.result (ap (λ s. s.depth.bitpix) c.shape.view_is)
    (search rules) (search rules) (search rules) (search rules) c.value-v0.ensures.number c.value-v1.ensures.number c.value-v2.ensures.number c.value-v3.ensures.number

pub returns-then-not-has_pixels-clause-value : goal.returns-then-not-has_pixels-clause-value
returns-then-not-has_pixels-clause-value t c =
    let fits : SFits w64 c.blank.result = search rules in
    to_z-of_z w64 c.blank.result fits ∙ c.blank.ensures.blank ∙ ap (λ s. s.depth.blank) c.shape.view_is
    ∙ sym (blank_below c.args.shape.now (leaf_map c.args.leaves.now.entries) (c.args.shape.now.top + c.args.shape.now.n - c.args.order) c.args.cell (c.has_pixels.ensures.none c.if-not-has_pixels.true))

pub returns-then-order-shape-clause-value : goal.returns-then-order-shape-clause-value
returns-then-order-shape-clause-value t c =
    let fits : SFits w64 c.pixel.result = search rules in
    to_z-of_z w64 c.pixel.result fits ∙ c.pixel.ensures.pixel
    ∙ sym (value_pixel c.args.shape.now (leaf_map c.args.leaves.now.entries) c.args.order c.args.cell (c.if-order-shape.true ∙ ap (λ s. s.top + s.n) c.shape.view_is))

pub returns-clause-value : goal.returns-clause-value
returns-clause-value t c =
    let fits : SFits w64 c.mean4.result = search rules in
    let top_is : c.shape.inside.top + c.shape.inside.n ≡ c.args.shape.now.top + c.args.shape.now.n = ap (λ s. s.top + s.n) c.shape.view_is in
    to_z-of_z w64 c.mean4.result fits
    ∙ value_of_four c.args.shape.now (leaf_map c.args.leaves.now.entries) c.args.order c.args.cell c.shape.inside.depth c.mean4.result c.value-v0.result c.value-v1.result c.value-v2.result c.value-v3.result
    (omega arith) (ap (λ s. s.depth) c.shape.view_is) (search rules) (search rules) (search rules) (search rules)
    c.value-v0.ensures.value c.value-v1.ensures.value c.value-v2.ensures.value c.value-v3.ensures.value c.mean4.ensures.combined
