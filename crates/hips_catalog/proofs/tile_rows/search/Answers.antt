use Rattle.std.proofs.Common.{◌≡◌, ◌&&◌, Bool, true, false, not, refl, ap, subst, sym, ◌∙◌, arith}
use Rattle.std.proofs.lemmas.Bool.{and_parts}
use Rattle.std.specs.Prelude.{Option, Some, None, option_map, option_copied, unwrap_or}
use Rattle.std.specs.Arc.{arc_value}
use Rattle.hips_catalog.specs.Rows.{Source, is_better}
use Rattle.hips_catalog.proofs.Order.{not_itself}
use Rattle.hips_catalog.proofs.Shared.{get_map, search_map}
use Rattle.hips_catalog.proofs.tile_rows.search.Goals as goal

was_false : (b : Bool) → not b ≡ true → b ≡ false
was_false true h = absurd (grind (arith, h))
was_false false h = refl

neither : (a b : Bool) → (not a && not b) ≡ true → (a ≡ false) × (b ≡ false)
neither a b h = let p = and_parts (not a) (not b) h in (was_false a p.0, was_false b p.1)

-- a row is level with itself
level : (x : Source) → (not (is_better x x) && not (is_better x x)) ≡ true
level x = ap (λ b. not b && not b) (not_itself x)

none_some : (x : Source) → None ≡ Some x → ⊥
none_some x e = absurd (grind (arith, e))

true_false : (b : Bool) → b ≡ true → b ≡ false → ⊥
true_false b h g = absurd (grind (arith, h, g))

other : (found x : Source) (o : Option Source) → Some found ≡ o → (not (is_better found x) && not (is_better x found)) ≡ false → o ≡ Some x → ⊥
other found x o e t f =
    let same : found ≡ x = ap (λ q. unwrap_or q x) (e ∙ f) in
    true_false (not (is_better x x) && not (is_better x x)) (level x) (subst (λ y. (not (is_better y x) && not (is_better x y)) ≡ false) same t)

pub returns-in-Some-clause-place : goal.returns-in-Some-clause-place
returns-in-Some-clause-place c = search_map arc_value (λ s. is_better s c.args.row.now) c.args.rows.now c.search-i.result.0 c.search-i.ensures.leading

pub returns-in-Some-clause-yes : goal.returns-in-Some-clause-yes
returns-in-Some-clause-yes c h =
    let n = neither (is_better (arc_value c.in-Some.found.now) c.args.row.now) (is_better c.args.row.now (arc_value c.in-Some.found.now)) (sym c.is_level.ensures ∙ h) in
    (arc_value c.in-Some.found.now, get_map arc_value c.args.rows.now c.search-i.result.0 ∙ ap (option_map arc_value) (sym c.search-i.ensures.item ∙ ap option_copied c.in-Some.is), n.0, n.1)

pub returns-in-Some-clause-no : goal.returns-in-Some-clause-no
returns-in-Some-clause-no c h e =
    other (arc_value c.in-Some.found.now) c.args.row.now _
    (ap (option_map arc_value) (sym (ap option_copied c.in-Some.is) ∙ c.search-i.ensures.item) ∙ sym (get_map arc_value c.args.rows.now c.search-i.result.0))
    (sym c.is_level.ensures ∙ h) e

pub returns-in-None-clause-place : goal.returns-in-None-clause-place
returns-in-None-clause-place c = search_map arc_value (λ s. is_better s c.args.row.now) c.args.rows.now c.search-i.result.0 c.search-i.ensures.leading

pub returns-in-None-clause-no : goal.returns-in-None-clause-no
returns-in-None-clause-no c h e =
    none_some c.args.row.now
    (ap (option_map arc_value) (sym (ap option_copied c.in-None.is) ∙ c.search-i.ensures.item) ∙ sym (get_map arc_value c.args.rows.now c.search-i.result.0) ∙ e)
