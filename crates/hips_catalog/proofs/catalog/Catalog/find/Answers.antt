use Rattle.std.proofs.Common.{◌≡◌, ℕ, List, ap, sym, subst, option_copied, ◌∙◌}
use Rattle.std.specs.declared.sync.Arc.{Arc}
use Rattle.std.specs.declared.alloc.Global.{Global}
use Rattle.balanced_list.specs.Search.{leading, HoldsAtFirst}
use Rattle.std.specs.Arc.{arc_value}
use Rattle.std.specs.Str.{bytes_eq}
use Rattle.hips_catalog.specs.Rows.{Source, has_id_below}
use Rattle.hips_catalog.specs.Catalogue.{Catalogue}
use Rattle.hips_catalog.specs.Kept.{StandsAt, WouldStandAt}
use Rattle.hips_catalog.specs.Tiles.{sources}
use Rattle.hips_catalog.proofs.Shared.{search_map}
use Rattle.hips_catalog.proofs.Ids.{stands_at, would_stand_at, shared_item, other_item, no_item, shared_within}
use Rattle.hips_catalog.proofs.catalog.Catalog.find.Goals as goal

-- the same search by the same id
sought : (ids : List (Arc Source Global)) (place : ℕ) (one other : List ℕ) → one ≡ other
    → (HoldsAtFirst (λ row. has_id_below (arc_value row) one) ids → place ≡ leading (λ row. has_id_below (arc_value row) one) ids)
    → HoldsAtFirst (λ row. has_id_below (arc_value row) other) ids → place ≡ leading (λ row. has_id_below (arc_value row) other) ids
sought ids place one other same h =
    subst (λ id. HoldsAtFirst (λ row. has_id_below (arc_value row) id) ids → place ≡ leading (λ row. has_id_below (arc_value row) id) ids) same h

pub returns-then-eq-clause-there : goal.returns-then-eq-clause-there
returns-then-eq-clause-there c =
    subst (λ ss. StandsAt c.args.id.now ss c.search-at.result.0) (ap (λ (k : Catalogue). k.rows) c.self.view_is)
    (stands_at c.args.id.now (sources c.self.inside.ids) c.search-at.result.0 (arc_value c.in-Some.row.now) c.self.invariant.is.by_id (shared_item c.self.inside.ids c.search-at.result.0 c.in-Some.row.now (sym (ap option_copied c.in-Some.is) ∙ c.search-at.ensures.item))
    (ap (λ i. bytes_eq i c.args.id.now) (sym (c.id.ensures ∙ ap (λ (s : Source). s.id) c.row.ensures)) ∙ sym c.eq.ensures ∙ c.if-eq.true))

pub returns-else-eq-clause-absent : goal.returns-else-eq-clause-absent
returns-else-eq-clause-absent c =
    subst (λ ss. WouldStandAt c.args.id.now ss c.search-at.result.0) (ap (λ (k : Catalogue). k.rows) c.self.view_is)
    (would_stand_at c.args.id.now (sources c.self.inside.ids) c.search-at.result.0 c.self.invariant.is.by_id (shared_within c.self.inside.ids c.search-at.result.0 c.search-at.ensures.within) (search_map arc_value (λ s. has_id_below s c.args.id.now) c.self.inside.ids c.search-at.result.0
    (sought c.self.inside.ids c.search-at.result.0 c.new.result.id.now c.args.id.now c.new.ensures c.search-at.ensures.leading))
    (other_item c.args.id.now c.self.inside.ids c.search-at.result.0 c.in-Some.row.now (sym (ap option_copied c.in-Some.is) ∙ c.search-at.ensures.item) (ap (λ i. bytes_eq i c.args.id.now) (sym (c.id.ensures ∙ ap (λ (s : Source). s.id) c.row.ensures)) ∙ sym c.eq.ensures ∙ c.if-eq.false)))

pub returns-in-None-clause-absent : goal.returns-in-None-clause-absent
returns-in-None-clause-absent c =
    subst (λ ss. WouldStandAt c.args.id.now ss c.search-at.result.0) (ap (λ (k : Catalogue). k.rows) c.self.view_is)
    (would_stand_at c.args.id.now (sources c.self.inside.ids) c.search-at.result.0 c.self.invariant.is.by_id (shared_within c.self.inside.ids c.search-at.result.0 c.search-at.ensures.within) (search_map arc_value (λ s. has_id_below s c.args.id.now) c.self.inside.ids c.search-at.result.0
    (sought c.self.inside.ids c.search-at.result.0 c.new.result.id.now c.args.id.now c.new.ensures c.search-at.ensures.leading))
    (no_item c.args.id.now c.self.inside.ids c.search-at.result.0 (sym (ap option_copied c.in-None.is) ∙ c.search-at.ensures.item)))
