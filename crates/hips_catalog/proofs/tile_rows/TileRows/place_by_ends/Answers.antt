use Rattle.std.proofs.Common.{◌≡◌, ◌<◌, sym, ◌∙◌, subst}
use Rattle.std.specs.Prelude.{slice_get, Some}
use Rattle.balanced_list.specs.Search.{leading, HoldsAtFirst}
use Rattle.hips_catalog.specs.Rows.{is_better}
use Rattle.hips_catalog.specs.Tiles.{sources}
use Rattle.hips_catalog.proofs.Ends.{past_last, nothing_past, before_first, not_first}
use Rattle.hips_catalog.proofs.tile_rows.TileRows.place_by_ends.Goals as goal

pub returns-then-self-rank-clause-place : goal.returns-then-self-rank-clause-place
returns-then-self-rank-clause-place c =
    subst (λ xs. HoldsAtFirst (λ s. is_better s c.args.row.now) (sources xs) → c.len.result ≡ leading (λ s. is_better s c.args.row.now) (sources xs)) c.self.view_is
    (λ o. c.len.ensures ∙ past_last c.self.inside.list c.args.row.now c.self.inside.last c.self.invariant.last_is (subst (λ n. c.self.inside.last < n) c.rank.ensures c.if-self-rank.true) o)

pub returns-then-self-rank-clause-other : goal.returns-then-self-rank-clause-other
returns-then-self-rank-clause-other c e =
    nothing_past c.self.inside.list c.args.row.now (subst (λ n. slice_get (sources c.self.inside.list) n ≡ Some c.args.row.now) c.len.ensures (subst (λ xs. slice_get (sources xs) c.len.result ≡ Some c.args.row.now) (sym c.self.view_is) e))

pub returns-then-rank-self-clause-place : goal.returns-then-rank-self-clause-place
returns-then-rank-self-clause-place c o =
    subst (λ xs. 0 ≡ leading (λ s. is_better s c.args.row.now) (sources xs)) c.self.view_is
    (before_first c.self.inside.list c.args.row.now c.self.inside.first c.self.invariant.first_is (subst (λ n. n < c.self.inside.first) c.rank-2.ensures c.if-rank-self.true))

pub returns-then-rank-self-clause-other : goal.returns-then-rank-self-clause-other
returns-then-rank-self-clause-other c e =
    not_first c.self.inside.list c.args.row.now c.self.inside.first c.self.invariant.first_is (subst (λ n. n < c.self.inside.first) c.rank-2.ensures c.if-rank-self.true)
    (subst (λ xs. slice_get (sources xs) 0 ≡ Some c.args.row.now) (sym c.self.view_is) e)
