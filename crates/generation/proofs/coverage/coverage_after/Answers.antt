use Rattle.std.proofs.Common.{◌≡◌, ◌<◌, ℕ, List, sym, ap, ap₂, subst, ◌∙◌, rules}
use Rattle.std.specs.Prelude.{All, length}
use Rattle.std.specs.Arc.{arc_value}
use Rattle.std.specs.Map.{keys_of}
use Rattle.std.proofs.lemmas.List.Elements.{All-filter}
use Rattle.healpix_nested.specs.Cells.{cell_count}
use Rattle.coverage_moc.specs.Cover.{MocCover, cover}
use Rattle.generation.specs.Presence.{comes_or_goes, all_as_in}
use Rattle.generation.proofs.Presence.{moved_cover, unmoved_cover}
use Rattle.generation.proofs.coverage.coverage_after.Goals as goal

pub returns-in-None : goal.returns-in-None
returns-in-None c =
    let kept : arc_value c.in_ok-clone-in-None.field-0 ≡ arc_value c.args.coverage.now = search rules in
    let none : length c.in_ok-moved.moved.items ≡ 0 = search rules in
    kept ∙ c.requires.old
    ∙ ap (λ (rows : List ℕ). record { top = c.args.top; rows = rows })
    (unmoved_cover c.leaves_decide.ensures c.args.top c.args.old.now c.args.leaves.now c.args.touched.now c.in_ok-moved.moved.items c.requires.same c.in_ok-moved.ensures none)

pub stepwise-requires-clause-cells : goal.stepwise-requires-clause-cells
stepwise-requires-clause-cells c =
    let P : ℕ → Type 0 = λ leaf. leaf < cell_count c.args.top in
    let moved = sym c.in_ok-moved.ensures ∙ sym c.deref.ensures.value ∙ c.in-Some.ensures.cases.0 in
    subst (All P) moved (All-filter (comes_or_goes c.args.old.now c.args.leaves.now) P c.args.touched.now c.requires.touched)

pub returns-in-Some : goal.returns-in-Some
returns-in-Some c =
    let moved = sym c.in_ok-moved.ensures ∙ sym c.deref.ensures.value ∙ c.in-Some.ensures.cases.0 in
    let inside : c.behind-coverage-in-Some.inside.cover ≡ arc_value c.args.coverage.now = cc in
    let was : c.behind-coverage-in-Some.inside.cover.rows ≡ cover c.args.top (keys_of c.args.old.now) =
    ap (λ (kept : MocCover). kept.rows) (inside ∙ c.requires.old) in
    let rows : c.in_ok-cover-in-Some.cover.rows ≡ cover c.args.top (keys_of c.args.leaves.now) =
    c.in_ok-cover-in-Some.ensures.rows (keys_of c.args.old.now) was
    ∙ ap (λ (found : List ℕ). cover c.args.top (all_as_in c.args.leaves.now (keys_of c.args.old.now) found)) (sym moved)
    ∙ moved_cover c.leaves_decide.ensures c.args.top c.args.old.now c.args.leaves.now c.args.touched.now c.requires.same in
    c.in_ok-new-in-Some.ensures.ok ∙ c.in_ok-coverage-in-Some.ensures
    ∙ ap₂ (λ (top : ℕ) (found : List ℕ). record { top = top; rows = found }) c.in_ok-cover-in-Some.ensures.top rows
