use Rattle.std.proofs.Common.{◌≡◌, ◌<◌, ◌≤◌, ◌+◌, ◌^◌, ◌++◌, map, length, sym, ap, ◌∙◌, subst, arith}
use Rattle.std.specs.Prelude.{fold, sum_by}
use Rattle.std.specs.Arc.{arc_value}
use Rattle.std.proofs.lemmas.List.{length-map}
use Rattle.edit_journal.specs.Edit.{edit_of}
use Rattle.edit_journal.specs.Leaves.{leaves_after, edit_charge}
use Rattle.edit_journal.specs.Faults.{most_edits}
use Rattle.edit_journal.specs.Kept.{noted, kept_content, IsKeptJournal}
use Rattle.edit_journal.specs.declared.newest.Newest.{Newest}
use Rattle.edit_journal.proofs.KeptLemmas.{grown_count, grown_charge, grown_kept, grown_seen}
use Rattle.edit_journal.proofs.journal.Journal.grown.Goals as goal

pub with_all-requires-clause-count : goal.with_all-requires-clause-count
with_all-requires-clause-count c =
    let long : length (map edit_of c.args.batch.now) ≡ length c.args.batch.now = length-map c.args.batch.now edit_of in
    let some : 0 < length (map edit_of c.args.batch.now) = omega (arith, c.requires.some) in
    let room : length c.self.inside.newest.notes + length (map edit_of c.args.batch.now) ≤ most_edits =
    grown_count _ _ _ c.args.self.now c.self.view_is _ _ c.self.invariant (map edit_of c.args.batch.now) some c.requires.fits c.requires.accepted in
    let same : length c.in_ok-share.field-0.notes ≡ length c.self.inside.newest.notes = ap (λ (n : Newest). length n.notes) c.in_ok-share.ensures in
    omega arith

pub with_all-requires-clause-charge : goal.with_all-requires-clause-charge
with_all-requires-clause-charge c =
    let long : length (map edit_of c.args.batch.now) ≡ length c.args.batch.now = length-map c.args.batch.now edit_of in
    let some : 0 < length (map edit_of c.args.batch.now) = omega (arith, c.requires.some) in
    let room : c.self.inside.newest.charge + sum_by edit_charge (map edit_of c.args.batch.now) < 2 ^ 64 =
    grown_charge _ _ _ c.args.self.now c.self.view_is _ _ c.self.invariant (map edit_of c.args.batch.now) some c.requires.fits c.requires.accepted in
    let same : c.in_ok-share.field-0.charge ≡ c.self.inside.newest.charge = ap (λ (n : Newest). n.charge) c.in_ok-share.ensures in
    omega arith

pub invariant_of-result : goal.invariant_of-result
invariant_of-result c =
    let long : length (map edit_of c.args.batch.now) ≡ length c.args.batch.now = length-map c.args.batch.now edit_of in
    let some : 0 < length (map edit_of c.args.batch.now) = omega (arith, c.requires.some) in
    let kept : IsKeptJournal c.self.inside.shape (arc_value c.self.inside.opening) c.in_ok-newest.newest.notes c.in_ok-newest.newest.leaves c.in_ok-newest.newest.charge =
    grown_kept c.self.inside.shape (arc_value c.self.inside.opening) c.self.inside.newest.notes c.args.self.now c.self.view_is _ _ c.self.invariant (map edit_of c.args.batch.now) some c.requires.fits c.requires.accepted
    c.in_ok-newest.newest.notes c.in_ok-newest.newest.leaves c.in_ok-newest.newest.charge
    (c.in_ok-newest.ensures.notes ∙ ap (λ (n : Newest). n.notes ++ noted (map edit_of c.args.batch.now)) c.in_ok-share.ensures)
    (c.in_ok-newest.ensures.leaves ∙ ap (λ (n : Newest). fold leaves_after n.leaves (map edit_of c.args.batch.now)) c.in_ok-share.ensures)
    (c.in_ok-newest.ensures.charge ∙ ap (λ (n : Newest). n.charge + sum_by edit_charge (map edit_of c.args.batch.now)) c.in_ok-share.ensures) in
    subst (λ o. IsKeptJournal c.self.inside.shape o c.in_ok-newest.newest.notes c.in_ok-newest.newest.leaves c.in_ok-newest.newest.charge) (sym c.in_ok-opening.ensures.cases) kept

pub returns : goal.returns
returns c =
    let long : length (map edit_of c.args.batch.now) ≡ length c.args.batch.now = length-map c.args.batch.now edit_of in
    let some : 0 < length (map edit_of c.args.batch.now) = omega (arith, c.requires.some) in
    ap (λ o. kept_content c.self.inside.shape o c.in_ok-newest.newest.notes) c.in_ok-opening.ensures.cases
    ∙ grown_seen c.self.inside.shape (arc_value c.self.inside.opening) c.self.inside.newest.notes c.args.self.now c.self.view_is _ _ c.self.invariant (map edit_of c.args.batch.now) some c.requires.fits c.requires.accepted
    c.in_ok-newest.newest.notes c.in_ok-newest.newest.leaves c.in_ok-newest.newest.charge
    (c.in_ok-newest.ensures.notes ∙ ap (λ (n : Newest). n.notes ++ noted (map edit_of c.args.batch.now)) c.in_ok-share.ensures)
    (c.in_ok-newest.ensures.leaves ∙ ap (λ (n : Newest). fold leaves_after n.leaves (map edit_of c.args.batch.now)) c.in_ok-share.ensures)
    (c.in_ok-newest.ensures.charge ∙ ap (λ (n : Newest). n.charge + sum_by edit_charge (map edit_of c.args.batch.now)) c.in_ok-share.ensures)
