use Rattle.std.proofs.Common.{◌≡◌, ◌<◌, ◌-◌, false, refl, sym, ap, ◌∙◌, subst, arith}
use Rattle.std.specs.Prelude.{Contains}
use Rattle.edit_journal.specs.Batches.{ends}
use Rattle.edit_journal.specs.Kept.{Note, noted_batches}
use Rattle.edit_journal.specs.Journal.{JournalContent}
use Rattle.edit_journal.proofs.EndLemmas.{zero_is_end, end_seen, is_marked, is_marked-slice_get, is_marked-past}
use Rattle.edit_journal.proofs.journal.Journal.is_end.Goals as goal

pub returns-then-k-eq0 : goal.returns-then-k-eq0
returns-then-k-eq0 c = (λ _. subst (Contains (ends c.args.self.now.batches)) (sym c.if-k-eq0.true) (zero_is_end c.args.self.now.batches), λ _. refl)

pub returns-in-Some : goal.returns-in-Some
returns-in-Some c =
    let some : 0 < c.args.k = omega arith in
    let batches : noted_batches c.self.inside.newest.notes ≡ c.args.self.now.batches = ap (λ (j : JournalContent). j.batches) c.self.view_is in
    let marked : is_marked (c.args.k - 1) c.self.inside.newest.notes ≡ c.note.inside.closes =
    is_marked-slice_get (c.args.k - 1) c.self.inside.newest.notes c.in-Some.note.now (sym c.in-Some.ensures) ∙ sym (ap (λ (n : Note). n.closes) c.note.view_is) in
    end_seen c.args.k c.self.inside.newest.notes c.args.self.now.batches c.note.inside.closes c.self.invariant.closed batches some marked

pub returns-in-None : goal.returns-in-None
returns-in-None c =
    let some : 0 < c.args.k = omega arith in
    let batches : noted_batches c.self.inside.newest.notes ≡ c.args.self.now.batches = ap (λ (j : JournalContent). j.batches) c.self.view_is in
    end_seen c.args.k c.self.inside.newest.notes c.args.self.now.batches false c.self.invariant.closed batches some
    (is_marked-past (c.args.k - 1) c.self.inside.newest.notes (sym c.in-None.ensures))
