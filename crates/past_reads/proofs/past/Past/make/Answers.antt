use Rattle.std.proofs.Common.{◌≡◌, rules}
use Rattle.std.specs.Arc.{arc_value}
use Rattle.survey_core.specs.HistoryLaws.{end_within}
use Rattle.past_reads.proofs.PastLemmas.{from_held}
use Rattle.past_reads.proofs.past.Past.make.Goals as goal

pub next-requires-clause-known : goal.next-requires-clause-known
next-requires-clause-known g c κs within = end_within c.args.journal.now.batches c.args.k c.requires.whole

pub next-requires-clause-holds : goal.next-requires-clause-holds
next-requires-clause-holds g c κs within =
    let held = rw c.in-Some.is at c.base-from.ensures.held in
    let same : c.deref.result.now ≡ arc_value c.in-Some.base.now = search rules in
    rw same (from_held c.args.self.now c.args.journal.now (arc_value c.in-Some.base.now) c.requires.journal held)
