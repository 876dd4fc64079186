use Rattle.std.proofs.Common.{◌≡◌, rules, sym, ap, ◌∙◌, take}
use Rattle.edit_journal.specs.Leaves.{leaves_of}
use Rattle.edit_journal.specs.Batches.{edits_of}
use Rattle.survey_core.specs.HistoryLaws.{end_within}
use Rattle.past_reads.specs.Past.{PastContent}
use Rattle.past_reads.proofs.PastLemmas.{none_yet}
use Rattle.past_reads.proofs.past.Past.make_afresh.Goals as goal

pub next-requires-clause-known : goal.next-requires-clause-known
next-requires-clause-known g c κs within = end_within c.args.journal.now.batches c.args.k c.requires.whole

pub next-requires-clause-holds : goal.next-requires-clause-holds
next-requires-clause-holds g c κs within =
    let first : c.in_ok-opening.opening.prefix ≡ 0 = search rules in
    let leaves : c.in_ok-opening.opening.leaves ≡ c.args.journal.now.opening = search rules in
    ap (λ n. leaves_of c.args.journal.now.opening (take n (edits_of c.args.journal.now.batches))) first
    ∙ none_yet c.args.journal.now.opening (edits_of c.args.journal.now.batches) ∙ sym leaves

pub returns-clause-made : goal.returns-clause-made
returns-clause-made g c =
    let view = ap (λ (p : PastContent). p.conf) c.self.view_is in
    let conf : c.in_ok-opening.opening.conf ≡ c.args.self.now.conf = search rules in
    rw (conf) at c.next.ensures.made
