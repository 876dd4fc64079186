use Rattle.std.proofs.Common.{Some, option_map, ap, ◌∙◌}
use Rattle.edit_journal.specs.Kept.{Note}
use Rattle.edit_journal.proofs.KeptLemmas.{edit_seen}
use Rattle.edit_journal.proofs.journal.Journal.edit.Goals as goal

pub returns-in-Some-clause-edit : goal.returns-in-Some-clause-edit
returns-in-Some-clause-edit c =
    ap (λ (n : Note). Some n.edit) c.note.view_is ∙ ap (option_map (λ (n : Note). n.edit)) c.in-Some.ensures ∙ edit_seen _ _ _ _ c.args.i c.self.view_is

pub returns-in-None-clause-edit : goal.returns-in-None-clause-edit
returns-in-None-clause-edit c = ap (option_map (λ (n : Note). n.edit)) c.in-None.ensures ∙ edit_seen _ _ _ _ c.args.i c.self.view_is
