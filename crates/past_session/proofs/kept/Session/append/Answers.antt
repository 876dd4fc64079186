use Rattle.std.proofs.Common.{◌≡◌, ◌++◌, ◌∷◌, [], length, map, sym, ap, ◌∙◌, rules}
use Rattle.std.specs.Prelude.{codes, decimal}
use Rattle.edit_journal.specs.Batches.{edits_of}
use Rattle.edit_journal.specs.Edit.{edit_of}
use Rattle.edit_journal.specs.Faults.{batch_fault}
use Rattle.edit_journal.specs.Journal.{JournalContent}
use Rattle.past_frame.specs.Line.{line_feed}
use Rattle.past_session.proofs.Content.{accepted_text}
use Rattle.past_session.proofs.kept.Session.append.Goals as goal

pub returns-in_ok-text-in-Ok-clause-told : goal.returns-in_ok-text-in-Ok-clause-told
returns-in_ok-text-in-Ok-clause-told c =
    let journal = c.self.inside.journal in
    let batch = map edit_of c.args.edits.items in
    let told : c.in_ok-text-in-Ok.text.bytes.items ≡ codes "edits " ++ decimal c.len.result ++ line_feed ∷ [] = search rules in
    let count : c.len.result ≡ length (edits_of (journal.batches ++ batch ∷ [])) =
    c.len.ensures.count ∙ ap (λ (j : JournalContent). length (edits_of j.batches)) c.in-Ok.ensures.appended in
    rw (sym c.self.view_is) (accepted_text journal.batches batch (batch_fault journal.opening (edits_of journal.batches) batch) c.in_ok-text-in-Ok.text.bytes.items c.len.result c.in-Ok.ensures.accepted count told)
