-- What a session keeps, as it is seen.
use Rattle.std.proofs.Common.{◌≡◌, ℕ, ◌+◌, ◌≤◌, List, [], ◌∷◌, ◌++◌, length, slice_get, Option, Some, None, sym, ap, ◌∙◌, subst, length-append, append_assoc}
use Rattle.std.specs.Prelude.{Contains, codes, decimal, Result, Ok, Err, OnOk}
use Rattle.std.proofs.lemmas.List.{append-nil}
use Rattle.survey_conf.specs.Description.{Description}
use Rattle.edit_journal.specs.Edit.{LeafEdit}
use Rattle.edit_journal.specs.Leaves.{LeafTiles}
use Rattle.edit_journal.specs.Batches.{edits_of, ends}
use Rattle.edit_journal.specs.Faults.{batch_fault, fault_number}
use Rattle.edit_journal.specs.declared.fault.BatchFault.{BatchFault}
use Rattle.edit_journal.specs.Journal.{JournalContent}
use Rattle.survey_core.specs.BatchBody.{batch_entries}
use Rattle.survey_core.specs.declared.fault.EntryFault.{EntryFault}
use Rattle.survey_core.specs.HistoryLaws.{edits_of-append}
use Rattle.past_frame.specs.Line.{line_feed}
use Rattle.past_frame.specs.Record.{read}
use Rattle.past_reads.specs.Past.{PastContent, GoesOnFrom}
use Rattle.past_reads.specs.Costs.{held_after}
use Rattle.past_session.specs.Answers.{PastState, first_state, faulty, verdict_by, judged, batch_verdict, batch_text}
use Rattle.past_session.specs.Session.{kept_content, IsKeptSession}
use Rattle.past_session.specs.Steps.{session_after}
use Rattle.past_session.proofs.Asked.{found_state, same_state, first_held}

-- ---- at the beginning

pub new_content : (d : Description) (journal : JournalContent) (past : PastContent) → journal.batches ≡ [] → past.held ≡ [] → kept_content d journal past ≡ record { conf = d; opening = journal.opening; state = first_state }
new_content d journal past none held =
    ap (λ bs. record { conf = d; opening = journal.opening; state = record { batches = bs; last = slice_get past.held 0 } }) none
    ∙ ap (λ ks. record { conf = d; opening = journal.opening; state = record { batches = []; last = slice_get ks 0 } }) held

-- ---- a batch more

pub goes_on_more : (past : PastContent) (journal next : JournalContent) (batch : List LeafEdit) → GoesOnFrom past journal → next.shape ≡ journal.shape → next.opening ≡ journal.opening → next.batches ≡ journal.batches ++ batch ∷ []
    → GoesOnFrom past next
goes_on_more past journal next batch goes shape opening batches = record {
  shape = shape ∙ goes.shape;
  opening = opening ∙ goes.opening;
  batches = record { rest = goes.batches.rest ++ batch ∷ []; is = batches ∙ ap (λ bs. bs ++ batch ∷ []) goes.batches.is ∙ append_assoc past.batches goes.batches.rest (batch ∷ []) };
}

pub kept_more : (d : Description) (past : PastContent) (journal next : JournalContent) (batch : List LeafEdit) → IsKeptSession d journal past → next.shape ≡ journal.shape → next.opening ≡ journal.opening → next.batches ≡ journal.batches ++ batch ∷ []
    → IsKeptSession d next past
kept_more d past journal next batch kept shape opening batches = record {
  conf = kept.conf;
  opened = kept.opened;
  goes_on = goes_on_more past journal next batch kept.goes_on shape opening batches;
  room = kept.room;
}

edits_of-one : (batch : List LeafEdit) → edits_of (batch ∷ []) ≡ batch
unfolding edits_of
edits_of-one batch = append-nil batch

pub count_more : (batches : List (List LeafEdit)) (batch : List LeafEdit) → length (edits_of (batches ++ batch ∷ [])) ≡ length (edits_of batches) + length batch
count_more batches batch =
    ap length (edits_of-append batches (batch ∷ []) ∙ ap (λ es. edits_of batches ++ es) (edits_of-one batch)) ∙ length-append (edits_of batches) batch

-- ---- after a read

pub kept_found : (d : Description) (journal : JournalContent) (past past' : PastContent) (k : ℕ) → IsKeptSession d journal past → past' ≡ record past { batches = journal.batches; held = held_after past.room k past.held } → GoesOnFrom past' journal → IsKeptSession d journal past'
kept_found d journal past past' k kept is goes = record {
  conf = ap (λ (p : PastContent). p.conf) is ∙ kept.conf;
  opened = ap (λ (p : PastContent). p.opened) is ∙ kept.opened;
  goes_on = goes;
  room = subst (λ n. 1 ≤ n) (sym (ap (λ (p : PastContent). p.room) is)) kept.room;
}

pub found_after : (d : Description) (journal : JournalContent) (past past' : PastContent) (k : ℕ) (path : List ℕ) → IsKeptSession d journal past → past' ≡ record past { batches = journal.batches; held = held_after past.room k past.held }
    → Contains (ends journal.batches) k → kept_content d journal past' ≡ session_after (kept_content d journal past) (read k path)
found_after d journal past past' k path kept is there =
    let first : slice_get past'.held 0 ≡ Some k = ap (λ (p : PastContent). slice_get p.held 0) is ∙ first_held past.room k past.held kept.room in
    ap (λ l. record { conf = d; opening = journal.opening; state = record { batches = journal.batches; last = l } }) first
    ∙ ap (λ (s : PastState). record { conf = d; opening = journal.opening; state = s }) (sym (found_state d journal.opening (record { batches = journal.batches; last = slice_get past.held 0 }) k path there))

pub same_after : (d : Description) (journal : JournalContent) (past : PastContent) (k : ℕ) (path : List ℕ) → (Contains (ends journal.batches) k → ⊥) → kept_content d journal past ≡ session_after (kept_content d journal past) (read k path)
same_after d journal past k path never =
    ap (λ (s : PastState). record { conf = d; opening = journal.opening; state = s }) (sym (same_state d journal.opening (record { batches = journal.batches; last = slice_get past.held 0 }) k path never))

-- ---- the verdict on a batch

module _ (d : Description) (opening : LeafTiles) (edits : List LeafEdit) (body : List ℕ) where
  pub faulty_verdict : (at : ℕ) (fault : EntryFault) → length (batch_entries d body).edits ≡ at → (batch_entries d body).fault ≡ Some fault → batch_verdict d opening edits body ≡ faulty at fault
  unfolding batch_verdict
  faulty_verdict at fault place is =
      ap (λ f. verdict_by (batch_entries d body).edits f (batch_fault opening edits (batch_entries d body).edits)) is ∙ ap (λ n. faulty n fault) place

  pub read_verdict : (batch : List LeafEdit) → batch_entries d body ≡ record { edits = batch; fault = None } → batch_verdict d opening edits body ≡ verdict_by batch None (batch_fault opening edits batch)
  unfolding batch_verdict
  read_verdict batch is = ap (judged opening edits) is

-- ---- what is told of it

module _ (batches : List (List LeafEdit)) (batch : List LeafEdit) (found : Option BatchFault) (text : List ℕ) where
  pub accepted_text : (count : ℕ) → found ≡ None → count ≡ length (edits_of (batches ++ batch ∷ [])) → text ≡ codes "edits " ++ decimal count ++ line_feed ∷ []
      → text ≡ batch_text (length (edits_of batches)) (verdict_by batch None found)
  accepted_text count none is told =
      told ∙ ap (λ n. codes "edits " ++ decimal n ++ line_feed ∷ []) (is ∙ count_more batches batch) ∙ ap (λ f. batch_text (length (edits_of batches)) (verdict_by batch None f)) (sym none)

  pub refused_text : (fault : BatchFault) (number : ℕ) → Some fault ≡ found → number ≡ fault_number fault.fault → text ≡ codes "refused " ++ decimal fault.at ++ codes " edit " ++ decimal number ++ line_feed ∷ []
      → text ≡ batch_text (length (edits_of batches)) (verdict_by batch None found)
  refused_text fault number some is told =
      told ∙ ap (λ n. codes "refused " ++ decimal fault.at ++ codes " edit " ++ decimal n ++ line_feed ∷ []) is ∙ ap (λ f. batch_text (length (edits_of batches)) (verdict_by batch None f)) some

pub on_ok : {T E P : Type 0} (result : Result T E) → P → OnOk result P
on_ok (Ok value) holds = holds
on_ok (Err error) holds = tt
