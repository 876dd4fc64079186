-- A read is answered, by what a session keeps.
use Rattle.std.proofs.Common.{◌≡◌, ℕ, ◌+◌, ◌≤◌, true, List, [], ◌∷◌, ◌++◌, slice_get, refl, sym, ap, ◌∙◌, subst, arith}
use Rattle.std.specs.Prelude.{Contains, codes, decimal, Result, Ok, Err, OnOk, IfErr}
use Rattle.std.specs.FinMap.{get}
use Rattle.survey_conf.specs.Description.{Description}
use Rattle.dirty_plan.specs.Laws.{MoreTouchedIsMoreWork}
use Rattle.edit_journal.specs.Batches.{edits_of, ends}
use Rattle.edit_journal.specs.Leaves.{LeafTiles}
use Rattle.edit_journal.specs.Journal.{JournalContent}
use Rattle.generation.specs.Generation.{GenerationContent}
use Rattle.generation.specs.Files.{files_in}
use Rattle.past_frame.specs.Record.{read}
use Rattle.past_reads.specs.Past.{PastContent, past_generation, TellsPastRefusal}
use Rattle.past_reads.specs.Costs.{held_after, past_work}
use Rattle.past_reads.specs.declared.refusal.PastRefusal.{PastRefusal}
use Rattle.past_reads.specs.declared.refusal.PastRefusal.TheVariants.{TooNew, Split, OutOfMemory}
use Rattle.past_reads.specs.Answers.{past_file}
use Rattle.past_reads.specs.AnswerLaws.{never_refused, found_answer, refused_answer}
use Rattle.past_session.specs.Answers.{file_text, refusal_text, read_text}
use Rattle.command_output.specs.Output.{SinkBytes}
use Rattle.past_session.specs.Session.{kept_content, IsKeptSession}
use Rattle.past_session.specs.Steps.{answer_text, answer_cost, session_after, Sends, FailsToSend}
use Rattle.past_session.specs.declared.ending.Halt.{Halt}
use Rattle.past_session.specs.declared.ending.Halt.TheVariants as halt
use Rattle.past_session.proofs.Asked.{read_cost}
use Rattle.past_session.proofs.Content.{found_after, same_after}

abbrev failed : Halt → Result (Unit {0}) Halt
failed why = Err why

abbrev sent : Unit {0} → Result (Unit {0}) Halt
sent u = Ok u

wants_none : failed halt.WriteFault ≡ failed halt.OutOfMemory → ⊥
wants_none e = cc

wants_some : (u : Unit {0}) → sent u ≡ failed halt.OutOfMemory → ⊥
wants_some u e = cc

module _ (d : Description) (journal : JournalContent) (past : PastContent) (k : ℕ) (path : List ℕ) (kept : IsKeptSession d journal past) where
  found_told : (generation : GenerationContent) → generation ≡ past_generation past.conf journal.opening journal.batches k → Contains (ends journal.batches) k
      → file_text (get (files_in generation) path) ≡ answer_text (kept_content d journal past) (read k path)
  found_told generation is there =
      ap (λ (g : GenerationContent). file_text (get (files_in g) path)) is ∙ ap (λ (c : Description). file_text (past_file c journal.opening journal.batches k path)) kept.conf
      ∙ sym (ap read_text (found_answer d journal.opening journal.batches k path there))

  pub found_sends : (generation : GenerationContent) (result : Result (Unit {0}) Halt) (sink sink' : SinkBytes) → generation ≡ past_generation past.conf journal.opening journal.batches k → Contains (ends journal.batches) k
      → OnOk result (Sends (file_text (get (files_in generation) path)) sink sink') → OnOk result (Sends (answer_text (kept_content d journal past) (read k path)) sink sink')
  found_sends generation (Ok u) sink sink' is there sends = subst (λ t. Sends t sink sink') (found_told generation is there) sends
  found_sends generation (Err why) sink sink' is there sends = tt

  pub found_fails : (generation : GenerationContent) (result : Result (Unit {0}) Halt) (sink sink' : SinkBytes) → generation ≡ past_generation past.conf journal.opening journal.batches k → Contains (ends journal.batches) k
      → IfErr result (FailsToSend (file_text (get (files_in generation) path)) sink sink') → IfErr result (FailsToSend (answer_text (kept_content d journal past) (read k path)) sink sink')
  found_fails generation (Ok u) sink sink' is there fails = tt
  found_fails generation (Err why) sink sink' is there fails = subst (λ t. FailsToSend t sink sink' why) (found_told generation is there) fails

  pub found_then : (past' : PastContent) (result : Result (Unit {0}) Halt) → past' ≡ record past { batches = journal.batches; held = held_after past.room k past.held } → Contains (ends journal.batches) k
      → OnOk result (kept_content d journal past' ≡ session_after (kept_content d journal past) (read k path))
  found_then past' (Ok u) is there = found_after d journal past past' k path kept is there
  found_then past' (Err why) is there = tt

  refused_told : (refusal : PastRefusal) → TellsPastRefusal journal.batches k refusal → (refusal ≡ OutOfMemory → ⊥) → refusal_text refusal ≡ answer_text (kept_content d journal past) (read k path)
  refused_told refusal tells some = sym (ap read_text (refused_answer d journal.opening journal.batches k path refusal tells some))

  pub refused_sends : (refusal : PastRefusal) (result : Result (Unit {0}) Halt) (sink sink' : SinkBytes) → TellsPastRefusal journal.batches k refusal → (refusal ≡ OutOfMemory → result ≡ Err halt.OutOfMemory)
      → OnOk result (Sends (refusal_text refusal) sink sink') → OnOk result (Sends (answer_text (kept_content d journal past) (read k path)) sink sink')
  refused_sends refusal (Ok u) sink sink' tells memory_faults sends = subst (λ t. Sends t sink sink') (refused_told refusal tells (λ is. wants_some u (memory_faults is))) sends
  refused_sends refusal (Err why) sink sink' tells memory_faults sends = tt

  pub refused_fails : (refusal : PastRefusal) (result : Result (Unit {0}) Halt) (sink sink' : SinkBytes) → TellsPastRefusal journal.batches k refusal → (refusal ≡ OutOfMemory → result ≡ Err halt.OutOfMemory)
      → IfErr result (FailsToSend (refusal_text refusal) sink sink') → IfErr result (FailsToSend (answer_text (kept_content d journal past) (read k path)) sink sink')
  refused_fails refusal (Ok u) sink sink' tells memory_faults fails = tt
  refused_fails refusal (Err halt.WriteFault) sink sink' tells memory_faults fails = subst (λ t. FailsToSend t sink sink' halt.WriteFault) (refused_told refusal tells (λ is. wants_none (memory_faults is))) fails
  refused_fails refusal (Err halt.OutOfMemory) sink sink' tells memory_faults fails = fails

  pub refused_then : (refusal : PastRefusal) (past' : PastContent) (result : Result (Unit {0}) Halt) → TellsPastRefusal journal.batches k refusal → (refusal ≡ OutOfMemory → result ≡ Err halt.OutOfMemory) → past' ≡ past
      → OnOk result (kept_content d journal past' ≡ session_after (kept_content d journal past) (read k path))
  refused_then refusal past' (Ok u) tells memory_faults same =
      ap (kept_content d journal) same ∙ same_after d journal past k path (never_refused journal.batches k refusal tells (λ is. wants_some u (memory_faults is)))
  refused_then refusal past' (Err why) tells memory_faults same = tt

  module _ (law : MoreTouchedIsMoreWork) (steps steps' : ℕ) (most : steps' ≤ steps + past_work past.conf past.opening past.opened (edits_of journal.batches) past.held k) where
    pub found_cost : Contains (ends journal.batches) k → steps' ≤ steps + answer_cost (kept_content d journal past) (read k path)
    found_cost there =
        let opening : past.opening ≡ journal.opening = sym kept.goes_on.opening in
        let same : past_work past.conf past.opening past.opened (edits_of journal.batches) past.held k ≡ past_work d journal.opening true (edits_of journal.batches) past.held k =
        ap (λ (c : Description). past_work c past.opening past.opened (edits_of journal.batches) past.held k) kept.conf
        ∙ ap (λ (o : LeafTiles). past_work d o past.opened (edits_of journal.batches) past.held k) opening
        ∙ ap (λ b. past_work d journal.opening b (edits_of journal.batches) past.held k) kept.opened in
        let cost = read_cost law d journal.opening (record { batches = journal.batches; last = slice_get past.held 0 }) past.held k path refl there in
        omega (arith, most, same, cost)

    pub refused_cost : (refusal : PastRefusal) → TellsPastRefusal journal.batches k refusal → ((refusal ≡ OutOfMemory → ⊥) → steps' ≡ steps) → steps' ≤ steps + answer_cost (kept_content d journal past) (read k path)
    refused_cost (TooNew edits) tells still = let same : steps' ≡ steps = still (λ e. cc) in omega (arith, same)
    refused_cost (Split told) tells still = let same : steps' ≡ steps = still (λ e. cc) in omega (arith, same)
    refused_cost OutOfMemory tells still = found_cost tells
