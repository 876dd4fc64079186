-- What a state keeps.
use Rattle.std.proofs.Common.{◌≡◌, ℕ, ◌<◌, ◌≤◌, List, [], ◌∷◌, ◌++◌, length, take, None, refl, sym, ap, ◌∙◌, subst, inl, inr, arith}
use Rattle.std.specs.Prelude.{Contains}
use Rattle.std.proofs.lemmas.List.{take-append-le}
use Rattle.edit_journal.specs.Edit.{LeafEdit}
use Rattle.edit_journal.specs.Leaves.{LeafTiles, leaves_of}
use Rattle.edit_journal.specs.Faults.{edit_fault, batch_fault, item_fault}
use Rattle.edit_journal.specs.Batches.{edits_of, ends}
use Rattle.edit_journal.specs.Journal.{JournalContent, IsJournal, journal_edits}
use Rattle.generation.specs.Generation.{GenerationContent}
use Rattle.survey_core.specs.History.{SurveyState, opening_state, AppendsBatch, IsPublication, IsReached}
use Rattle.survey_core.specs.HistoryLaws.{edits_of-append, end_within, end_stays, zero_is_end, reached_first, reached_more}
use Rattle.survey_core.specs.State.{StateContent, state_edits, survey_state, journal_of, IsState, kept_content, IsKeptState}

-- the first state
at_first : (opening : LeafTiles) (batches : List (List LeafEdit)) (tip : ℕ) → batches ≡ [] → tip ≡ 0 →
    (let state : SurveyState = record { batches = batches; tip = tip } in IsReached opening state)
at_first opening batches tip none first =
    let same : (let state : SurveyState = record { batches = batches; tip = tip } in opening_state ≡ state) = cc in
    subst (IsReached opening) same (reached_first opening)

pub kept_first : (journal : JournalContent) (generation : GenerationContent) → journal.shape ≡ generation.conf.shape → journal.opening ≡ generation.leaves → journal.batches ≡ [] →
    generation.prefix ≡ 0 → IsKeptState journal generation
unfolding leaves_of
kept_first journal generation shape leaves none first = record {
  shape = shape;
  whole = subst (Contains (ends journal.batches)) (sym first) (zero_is_end journal.batches);
  leaves = rw first (sym leaves);
  reached = at_first journal.opening journal.batches generation.prefix none first;
}

-- one batch more
pub kept_batch : (journal next : JournalContent) (generation : GenerationContent) (batch : List LeafEdit) → IsKeptState journal generation →
    next ≡ record journal { batches = journal.batches ++ batch ∷ [] } → 0 < length batch → batch_fault journal.opening (journal_edits journal) batch ≡ None → IsKeptState next generation
kept_batch journal next generation batch kept is some none =
    let longer : JournalContent = record journal { batches = journal.batches ++ batch ∷ [] } in
    let same : take generation.prefix (edits_of (journal.batches ++ batch ∷ [])) ≡ take generation.prefix (edits_of journal.batches) =
    ap (take generation.prefix) (edits_of-append journal.batches (batch ∷ []))
    ∙ take-append-le generation.prefix (edits_of journal.batches) (edits_of (batch ∷ [])) (end_within journal.batches generation.prefix kept.whole) in
    let step : AppendsBatch journal.opening batch (survey_state (kept_content journal generation)) (survey_state (kept_content longer generation)) = record {
      some = some;
      accepted = none;
      batches = refl;
      tip = refl;
    } in
    let grown : IsKeptState longer generation = record {
      shape = kept.shape;
      whole = end_stays journal.batches (batch ∷ []) generation.prefix kept.whole;
      leaves = kept.leaves ∙ ap (leaves_of journal.opening) (sym same);
      reached = reached_more journal.opening (survey_state (kept_content journal generation)) (survey_state (kept_content longer generation)) kept.reached
          (inl (record { batch = batch; appended = step }));
    } in
    subst (λ j. IsKeptState j generation) (sym is) grown

-- another generation
pub kept_published : (state : StateContent) (journal next : JournalContent) (old generation : GenerationContent) → kept_content journal old ≡ state → IsKeptState journal old → next ≡ journal →
    generation.conf ≡ state.conf → Contains (ends state.batches) generation.prefix → generation.leaves ≡ leaves_of state.opening (take generation.prefix (state_edits state)) →
    state.tip < generation.prefix → IsKeptState next generation
kept_published state journal next old generation is kept same conf whole leaves rises =
    let tip : old.prefix ≡ state.tip = ap (λ s. s.tip) is in
    let there : Contains (ends journal.batches) generation.prefix = subst (λ s. Contains (ends s.batches) generation.prefix) (sym is) whole in
    let step : IsPublication (survey_state (kept_content journal old)) (survey_state (kept_content journal generation)) = record {
      batches = refl;
      rises = omega arith;
      whole = there;
    } in
    let made : IsKeptState journal generation = record {
      shape = kept.shape ∙ ap (λ conf. conf.shape) (ap (λ s. s.conf) is ∙ sym conf);
      whole = there;
      leaves = leaves ∙ ap (λ s. leaves_of s.opening (take generation.prefix (state_edits s))) (sym is);
      reached = reached_more journal.opening (survey_state (kept_content journal old)) (survey_state (kept_content journal generation)) kept.reached (inr step);
    } in
    subst (λ j. IsKeptState j generation) (sym same) made

-- one edit is a batch of its own
nothing_more : {X : Type 0} (xs : List X) → xs ++ [] ≡ xs
nothing_more [] = refl
nothing_more (x ∷ xs) = ap (λ ys. x ∷ ys) (nothing_more xs)

pub batch_fault-one : (opening : LeafTiles) (edits : List LeafEdit) (edit : LeafEdit) → edit_fault opening edits edit ≡ None → batch_fault opening edits (edit ∷ []) ≡ None
unfolding batch_fault
batch_fault-one opening edits edit none =
    let here : item_fault opening edits (edit ∷ []) 0 ≡ None = ap (λ before. edit_fault opening before edit) (nothing_more edits) ∙ none in
    rw here refl

pub appends_one : (state : StateContent) (journal next : JournalContent) (generation same : GenerationContent) (edit : LeafEdit) → kept_content journal generation ≡ state →
    next ≡ record journal { batches = journal.batches ++ (edit ∷ []) ∷ [] } → same ≡ generation → edit_fault journal.opening (journal_edits journal) edit ≡ None →
    AppendsBatch state.opening (edit ∷ []) (survey_state state) (survey_state (kept_content next same))
appends_one state journal next generation same edit is appended alike none =
    let step : AppendsBatch journal.opening (edit ∷ []) (survey_state (kept_content journal generation)) (survey_state (kept_content next same)) = record {
      some = omega arith;
      accepted = batch_fault-one journal.opening (journal_edits journal) edit none;
      batches = ap (λ j. j.batches) appended;
      tip = ap (λ g. g.prefix) alike;
    } in
    subst (λ s. AppendsBatch s.opening (edit ∷ []) (survey_state s) (survey_state (kept_content next same))) is step

-- every state is sound
pub state_sound : (state : StateContent) (journal : JournalContent) (generation : GenerationContent) → kept_content journal generation ≡ state → IsKeptState journal generation → IsJournal journal →
    IsState state
state_sound state journal generation is kept sound =
    let shape : journal_of (kept_content journal generation) ≡ journal = ap (λ shape. record journal { shape = shape }) (sym kept.shape) in
    let found : IsState (kept_content journal generation) = record {
      journal = subst IsJournal (sym shape) sound;
      reached = kept.reached;
      sound = record { some = sound.batches; whole = kept.whole; within = end_within journal.batches generation.prefix kept.whole };
    } in
    subst IsState is found

pub tip_within : (state : StateContent) (journal : JournalContent) (generation : GenerationContent) → kept_content journal generation ≡ state → IsKeptState journal generation → state.tip ≤ length (state_edits state)
tip_within state journal generation is kept = subst (λ s. s.tip ≤ length (state_edits s)) is (end_within journal.batches generation.prefix kept.whole)
