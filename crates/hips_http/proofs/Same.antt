-- Two connections at the same point are answered the same, and are at the same point then.
use Rattle.std.proofs.Common.{◌≡◌, ◌⊎◌, inl, inr, ℕ, ◌+◌, ◌-◌, ◌≤◌, List, [], ◌∷◌, ◌++◌, length, Option, Some, None, Ok, Err, refl, sym, ap, ◌∙◌, subst, arith, length-append}
use Rattle.std.specs.Prelude.{slice_get, unwrap_or}
use Rattle.std.proofs.lemmas.Bool.{cases_lt}
use Rattle.std.proofs.lemmas.Option.{none-some}
use Rattle.survey_conf.specs.Description.{Description}
use Rattle.edit_journal.specs.Edit.{LeafEdit}
use Rattle.edit_journal.specs.Leaves.{LeafTiles}
use Rattle.edit_journal.specs.Batches.{edits_of}
use Rattle.survey_core.specs.History.{SurveyState, edits_at, AppendsBatch, IsPublication}
use Rattle.survey_core.specs.HistoryLaws.{end_within}
use Rattle.hips_http.specs.declared.call.Call.{Call}
use Rattle.hips_http.specs.declared.call.Call.TheVariants as call
use Rattle.hips_http.specs.Verdict.{accepted, Change, verdict}
use Rattle.hips_http.specs.Replies.{Answer, file_answer, pinned, already, published, accepted_answer}
use Rattle.hips_http.specs.Answers.{Asking, Point, Asked, asked_put, asked_delete, asked_batch, refusal_of, Refuses, Accepts, Judges, Changes, Publishes, HasPublished, Answers}
use Rattle.hips_http.specs.Laws.{IsNewest}

-- ---- states

pub some_same : {A : Type 0} (a b : A) → Some a ≡ Some b → a ≡ b
some_same a b e = cc

state_same : (batches batches' : List (List LeafEdit)) (tip tip' : ℕ) → batches ≡ batches' → tip ≡ tip' →
    (let one : SurveyState = record { batches = batches; tip = tip } in let other : SurveyState = record { batches = batches'; tip = tip' } in one ≡ other)
state_same batches batches' tip tip' e f = cc

-- the step by a batch is one
appended_same : (opening : LeafTiles) (items : List LeafEdit) (old new new' : SurveyState) → AppendsBatch opening items old new → AppendsBatch opening items old new' → new ≡ new'
appended_same opening items old new new' a b = state_same new.batches new'.batches new.tip new'.tip (a.batches ∙ sym b.batches) (a.tip ∙ sym b.tip)

-- a publication of all edits has their number as its tip
tip_is_all : (old new : SurveyState) → IsPublication old new → length (edits_at old) ≤ new.tip → new.tip ≡ length (edits_at old)
tip_is_all old new p all = let most : new.tip ≤ length (edits_of old.batches) = end_within old.batches new.tip p.whole in omega (arith, all, most)

published_same : (old new new' : SurveyState) → IsPublication old new → IsPublication old new' → length (edits_at old) ≤ new.tip → length (edits_at old) ≤ new'.tip → new ≡ new'
published_same old new new' p q all all' =
    state_same new.batches new'.batches new.tip new'.tip (p.batches ∙ sym q.batches) (tip_is_all old new p all ∙ sym (tip_is_all old new' q all'))

-- ---- points

-- both connections are at this point, where all states up to its place are the same
pub record IsSame (states later later' : List SurveyState) (p q : Point) : Type 0 where
  pub place : q.place ≡ p.place
  pub held : q.held ≡ p.held
  pub own : q.own ≡ p.own
  pub newest : IsNewest states p
  pub seen : (h : ℕ) → p.held ≡ Some h → h ≤ p.place
  pub known : (i : ℕ) → i ≤ p.place → slice_get later' i ≡ slice_get later i

-- the same answer, and the same point then
pub record ComesSame (states later later' : List SurveyState) (p q : Point) (answer answer' : Answer) : Type 0 where
  pub answer_is : answer' ≡ answer
  pub point : IsSame states later later' p q

module _ (states later later' : List SurveyState) (p q : Point) (same : IsSame states later later' p q) where
  newest' : IsNewest states q
  newest' = let n = same.newest in let e = same.place in omega (arith, n, e, ap length same.own)

  -- the state at a place that is known to both is one
  state_at : (i j : ℕ) (s t : SurveyState) → j ≡ i → i ≤ p.place → slice_get later i ≡ Some s → slice_get later' j ≡ Some t → t ≡ s
  state_at i j s t e low here there =
      some_same t s (sym there ∙ ap (λ (n : ℕ). slice_get later' n) e ∙ same.known i low ∙ here)

  module _ (a b : Point) (na : IsNewest states a) (nb : IsNewest states b) where
    kept_place : a.own ≡ p.own → a.place ≡ p.place
    kept_place own = let n = same.newest in omega (arith, n, na, ap length own)

    kept_place' : b.own ≡ q.own → b.place ≡ p.place
    kept_place' own = let n = same.newest in omega (arith, n, nb, ap length own, ap length same.own)

    next_place : a.own ≡ p.own ++ a.place ∷ [] → a.place ≡ p.place + 1
    next_place own = let n = same.newest in omega (arith, n, na, ap length own, length-append p.own (a.place ∷ []))

    next_place' : b.own ≡ q.own ++ b.place ∷ [] → b.place ≡ p.place + 1
    next_place' own = let n = same.newest in omega (arith, n, nb, ap length own, length-append q.own (b.place ∷ []), ap length same.own)

    -- without an event
    stays : a.own ≡ p.own → b.own ≡ q.own → b.held ≡ a.held → ((h : ℕ) → a.held ≡ Some h → h ≤ p.place) → IsSame states later later' a b
    stays own own' held low_held = record {
      place = kept_place' own' ∙ sym (kept_place own);
      held = held;
      own = own' ∙ same.own ∙ sym own;
      newest = na;
      seen = λ h e. let low = low_held h e in let at = kept_place own in omega (arith, low, at);
      known = λ i low. same.known i (let at = kept_place own in omega (arith, low, at));
    }

    -- what was held is held
    keeps : a.own ≡ p.own → b.own ≡ q.own → a.held ≡ p.held → b.held ≡ q.held → IsSame states later later' a b
    keeps own own' held held' = stays own own' (held' ∙ same.held ∙ sym held) (λ h e. same.seen h (sym held ∙ e))

    -- by an event that leads to one state
    moves : a.own ≡ p.own ++ a.place ∷ [] → b.own ≡ q.own ++ b.place ∷ [] → a.held ≡ p.held → b.held ≡ q.held
        → (s t : SurveyState) → slice_get later a.place ≡ Some s → slice_get later' b.place ≡ Some t → t ≡ s → IsSame states later later' a b
    moves own own' held held' s t here there one = record {
      place = places;
      held = held' ∙ same.held ∙ sym held;
      own = own' ∙ pushed ∙ sym own;
      newest = na;
      seen = λ h e. let low = same.seen h (sym held ∙ e) in let at = next_place own in omega (arith, low, at);
      known = λ i low. elim (below_or_at i low) [
        | inl before ↦ same.known i before
        | inr last ↦ ap (λ (n : ℕ). slice_get later' n) (last ∙ sym places) ∙ there ∙ ap (λ (x : SurveyState). Some x) one ∙ sym here ∙ ap (λ (n : ℕ). slice_get later n) (sym last)
      ];
    }
      where
        places : b.place ≡ a.place
        places = next_place' own' ∙ sym (next_place own)

        pushed : q.own ++ b.place ∷ [] ≡ p.own ++ a.place ∷ []
        pushed = rw (same.own, places) refl

        below_or_at : (i : ℕ) → i ≤ a.place → (i ≤ p.place) ⊎ (i ≡ a.place)
        below_or_at i low = let at = next_place own in elim (cases_lt i a.place) [
          | inl below ↦ inl (omega (arith, below, at))
          | inr high ↦ inr (omega (arith, high, low))
        ]

    -- ---- changes

    old_place : a.own ≡ p.own ++ a.place ∷ [] → a.place - 1 ≡ p.place
    old_place own = let at = next_place own in omega (arith, at)

    old_place' : b.own ≡ q.own ++ b.place ∷ [] → b.place - 1 ≡ p.place
    old_place' own = let at = next_place' own in omega (arith, at)

    module _ (opening : LeafTiles) (change : Change) (answer answer' : Answer) where
      refused_both : Refuses opening later change p a answer → Refuses opening later' change q b answer' → ComesSame states later later' a b answer answer'
      refused_both r s =
          let at = kept_place r.kept.own in
          let one : s.state ≡ r.state = state_at a.place b.place r.state s.state (kept_place' s.kept.own ∙ sym at) (omega (arith, at)) r.there s.there in
          record {
            answer_is = some_same answer' answer (sym s.answer_is ∙ ap (λ (x : SurveyState). refusal_of (length (edits_at x)) (verdict opening (edits_at x) change)) one ∙ r.answer_is);
            point = keeps r.kept.own s.kept.own r.kept.held s.kept.held;
          }

      accepted_both : Accepts opening later change p a answer → Accepts opening later' change q b answer' → ComesSame states later later' a b answer answer'
      accepted_both r s =
          let at = old_place r.step.own in
          let one : s.old ≡ r.old = state_at (a.place - 1) (b.place - 1) r.old s.old (old_place' s.step.own ∙ sym at) (omega (arith, at)) r.old_there s.old_there in
          let judged : verdict opening (edits_at r.old) change ≡ accepted s.items = ap (λ (x : SurveyState). verdict opening (edits_at x) change) (sym one) ∙ s.judged in
          let items : s.items ≡ r.items = accepted_items s.items r.items (sym judged ∙ r.judged) in
          let from : AppendsBatch opening r.items r.old s.new = subst (λ (x : SurveyState). AppendsBatch opening r.items x s.new) one (subst (λ (i : List LeafEdit). AppendsBatch opening i s.old s.new) items s.appended) in
          let new : s.new ≡ r.new = appended_same opening r.items r.old s.new r.new from r.appended in
          record {
            answer_is = s.answer_is ∙ ap (λ (x : SurveyState). accepted_answer opening (edits_at x) change (length (edits_at s.new))) one
                ∙ ap (λ (x : SurveyState). accepted_answer opening (edits_at r.old) change (length (edits_at x))) new ∙ sym r.answer_is;
            point = moves r.step.own s.step.own r.step.held s.step.held r.new s.new r.new_there s.new_there new;
          }
        where
          accepted_items : (i j : List LeafEdit) → accepted i ≡ accepted j → i ≡ j
          accepted_items i j e = cc

      refused_first : Refuses opening later change p a answer → Accepts opening later' change q b answer' → ⊥
      refused_first r s =
          let at = kept_place r.kept.own in
          let one : s.old ≡ r.state = state_at a.place (b.place - 1) r.state s.old (old_place' s.step.own ∙ sym at) (omega (arith, at)) r.there s.old_there in
          none-some answer (sym (ap (refusal_of (length (edits_at r.state))) (ap (λ (x : SurveyState). verdict opening (edits_at x) change) (sym one) ∙ s.judged)) ∙ r.answer_is)

      accepted_first : Accepts opening later change p a answer → Refuses opening later' change q b answer' → ⊥
      accepted_first r s =
          let at = old_place r.step.own in
          let one : s.state ≡ r.old = state_at (a.place - 1) b.place r.old s.state (kept_place' s.kept.own ∙ sym at) (omega (arith, at)) r.old_there s.there in
          none-some answer' (sym (ap (refusal_of (length (edits_at s.state))) (ap (λ (x : SurveyState). verdict opening (edits_at x) change) one ∙ r.judged)) ∙ s.answer_is)

    no_want : (p' a' : Point) (answer : Answer) → a'.memory_faults ≡ p'.memory_faults + 1 → a'.memory_faults ≡ 0 → ⊥
    no_want p' a' answer more none = absurd (omega (arith, more, none))

    module _ (opening : LeafTiles) (answer answer' : Answer) (none : a.memory_faults ≡ 0) (none' : b.memory_faults ≡ 0) where
      judges_same : (asked : Asked) → Judges opening later asked p a answer → Judges opening later' asked q b answer' → ComesSame states later later' a b answer answer'
      judges_same (Err refusal) is is' = record { answer_is = is'.1 ∙ sym is.1; point = keeps is.0.own is'.0.own is.0.held is'.0.held }
      judges_same (Ok change) (inl r) (inl s) = refused_both opening change answer answer' r s
      judges_same (Ok change) (inl r) (inr s) = absurd (refused_first opening change answer answer' r s)
      judges_same (Ok change) (inr r) (inl s) = absurd (accepted_first opening change answer answer' r s)
      judges_same (Ok change) (inr r) (inr s) = accepted_both opening change answer answer' r s

      changes_same : (asked : Asked) → Changes opening later asked p a answer → Changes opening later' asked q b answer' → ComesSame states later later' a b answer answer'
      changes_same asked (inl is) (inl is') = judges_same asked is is'
      changes_same asked (inl is) (inr want) = absurd (no_want q b answer' want.memory_faults none')
      changes_same asked (inr want) is' = absurd (no_want p a answer want.memory_faults none)

      -- ---- publications

      publishes_both : Publishes later p a answer → Publishes later' q b answer' → ComesSame states later later' a b answer answer'
      publishes_both r s =
          let at = old_place r.step.own in
          let mine : r.old ≡ r.known = some_same r.old r.known (sym r.old_there ∙ ap (λ (n : ℕ). slice_get later n) at ∙ r.known_there) in
          let one : s.known ≡ r.known = state_at p.place q.place r.known s.known same.place (omega arith) r.known_there s.known_there in
          let other : s.old ≡ r.known = state_at (a.place - 1) (b.place - 1) r.old s.old (old_place' s.step.own ∙ sym at) (omega (arith, at)) r.old_there s.old_there ∙ mine in
          let step : IsPublication r.known r.new = subst (λ (x : SurveyState). IsPublication x r.new) mine r.publication in
          let step' : IsPublication r.known s.new = subst (λ (x : SurveyState). IsPublication x s.new) other s.publication in
          let all' : length (edits_at r.known) ≤ s.new.tip = subst (λ (x : SurveyState). length (edits_at x) ≤ s.new.tip) one s.all in
          let new : s.new ≡ r.new = published_same r.known s.new r.new step' step all' r.all in
          record {
            answer_is = s.answer_is ∙ ap (λ (x : SurveyState). published x.tip) new ∙ sym r.answer_is;
            point = moves r.step.own s.step.own r.step.held s.step.held r.new s.new r.new_there s.new_there new;
          }

      had_both : HasPublished later p a answer → HasPublished later' q b answer' → ComesSame states later later' a b answer answer'
      had_both r s =
          let at = kept_place r.kept.own in
          let one : s.state ≡ r.state = state_at a.place b.place r.state s.state (kept_place' s.kept.own ∙ sym at) (omega (arith, at)) r.there s.there in
          record {
            answer_is = s.answer_is ∙ ap (λ (x : SurveyState). already x.tip) one ∙ sym r.answer_is;
            point = keeps r.kept.own s.kept.own r.kept.held s.kept.held;
          }

      published_first : Publishes later p a answer → HasPublished later' q b answer' → ⊥
      published_first r s =
          let at = old_place r.step.own in
          let one : s.state ≡ r.old = state_at (a.place - 1) b.place r.old s.state (kept_place' s.kept.own ∙ sym at) (omega (arith, at)) r.old_there s.there in
          let all : r.old.tip ≡ length (edits_at r.old) = subst (λ (x : SurveyState). x.tip ≡ length (edits_at x)) one s.all in
          let most : r.new.tip ≤ length (edits_of r.old.batches) = end_within r.old.batches r.new.tip r.publication.whole in
          let rises = r.publication.rises in
          omega (arith, all, most, rises)

      had_first : HasPublished later p a answer → Publishes later' q b answer' → ⊥
      had_first r s =
          let at = kept_place r.kept.own in
          let one : s.old ≡ r.state = state_at a.place (b.place - 1) r.state s.old (old_place' s.step.own ∙ sym at) (omega (arith, at)) r.there s.old_there in
          let all : s.old.tip ≡ length (edits_at s.old) = subst (λ (x : SurveyState). x.tip ≡ length (edits_at x)) (sym one) r.all in
          let most : s.new.tip ≤ length (edits_of s.old.batches) = end_within s.old.batches s.new.tip s.publication.whole in
          let rises = s.publication.rises in
          omega (arith, all, most, rises)

      -- ---- all calls

      pub answers_same : (conf : Description) (request : Asking) (wanted : Call) → Answers conf opening later request wanted p a answer → Answers conf opening later' request wanted q b answer'
          → ComesSame states later later' a b answer answer'
      answers_same conf request (call.NotAllowed allow) is is' = record { answer_is = is'.1 ∙ sym is.1; point = keeps is.0.own is'.0.own is.0.held is'.0.held }
      answers_same conf request (call.File file) is is' =
          let at = kept_place is.kept.own in
          let places : unwrap_or q.held b.place ≡ unwrap_or p.held a.place = rw (same.held, kept_place' is'.kept.own, at) refl in
          let one : is'.state ≡ is.state = state_at (unwrap_or p.held a.place) (unwrap_or q.held b.place) is.state is'.state places (low p.held refl at) is.there is'.there in
          record {
            answer_is = is'.answer_is ∙ ap (λ (x : SurveyState). file_answer conf opening x request.path) one ∙ sym is.answer_is;
            point = keeps is.kept.own is'.kept.own is.kept.held is'.kept.held;
          }
        where
          low : (held : Option ℕ) → p.held ≡ held → a.place ≡ p.place → unwrap_or held a.place ≤ p.place
          low None e at = omega (arith, at)
          low (Some h) e at = same.seen h e
      answers_same conf request call.Pin is is' =
          let at = kept_place is.holds.own in
          let at' = kept_place' is'.holds.own in
          let one : is'.state ≡ is.state = state_at a.place b.place is.state is'.state (at' ∙ sym at) (omega (arith, at)) is.there is'.there in
          record {
            answer_is = is'.answer_is ∙ ap (λ (x : SurveyState). pinned x.tip) one ∙ sym is.answer_is;
            point = stays is.holds.own is'.holds.own (is'.holds.held ∙ ap (λ (n : ℕ). Some n) (at' ∙ sym at) ∙ sym is.holds.held)
                (λ h e. let here : a.place ≡ h = some_same a.place h (sym is.holds.held ∙ e) in omega (arith, here, at));
          }
      answers_same conf request call.Unpin is is' = record {
        answer_is = is'.1 ∙ sym is.1;
        point = stays is.0.own is'.0.own (is'.0.held ∙ sym is.0.held) (λ h e. absurd (none-some h (sym is.0.held ∙ e)));
      }
      answers_same conf request call.Publish (inl r) (inl s) = publishes_both r s
      answers_same conf request call.Publish (inl r) (inr (inl s)) = absurd (published_first r s)
      answers_same conf request call.Publish (inl r) (inr (inr want)) = absurd (no_want q b answer' want.memory_faults none')
      answers_same conf request call.Publish (inr (inl r)) (inl s) = absurd (had_first r s)
      answers_same conf request call.Publish (inr (inl r)) (inr (inl s)) = had_both r s
      answers_same conf request call.Publish (inr (inl r)) (inr (inr want)) = absurd (no_want q b answer' want.memory_faults none')
      answers_same conf request call.Publish (inr (inr want)) is' = absurd (no_want p a answer want.memory_faults none)
      answers_same conf request call.Batch is is' = changes_same (asked_batch conf request) is is'
      answers_same conf request (call.Put leaf) is is' = changes_same (asked_put conf request leaf) is is'
      answers_same conf request (call.Delete leaf) is is' = changes_same (asked_delete request leaf) is is'
