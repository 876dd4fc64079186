-- What requests do to the list of a connection's own events, and that each is answered at the newest state where all events
-- are its own.
use Rattle.std.proofs.Common.{◌≡◌, ◌⊎◌, inl, inr, ℕ, ◌+◌, ◌<◌, ◌≤◌, List, [], ◌∷◌, ◌++◌, length, Ok, Err, sym, ap, subst, arith, length-append}
use Rattle.std.specs.Prelude.{Contains}
use Rattle.std.proofs.lemmas.Bool.{cases_lt}
use Rattle.std.proofs.lemmas.List.Elements.{Contains-push_cases}
use Rattle.survey_conf.specs.Description.{Description}
use Rattle.edit_journal.specs.Leaves.{LeafTiles}
use Rattle.survey_core.specs.History.{SurveyState}
use Rattle.hips_http.specs.declared.call.Call.{Call}
use Rattle.hips_http.specs.declared.call.Call.TheVariants as call
use Rattle.hips_http.specs.Paths.{call_of}
use Rattle.hips_http.specs.Replies.{Answer}
use Rattle.hips_http.specs.Answers.{Asking, Point, Asked, asked_put, asked_delete, asked_batch, Changes, Answers, Steps}
use Rattle.hips_http.specs.SessionRun.{AreAnswered, IsOutput}
use Rattle.hips_http.specs.Laws.{IsNewest, OwnsAll, AreNewest}

-- an event at the place, which is later than the one before, or none
pub record Moves (p a : Point) : Type 0 where
  pub later : p.place < a.place
  pub own : a.own ≡ p.own ++ a.place ∷ []

pub record Effect (p a : Point) : Type 0 where
  pub own : (a.own ≡ p.own) ⊎ Moves p a
  pub memory_faults : p.memory_faults ≤ a.memory_faults

quiet : (p a : Point) → a.own ≡ p.own → a.memory_faults ≡ p.memory_faults → Effect p a
quiet p a own memory_faults = record { own = inl own; memory_faults = omega (arith, memory_faults) }

event : (p a : Point) → Steps p a → Effect p a
event p a s = record { own = inr (record { later = s.later; own = s.own }); memory_faults = (let w = s.memory_faults in omega (arith, w)) }

wanting : (p a : Point) → a.own ≡ p.own → a.memory_faults ≡ p.memory_faults + 1 → Effect p a
wanting p a own memory_faults = record { own = inl own; memory_faults = omega (arith, memory_faults) }

changes_effect : (opening : LeafTiles) (states : List SurveyState) (asked : Asked) (p a : Point) (answer : Answer) → Changes opening states asked p a answer → Effect p a
changes_effect opening states (Err refusal) p a answer (inl j) = quiet p a j.0.own j.0.memory_faults
changes_effect opening states (Ok change) p a answer (inl (inl r)) = quiet p a r.kept.own r.kept.memory_faults
changes_effect opening states (Ok change) p a answer (inl (inr r)) = event p a r.step
changes_effect opening states asked p a answer (inr none) = wanting p a none.own none.memory_faults

effect : (conf : Description) (opening : LeafTiles) (states : List SurveyState) (request : Asking) (wanted : Call) (p a : Point) (answer : Answer)
    → Answers conf opening states request wanted p a answer → Effect p a
effect conf opening states request (call.NotAllowed allow) p a answer is = quiet p a is.0.own is.0.memory_faults
effect conf opening states request (call.File file) p a answer is = quiet p a is.kept.own is.kept.memory_faults
effect conf opening states request call.Pin p a answer is = quiet p a is.holds.own is.holds.memory_faults
effect conf opening states request call.Unpin p a answer is = quiet p a is.0.own is.0.memory_faults
effect conf opening states request call.Publish p a answer (inl r) = event p a r.step
effect conf opening states request call.Publish p a answer (inr (inl h)) = quiet p a h.kept.own h.kept.memory_faults
effect conf opening states request call.Publish p a answer (inr (inr none)) = wanting p a none.own none.memory_faults
effect conf opening states request call.Batch p a answer is = changes_effect opening states (asked_batch conf request) p a answer is
effect conf opening states request (call.Put leaf) p a answer is = changes_effect opening states (asked_put conf request leaf) p a answer is
effect conf opening states request (call.Delete leaf) p a answer is = changes_effect opening states (asked_delete request leaf) p a answer is

-- its own events are not later than its place
abbrev pub OwnSeen : Point → Type 0
OwnSeen p = (o : ℕ) → Contains p.own o → o ≤ p.place

module _ (conf : Description) (opening : LeafTiles) (states : List SurveyState) where
  output_effect : (count : ℕ) (request : Asking) (p a : Point) (output : List ℕ) → IsOutput conf opening states count request p a output → Effect p a
  output_effect count request p a output is = effect conf opening states request (call_of request.asked.method is.answered.kind) p a is.answer is.answered.answers

  pub wants_rise : (count : ℕ) (p : Point) (requests : List Asking) (last : Point) (outputs : List (List ℕ)) → AreAnswered conf opening states count p requests last outputs → p.memory_faults ≤ last.memory_faults
  wants_rise count p [] last outputs is = omega (arith, ap (λ (x : Point). x.memory_faults) is.0)
  wants_rise count p (request ∷ requests) last [] is = absurd is
  wants_rise count p (request ∷ requests) last (output ∷ outputs) is =
      let one = (output_effect count request p is.0 output is.1).memory_faults in
      let more = wants_rise (count + 1) is.0 requests last outputs is.2 in
      omega (arith, one, more)

  seen_next : (p a : Point) → Effect p a → p.place ≤ a.place → OwnSeen p → OwnSeen a
  seen_next p a e rises seen o there = elim e.own [
    | inl same ↦ let low = seen o (subst (λ (xs : List ℕ). Contains xs o) same there) in omega (arith, low, rises)
    | inr moved ↦ elim (Contains-push_cases p.own a.place o (subst (λ (xs : List ℕ). Contains xs o) moved.own there)) [
      | inl before ↦ let low = seen o before in omega (arith, low, rises)
      | inr here ↦ omega (arith, here)
    ]
  ]

  -- where a connection is at its end
  pub record AtEnd (last : Point) : Type 0 where
    pub seen : OwnSeen last
    pub within : last.place < length states

  pub at_end : (count : ℕ) (p : Point) (requests : List Asking) (last : Point) (outputs : List (List ℕ)) → OwnSeen p → p.place < length states
      → AreAnswered conf opening states count p requests last outputs → AtEnd last
  at_end count p [] last outputs seen within is = subst (λ (x : Point). AtEnd x) (sym is.0) (record { seen = seen; within = within })
  at_end count p (request ∷ requests) last [] seen within is = absurd is
  at_end count p (request ∷ requests) last (output ∷ outputs) seen within is =
      let a = is.1.answered in
      at_end (count + 1) is.0 requests last outputs (seen_next p is.0 (output_effect count request p is.0 output is.1) a.never_falls seen) a.within is.2

  -- later events are at later places
  own_later : (count : ℕ) (p : Point) (requests : List Asking) (last : Point) (outputs : List (List ℕ)) → AreAnswered conf opening states count p requests last outputs
      → (o : ℕ) → Contains last.own o → Contains p.own o ⊎ (p.place < o)
  own_later count p [] last outputs is o there = inl (subst (λ (x : Point). Contains x.own o) is.0 there)
  own_later count p (request ∷ requests) last [] is o there = absurd is
  own_later count p (request ∷ requests) last (output ∷ outputs) is o there =
      let rises : p.place ≤ is.0.place = is.1.answered.never_falls in
      elim (own_later (count + 1) is.0 requests last outputs is.2 o there) [
        | inl known ↦ elim (output_effect count request p is.0 output is.1).own [
          | inl same ↦ inl (subst (λ (xs : List ℕ). Contains xs o) same known)
          | inr moved ↦ elim (Contains-push_cases p.own is.0.place o (subst (λ (xs : List ℕ). Contains xs o) moved.own known)) [
            | inl before ↦ inl before
            | inr here ↦ inr (let later = moved.later in omega (arith, here, later))
          ]
        ]
        | inr after ↦ inr (omega (arith, after, rises))
      ]

  module _ (first : List SurveyState) (own : List ℕ) (owns : OwnsAll first states own) where
    newest_next : (p a last : Point) → IsNewest first p → OwnSeen p → p.place ≤ a.place → a.place < length states → Effect p a
        → own ≡ last.own → ((o : ℕ) → Contains last.own o → Contains a.own o ⊎ (a.place < o)) → IsNewest first a
    newest_next p a last newest seen rises within e own_is later = elim e.own [
      | inl same ↦
          let still : a.place ≡ p.place = no_more same (cases_lt p.place a.place) in
          omega (arith, newest, still, ap length same)
      | inr moved ↦
          let one : a.place ≡ p.place + 1 = next_one moved in
          omega (arith, newest, one, ap length moved.own, length-append p.own (a.place ∷ []))
    ]
      where
        -- the place behind the one before is an event of its own that isn't later than this one
        next_own : p.place + 1 ≤ a.place → Contains a.own (p.place + 1)
        next_own low = elim (later (p.place + 1) (subst (λ (xs : List ℕ). Contains xs (p.place + 1)) own_is (owns (p.place + 1) (omega (arith, newest)) (omega (arith, low, within))))) [
          | inl known ↦ known
          | inr after ↦ absurd (omega (arith, after, low))
        ]

        no_more : a.own ≡ p.own → (p.place < a.place) ⊎ (a.place ≤ p.place) → a.place ≡ p.place
        no_more same (inr still) = omega (arith, still, rises)
        no_more same (inl more) =
            let low = seen (p.place + 1) (subst (λ (xs : List ℕ). Contains xs (p.place + 1)) same (next_own (omega (arith, more)))) in
            absurd (omega (arith, low))

        next_one : Moves p a → a.place ≡ p.place + 1
        next_one moved =
            let more = moved.later in
            elim (Contains-push_cases p.own a.place (p.place + 1) (subst (λ (xs : List ℕ). Contains xs (p.place + 1)) moved.own (next_own (omega (arith, more))))) [
              | inl before ↦ let low = seen (p.place + 1) before in absurd (omega (arith, low))
              | inr here ↦ here
            ]

    pub are_newest : (count : ℕ) (p : Point) (requests : List Asking) (last : Point) (outputs : List (List ℕ)) → IsNewest first p → OwnSeen p → own ≡ last.own
        → (answered : AreAnswered conf opening states count p requests last outputs) → AreNewest first conf opening states count p requests last outputs answered
    are_newest count p [] last outputs newest seen own_is is = tt
    are_newest count p (request ∷ requests) last [] newest seen own_is is = tt
    are_newest count p (request ∷ requests) last (output ∷ outputs) newest seen own_is is =
        let a = is.1.answered in
        let e = output_effect count request p is.0 output is.1 in
        let next = newest_next p is.0 last newest seen a.never_falls a.within e own_is (own_later (count + 1) is.0 requests last outputs is.2) in
        (next, are_newest (count + 1) is.0 requests last outputs next (seen_next p is.0 e a.never_falls seen) own_is is.2)
