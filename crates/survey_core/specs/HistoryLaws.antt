-- What follows from the definitions of `History`.
use Rattle.std.proofs.Common.{◌≡◌, ℕ, zero, suc, ◌+◌, ◌<◌, ◌≤◌, List, [], ◌∷◌, ◌++◌, map, length, take, drop, Some, refl, sym, ap, ◌∙◌, subst, inl, inr, arith, length-append, append_assoc, zero-add}
use Rattle.std.specs.Prelude.{All, Contains, slice_get}
use Rattle.std.specs.List.{range_with_len}
use Rattle.std.proofs.lemmas.List.{take-append-drop, take-append-le, take_all}
use Rattle.std.proofs.lemmas.List.Concat.{flat_map-append}
use Rattle.std.proofs.lemmas.List.FromFn.{length-map-range_with_len, get_or-map-range_with_len}
use Rattle.std.proofs.lemmas.List.Elements.{All-head, All-push}
use Rattle.edit_journal.specs.Edit.{LeafEdit}
use Rattle.edit_journal.specs.Leaves.{LeafTiles, leaves_of}
use Rattle.edit_journal.specs.Batches.{edits_of, ends}
use Rattle.survey_core.specs.History.{SurveyState, edits_at, opening_state, AppendsBatch, IsPublication, IsStep, GoesOn, IsHistory, IsReached, Begins, Precedes, IsSound}

-- ---- a list and a rest

pub begins_itself : {X : Type 0} (xs : List X) → Begins xs xs
begins_itself xs = record { rest = []; is = nothing_more xs }
  where
    nothing_more : {X : Type 0} (xs : List X) → xs ≡ xs ++ []
    nothing_more [] = refl
    nothing_more (x ∷ xs) = ap (λ ys. x ∷ ys) (nothing_more xs)

pub begins_trans : {X : Type 0} (xs ys zs : List X) → Begins xs ys → Begins ys zs → Begins xs zs
begins_trans xs ys zs one two = record { rest = one.rest ++ two.rest; is = two.is ∙ ap (λ front. front ++ two.rest) one.is ∙ append_assoc xs one.rest two.rest }

pub begins_more : {X : Type 0} (xs ys : List X) → Begins xs (xs ++ ys)
begins_more xs ys = record { rest = ys; is = refl }

pub begins_length : {X : Type 0} (xs ys : List X) → Begins xs ys → length xs ≤ length ys
begins_length xs ys begins = omega (arith, ap length begins.is ∙ length-append xs begins.rest)

-- of two fronts of a list the shorter one is a front of the longer
shorter : {X : Type 0} (xs ys r s : List X) → xs ++ r ≡ ys ++ s → length xs ≤ length ys → Begins xs ys
shorter [] ys r s e h = record { rest = ys; is = refl }
shorter (x ∷ xs) [] r s e h = absurd (omega arith)
shorter {X} (x ∷ xs) (y ∷ ys) r s e h =
    let same : x ≡ y = cc in
    let rests : xs ++ r ≡ ys ++ s = cc in
    let begins : Begins xs ys = shorter xs ys r s rests (omega arith) in
    let is : y ∷ ys ≡ x ∷ (xs ++ begins.rest) = cc (begins.is) in
    record { rest = begins.rest; is = is }

pub begins_shorter : {X : Type 0} (xs ys zs : List X) → Begins xs zs → Begins ys zs → length xs ≤ length ys → Begins xs ys
begins_shorter xs ys zs one two h = shorter xs ys one.rest two.rest (sym one.is ∙ two.is) h

pub slice_get-append : {X : Type 0} (xs ys : List X) (i : ℕ) (x : X) → slice_get xs i ≡ Some x → slice_get (xs ++ ys) i ≡ Some x
slice_get-append [] ys i x e = cc
slice_get-append (y ∷ xs) ys zero x e = e
slice_get-append (y ∷ xs) ys (suc i) x e = slice_get-append xs ys i x e

-- ---- the edits of batches, and their ends

pub edits_of-append : (batches more : List (List LeafEdit)) → edits_of (batches ++ more) ≡ edits_of batches ++ edits_of more
unfolding edits_of
edits_of-append batches more = flat_map-append (λ batch. batch) batches more

-- the number of batches that an end comes after
pub record EndsAfter (batches : List (List LeafEdit)) (k : ℕ) : Type 0 where
  pub count : ℕ
  pub within : count ≤ length batches
  pub is : k ≡ length (edits_of (take count batches))

pub ends_after : (batches : List (List LeafEdit)) (k : ℕ) → Contains (ends batches) k → EndsAfter batches k
unfolding ends
ends_after batches k (i, lt, at) =
    let f : ℕ → ℕ = λ b. length (edits_of (take b batches)) in
    let below : i < length batches + 1 = subst (λ n. i < n) (length-map-range_with_len f 0 (length batches + 1)) lt in
    record { count = i; within = omega arith; is = sym at ∙ get_or-map-range_with_len f 0 (length batches + 1) i i k below (zero-add i) }

pub end_after : (batches : List (List LeafEdit)) (b : ℕ) → b ≤ length batches → Contains (ends batches) (length (edits_of (take b batches)))
unfolding ends
end_after batches b h =
    let f : ℕ → ℕ = λ c. length (edits_of (take c batches)) in
    let below : b < length batches + 1 = omega arith in
    let short : b < length (map f (range_with_len 0 (length batches + 1))) = subst (λ n. b < n) (sym (length-map-range_with_len f 0 (length batches + 1))) below in
    (b, short, get_or-map-range_with_len f 0 (length batches + 1) b b (f b) below (zero-add b))

-- an end is at most the number of edits
pub end_within : (batches : List (List LeafEdit)) (k : ℕ) → Contains (ends batches) k → k ≤ length (edits_of batches)
end_within batches k there =
    let after = ends_after batches k there in
    let whole : edits_of batches ≡ edits_of (take after.count batches) ++ edits_of (drop after.count batches) =
    ap edits_of (sym (take-append-drop after.count batches)) ∙ edits_of-append (take after.count batches) (drop after.count batches) in
    let all : length (edits_of batches) ≡ length (edits_of (take after.count batches)) + length (edits_of (drop after.count batches)) =
    ap length whole ∙ length-append (edits_of (take after.count batches)) (edits_of (drop after.count batches)) in
    omega (arith, after.is)

-- the number of all edits is one
pub all_is_end : (batches : List (List LeafEdit)) → Contains (ends batches) (length (edits_of batches))
all_is_end batches =
    subst (λ front. Contains (ends batches) (length (edits_of front))) (take_all (length batches) batches (omega arith)) (end_after batches (length batches) (omega arith))

-- 0 is an end
pub zero_is_end : (batches : List (List LeafEdit)) → Contains (ends batches) 0
unfolding edits_of
zero_is_end batches = end_after batches 0 (omega arith)

-- an end stays one where more batches come
pub end_stays : (batches more : List (List LeafEdit)) (k : ℕ) → Contains (ends batches) k → Contains (ends (batches ++ more)) k
end_stays batches more k there =
    let after = ends_after batches k there in
    let wide : after.count ≤ length (batches ++ more) = omega (arith, length-append batches more, after.within) in
    let same : length (edits_of (take after.count (batches ++ more))) ≡ k =
    ap (λ front. length (edits_of front)) (take-append-le after.count batches more after.within) ∙ sym after.is in
    subst (Contains (ends (batches ++ more))) same (end_after (batches ++ more) after.count wide)

-- ---- the steps

pub precedes_itself : (state : SurveyState) → Precedes state state
precedes_itself state = record {
  batches = begins_itself state.batches;
  edits = begins_itself (edits_at state);
  ends = λ k there. there;
  tip = omega arith;
}

pub precedes_trans : (a b c : SurveyState) → Precedes a b → Precedes b c → Precedes a c
precedes_trans a b c one two = record {
  batches = begins_trans a.batches b.batches c.batches one.batches two.batches;
  edits = begins_trans (edits_at a) (edits_at b) (edits_at c) one.edits two.edits;
  ends = λ k there. two.ends k (one.ends k there);
  tip = omega (arith, one.tip, two.tip);
}

batch_precedes : (opening : LeafTiles) (batch : List LeafEdit) (old new : SurveyState) → AppendsBatch opening batch old new → Precedes old new
batch_precedes opening batch old new step = record {
  batches = record { rest = batch ∷ []; is = step.batches };
  edits = record { rest = edits_of (batch ∷ []); is = ap edits_of step.batches ∙ edits_of-append old.batches (batch ∷ []) };
  ends = λ k there. subst (λ batches. Contains (ends batches) k) (sym step.batches) (end_stays old.batches (batch ∷ []) k there);
  tip = omega (arith, step.tip);
}

publication_precedes : (old new : SurveyState) → IsPublication old new → Precedes old new
publication_precedes old new step = record {
  batches = subst (Begins old.batches) (sym step.batches) (begins_itself old.batches);
  edits = subst (λ batches. Begins (edits_at old) (edits_of batches)) (sym step.batches) (begins_itself (edits_at old));
  ends = λ k there. subst (λ batches. Contains (ends batches) k) (sym step.batches) there;
  tip = omega (arith, step.rises);
}

pub step_precedes : (opening : LeafTiles) (old new : SurveyState) → IsStep opening old new → Precedes old new
step_precedes opening old new step = elim step [
  | inl batch ↦ batch_precedes opening batch.batch old new batch.appended
  | inr publication ↦ publication_precedes old new publication
]

pub goes_on_precedes : (opening : LeafTiles) (state : SurveyState) (states : List SurveyState) (j : ℕ) (later : SurveyState) → GoesOn opening state states → slice_get states j ≡ Some later → Precedes state later
goes_on_precedes opening state [] j later on e = cc
goes_on_precedes opening state (next ∷ states) zero later on e =
    let same : next ≡ later = cc in
    subst (Precedes state) same (step_precedes opening state next on.0)
goes_on_precedes opening state (next ∷ states) (suc j) later on e =
    precedes_trans state next later (step_precedes opening state next on.0) (goes_on_precedes opening next states j later on.1 e)

chain_precedes : (opening : LeafTiles) (state : SurveyState) (states : List SurveyState) (i j : ℕ) (earlier later : SurveyState) → GoesOn opening state states → i ≤ j →
    slice_get (state ∷ states) i ≡ Some earlier → slice_get (state ∷ states) j ≡ Some later → Precedes earlier later
chain_precedes opening state states zero zero earlier later on h e f = let same : earlier ≡ later = cc in subst (Precedes earlier) same (precedes_itself earlier)
chain_precedes opening state states zero (suc j) earlier later on h e f =
    let same : state ≡ earlier = cc in
    subst (λ s. Precedes s later) same (goes_on_precedes opening state states j later on f)
chain_precedes opening state states (suc i) zero earlier later on h e f = absurd (omega arith)
chain_precedes opening state [] (suc i) (suc j) earlier later on h e f = cc
chain_precedes opening state (next ∷ states) (suc i) (suc j) earlier later on h e f = chain_precedes opening next states i j earlier later on.1 (omega arith) e f

-- the law of histories
pub history_precedes : (opening : LeafTiles) (states : List SurveyState) (i j : ℕ) (earlier later : SurveyState) → IsHistory opening states → i ≤ j →
    slice_get states i ≡ Some earlier → slice_get states j ≡ Some later → Precedes earlier later
history_precedes opening [] i j earlier later history h e f = absurd history
history_precedes opening (first ∷ states) i j earlier later history h e f = chain_precedes opening first states i j earlier later history.1 h e f

pub prefix_precedes : (opening : LeafTiles) (before after : List SurveyState) (i j : ℕ) (earlier later : SurveyState) → IsHistory opening after → Begins before after → i ≤ j →
    slice_get before i ≡ Some earlier → slice_get after j ≡ Some later → Precedes earlier later
prefix_precedes opening before after i j earlier later history front h e f =
    let there : slice_get after i ≡ Some earlier = ap (λ states. slice_get states i) front.is ∙ slice_get-append before front.rest i earlier e in
    history_precedes opening after i j earlier later history h there f

-- ---- longer and shorter histories

step_more : (opening : LeafTiles) (state : SurveyState) (states : List SurveyState) (place : ℕ) (last next : SurveyState) → GoesOn opening state states →
    slice_get (state ∷ states) place ≡ Some last → place + 1 ≡ length (state ∷ states) → IsStep opening last next → GoesOn opening state (states ++ next ∷ [])
step_more opening state [] zero last next on e len step = let same : state ≡ last = cc in (subst (λ s. IsStep opening s next) (sym same) step, tt)
step_more opening state [] (suc place) last next on e len step = absurd (omega arith)
step_more opening state (x ∷ states) zero last next on e len step = absurd (omega arith)
step_more opening state (x ∷ states) (suc place) last next on e len step = (on.0, step_more opening x states place last next on.1 e (omega arith) step)

pub history_more : (opening : LeafTiles) (states : List SurveyState) (place : ℕ) (last next : SurveyState) → IsHistory opening states →
    slice_get states place ≡ Some last → place + 1 ≡ length states → IsStep opening last next → IsHistory opening (states ++ next ∷ [])
history_more opening [] place last next history e len step = absurd history
history_more opening (first ∷ states) place last next history e len step = (history.0, step_more opening first states place last next history.1 e len step)

last_of : (before : List SurveyState) (state : SurveyState) → slice_get (before ++ state ∷ []) (length before) ≡ Some state
last_of [] state = refl
last_of (first ∷ before) state = last_of before state

pub reached_first : (opening : LeafTiles) → IsReached opening opening_state
reached_first opening = record { before = []; history = (refl, tt) }

pub reached_more : (opening : LeafTiles) (old new : SurveyState) → IsReached opening old → IsStep opening old new → IsReached opening new
reached_more opening old new reached step =
    let count : length reached.before + 1 ≡ length (reached.before ++ old ∷ []) = sym (length-append reached.before (old ∷ [])) in
    record {
      before = reached.before ++ old ∷ [];
      history = history_more opening (reached.before ++ old ∷ []) (length reached.before) old new reached.history (last_of reached.before old) count step;
    }

goes_on_front : (opening : LeafTiles) (state : SurveyState) (states rest : List SurveyState) → GoesOn opening state (states ++ rest) → GoesOn opening state states
goes_on_front opening state [] rest on = tt
goes_on_front opening state (next ∷ states) rest on = (on.0, goes_on_front opening next states rest on.1)

front_of_history : (opening : LeafTiles) (before rest : List SurveyState) → IsHistory opening (before ++ rest) → 0 < length before → IsHistory opening before
front_of_history opening [] rest history some = absurd (omega arith)
front_of_history opening (first ∷ states) rest history some = (history.0, goes_on_front opening first states rest history.1)

pub history_prefix : (opening : LeafTiles) (before after : List SurveyState) → IsHistory opening after → Begins before after → 0 < length before → IsHistory opening before
history_prefix opening before after history front some = front_of_history opening before front.rest (subst (IsHistory opening) front.is history) some

-- ---- each state

opening_sound : IsSound opening_state
opening_sound = record { some = λ k d h. absurd (omega arith); whole = zero_is_end []; within = omega arith }

batch_sound : (opening : LeafTiles) (batch : List LeafEdit) (old new : SurveyState) → AppendsBatch opening batch old new → IsSound old → IsSound new
batch_sound opening batch old new step sound =
    let whole : Contains (ends new.batches) new.tip =
    subst (Contains (ends new.batches)) (sym step.tip) (subst (λ batches. Contains (ends batches) old.tip) (sym step.batches) (end_stays old.batches (batch ∷ []) old.tip sound.whole)) in
    record {
      some = subst (All (λ batch. 0 < length batch)) (sym step.batches) (All-push (λ batch. 0 < length batch) old.batches batch sound.some step.some);
      whole = whole;
      within = end_within new.batches new.tip whole;
    }

publication_sound : (old new : SurveyState) → IsPublication old new → IsSound old → IsSound new
publication_sound old new step sound =
    let whole : Contains (ends new.batches) new.tip = subst (λ batches. Contains (ends batches) new.tip) (sym step.batches) step.whole in
    record {
      some = subst (All (λ batch. 0 < length batch)) (sym step.batches) sound.some;
      whole = whole;
      within = end_within new.batches new.tip whole;
    }

step_sound : (opening : LeafTiles) (old new : SurveyState) → IsStep opening old new → IsSound old → IsSound new
step_sound opening old new step sound = elim step [
  | inl batch ↦ batch_sound opening batch.batch old new batch.appended sound
  | inr publication ↦ publication_sound old new publication sound
]

chain_sound : (opening : LeafTiles) (state : SurveyState) (states : List SurveyState) (i : ℕ) (found : SurveyState) → GoesOn opening state states → IsSound state →
    slice_get (state ∷ states) i ≡ Some found → IsSound found
chain_sound opening state states zero found on sound e = let same : state ≡ found = cc in subst IsSound same sound
chain_sound opening state [] (suc i) found on sound e = cc
chain_sound opening state (next ∷ states) (suc i) found on sound e = chain_sound opening next states i found on.1 (step_sound opening state next on.0 sound) e

pub history_sound : (opening : LeafTiles) (states : List SurveyState) (i : ℕ) (state : SurveyState) → IsHistory opening states → slice_get states i ≡ Some state → IsSound state
history_sound opening [] i state history e = absurd history
history_sound opening (first ∷ states) i state history e = chain_sound opening first states i state history.1 (subst IsSound (sym history.0) opening_sound) e

-- a history has its first state
pub history_first : (opening : LeafTiles) (states : List SurveyState) → IsHistory opening states → slice_get states 0 ≡ Some opening_state
history_first opening [] history = absurd history
history_first opening (first ∷ states) history = ap Some history.0

pub history_some : (opening : LeafTiles) (states : List SurveyState) → IsHistory opening states → 0 < length states
history_some opening [] history = absurd history
history_some opening (first ∷ states) history = omega arith

-- a state without edits is the first one
no_batches : (batches : List (List LeafEdit)) → All (λ batch. 0 < length batch) batches → length (edits_of batches) ≡ 0 → batches ≡ []
unfolding edits_of
no_batches [] some none = refl
no_batches (batch ∷ batches) some none =
    let here : 0 < length batch = All-head (λ batch. 0 < length batch) batch batches some in
    absurd (omega (arith, length-append batch (edits_of batches)))

same_state : (batches batches' : List (List LeafEdit)) (tip tip' : ℕ) → batches ≡ batches' → tip ≡ tip' →
    (let one : SurveyState = record { batches = batches; tip = tip } in let other : SurveyState = record { batches = batches'; tip = tip' } in one ≡ other)
same_state batches batches' tip tip' e f = cc

pub sound_first : (state : SurveyState) → IsSound state → length (edits_at state) ≡ 0 → state ≡ opening_state
sound_first state sound none = same_state state.batches [] state.tip 0 (no_batches state.batches sound.some none) (omega (arith, sound.within))

-- ---- prefixes of the edits

pub prefix_stays : (earlier later : SurveyState) (k : ℕ) → Precedes earlier later → k ≤ length (edits_at earlier) → take k (edits_at earlier) ≡ take k (edits_at later)
prefix_stays earlier later k precedes h = sym (ap (take k) precedes.edits.is ∙ take-append-le k (edits_at earlier) precedes.edits.rest h)

pub leaves_stay : (opening : LeafTiles) (earlier later : SurveyState) (k : ℕ) → Precedes earlier later → k ≤ length (edits_at earlier) →
    leaves_of opening (take k (edits_at earlier)) ≡ leaves_of opening (take k (edits_at later))
leaves_stay opening earlier later k precedes h = ap (leaves_of opening) (prefix_stays earlier later k precedes h)
