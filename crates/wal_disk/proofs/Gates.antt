-- What writes before, at and behind a gate leave of a file.
use Rattle.std.proofs.Common.{◌≡◌, ◌≢◌, ℕ, zero, suc, ◌+◌, ◌-◌, ◌<◌, List, [], ◌∷◌, ◌++◌, length, get_or, refl, sym, ap, subst, ◌∙◌, inl, inr, arith, length-append, Result, Ok, Err}
use Rattle.std.specs.Prelude.{slice_index, OnOk}
use Rattle.std.proofs.lemmas.Bool.{cases_lt, cases_eq}
use Rattle.std.proofs.lemmas.List.{get_or_append_left, get_or-append_right}
use Rattle.sqlite_disk.specs.Disk.{Holds, Torn, Follows, Only}
use Rattle.wal_disk.specs.Shut.{Shut, HasStaged, with_record, WithOrWithout, IsReady}

-- a write behind the gate
pub torn_behind : (front d c : List ℕ) (at n : ℕ) → Shut front d → length front < at → Torn at n d c → Shut front c
torn_behind front d c at n shut behind torn = record {
  longer = omega (arith, shut.longer, torn.no_shorter);
  same = λ i below. torn.below i (omega (arith, shut.longer, below)) (omega (arith, behind, below)) ∙ shut.same i below;
  gate = λ one. shut.gate (sym (torn.below (length front) shut.longer behind) ∙ one);
}

-- more bytes behind those that are staged
pub staged_more : (front body more old new : List ℕ) → HasStaged front body old → Torn (length front + 1 + length body) (length more) old new → Holds new (length front + 1 + length body) more
    → HasStaged front (body ++ more) new
staged_more front body more old new has torn holds = record {
  shut = torn_behind front old new (length front + 1 + length body) (length more) has.shut (omega arith) torn;
  within = omega (arith, length-append body more, holds.within);
  there = λ i below. elim (cases_lt i (length body)) [
    | inl first ↦ torn.below (length front + 1 + i) (omega (arith, has.within, first)) (omega (arith, first)) ∙ has.there i first ∙ sym (get_or_append_left body more 0 i first)
    | inr then ↦
        let place : length front + 1 + i ≡ length front + 1 + length body + (i - length body) = omega (arith, then) in
        let within : i - length body < length more = omega (arith, length-append body more, below, then) in
        ap (λ (k : ℕ). get_or new k 0) place ∙ holds.each (i - length body) within ∙ sym (get_or-append_right body more (length body) i 0 refl then)
  ];
}

pub staged_still : (front body old new : List ℕ) (n : ℕ) → HasStaged front body old → Torn (length front + 1 + length body) n old new → HasStaged front body new
staged_still front body old new n has torn = record {
  shut = torn_behind front old new (length front + 1 + length body) n has.shut (omega arith) torn;
  within = omega (arith, has.within, torn.no_shorter);
  there = λ i below. torn.below (length front + 1 + i) (omega (arith, has.within, below)) (omega (arith, below)) ∙ has.there i below;
}

-- a gate that is closed behind them
pub closed_behind : (front body old new : List ℕ) → HasStaged front body old → Torn (length front + 1 + length body) 1 old new → Holds new (length front + 1 + length body) (0 ∷ []) → IsReady front body new
closed_behind front body old new has torn holds =
    let still = staged_still front body old new 1 has torn in
    let place : length front + 1 + length body ≡ length front + 1 + length body + 0 = omega arith in
    let zero-there : get_or new (length front + 1 + length body) 0 ≡ 0 = ap (λ (k : ℕ). get_or new k 0) place ∙ holds.each 0 (omega arith) in
    record {
      longer = omega (arith, holds.within);
      same = still.shut.same;
      there = still.there;
      next = λ one. let clash : 0 ≡ 1 = sym zero-there ∙ one in omega (arith, clash);
    }

-- ---- the gate itself

pub ready_torn : (front body d c : List ℕ) → IsReady front body d → Torn (length front) 1 d c → IsReady front body c
ready_torn front body d c ready torn = record {
  longer = omega (arith, ready.longer, torn.no_shorter);
  same = λ i below. torn.below i (omega (arith, ready.longer, below)) below ∙ ready.same i below;
  there = λ i below. torn.above (length front + 1 + i) (omega (arith, ready.longer, below)) (omega arith) ∙ ready.there i below;
  next = λ one. ready.next (sym (torn.above (length front + 1 + length body) ready.longer (omega arith)) ∙ one);
}

-- what a file with the record has at each place of it
record_at : (front body c : List ℕ) → IsReady front body c → slice_index c (length front) ≡ 1 → (i : ℕ) → i < length (with_record front body) → slice_index c i ≡ slice_index (with_record front body) i
record_at front body c ready open-gate i below =
    elim (cases_lt i (length front)) [
      | inl first ↦ ready.same i first ∙ sym (get_or_append_left front (1 ∷ body) 0 i first)
      | inr then ↦
          let right : get_or (front ++ (1 ∷ body)) i 0 ≡ get_or (1 ∷ body) (i - length front) 0 = get_or-append_right front (1 ∷ body) (length front) i 0 refl then in
          at_right (i - length front) (omega (arith, then)) (omega (arith, length-append front (1 ∷ body), below, then)) ∙ sym right
    ]
  where
    at_right : (k : ℕ) → i ≡ length front + k → k < suc (length body) → get_or c i 0 ≡ get_or (1 ∷ body) k 0
    at_right zero e h = let place : i ≡ length front = omega (arith, e) in ap (λ (j : ℕ). get_or c j 0) place ∙ open-gate
    at_right (suc k) e h = let place : i ≡ length front + 1 + k = omega (arith, e) in ap (λ (j : ℕ). get_or c j 0) place ∙ ready.there k (omega (arith, h))

pub length-with : (front body : List ℕ) → length (with_record front body) ≡ length front + 1 + length body
length-with front body = omega (arith, length-append front (1 ∷ body))

ready_with : (front body c : List ℕ) → IsReady front body c → slice_index c (length front) ≡ 1 → Shut (with_record front body) c
ready_with front body c ready gate =
    let long : length (with_record front body) ≡ length front + 1 + length body = length-with front body in
    record {
      longer = omega (arith, long, ready.longer);
      same = record_at front body c ready gate;
      gate = λ one. ready.next (ap (λ (k : ℕ). get_or c k 0) (sym long) ∙ one);
    }

ready_without : (front body c : List ℕ) → IsReady front body c → slice_index c (length front) ≢ 1 → Shut front c
ready_without front body c ready gate = record { longer = omega (arith, ready.longer); same = ready.same; gate = gate }

pub ready_either : (front body c : List ℕ) → IsReady front body c → WithOrWithout front body c
ready_either front body c ready =
    elim (cases_eq (slice_index c (length front)) 1) [
      | inl one ↦ inr (ready_with front body c ready one)
      | inr other ↦ inl (ready_without front body c ready other)
    ]

gate_is : (file : List ℕ) (at b : ℕ) → Holds file at (b ∷ []) → slice_index file at ≡ b
gate_is file at b holds = let place : at ≡ at + 0 = omega arith in ap (λ (k : ℕ). get_or file k 0) place ∙ holds.each 0 (omega arith)

pub opened : (front body c : List ℕ) → IsReady front body c → Holds c (length front) (1 ∷ []) → Shut (with_record front body) c
opened front body c ready holds = ready_with front body c ready (gate_is c (length front) 1 holds)

pub shut_again : (front body c : List ℕ) → IsReady front body c → Holds c (length front) (0 ∷ []) → Shut front c
shut_again front body c ready holds = ready_without front body c ready (λ one. let clash : 0 ≡ 1 = sym (gate_is c (length front) 0 holds) ∙ one in omega (arith, clash))

-- a file that has a record
pub ready_of : (front body c : List ℕ) → Shut (with_record front body) c → IsReady front body c
ready_of front body c shut =
    let long : length (with_record front body) ≡ length front + 1 + length body = length-with front body in
    record {
      longer = omega (arith, long, shut.longer);
      same = λ i below. shut.same i (omega (arith, long, below)) ∙ get_or_append_left front (1 ∷ body) 0 i below;
      there = λ i below.
          let right : get_or (front ++ (1 ∷ body)) (length front + 1 + i) 0 ≡ get_or (1 ∷ body) (length front + 1 + i - length front) 0 = get_or-append_right front (1 ∷ body) (length front) (length front + 1 + i) 0 refl (omega arith) in
          let place : length front + 1 + i - length front ≡ suc i = omega arith in
          shut.same (length front + 1 + i) (omega (arith, long, below)) ∙ right ∙ ap (λ (k : ℕ). get_or (1 ∷ body) k 0) place;
      next = λ one. shut.gate (ap (λ (k : ℕ). get_or c k 0) long ∙ one);
    }

pub nothing_staged : (front file : List ℕ) → Shut front file → HasStaged front [] file
nothing_staged front file shut = record { shut = shut; within = omega (arith, shut.longer); there = λ i below. absurd (omega (arith, below)) }

-- ---- the same at a place that is known by an equation, and of all that a crash may leave

pub staged_more_at : (front body more old new : List ℕ) (at : ℕ) → at ≡ length front + 1 + length body → HasStaged front body old → Torn at (length more) old new → Holds new at more → HasStaged front (body ++ more) new
staged_more_at front body more old new at e has torn holds = staged_more front body more old new has (subst (λ (k : ℕ). Torn k (length more) old new) e torn) (subst (λ (k : ℕ). Holds new k more) e holds)

pub staged_still_at : (front body old new : List ℕ) (at n : ℕ) → at ≡ length front + 1 + length body → HasStaged front body old → Torn at n old new → HasStaged front body new
staged_still_at front body old new at n e has torn = staged_still front body old new n has (subst (λ (k : ℕ). Torn k n old new) e torn)

pub closed_behind_at : (front body old new : List ℕ) (at : ℕ) → at ≡ length front + 1 + length body → HasStaged front body old → Torn at 1 old new → Holds new at (0 ∷ []) → IsReady front body new
closed_behind_at front body old new at e has torn holds = closed_behind front body old new has (subst (λ (k : ℕ). Torn k 1 old new) e torn) (subst (λ (k : ℕ). Holds new k (0 ∷ [])) e holds)

pub ready_torn_at : (front body d c : List ℕ) (at : ℕ) → at ≡ length front → IsReady front body d → Torn at 1 d c → IsReady front body c
ready_torn_at front body d c at e ready torn = ready_torn front body d c ready (subst (λ (k : ℕ). Torn k 1 d c) e torn)

pub opened_at : (front body c : List ℕ) (at : ℕ) → at ≡ length front → IsReady front body c → Holds c at (1 ∷ []) → Shut (with_record front body) c
opened_at front body c at e ready holds = opened front body c ready (subst (λ (k : ℕ). Holds c k (1 ∷ [])) e holds)

pub shut_again_at : (front body c : List ℕ) (at : ℕ) → at ≡ length front → IsReady front body c → Holds c at (0 ∷ []) → Shut front c
shut_again_at front body c at e ready holds = shut_again front body c ready (subst (λ (k : ℕ). Holds c k (0 ∷ [])) e holds)

pub each_behind : (front body : List ℕ) (at n : ℕ) (old new : List ℕ → Type 0) → at ≡ length front + 1 + length body → ((c : List ℕ) → old c → Shut front c) → Follows (Torn at n) old new → (c : List ℕ) → new c → Shut front c
each_behind front body at n old new e each follows = λ c left. let from = follows c left in torn_behind front from.0 c at n (each from.0 from.1) (omega (arith, e)) from.2

pub each_ready : (front body : List ℕ) (at : ℕ) (old new : List ℕ → Type 0) → at ≡ length front → ((c : List ℕ) → old c → IsReady front body c) → Follows (Torn at 1) old new → (c : List ℕ) → new c → IsReady front body c
each_ready front body at old new e each follows = λ c left. let from = follows c left in ready_torn_at front body from.0 c at e (each from.0 from.1) from.2

-- after a sync
pub only_shut : (front file : List ℕ) (outcomes : List ℕ → Type 0) → Only file outcomes → Shut front file → (c : List ℕ) → outcomes c → Shut front c
only_shut front file outcomes only shut = λ c left. subst (λ (f : List ℕ). Shut front f) (sym (only c left)) shut

pub only_ready : (front body file : List ℕ) (outcomes : List ℕ → Type 0) → Only file outcomes → IsReady front body file → (c : List ℕ) → outcomes c → IsReady front body c
only_ready front body file outcomes only ready = λ c left. subst (λ (f : List ℕ). IsReady front body f) (sym (only c left)) ready

-- a record that is ready is staged, if its gate is shut
pub ready_staged : (front body file : List ℕ) → IsReady front body file → Shut front file → HasStaged front body file
ready_staged front body file ready shut = record { shut = shut; within = omega (arith, ready.longer); there = ready.there }

-- what follows from what an Ok says
pub on_ok : {T E : Type 0} (A B : Type 0) (r : Result T E) → (A → B) → OnOk r A → OnOk r B
on_ok A B (Ok x) f a = f a
on_ok A B (Err e) f a = a
