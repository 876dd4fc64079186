-- How a book's log tells a history, and what a page keeps of it.
use Rattle.std.proofs.Common.{◌≡◌, ℕ, zero, suc, ◌+◌, ◌-◌, ◌<◌, List, [], ◌∷◌, ◌++◌, map, length, slice_get, slice_set, Some, inl, inr, refl, ap, sym, ◌∙◌, subst, arith, length-append}
use Rattle.std.specs.Prelude.{slice_index, replicate}
use Rattle.std.specs.List.{range_with_len}
use Rattle.std.proofs.lemmas.List.{map-append, length-map, length-set, get_or-set_same, get_or-set_other, get_or-replicate, length-replicate}
use Rattle.std.proofs.lemmas.List.Elements.{All-push, All-nil}
use Rattle.std.proofs.lemmas.Bool.{cases_eq}
use Rattle.std.proofs.lemmas.Option.{same_Some}
use mathlib.Core.List.{IsPrefix}
use Rattle.shared_history.specs.Book.{Numbered, states_of, owners_of, seats_of, history_of, IsKeptSeen}
use Rattle.shared_history.specs.Histories.{SeenHistory, places_of, IsSeenHistory, one_state, and_then, GoesOn}
use Rattle.shared_history.proofs.Places.{same_places, places_of-own, places_of-other, places_fit}

-- a beginning of a log tells a beginning of its history
pub begins_states : {S : Type 0} (xs ys : List (Numbered S)) → IsPrefix xs ys → IsPrefix (states_of xs) (states_of ys)
begins_states xs ys p = (states_of p.0, sym (map-append (λ entry. entry.state) xs p.0) ∙ ap states_of p.1)

pub begins_owners : {S : Type 0} (xs ys : List (Numbered S)) → 0 < length xs → IsPrefix xs ys → IsPrefix (owners_of xs) (owners_of ys) × (seats_of ys ≡ seats_of xs)
begins_owners [] ys some p = absurd (omega (arith, some))
begins_owners (x ∷ xs) [] some p = absurd (cc (p.1))
begins_owners (x ∷ xs) (y ∷ ys) some p =
    let heads : x ≡ y = cc (p.1) in
    let tails : xs ++ p.0 ≡ ys = cc (p.1) in
    ((map (λ entry. entry.number) p.0, sym (map-append (λ entry. entry.number) xs p.0) ∙ ap (map (λ entry. entry.number)) tails), ap (λ entry. entry.number) (sym heads))

-- an entry more is a state of that seat's more
pub history_after : {S : Type 0} (log : List (Numbered S)) (last : S) (entry : Numbered S) → 0 < length log → history_of (log ++ entry ∷ []) entry.state ≡ and_then (history_of log last) entry.number entry.state
history_after [] last entry some = absurd (omega (arith, some))
history_after (first ∷ log) last entry some =
    told (map-append (λ e. e.state) (first ∷ log) (entry ∷ [])) (map-append (λ e. e.number) log (entry ∷ []))
  where
    told : {xs ys : List _} {ms ns : List ℕ} → xs ≡ ys → ms ≡ ns → (let a : SeenHistory _ = record { states = xs; owners = ms; seats = first.number; last = entry.state } in let b : SeenHistory _ = record { states = ys; owners = ns; seats = first.number; last = entry.state } in a ≡ b)
    told p q = cc (p, q)

get_last : {X : Type 0} (xs : List X) (x : X) → slice_get (xs ++ x ∷ []) (length xs) ≡ Some x
get_last [] x = refl
get_last (y ∷ xs) x = get_last xs x

-- the counts once that seat has one more
one_more_made : (made owners : List ℕ) (seats seat : ℕ) → length made ≡ seats → seat < seats → ((k : ℕ) → k < seats → slice_index made k ≡ length (places_of k owners))
    → (k : ℕ) → k < seats → slice_index (slice_set made seat (slice_index made seat + 1)) k ≡ length (places_of k (owners ++ seat ∷ []))
one_more_made made owners seats seat len below each k at = elim (cases_eq k seat) as (λ _. slice_index (slice_set made seat (slice_index made seat + 1)) k ≡ length (places_of k (owners ++ seat ∷ []))) [
  | inl same ↦ subst (λ (n : ℕ). slice_index (slice_set made seat (slice_index made seat + 1)) n ≡ length (places_of n (owners ++ seat ∷ []))) (sym same) (
      let here : slice_index (slice_set made seat (slice_index made seat + 1)) seat ≡ slice_index made seat + 1 = get_or-set_same made seat (slice_index made seat + 1) 0 (omega (arith, len, below)) in
      let count : length (places_of seat (owners ++ seat ∷ [])) ≡ length (places_of seat owners) + 1 = ap length (places_of-own seat owners) ∙ length-append (places_of seat owners) ((length owners + 1) ∷ []) in
      omega (arith, here, count, each seat below))
  | inr other ↦
      let there : slice_index (slice_set made seat (slice_index made seat + 1)) k ≡ slice_index made k = get_or-set_other made seat k (slice_index made seat + 1) 0 other in
      there ∙ (each k at ∙ ap length (sym (places_of-other k seat owners (λ e. other (sym e)))))
]

module _ {S : Type 0} (Legal : List S → Type 0) where
  -- what a page keeps of one state
  pub kept_one : (seats : ℕ) (first : S) → Legal (first ∷ []) → IsKeptSeen Legal 1 (replicate seats 0) (one_state seats first)
  kept_one seats first legal = record {
    count = refl;
    seats = length-replicate seats 0;
    made = λ k at. get_or-replicate seats k 0 0 at;
    seen = record { legal = legal; last = refl; owned = refl; seated = All-nil (λ owner. owner < seats) };
  }

  -- and of one more
  pub kept_after : (count : ℕ) (made : List ℕ) (seen : SeenHistory S) (seat : ℕ) (next : S) → IsKeptSeen Legal count made seen → seat < seen.seats → Legal (seen.states ++ next ∷ [])
      → IsKeptSeen Legal (count + 1) (slice_set made seat (slice_index made seat + 1)) (and_then seen seat next)
  kept_after count made seen seat next kept below legal = record {
    count = omega (arith, kept.count, length-append seen.states (next ∷ []));
    seats = length-set made seat (slice_index made seat + 1) ∙ kept.seats;
    made = one_more_made made seen.owners seen.seats seat kept.seats below kept.made;
    seen = record {
      legal = legal;
      last = let place : length (seen.states ++ next ∷ []) - 1 ≡ length seen.states = omega (arith, length-append seen.states (next ∷ [])) in ap (slice_get (seen.states ++ next ∷ [])) place ∙ get_last seen.states next;
      owned = omega (arith, kept.seen.owned, length-append seen.states (next ∷ []), length-append seen.owners (seat ∷ []));
      seated = All-push (λ owner. owner < seen.seats) seen.owners seat kept.seen.seated below;
    };
  }

  -- a count is less than that of the states
  pub made_fits : (count : ℕ) (made : List ℕ) (seen : SeenHistory S) (seat : ℕ) → IsKeptSeen Legal count made seen → seat < seen.seats → slice_index made seat < count
  made_fits count made seen seat kept below = omega (arith, kept.made seat below, places_fit 1 seat seen.owners, kept.seen.owned, kept.count)

  -- a log is no less than one entry
  pub some_entry : (log : List (Numbered S)) (last : S) → IsSeenHistory Legal (history_of log last) → 0 < length log
  some_entry log last seen = omega (arith, seen.owned, length-map log (λ entry. entry.state))

  -- the same log with the same last state tells the same history
  pub same_history : (mine theirs : List (Numbered S)) (last other : S) → IsSeenHistory Legal (history_of mine last) → IsSeenHistory Legal (history_of theirs other) → theirs ≡ mine → history_of theirs other ≡ history_of mine last
  same_history mine theirs last other is_mine is_theirs same =
      let there : slice_get (states_of mine) (length (states_of mine) - 1) ≡ Some other = subst (λ (log : List (Numbered S)). slice_get (states_of log) (length (states_of log) - 1) ≡ Some other) same is_theirs.last in
      let one : other ≡ last = same_Some other last (sym there ∙ is_mine.last) in
      ap (λ (log : List (Numbered S)). history_of log other) same ∙ ap (history_of mine) one

  -- a longer log with as many of that seat's goes on
  pub goes_on : (seat : ℕ) (mine theirs : List (Numbered S)) (last other : S) → IsSeenHistory Legal (history_of mine last) → IsPrefix mine theirs → length mine < length theirs
      → length (places_of seat (owners_of theirs)) ≡ length (places_of seat (owners_of mine)) → GoesOn seat (history_of mine last) (history_of theirs other)
  goes_on seat mine theirs last other seen begins more same =
      let owners = begins_owners mine theirs (some_entry mine last seen) begins in record {
        begins = begins_states mine theirs begins;
        more = omega (arith, more, length-map mine (λ entry. entry.state), length-map theirs (λ entry. entry.state));
        owners = owners.0;
        own = same_places seat (owners_of mine) (owners_of theirs) owners.0 same;
        seats = owners.1;
      }

-- the numbers of one seat more
pub range_more : (n a : ℕ) → range_with_len a n ++ (a + n) ∷ [] ≡ range_with_len a (n + 1)
range_more n a = sym (ap (range_with_len a) (let e : n + 1 ≡ suc n = omega arith in e) ∙ by_count n a)
  where
    by_count : (n a : ℕ) → range_with_len a (suc n) ≡ range_with_len a n ++ (a + n) ∷ []
    by_count zero a = let e : a ≡ a + 0 = omega arith in ap (λ (x : ℕ). x ∷ []) e
    by_count (suc n) a = let e : a + 1 + n ≡ a + suc n = omega arith in ap (λ (l : List ℕ). a ∷ l) (by_count n (a + 1) ∙ ap (λ (x : ℕ). range_with_len (a + 1) n ++ x ∷ []) e)

pub numbers_more : {A : Type 0} (number : A → ℕ) (xs : List A) (x : A) (n : ℕ) → map number xs ≡ range_with_len 0 n → number x ≡ n → map number (xs ++ x ∷ []) ≡ range_with_len 0 (n + 1)
numbers_more number xs x n before is =
    let place : n ≡ 0 + n = omega arith in
    map-append number xs (x ∷ []) ∙ (ap (λ (l : List ℕ). l ++ number x ∷ []) before ∙ (ap (λ (k : ℕ). range_with_len 0 n ++ k ∷ []) (is ∙ place) ∙ range_more n 0))

-- so many numbers are so many seats
pub as_many : {A : Type 0} (number : A → ℕ) (xs : List A) (n : ℕ) → map number xs ≡ range_with_len 0 n → length xs ≡ n
as_many number xs n same = sym (length-map xs number) ∙ (ap length same ∙ length_range n 0)
  where
    length_range : (n a : ℕ) → length (range_with_len a n) ≡ n
    length_range zero a = refl
    length_range (suc n) a = ap suc (length_range n (a + 1))

-- a page that has one more
pub kept_page : {S : Type 0} (Legal : List S → Type 0) (count count' : ℕ) (made made' : List ℕ) (log log' : List (Numbered S)) (last next next' : S) (seat : ℕ) → IsKeptSeen Legal count made (history_of log last)
    → seat < seats_of log → Legal (states_of log ++ next ∷ []) → count' ≡ count + 1 → made' ≡ slice_set made seat (slice_index made seat + 1) → log' ≡ log ++ (let entry : Numbered S = record { number = seat; state = next } in entry) ∷ [] → next' ≡ next
    → IsKeptSeen Legal count' made' (history_of log' next')
kept_page {S} Legal count count' made made' log log' last next next' seat kept below legal more counts longer same =
    let entry : Numbered S = record { number = seat; state = next } in
    let after : IsKeptSeen Legal (count + 1) (slice_set made seat (slice_index made seat + 1)) (and_then (history_of log last) seat next) = kept_after Legal count made (history_of log last) seat next kept below legal in
    let told : history_of (log ++ entry ∷ []) next ≡ and_then (history_of log last) seat next = history_after log last entry (some_entry Legal log last kept.seen) in
    rw (more, counts, longer, same, told) after

-- a state that the seat appends stands behind its own
pub own_after : {S : Type 0} (Legal : List S → Type 0) (seen shown : SeenHistory S) (seat : ℕ) (next : S) → IsSeenHistory Legal seen → shown ≡ and_then seen seat next
    → places_of seat shown.owners ≡ places_of seat seen.owners ++ length seen.states ∷ []
own_after Legal seen shown seat next is same =
    ap (λ (h : SeenHistory _). places_of seat h.owners) same ∙ (places_of-own seat seen.owners ∙ ap (λ (n : ℕ). places_of seat seen.owners ++ n ∷ []) (sym is.owned))
