-- The step that appends a state keeps the rule.
use Rattle.std.proofs.Common.{◌≡◌, ℕ, ◌+◌, ◌<◌, ◌==◌, Bool, true, false, List, [], ◌∷◌, ◌++◌, length, refl, ap, sym, subst, arith, inl, length-append, None}
use Rattle.std.proofs.lemmas.List.{append-nil}
use Rattle.std.proofs.lemmas.Bool.Decides.{nat_tests}
use mathlib.Core.List.{IsPrefix}
use prog.Atomic.{either}
use Rattle.logbook.specs.Pages.{Cell, cell, keeps, no_nib, step, Moves, Goes}
use Rattle.shared_history.specs.Book.{Numbered, states_of, IsKeptHistory, Adds}
use Rattle.shared_history.proofs.Beginnings.{prefix_whole}

abbrev pub shown : {S : Type 0} → List S → List S
shown log = []

abbrev pub moved : {S : Type 0} → List S → List S → ℕ → Type 0
moved xs ys n = Unit {0}

goes : {S : Type 0} (legal : List S → Type 0) (log v : List (Numbered S)) (s : Numbered S) (old : ℕ) → length v ≡ old → legal (states_of (v ++ s ∷ [])) → (0 < length log → legal (states_of log)) → IsPrefix v log
    → (b : Bool) → (length log == old) ≡ b
    → Goes (IsKeptHistory legal) shown moved 0 (v, (no_nib, None)) (λ n. either (n == old) (old + 1) n) (Adds (step 0 old (old + 1) s) (v, (no_nib, None))) ((length log, true) ∷ (0, true) ∷ []) log
goes {S} legal log v s old len may kept pre true is =
    let here : length log ≡ old = grind (arith, nat_tests) in
    let same : v ≡ log = prefix_whole v log pre (omega arith) in
    let n : either (length log == old) (old + 1) (length log) ≡ length (log ++ s ∷ []) = rw is (omega (arith, length-append log (s ∷ []))) in (
      keeps,
      s ∷ [],
      None,
      tt,
      record { words = ap (λ (k : ℕ). (k, true) ∷ (0, true) ∷ []) n; legal = λ some. subst (λ (l : List (Numbered S)). legal (states_of (l ++ s ∷ []))) same may },
      inl (refl, refl),
      λ found. ap (λ (l : List (Numbered S)). l ++ s ∷ []) (sym same),
    )
goes {S} legal log v s old len may kept pre false is =
    let other : ¬ (length log ≡ old) = λ e. grind (arith, nat_tests) in
    let all : log ++ [] ≡ log = append-nil log in
    let n : either (length log == old) (old + 1) (length log) ≡ length (log ++ []) = rw is (ap length (sym all)) in (
      keeps,
      [],
      None,
      tt,
      record { words = ap (λ (k : ℕ). (k, true) ∷ (0, true) ∷ []) n; legal = subst (λ (l : List (Numbered S)). 0 < length l → legal (states_of l)) (sym all) kept },
      inl (refl, refl),
      λ found. absurd (other found),
    )

-- whatever the book is, the step appends the state to all that was seen, or finds that the history is longer
pub adds_moves : {S : Type 0} (legal : List S → Type 0) (v : List (Numbered S)) (s : Numbered S) (old : ℕ) → length v ≡ old → legal (states_of (v ++ s ∷ []))
    → Moves (IsKeptHistory legal) shown moved 0 (v, (no_nib, None)) (λ n. either (n == old) (old + 1) n) (Adds (step 0 old (old + 1) s) (v, (no_nib, None)))
adds_moves {S} legal v s old len may cs log kept pre away =
    let P : List Cell → Type 0 = λ c. (0 < length c) × ((cell c 0).1 ≡ true)
    × Goes (IsKeptHistory legal) shown moved 0 (v, (no_nib, None)) (λ n. either (n == old) (old + 1) n) (Adds (step 0 old (old + 1) s) (v, (no_nib, None))) c log in
    subst P (sym kept.words) (omega arith, refl, goes legal log v s old len may kept.legal pre (length log == old) refl)
