-- What follows from the definitions of `Answers`.
use Rattle.std.proofs.Common.{◌≡◌, ℕ, ◌≤◌, ◌<◌, true, false, nat_eq, nat_lt, List, length, refl, sym, ap, ◌∙◌, subst, arith}
use Rattle.std.specs.Prelude.{Contains, Ok, Err}
use Rattle.std.specs.List.{list_any}
use Rattle.std.proofs.lemmas.Bool.Decides.{nat_tests}
use Rattle.std.proofs.lemmas.List.Folds.{Any-from_list_any, list_any_at}
use Rattle.survey_conf.specs.Description.{Description}
use Rattle.edit_journal.specs.Edit.{LeafEdit}
use Rattle.edit_journal.specs.Leaves.{LeafTiles}
use Rattle.edit_journal.specs.Batches.{edits_of, ends}
use Rattle.survey_core.specs.HistoryLaws.{end_within}
use Rattle.past_reads.specs.Past.{TellsPastRefusal}
use Rattle.past_reads.specs.Answers.{is_end, past_file, past_answer}
use Rattle.past_reads.specs.declared.refusal.PastRefusal.{PastRefusal}
use Rattle.past_reads.specs.declared.refusal.PastRefusal.TheVariants.{TooNew, Split, OutOfMemory}

-- ---- whether the first edits split no batch

contains_from_any : (xs : List ℕ) (k : ℕ) → list_any (nat_eq k) xs ≡ true → Contains xs k
contains_from_any xs k e =
    let (i, x, lt, at, is) = Any-from_list_any (nat_eq k) xs e in
    let same : x ≡ k = grind (arith, nat_tests) in
    subst (Contains xs) same (i, lt, at)

any_from_contains : (xs : List ℕ) (k : ℕ) → Contains xs k → list_any (nat_eq k) xs ≡ true
any_from_contains xs k (i, lt, at) = list_any_at (nat_eq k) xs i k lt (grind (arith, nat_tests))

pub end_true : (batches : List (List LeafEdit)) (k : ℕ) → Contains (ends batches) k → is_end batches k ≡ true
end_true batches k there = any_from_contains (ends batches) k there

pub end_false : (batches : List (List LeafEdit)) (k : ℕ) → (Contains (ends batches) k → ⊥) → is_end batches k ≡ false
end_false batches k never =
    elim (is_end batches k) as (λ b. is_end batches k ≡ b → b ≡ false) [
      | true ↦ λ is. absurd (never (contains_from_any (ends batches) k is))
      | false ↦ λ is. refl
    ] refl

-- where there is no generation, whatever the memory, no batch ends
pub never_refused : (batches : List (List LeafEdit)) (k : ℕ) (refusal : PastRefusal) → TellsPastRefusal batches k refusal → (refusal ≡ OutOfMemory → ⊥) → Contains (ends batches) k → ⊥
never_refused batches k (TooNew edits) tells some there = absurd (omega (arith, tells.0, end_within batches k there))
never_refused batches k (Split told) tells some there = tells.1 there
never_refused batches k OutOfMemory tells some there = some refl

-- ---- the answer

module _ (d : Description) (opening : LeafTiles) (batches : List (List LeafEdit)) (k : ℕ) (path : List ℕ) where
  pub found_answer : Contains (ends batches) k → past_answer d opening batches k path ≡ Ok (past_file d opening batches k path)
  unfolding past_answer
  found_answer there =
      let within = end_within batches k there in
      let known : nat_lt (length (edits_of batches)) k ≡ false = grind (arith, nat_tests, within) in
      rw (known, end_true batches k there) refl

  pub refused_answer : (refusal : PastRefusal) → TellsPastRefusal batches k refusal → (refusal ≡ OutOfMemory → ⊥) → past_answer d opening batches k path ≡ Err refusal
  unfolding past_answer
  refused_answer (TooNew edits) tells some =
      let new : nat_lt (length (edits_of batches)) k ≡ true = grind (arith, nat_tests, tells.0) in
      rw (new, tells.1) refl
  refused_answer (Split told) tells some =
      let known : nat_lt (length (edits_of batches)) k ≡ false = grind (arith, nat_tests, tells.0) in
      rw (known, end_false batches k tells.1, tells.2) refl
  refused_answer OutOfMemory tells some = absurd (some refl)
