use Rattle.std.proofs.Common.{List, ℕ, sym, subst}
use Rattle.std.specs.Prelude.{All, Contains, nat_eq}
use Rattle.std.specs.List.{dedup}
use Rattle.std.specs.List.Sorted.{IsStrictlyIncreasing, IsPermutation}
use Rattle.std.proofs.lemmas.List.Filters.{dedup_is}
use Rattle.std.proofs.lemmas.List.Kept.{Contains-dedup_nat, Contains-from_dedup}
use Rattle.std.proofs.lemmas.List.Elements.{All-contains_itself}
use Rattle.std.proofs.lemmas.List.Sorted.{Contains-permutation, IsPermutation-sym}
use Rattle.std.proofs.lemmas.Map.Keys.{IsStrictlyIncreasing-dedup}
use Rattle.generation.specs.Changes.{AreLeavesOf}
use Rattle.generation.proofs.changes.ascending.Goals as goal

all_mapped : (P Q : ℕ → Type 0) (xs : List ℕ) → ((x : ℕ) → P x → Q x) → All P xs → All Q xs
all_mapped P Q xs f all = λ k d h. f _ (all k d h)

pub returns-clause-ascending : goal.returns-clause-ascending
returns-clause-ascending c =
    let is = dedup_is nat_eq _ _ c.dedup.ensures.filtered in
    let P : List ℕ → Type 0 = λ xs. IsStrictlyIncreasing xs in
    subst P (sym is) (IsStrictlyIncreasing-dedup c.sort.new.self.items c.in_ok-sort.ensures.sorted)

pub returns-clause-same : goal.returns-clause-same
returns-clause-same c =
    let is = dedup_is nat_eq _ _ c.dedup.ensures.filtered in
    let old = c.args.numbers.items in
    let sorted = c.sort.new.self.items in
    let moved : IsPermutation old sorted = c.in_ok-sort.ensures.permutation in
    subst (λ xs. AreLeavesOf old xs) (sym is) (record {
      each = all_mapped (Contains old) (Contains (dedup nat_eq sorted)) old (λ x h. Contains-dedup_nat sorted x (Contains-permutation old sorted x moved h)) (All-contains_itself old);
      only = all_mapped (Contains (dedup nat_eq sorted)) (Contains old) (dedup nat_eq sorted)
          (λ x h. Contains-permutation sorted old x (IsPermutation-sym old sorted moved) (Contains-from_dedup nat_eq sorted x h)) (All-contains_itself (dedup nat_eq sorted));
    })
