-- Lists of shared rows, and the rows that they share.
use Rattle.std.proofs.Common.{◌≡◌, ℕ, zero, suc, ◌+◌, Bool, false, cond, List, [], ◌∷◌, map, length, refl, sym, ap, ◌∙◌, arith}
use Rattle.std.specs.Prelude.{slice_get, slice_index_or, option_map}
use Rattle.std.specs.List.{AllByRecursion as All, insert, remove}
use Rattle.balanced_list.specs.Search.{leading, HoldsAtFirst}

module _ {S T : Type 0} (f : S → T) where
  pub leading_map : (test : T → Bool) (xs : List S) → leading test (map f xs) ≡ leading (λ x. test (f x)) xs
  leading_map test [] = refl
  leading_map test (x ∷ xs) = ap (λ n. cond (test (f x)) (n + 1) 0) (leading_map test xs)

  all_map : (P : T → Type 0) (xs : List S) → All P (map f xs) → All (λ x. P (f x)) xs
  all_map P [] h = tt
  all_map P (x ∷ xs) h = (h.0, all_map P xs h.1)

  first_map : (test : T → Bool) (xs : List S) → HoldsAtFirst test (map f xs) → HoldsAtFirst (λ x. test (f x)) xs
  first_map test [] h = tt
  first_map test (x ∷ xs) h = (λ t. first_map test xs (h.0 t), λ e. all_map (λ y. test y ≡ false) xs (h.1 e))

  -- a search among shared rows is one among the rows
  pub search_map : (test : T → Bool) (xs : List S) (p : ℕ) → (HoldsAtFirst (λ x. test (f x)) xs → p ≡ leading (λ x. test (f x)) xs) →
      HoldsAtFirst test (map f xs) → p ≡ leading test (map f xs)
  search_map test xs p h o = h (first_map test xs o) ∙ sym (leading_map test xs)

  pub insert_map : (xs : List S) (i : ℕ) (x : S) → map f (insert xs i x) ≡ insert (map f xs) i (f x)
  insert_map xs zero x = refl
  insert_map [] (suc i) x = refl
  insert_map (y ∷ ys) (suc i) x = ap (λ zs. f y ∷ zs) (insert_map ys i x)

  pub remove_map : (xs : List S) (i : ℕ) → map f (remove xs i) ≡ remove (map f xs) i
  remove_map [] zero = refl
  remove_map [] (suc i) = refl
  remove_map (y ∷ ys) zero = refl
  remove_map (y ∷ ys) (suc i) = ap (λ zs. f y ∷ zs) (remove_map ys i)

  pub length_map : (xs : List S) → length (map f xs) ≡ length xs
  length_map [] = refl
  length_map (x ∷ xs) = let e : length (map f xs) ≡ length xs = length_map xs in omega (arith, e)

  pub get_map : (xs : List S) (i : ℕ) → slice_get (map f xs) i ≡ option_map f (slice_get xs i)
  get_map [] i = refl
  get_map (x ∷ xs) zero = refl
  get_map (x ∷ xs) (suc i) = get_map xs i

  pub index_map : (xs : List S) (i : ℕ) (d : S) → slice_index_or (map f xs) i (f d) ≡ f (slice_index_or xs i d)
  index_map [] i d = refl
  index_map (x ∷ xs) zero d = refl
  index_map (x ∷ xs) (suc i) d = index_map xs i d
