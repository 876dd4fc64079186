-- The requests of a script, edit by edit.
use Rattle.std.proofs.Common.{◌≡◌, ℕ, suc, ◌+◌, List, [], ◌∷◌, ◌++◌, refl, sym, ap, ◌∙◌, arith}
use Rattle.std.specs.List.{flat_map, range_with_len}
use Rattle.std.proofs.lemmas.List.{append-nil, map-id}
use Rattle.std.proofs.lemmas.List.Concat.{flat_map-append}
use Rattle.std.proofs.lemmas.List.FromFn.{map-range_with_len_more}
use Rattle.survey_make.specs.Script.{next_number, number_of, edit_requests, requests_to}

pub number_of-more : (x i : ℕ) → number_of x (i + 1) ≡ next_number (number_of x i)
unfolding number_of
number_of-more x i = ap (number_of x) (let e : i + 1 ≡ suc i = omega arith in e)

-- a range with one number more
range-more : (a n : ℕ) → range_with_len a (n + 1) ≡ range_with_len a n ++ (a + n) ∷ []
range-more a n = sym (map-id (range_with_len a (n + 1))) ∙ map-range_with_len_more (λ i. i) a n (a + n) refl ∙ ap (λ (is : List ℕ). is ++ (a + n) ∷ []) (map-id (range_with_len a n))

pub requests_to-more : (x i : ℕ) → requests_to x (i + 1) ≡ requests_to x i ++ edit_requests (i + 1) (number_of x (i + 1))
unfolding requests_to
requests_to-more x i =
    let requests : ℕ → List ℕ = λ j. edit_requests j (number_of x j) in
    let next : 1 + i ≡ i + 1 = omega arith in
    ap (flat_map requests) (range-more 1 i) ∙ flat_map-append requests (range_with_len 1 i) ((1 + i) ∷ [])
    ∙ ap (λ (bytes : List ℕ). flat_map requests (range_with_len 1 i) ++ bytes) (append-nil (requests (1 + i)) ∙ ap requests next)

pub number_of-none : (x : ℕ) → number_of x 0 ≡ x
unfolding number_of
number_of-none x = refl

pub requests_to-none : (x : ℕ) → requests_to x 0 ≡ []
unfolding requests_to
requests_to-none x = refl
