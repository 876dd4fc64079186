-- The leaves of a list of paths, path by path.
use Rattle.std.proofs.Common.{◌≡◌, ℕ, ◌+◌, ◌<◌, ◌≤◌, ◌↔◌, ◌||◌, ◌&&◌, Bool, true, false, List, [], ◌∷◌, ◌++◌, Option, Some, None, refl, sym, ap, ◌∙◌, arith, Decides, subst, map, take, length, get_or}
use Rattle.std.specs.Prelude.{nat_eq, nat_le, nat_lt, filter, All, IfSome, IsPermutation}
use Rattle.std.specs.List.{list_any, range_with_len, dedup}
use Rattle.std.specs.List.Sorted.{IsStrictlyIncreasing, IsSorted}
use Rattle.std.specs.Ordering.{nat_cmp, eq_by_cmp, is_eq}
use Rattle.std.specs.Cmp.Lexicographic.{slice_cmp}
use Rattle.std.proofs.lemmas.Bool.Decides.{nat_tests, same_from_decides}
use Rattle.std.proofs.lemmas.Cmp.{tied_itself, nat_list_cmp_total}
use Rattle.std.proofs.lemmas.List.{take_more, map-append, append-nil}
use Rattle.std.proofs.lemmas.List.Folds.{list_any-append}
use Rattle.std.proofs.lemmas.List.Elements.{All-push}
use Rattle.std.proofs.lemmas.List.Kept.{IsStrictlyIncreasing-filter}
use Rattle.std.proofs.lemmas.List.Sorted.{list_any-IsPermutation}
use Rattle.std.proofs.lemmas.Map.Keys.{IsStrictlyIncreasing-dedup}
use Rattle.std.proofs.lemmas.Map.Lookups.{exact_bytes}
use Rattle.std.proofs.lemmas.Map.Views.{tells_apart}
use Rattle.healpix_nested.specs.Cells.{cell_count}
use Rattle.shelf_io.specs.Opening.{leaf_path}
use Rattle.shelf_io.specs.Listed.{is_among, leaves_among}
use Rattle.shelf_io.proofs.AscendLemmas.{has, Ascends, ascends_from_increasing, range_increases, same_numbers, has_filter, has_range, has_dedup, has_none}

-- the test on two texts
pub same_text : (a b : List ℕ) → Decides (eq_by_cmp (slice_cmp nat_cmp) a b) (a ≡ b)
same_text a b = (λ e. tells_apart exact_bytes a b e, λ e. subst (λ c. eq_by_cmp (slice_cmp nat_cmp) a c ≡ true) e (ap is_eq (tied_itself nat_list_cmp_total a)))

or_none : (b : Bool) → (b || false) ≡ b
or_none true = refl
or_none false = refl

-- one text more
pub among_more : (texts : List (List ℕ)) (text other : List ℕ) → is_among (texts ++ text ∷ []) other ≡ (is_among texts other || eq_by_cmp (slice_cmp nat_cmp) other text)
among_more texts text other =
    list_any-append (eq_by_cmp (slice_cmp nat_cmp) other) texts (text ∷ [])
    ∙ ap (λ b. is_among texts other || b) (or_none (eq_by_cmp (slice_cmp nat_cmp) other text))

-- these are the leaves whose paths are among the texts, in some order
pub record Found (top : ℕ) (texts : List (List ℕ)) (leaves : List ℕ) : Type 0 where
  pub cells : All (λ leaf. leaf < cell_count top) leaves
  pub each : (leaf : ℕ) → leaf < cell_count top → has leaves leaf ≡ is_among texts (leaf_path top leaf)

has_more : (leaves : List ℕ) (leaf other : ℕ) → has (leaves ++ leaf ∷ []) other ≡ (has leaves other || nat_eq leaf other)
has_more leaves leaf other = list_any-append (λ x. nat_eq x other) leaves (leaf ∷ []) ∙ ap (λ b. has leaves other || b) (or_none (nat_eq leaf other))

found_one : (top : ℕ) (text : List ℕ) (leaf other : ℕ) → ((Some leaf ≡ Some other) ↔ (leaf_path top other ≡ text)) → nat_eq leaf other ≡ eq_by_cmp (slice_cmp nat_cmp) (leaf_path top other) text
found_one top text leaf other is =
    same_from_decides (nat_eq leaf other) (eq_by_cmp (slice_cmp nat_cmp) (leaf_path top other) text)
    (λ e. let same : leaf ≡ other = grind (arith, nat_tests) in is.0 (ap (λ n. Some n) same), λ e. let same : leaf ≡ other = let found = is.1 e in cc in grind (arith, nat_tests))
    (same_text (leaf_path top other) text)

pub found_more : (top : ℕ) (texts : List (List ℕ)) (leaves : List ℕ) (text : List ℕ) (leaf : ℕ) → leaf < cell_count top
    → ((other : ℕ) → other < cell_count top → (Some leaf ≡ Some other) ↔ (leaf_path top other ≡ text)) → Found top texts leaves → Found top (texts ++ text ∷ []) (leaves ++ leaf ∷ [])
found_more top texts leaves text leaf below is found = record {
  cells = All-push (λ l. l < cell_count top) leaves leaf found.cells below;
  each = λ other h. has_more leaves leaf other ∙ (λ i. found.each other h i || found_one top text leaf other (is other h) i) ∙ sym (among_more texts text (leaf_path top other));
}

found_none : (top : ℕ) (text : List ℕ) (other : ℕ) → ((None ≡ Some other) ↔ (leaf_path top other ≡ text)) → false ≡ eq_by_cmp (slice_cmp nat_cmp) (leaf_path top other) text
found_none top text other is =
    same_from_decides false (eq_by_cmp (slice_cmp nat_cmp) (leaf_path top other) text)
    (λ e. cc, λ e. let found = is.1 e in cc)
    (same_text (leaf_path top other) text)

pub found_same : (top : ℕ) (texts : List (List ℕ)) (leaves : List ℕ) (text : List ℕ)
    → ((other : ℕ) → other < cell_count top → (None ≡ Some other) ↔ (leaf_path top other ≡ text)) → Found top texts leaves → Found top (texts ++ text ∷ []) leaves
found_same top texts leaves text is found = record {
  cells = found.cells;
  each = λ other h. sym (or_none (has leaves other)) ∙ (λ i. found.each other h i || found_none top text other (is other h) i) ∙ sym (among_more texts text (leaf_path top other));
}

-- sorted, and each once, they are the leaves by ascending number
pub found_all : (top : ℕ) (texts : List (List ℕ)) (xs ys zs : List ℕ) → Found top texts xs → IsPermutation xs ys → IsSorted nat_cmp ys → zs ≡ dedup nat_eq ys → zs ≡ leaves_among texts top
unfolding leaves_among
found_all top texts xs ys zs found moved sorted once =
    let there : ℕ → Bool = λ leaf. is_among texts (leaf_path top leaf) in
    let numbers : (n : ℕ) → has (dedup nat_eq ys) n ≡ has xs n = λ n. has_dedup n ys ∙ sym (list_any-IsPermutation (λ x. nat_eq x n) xs ys moved) in
    let wanted : (n : ℕ) → has (filter there (range_with_len 0 (cell_count top))) n ≡ (there n && (nat_le 0 n && nat_lt n (0 + cell_count top))) =
    λ n. has_filter there n (range_with_len 0 (cell_count top)) ∙ ap (λ b. there n && b) (has_range n 0 (cell_count top)) in
    once ∙ same_numbers 0 0 (dedup nat_eq ys) (filter there (range_with_len 0 (cell_count top)))
    (ascends_from_increasing 0 (dedup nat_eq ys) (λ _. omega arith) (IsStrictlyIncreasing-dedup ys sorted))
    (ascends_from_increasing 0 (filter there (range_with_len 0 (cell_count top))) (λ _. omega arith) (IsStrictlyIncreasing-filter there (range_with_len 0 (cell_count top)) (range_increases 0 (cell_count top))))
    (λ n. numbers n ∙ counted top texts xs found n ∙ sym (wanted n))
  where
    inside : (b : Bool) (n c : ℕ) → n < c → b ≡ (b && (nat_le 0 n && nat_lt n (0 + c)))
    inside b n c h = grind (arith, nat_tests)

    outside : (b : Bool) (n c : ℕ) → c ≤ n → false ≡ (b && (nat_le 0 n && nat_lt n (0 + c)))
    outside b n c h = grind (arith, nat_tests)

    counted : (top : ℕ) (texts : List (List ℕ)) (xs : List ℕ) → Found top texts xs → (n : ℕ) → has xs n ≡ (is_among texts (leaf_path top n) && (nat_le 0 n && nat_lt n (0 + cell_count top)))
    counted top texts xs found n =
        elim (nat_lt n (cell_count top)) as (λ b. nat_lt n (cell_count top) ≡ b → has xs n ≡ (is_among texts (leaf_path top n) && (nat_le 0 n && nat_lt n (0 + cell_count top)))) [
          | true ↦ λ e. let h : n < cell_count top = grind (arith, nat_tests) in found.each n h ∙ inside (is_among texts (leaf_path top n)) n (cell_count top) h
          | false ↦ λ e. let h : cell_count top ≤ n = grind (arith, nat_tests) in has_none n (cell_count top) xs found.cells h ∙ outside (is_among texts (leaf_path top n)) n (cell_count top) h
        ] refl

-- what f makes of the first elements and one more
pub map_more : {X Y : Type 0} (f : X → Y) (xs : List X) (i : ℕ) (x : X) → i < length xs → x ≡ get_or xs i x → map f (take (i + 1) xs) ≡ map f (take i xs) ++ f x ∷ []
map_more f xs i x h e = ap (map f) (take_more xs i x h) ∙ map-append f (take i xs) (get_or xs i x ∷ []) ∙ ap (λ y. map f (take i xs) ++ f y ∷ []) (sym e)

-- as a list
abbrev pub option_items : Option ℕ → List ℕ
option_items None = []
option_items (Some x) = x ∷ []

-- one path more, of which this was found
pub found_next : (top : ℕ) (texts more : List (List ℕ)) (leaves next : List ℕ) (text : List ℕ) (o : Option ℕ) → more ≡ texts ++ text ∷ []
    → IfSome o (λ leaf. leaf < cell_count top) → ((other : ℕ) → other < cell_count top → (o ≡ Some other) ↔ (leaf_path top other ≡ text))
    → Found top texts leaves → next ≡ leaves ++ option_items o → Found top more next
found_next top texts more leaves next text None e below is found there =
    subst (λ ts. Found top ts next) (sym e) (subst (Found top (texts ++ text ∷ [])) (sym (there ∙ append-nil leaves)) (found_same top texts leaves text is found))
found_next top texts more leaves next text (Some leaf) e below is found there =
    subst (λ ts. Found top ts next) (sym e) (subst (Found top (texts ++ text ∷ [])) (sym there) (found_more top texts leaves text leaf below is found))
