-- The ends of batches: where the notes have a mark.
use Rattle.std.proofs.Common.{◌≡◌, ℕ, zero, suc, ◌+◌, ◌-◌, ◌<◌, ◌≤◌, ◌&&◌, ◌||◌, ◌↔◌, Bool, true, false, cond, List, [], ◌∷◌, ◌++◌, map, length, take, refl, sym, ap, ◌∙◌, subst, arith, length-append, add-one, Option, Some, None, option_map}
use Rattle.std.specs.Prelude.{flat_map, All, Contains, nat_eq, nat_le, slice_get}
use Rattle.std.specs.List.{list_any, range_with_len}
use Rattle.std.proofs.lemmas.Bool.Decides.{nat_tests}
use Rattle.std.proofs.lemmas.List.Elements.{All-head, All-tail}
use Rattle.std.proofs.lemmas.List.Folds.{Any-from_list_any, list_any_at}
use Rattle.edit_journal.specs.Edit.{LeafEdit}
use Rattle.edit_journal.specs.Batches.{edits_of, ends}
use Rattle.edit_journal.specs.Kept.{Note, noted_edits, noted_batches, onto_first, IsClosed}
use Rattle.edit_journal.proofs.BatchLemmas.{HasFirst, noted_has_first, batches_have_edits}

-- ---- the ends, batch by batch

map_shifted : {X : Type 0} (f : ℕ → X) (a n : ℕ) → map f (range_with_len (a + 1) n) ≡ map (λ i. f (i + 1)) (range_with_len a n)
map_shifted f a zero = refl
map_shifted f a (suc n) = ap (λ xs. f (a + 1) ∷ xs) (map_shifted f (a + 1) n)

map_same : {X : Type 0} (f g : ℕ → X) → ((i : ℕ) → f i ≡ g i) → (xs : List ℕ) → map f xs ≡ map g xs
map_same f g same [] = refl
map_same {X} f g same (x ∷ xs) = let here : f x ≡ g x = same x in let rest : map f xs ≡ map g xs = map_same f g same xs in cc

map_map : {X : Type 0} (f : ℕ → X) (g : ℕ → ℕ) (xs : List ℕ) → map f (map g xs) ≡ map (λ i. f (g i)) xs
map_map f g [] = refl
map_map f g (x ∷ xs) = ap (λ ys. f (g x) ∷ ys) (map_map f g xs)

-- how many edits the first b batches have
count_of : List (List LeafEdit) → ℕ → ℕ
count_of batches b = length (flat_map (λ batch. batch) (take b batches))

count_more : (batch : List LeafEdit) (batches : List (List LeafEdit)) (b : ℕ) → count_of (batch ∷ batches) (b + 1) ≡ length batch + count_of batches b
unfolding count_of
count_more batch batches b = rw add-one (length-append batch (flat_map (λ batch. batch) (take b batches)))

ends_cons : (batch : List LeafEdit) (batches : List (List LeafEdit)) → ends (batch ∷ batches) ≡ 0 ∷ map (λ k. length batch + k) (ends batches)
unfolding ends edits_of count_of
ends_cons batch batches =
    let counts : map (count_of (batch ∷ batches)) (range_with_len 1 (length batches + 1)) ≡ map (λ b. count_of (batch ∷ batches) (b + 1)) (range_with_len 0 (length batches + 1)) =
    map_shifted (count_of (batch ∷ batches)) 0 (length batches + 1) in
    let shifted : map (λ b. count_of (batch ∷ batches) (b + 1)) (range_with_len 0 (length batches + 1)) ≡ map (λ b. length batch + count_of batches b) (range_with_len 0 (length batches + 1)) =
    map_same (λ b. count_of (batch ∷ batches) (b + 1)) (λ b. length batch + count_of batches b) (count_more batch batches) (range_with_len 0 (length batches + 1)) in
    let first : map (count_of (batch ∷ batches)) (range_with_len 0 (length batches + 1 + 1)) ≡ 0 ∷ map (count_of (batch ∷ batches)) (range_with_len 1 (length batches + 1)) = rw (add-one (length batches + 1)) refl in
    let suc_is : length (batch ∷ batches) + 1 ≡ length batches + 1 + 1 = omega arith in
    ap (λ n. map (count_of (batch ∷ batches)) (range_with_len 0 n)) suc_is
    ∙ first ∙ ap (λ xs. 0 ∷ xs) (counts ∙ shifted ∙ sym (map_map (λ k. length batch + k) (count_of batches) (range_with_len 0 (length batches + 1))))

-- whether k is an end
has_end : ℕ → List (List LeafEdit) → Bool
has_end k [] = nat_eq 0 k
has_end k (batch ∷ batches) = nat_eq 0 k || (nat_le (length batch) k && has_end (k - length batch) batches)

any_shifted : (m k : ℕ) (xs : List ℕ) → list_any (λ x. nat_eq x k) (map (λ x. m + x) xs) ≡ (nat_le m k && list_any (λ x. nat_eq x (k - m)) xs)
any_shifted m k [] = neither (nat_le m k)
  where
    neither : (b : Bool) → false ≡ (b && false)
    neither true = refl
    neither false = refl
any_shifted m k (x ∷ xs) =
    let rest : list_any (λ x. nat_eq x k) (map (λ x. m + x) xs) ≡ (nat_le m k && list_any (λ x. nat_eq x (k - m)) xs) = any_shifted m k xs in
    let here : nat_eq (m + x) k ≡ (nat_le m k && nat_eq x (k - m)) = grind (arith, nat_tests) in
    rw (here, rest) (spread (nat_le m k) (nat_eq x (k - m)) (list_any (λ x. nat_eq x (k - m)) xs))
  where
    spread : (a b c : Bool) → ((a && b) || (a && c)) ≡ (a && (b || c))
    spread true b c = refl
    spread false b c = refl

ends_has : (k : ℕ) (batches : List (List LeafEdit)) → list_any (λ x. nat_eq x k) (ends batches) ≡ has_end k batches
unfolding ends edits_of has_end
ends_has k [] = either (nat_eq 0 k)
  where
    either : (b : Bool) → (b || false) ≡ b
    either true = refl
    either false = refl
ends_has k (batch ∷ batches) =
    ap (list_any (λ x. nat_eq x k)) (ends_cons batch batches)
    ∙ ap (λ b. nat_eq 0 k || b) (any_shifted (length batch) k (ends batches) ∙ ap (λ b. nat_le (length batch) k && b) (ends_has (k - length batch) batches))

-- ---- the marks

-- whether note k is marked
abbrev pub is_marked : ℕ → List Note → Bool
is_marked k [] = false
is_marked zero (note ∷ notes) = note.closes
is_marked (suc k) (note ∷ notes) = is_marked k notes

closed_tail : (note : Note) (notes : List Note) → IsClosed (note ∷ notes) → IsClosed notes
closed_tail note [] closed = tt
closed_tail note (next ∷ notes) closed = closed

three_parts : (a a' b b' c c' : Bool) → a ≡ a' → b ≡ b' → c ≡ c' → (a || (b && c)) ≡ (a' || (b' && c'))
three_parts a a' b b' c c' e e' e'' = cc

-- with one edit more at the front of the first batch, a later end is one place later
end_after : (j : ℕ) (edit : LeafEdit) (batch : List LeafEdit) (batches : List (List LeafEdit)) → has_end (suc (suc j)) ((edit ∷ batch) ∷ batches) ≡ has_end (suc j) (batch ∷ batches)
unfolding has_end
end_after j edit batch batches =
    let less : nat_le (suc (length batch)) (suc (suc j)) ≡ nat_le (length batch) (suc j) = grind (arith, nat_tests) in
    let rest : suc (suc j) - suc (length batch) ≡ suc j - length batch = omega arith in
    let not_first : nat_eq 0 (suc (suc j)) ≡ nat_eq 0 (suc j) = grind (arith, nat_tests) in
    three_parts (nat_eq 0 (suc (suc j))) (nat_eq 0 (suc j)) (nat_le (suc (length batch)) (suc (suc j))) (nat_le (length batch) (suc j))
    (has_end (suc (suc j) - suc (length batch)) batches) (has_end (suc j - length batch) batches) not_first less (ap (λ n. has_end n batches) rest)

no_end_within : (edit : LeafEdit) (batch : List LeafEdit) (batches : List (List LeafEdit)) → 0 < length batch → has_end 1 ((edit ∷ batch) ∷ batches) ≡ false
unfolding has_end
no_end_within edit batch batches some = let not : nat_le (suc (length batch)) 1 ≡ false = grind (arith, nat_tests) in rw not refl

-- with a batch of one edit in front, too
end_after_one : (j : ℕ) (edit : LeafEdit) (batches : List (List LeafEdit)) → has_end (suc (suc j)) ((edit ∷ []) ∷ batches) ≡ has_end (suc j) batches
unfolding has_end
end_after_one j edit batches =
    let yes : nat_le 1 (suc (suc j)) ≡ true = grind (arith, nat_tests) in
    let rest : suc (suc j) - 1 ≡ suc j = omega arith in
    let not_first : nat_eq 0 (suc (suc j)) ≡ false = grind (arith, nat_tests) in
    three_parts (nat_eq 0 (suc (suc j))) false (nat_le 1 (suc (suc j))) true (has_end (suc (suc j) - 1) batches) (has_end (suc j) batches)
    not_first yes (ap (λ n. has_end n batches) rest)

end_of_one : (edit : LeafEdit) (batches : List (List LeafEdit)) → has_end 1 ((edit ∷ []) ∷ batches) ≡ true
unfolding has_end
end_of_one edit [] = refl
end_of_one edit (batch ∷ batches) = refl

-- whether note k is marked, where the first note is marked or isn't
abbrev is_marked_from : Bool → ℕ → List Note → Bool
is_marked_from first zero notes = first
is_marked_from first (suc k) notes = is_marked k notes

marked_from : (k : ℕ) (note : Note) (notes : List Note) → is_marked_from (note.closes) k notes ≡ is_marked k (note ∷ notes)
marked_from zero note notes = refl
marked_from (suc k) note notes = refl

after_closed : (k : ℕ) (edit : LeafEdit) (batches : List (List LeafEdit)) (notes : List Note) → ((j : ℕ) → has_end (suc j) batches ≡ is_marked j notes) → has_end (suc k) ((edit ∷ []) ∷ batches) ≡ is_marked_from true k notes
after_closed zero edit batches notes later = end_of_one edit batches
after_closed (suc j) edit batches notes later = end_after_one j edit batches ∙ later j

after_open : (k : ℕ) (edit : LeafEdit) (next : Note) (notes : List Note) → ((j : ℕ) → has_end (suc j) (noted_batches (next ∷ notes)) ≡ is_marked j (next ∷ notes)) →
    has_end (suc k) (onto_first edit (noted_batches (next ∷ notes))) ≡ is_marked_from false k (next ∷ notes)
after_open zero edit next notes later =
    let has : HasFirst (noted_batches (next ∷ notes)) = noted_has_first next notes in
    let all : All (λ batch. 0 < length batch) (has.first ∷ has.others) = subst (All (λ batch. 0 < length batch)) has.are (batches_have_edits (next ∷ notes)) in
    ap (λ batches. has_end 1 (onto_first edit batches)) has.are
    ∙ no_end_within edit has.first has.others (All-head (λ batch. 0 < length batch) has.first has.others all)
after_open (suc j) edit next notes later =
    let has : HasFirst (noted_batches (next ∷ notes)) = noted_has_first next notes in
    ap (λ batches. has_end (suc (suc j)) (onto_first edit batches)) has.are
    ∙ end_after j edit has.first has.others
    ∙ ap (has_end (suc j)) (sym has.are)
    ∙ later j

no_end : (k : ℕ) → has_end (suc k) [] ≡ false
unfolding has_end
no_end k = grind (arith, nat_tests)

end_at_mark : (k : ℕ) (notes : List Note) → IsClosed notes → has_end (suc k) (noted_batches notes) ≡ is_marked k notes
end_at_mark k [] closed = no_end k
end_at_mark k (note ∷ []) closed =
    rw closed (after_closed k note.edit [] [] no_end) ∙ ap (λ b. is_marked_from b k []) (sym closed) ∙ marked_from k note []
end_at_mark k (note ∷ next ∷ notes) closed =
    elim (note.closes) as (λ b. has_end (suc k) (cond b ((note.edit ∷ []) ∷ noted_batches (next ∷ notes)) (onto_first note.edit (noted_batches (next ∷ notes)))) ≡ is_marked_from b k (next ∷ notes)) [
      | true ↦ after_closed k note.edit (noted_batches (next ∷ notes)) (next ∷ notes) (λ j. end_at_mark j (next ∷ notes) closed)
      | false ↦ after_open k note.edit next notes (λ j. end_at_mark j (next ∷ notes) closed)
    ] ∙ marked_from k note (next ∷ notes)

-- ---- what a journal answers

contains_from_any : (xs : List ℕ) (k : ℕ) → list_any (λ x. nat_eq x k) xs ≡ true → Contains xs k
contains_from_any xs k e =
    let (i, x, lt, at, is) = Any-from_list_any (λ x. nat_eq x k) xs e in
    let same : x ≡ k = grind (arith, nat_tests) in
    subst (Contains xs) same (i, lt, at)

any_from_contains : (xs : List ℕ) (k : ℕ) → Contains xs k → list_any (λ x. nat_eq x k) xs ≡ true
any_from_contains xs k (i, lt, at) = list_any_at (λ x. nat_eq x k) xs i k lt (grind (arith, nat_tests))

-- 0 is an end
pub zero_is_end : (batches : List (List LeafEdit)) → Contains (ends batches) 0
unfolding has_end
zero_is_end batches = contains_from_any (ends batches) 0 (ends_has 0 batches ∙ first batches)
  where
    first : (batches : List (List LeafEdit)) → has_end 0 batches ≡ true
    first [] = refl
    first (batch ∷ batches) = refl

-- another number is one exactly where the note before it is marked
pub end_is_marked : (k : ℕ) (notes : List Note) → IsClosed notes → (is_marked k notes ≡ true) ↔ Contains (ends (noted_batches notes)) (suc k)
end_is_marked k notes closed = (
  λ marked. contains_from_any (ends (noted_batches notes)) (suc k) (ends_has (suc k) (noted_batches notes) ∙ end_at_mark k notes closed ∙ marked),
  λ there. sym (end_at_mark k notes closed) ∙ sym (ends_has (suc k) (noted_batches notes)) ∙ any_from_contains (ends (noted_batches notes)) (suc k) there,
)

pub is_marked-slice_get : (k : ℕ) (notes : List Note) (note : Note) → slice_get notes k ≡ Some note → is_marked k notes ≡ note.closes
is_marked-slice_get k [] note e = cc
is_marked-slice_get zero (first ∷ notes) note e = let same : first ≡ note = cc in ap (λ n. n.closes) same
is_marked-slice_get (suc k) (first ∷ notes) note e = is_marked-slice_get k notes note e

pub is_marked-past : (k : ℕ) (notes : List Note) → slice_get notes k ≡ None → is_marked k notes ≡ false
is_marked-past k [] e = refl
is_marked-past zero (first ∷ notes) e = cc
is_marked-past (suc k) (first ∷ notes) e = is_marked-past k notes e

-- as a journal tells it, by the note before
pub end_seen : (k : ℕ) (notes : List Note) (batches : List (List LeafEdit)) (marked : Bool) → IsClosed notes → noted_batches notes ≡ batches → 0 < k → is_marked (k - 1) notes ≡ marked → (marked ≡ true) ↔ Contains (ends batches) k
end_seen k notes batches marked closed are some is =
    let both : (is_marked (k - 1) notes ≡ true) ↔ Contains (ends (noted_batches notes)) (suc (k - 1)) = end_is_marked (k - 1) notes closed in
    let next : suc (k - 1) ≡ k = omega arith in (
      λ yes. subst (λ bs. Contains (ends bs) k) are (subst (Contains (ends (noted_batches notes))) next (both.0 (is ∙ yes))),
      λ there. sym is ∙ both.1 (subst (Contains (ends (noted_batches notes))) (sym next) (subst (λ bs. Contains (ends bs) k) (sym are) there)),
    )
