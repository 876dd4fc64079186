-- Reading leaf records one by one, and what the whole input says.
use Rattle.std.proofs.Common.{◌≡◌, ℕ, zero, suc, ◌+◌, ◌-◌, ◌*◌, ◌/◌, ◌%◌, ◌^◌, ◌<◌, ◌≤◌, ◌&&◌, Bool, true, false, cond, List, [], ◌∷◌, ◌++◌, map, length, take, drop, Option, Some, None, min, sym, ap, ap₂, ◌∙◌, refl, arith, subst, inl, inr, add_comm}
use Rattle.std.specs.Prelude.{fold, ℤ, option_map, count_by, if◌then◌else◌}
use Rattle.std.specs.List.{list_any, range_with_len}
use Rattle.std.specs.Map.{lookup}
use Rattle.std.specs.BTreeMap.{insert_entry, is_at}
use Rattle.std.specs.Ordering.{nat_cmp, match_ordering}
use Rattle.std.specs.declared.cmp.Ordering.TheVariants.{Less, Equal, Greater}
use Rattle.std.specs.Int.{cast_signed, w16}
use Rattle.std.specs.Io.KnownBytes.{Consumes, IsAtEnd}
use Rattle.std.proofs.Math.Bool.{or-true}
use Rattle.std.proofs.Math.Nat.{div-lt_iff_lt-mul, mul-le-mul_right}
use Rattle.std.proofs.lemmas.Bool.{cases_eq, cases_lt}
use Rattle.std.proofs.lemmas.Bool.Decides.{nat_tests}
use Rattle.std.proofs.lemmas.List.{drop-drop, length-drop, map-id, length-append, length-take-le}
use Rattle.std.proofs.lemmas.List.FromFn.{map-range_with_len_more}
use Rattle.std.proofs.lemmas.List.Sums.{fold-append, sum_by_push}
use Rattle.std.proofs.lemmas.Nat.{div-mul-add, mod-mul-add, le-div}
use Rattle.byteorder.specs.Endian.{big_number}
use Rattle.healpix_nested.specs.Cells.{cell_count, lies_under}
use Rattle.pyramid_model.specs.Shape.{LeafMap, leaf_numbers}
use Rattle.tile_pixels.specs.Tile.{PixelTile}
use Rattle.leaf_probe.specs.declared.asked.Probe.{Probe}
use Rattle.leaf_probe.specs.declared.fault.ProbeFault.{ProbeFault}
use Rattle.leaf_probe.specs.declared.fault.ProbeFault.TheVariants.{Cut, Read, Write, NoLeaf, OutOfMemory, TooMany, OutOfRange}
use Rattle.leaf_probe.specs.Merging.{steps_after}
use Rattle.leaf_probe.specs.Probe.{probe_depth, records_under}
use Rattle.leaf_probe.specs.Records.{record_length, leaf_number, stored_number, stored_numbers, recorded_leaves, most_records, numbers_read, names_no_leaf, goes_on, ends_within, reading_status}
use Rattle.leaf_probe.specs.Reading.{TakesRecord, IsCut, NamesNoLeaf, StopsRecord, StandsFor}
use Rattle.leaf_probe.proofs.CountLemmas.{steps_sum}
use Rattle.leaf_probe.proofs.MergingLemmas.{KeepsLeaves}

-- after i records: the rest is left, and their numbers are leaves'
pub record ReadSoFar (top n : ℕ) (input : List ℕ) (i : ℕ) (left : Option (List ℕ)) : Type 0 where
  pub rest : left ≡ Some (drop (i * record_length n) input)
  pub within : i * record_length n ≤ length input
  pub in_range : (j : ℕ) → j < i → leaf_number n input j < cell_count top

-- ---- lists of numbers in a row

in_row_none : (p : ℕ → Bool) (a m : ℕ) → ((j : ℕ) → a ≤ j → j < a + m → p j ≡ false) → list_any p (range_with_len a m) ≡ false
in_row_none p a zero none = refl
in_row_none p a (suc m) none =
    let here : p a ≡ false = none a (omega arith) (omega arith) in
    let rest : list_any p (range_with_len (a + 1) m) ≡ false = in_row_none p (a + 1) m (λ j low high. none j (omega arith) (omega arith)) in
    cc

in_row_some : (p : ℕ → Bool) (a m j : ℕ) → a ≤ j → j < a + m → p j ≡ true → list_any p (range_with_len a m) ≡ true
in_row_some p a zero j low high is = absurd (omega arith)
in_row_some p a (suc m) j low high is = elim (cases_eq j a) [
  | inl here ↦ let at : p a ≡ true = ap p (sym here) ∙ is in rw at refl
  | inr further ↦ let rest : list_any p (range_with_len (a + 1) m) ≡ true = in_row_some p (a + 1) m j (omega arith) (omega arith) is in rw rest (or-true (p a))
]

row_more : (i : ℕ) → range_with_len 0 (i + 1) ≡ range_with_len 0 i ++ i ∷ []
row_more i = sym (map-id (range_with_len 0 (i + 1))) ∙ map-range_with_len_more (λ x. x) 0 i i (omega arith) ∙ ap (λ xs. xs ++ i ∷ []) (map-id (range_with_len 0 i))

-- ---- the records from record i on

leaf_of_rest : (n : ℕ) (input : List ℕ) (i : ℕ) → leaf_number n (drop (i * record_length n) input) 0 ≡ leaf_number n input i
leaf_of_rest n input i = ap (big_number 8) (drop-drop (0 * record_length n) (i * record_length n) input ∙ ap (λ k. drop k input) (omega arith))

numbers_of_rest : (n : ℕ) (input : List ℕ) (i : ℕ) → stored_numbers n (drop (i * record_length n) input) 0 ≡ stored_numbers n input i
numbers_of_rest n input i =
    let same : (s : ℕ) → stored_number n (drop (i * record_length n) input) 0 s ≡ stored_number n input i s = λ s.
    ap (λ bytes. cast_signed w16 (big_number 2 bytes)) (drop-drop (0 * record_length n + 8 + 2 * s) (i * record_length n) input ∙ ap (λ k. drop k input) (omega arith)) in
    λ j. map (λ s. same s j) (range_with_len 0 (4 ^ n))

leaves_more : (n : ℕ) (input : List ℕ) (i : ℕ) → recorded_leaves n input (i + 1) ≡ insert_entry nat_cmp (recorded_leaves n input i) (leaf_number n input i) (stored_numbers n input i)
leaves_more n input i =
    let taken : LeafMap → ℕ → LeafMap = λ leaves k. insert_entry nat_cmp leaves (leaf_number n input k) (stored_numbers n input k) in
    ap (fold taken []) (row_more i) ∙ fold-append taken [] (range_with_len 0 i) (i ∷ [])

-- ---- what the whole input says after i records

-- i records and then k bytes, fewer than a record: the numbers of i records are read, and of one more where k reaches 8
numbers_before : (n : ℕ) (input : List ℕ) (i k : ℕ) → length input ≡ i * record_length n + k → k < 8 → i ≤ most_records → numbers_read n input ≡ i
numbers_before n input i k e small most =
    let q = 2 * 4 ^ n in
    let whole : (length input + 2 * 4 ^ n) / record_length n ≡ i = ap (λ m. m / record_length n) (let sum : length input + 2 * 4 ^ n ≡ i * record_length n + (k + 2 * 4 ^ n) = omega arith in sum) ∙ div-mul-add i (record_length n) (k + 2 * 4 ^ n) (omega arith) in
    ap (min most_records) whole ∙ omega arith

numbers_with : (n : ℕ) (input : List ℕ) (i : ℕ) → i * record_length n + 8 ≤ length input → i < most_records → i < numbers_read n input
numbers_with n input i long most =
    let more : i + 1 ≤ (length input + 2 * 4 ^ n) / record_length n = le-div (i + 1) (length input + 2 * 4 ^ n) (record_length n) (omega arith) (omega arith) in
    omega arith

numbers_at_most : (n : ℕ) (input : List ℕ) (i k : ℕ) → length input ≡ i * record_length n + k → k < record_length n → numbers_read n input ≤ i + 1
numbers_at_most n input i k e short =
    let size : 0 < record_length n = omega arith in
    let fewer : (length input + 2 * 4 ^ n) / record_length n < i + 2 = (div-lt_iff_lt-mul size).1 (omega arith) in
    omega arith

none_names : (top n : ℕ) (input : List ℕ) → ((j : ℕ) → j < numbers_read n input → leaf_number n input j < cell_count top) → names_no_leaf top n input ≡ false
none_names top n input all = in_row_none _ 0 (numbers_read n input) (λ j low high. let below : leaf_number n input j < cell_count top = all j (omega arith) in grind (arith, nat_tests))

some_names : (top n : ℕ) (input : List ℕ) (i : ℕ) → i < numbers_read n input → cell_count top ≤ leaf_number n input i → names_no_leaf top n input ≡ true
some_names top n input i there out = in_row_some _ 0 (numbers_read n input) i (omega arith) (omega arith) (grind (arith, nat_tests))

-- ---- steps

pub start : (top n : ℕ) (input : List ℕ) → ReadSoFar top n input 0 (Some input)
start top n input = record {
  rest = ap (λ k. Some (drop k input)) (let none : 0 ≡ 0 * record_length n = omega arith in none);
  within = omega arith;
  in_range = λ j below. absurd (omega arith);
}

pub step : (top n : ℕ) (input : List ℕ) (i leaf : ℕ) (numbers : List ℤ) (left left' : Option (List ℕ))
    → ReadSoFar top n input i left → TakesRecord top n (drop (i * record_length n) input) left' leaf numbers → leaf < cell_count top → ReadSoFar top n input (i + 1) left'
step top n input i leaf numbers left left' before taken known =
    let leaf_is : leaf ≡ leaf_number n input i = taken.leaf_is ∙ leaf_of_rest n input i in
    let long : record_length n ≤ length input - i * record_length n = rw length-drop at taken.whole in
    let within_here : i * record_length n ≤ length input = before.within in
    record {
      rest = taken.rest ∙ ap Some (drop-drop (record_length n) (i * record_length n) input ∙ ap (λ k. drop k input) (omega arith));
      within = omega arith;
      in_range = λ j below. elim (cases_lt j i) [
        | inl earlier ↦ before.in_range j earlier
        | inr here ↦ let same : j ≡ i = omega arith in let P : ℕ → Type 0 = λ k. k < cell_count top in subst P (leaf_is ∙ ap (leaf_number n input) (sym same)) known
      ];
    }

-- ---- ends

same_some : {X : Type 0} (x y : X) → Some x ≡ Some y → x ≡ y
same_some x y e = cc

-- how long the input is, by what is left
length_by_rest : (n : ℕ) (input : List ℕ) (i : ℕ) → i * record_length n ≤ length input → length input ≡ i * record_length n + length (drop (i * record_length n) input)
length_by_rest n input i within = rw length-drop (omega arith)

goes_on_not : (n : ℕ) (input : List ℕ) → length input ≤ most_records * record_length n → goes_on n input ≡ false
goes_on_not n input h = grind (arith, nat_tests)

goes_on_past : (n : ℕ) (input : List ℕ) → most_records * record_length n < length input → goes_on n input ≡ true
goes_on_past n input h = grind (arith, nat_tests)

ends_within_not : (n : ℕ) (input : List ℕ) (i : ℕ) → length input ≡ i * record_length n → ends_within n input ≡ false
ends_within_not n input i e =
    let whole : length input % record_length n ≡ 0 = ap (λ m. m % record_length n) (let sum : length input ≡ i * record_length n + 0 = omega arith in sum) ∙ mod-mul-add i (record_length n) 0 (omega arith) in
    rw whole refl

ends_within_some : (n : ℕ) (input : List ℕ) (i k : ℕ) → length input ≡ i * record_length n + k → 0 < k → k < record_length n → ends_within n input ≡ true
ends_within_some n input i k e some short =
    let part : length input % record_length n ≡ k = ap (λ m. m % record_length n) e ∙ mod-mul-add i (record_length n) k short in
    grind (arith, nat_tests)

pub at_end : (top n : ℕ) (input : List ℕ) (i : ℕ) (left : Option (List ℕ)) → ReadSoFar top n input i left → i ≤ most_records → left ≡ Some []
    → (reading_status top n input ≡ 0) × (i ≡ length input / record_length n)
at_end top n input i left so most end =
    let none : drop (i * record_length n) input ≡ [] = same_some _ _ (sym so.rest ∙ end) in
    let exact : length input ≡ i * record_length n = length_by_rest n input i so.within ∙ ap (λ rest. i * record_length n + length rest) none ∙ omega arith in
    let read : numbers_read n input ≡ i = numbers_before n input i 0 (omega arith) (omega arith) most in
    let names : names_no_leaf top n input ≡ false = none_names top n input (λ j below. so.in_range j (omega arith)) in
    let most_bytes : i * record_length n ≤ most_records * record_length n = mul-le-mul_right (record_length n) most in
    let on : goes_on n input ≡ false = goes_on_not n input (omega arith) in
    let within : ends_within n input ≡ false = ends_within_not n input i exact in
    let count : length input / record_length n ≡ i = ap (λ m. m / record_length n) (let sum : length input ≡ i * record_length n + 0 = omega arith in sum) ∙ div-mul-add i (record_length n) 0 (omega arith) in
    (rw (names, on, within) refl, sym count)

at_cut : (top n : ℕ) (input : List ℕ) (i : ℕ) (left : Option (List ℕ)) → ReadSoFar top n input i left → i < most_records
    → IsCut top n (drop (i * record_length n) input) → reading_status top n input ≡ 4
at_cut top n input i left so most cut =
    let k = length (drop (i * record_length n) input) in
    let e : length input ≡ i * record_length n + k = length_by_rest n input i so.within in
    let few : numbers_read n input ≤ i + 1 = numbers_at_most n input i k e cut.short in
    let in_range : (j : ℕ) → j < numbers_read n input → leaf_number n input j < cell_count top = λ j below. elim (cases_lt j i) [
      | inl earlier ↦ so.in_range j earlier
      | inr here ↦ elim (cases_lt k 8) [
        | inl small ↦ let read : numbers_read n input ≡ i = numbers_before n input i k e small (omega arith) in absurd (omega arith)
        | inr there ↦ let same : j ≡ i = omega arith in let P : ℕ → Type 0 = λ x. x < cell_count top in subst P (leaf_of_rest n input i ∙ ap (leaf_number n input) (sym same)) (cut.number there)
      ]
    ] in
    let names : names_no_leaf top n input ≡ false = none_names top n input in_range in
    let most_bytes : (i + 1) * record_length n ≤ most_records * record_length n = mul-le-mul_right (record_length n) (omega arith) in
    let short : k < record_length n = cut.short in
    let on : goes_on n input ≡ false = goes_on_not n input (omega arith) in
    let within : ends_within n input ≡ true = ends_within_some n input i k e cut.some cut.short in
    rw (names, on, within) refl

at_no_leaf : (top n : ℕ) (input : List ℕ) (i : ℕ) (left : Option (List ℕ)) → ReadSoFar top n input i left → i < most_records
    → NamesNoLeaf top n (drop (i * record_length n) input) → reading_status top n input ≡ 13
at_no_leaf top n input i left so most named =
    let e : length input ≡ i * record_length n + length (drop (i * record_length n) input) = length_by_rest n input i so.within in
    let there : 8 ≤ length (drop (i * record_length n) input) = named.there in
    let out : cell_count top ≤ leaf_number n input i = let P : ℕ → Type 0 = λ x. cell_count top ≤ x in subst P (leaf_of_rest n input i) named.number in
    let names : names_no_leaf top n input ≡ true = some_names top n input i (numbers_with n input i (omega arith) most) out in
    rw names refl

pub at_more : (top n : ℕ) (input : List ℕ) (left : Option (List ℕ)) → ReadSoFar top n input most_records left
    → 0 < length (drop (most_records * record_length n) input) → reading_status top n input ≡ 12
at_more top n input left so more =
    let e : length input ≡ most_records * record_length n + length (drop (most_records * record_length n) input) = length_by_rest n input most_records so.within in
    let names : names_no_leaf top n input ≡ false = none_names top n input (λ j below. so.in_range j (omega arith)) in
    let on : goes_on n input ≡ true = goes_on_past n input (omega arith) in
    rw (names, on) refl

-- why a record wasn't taken is how reading all ends
pub at_stop : (top n : ℕ) (input : List ℕ) (i : ℕ) (left : Option (List ℕ)) (fault : ProbeFault) → ReadSoFar top n input i left → i < most_records
    → StopsRecord top n (drop (i * record_length n) input) fault → StandsFor fault (reading_status top n input)
at_stop top n input i left Cut so most stop = at_cut top n input i left so most stop
at_stop top n input i left OutOfRange so most stop = at_no_leaf top n input i left so most stop
at_stop top n input i left Read so most stop = tt
at_stop top n input i left OutOfMemory so most stop = absurd stop
at_stop top n input i left Write so most stop = absurd stop
at_stop top n input i left NoLeaf so most stop = absurd stop
at_stop top n input i left TooMany so most stop = absurd stop

-- ---- what one call says of bytes that are told

-- the bytes taken stand first, and the others are left
pub consumed : (old new : Option (List ℕ)) (xs bytes : List ℕ) → old ≡ Some xs → Consumes old new bytes → (ys : List ℕ) × (xs ≡ bytes ++ ys) × (new ≡ Some ys)
consumed None new xs bytes e taken = cc
consumed (Some os) None xs bytes e taken = absurd taken
consumed (Some os) (Some ns) xs bytes e taken = (ns, sym (same_some os xs e) ∙ taken, refl)

-- a read of some bytes shows that some are left
pub some_left : (old new : Option (List ℕ)) (xs buf : List ℕ) (m : ℕ) → old ≡ Some xs → Consumes old new (take m buf) → 0 < m → m ≤ length buf → 0 < length xs
some_left old new xs buf m e taken some within =
    let rest = consumed old new xs (take m buf) e taken in
    let size : length xs ≡ length (take m buf) + length rest.0 = ap length rest.1 ∙ length-append (take m buf) rest.0 in
    let all : length (take m buf) ≡ m = length-take-le m buf within in
    omega arith

at_its_end : (left : Option (List ℕ)) (ys : List ℕ) → left ≡ Some ys → IsAtEnd left → ys ≡ []
at_its_end None ys e end = cc
at_its_end (Some zs) ys e end = sym (same_some zs ys e) ∙ end

-- a read of none shows that none are left
pub none_left : (old new : Option (List ℕ)) (xs buf : List ℕ) (m : ℕ) → old ≡ Some xs → Consumes old new (take m buf) → m ≡ 0 → IsAtEnd new → xs ≡ []
none_left old new xs buf m e taken none end =
    let rest = consumed old new xs (take m buf) e taken in
    let ended : rest.0 ≡ [] = at_its_end new rest.0 rest.2 end in
    let empty : take m buf ≡ [] = ap (λ k. take k buf) none in
    rest.1 ∙ ap (λ ys. take m buf ++ ys) ended ∙ ap (λ ys. ys ++ []) empty

-- ---- the leaves that are kept

-- what a leaf map has at a number, once a leaf is put
lookup-insert_entry : (es : LeafMap) (leaf : ℕ) (numbers : List ℤ) (q : ℕ) → lookup (is_at (nat_cmp q)) (insert_entry nat_cmp es leaf numbers) ≡ cond (is_at (nat_cmp leaf) q) (Some numbers) (lookup (is_at (nat_cmp q)) es)
lookup-insert_entry [] leaf numbers q = let turned : is_at (nat_cmp q) leaf ≡ is_at (nat_cmp leaf) q = grind (arith, nat_tests) in rw turned refl
lookup-insert_entry (e ∷ es) leaf numbers q =
    let turned : is_at (nat_cmp q) leaf ≡ is_at (nat_cmp leaf) q = grind (arith, nat_tests) in
    elim (nat_cmp leaf e.0) as (λ o. nat_cmp leaf e.0 ≡ o → lookup (is_at (nat_cmp q)) (match_ordering o ((leaf, numbers) ∷ e ∷ es) ((e.0, numbers) ∷ es) (e ∷ insert_entry nat_cmp es leaf numbers))
    ≡ cond (is_at (nat_cmp leaf) q) (Some numbers) (cond (is_at (nat_cmp q) e.0) (Some e.1) (lookup (is_at (nat_cmp q)) es))) [
      | Less ↦ λ is. rw turned refl
      | Equal ↦ λ is. let same : is_at (nat_cmp q) e.0 ≡ is_at (nat_cmp leaf) q = grind (arith, nat_tests) in
          rw same (once (is_at (nat_cmp leaf) q) (Some numbers) (Some e.1) (lookup (is_at (nat_cmp q)) es))
      | Greater ↦ λ is. rw (lookup-insert_entry es leaf numbers q)
          (either (is_at (nat_cmp q) e.0) (is_at (nat_cmp leaf) q) (Some e.1) (Some numbers) (lookup (is_at (nat_cmp q)) es) (λ here there. grind (arith, nat_tests)))
    ] refl
  where
    once : (b : Bool) (x y z : Option (List ℤ)) → cond b x z ≡ cond b x (cond b y z)
    once true x y z = refl
    once false x y z = refl

    either : (a b : Bool) (x y z : Option (List ℤ)) → (a ≡ true → b ≡ true → ⊥) → cond a x (cond b y z) ≡ cond b y (cond a x z)
    either true true x y z apart = absurd (apart refl refl)
    either true false x y z apart = refl
    either false true x y z apart = refl
    either false false x y z apart = refl

-- nothing is kept of no record
pub keeps_none : (asked : Probe) (input : List ℕ) → KeepsLeaves asked.top asked.order asked.npix (recorded_leaves asked.n input 0) []
keeps_none asked input q = either (lies_under asked.top q asked.order asked.npix) None
  where
    either : (b : Bool) (o : Option (List ℤ)) → o ≡ cond b o o
    either true o = refl
    either false o = refl

-- one more record, whose tile is kept where its leaf lies under the asked cell
pub keeps_more : (asked : Probe) (input : List ℕ) (i leaf : ℕ) (numbers : List ℤ) (left' : Option (List ℕ)) (tiles tiles' : List (ℕ × PixelTile))
    → TakesRecord asked.top asked.n (drop (i * record_length asked.n) input) left' leaf numbers
    → ((q : ℕ) → lookup (is_at (nat_cmp q)) tiles' ≡ cond (lies_under asked.top leaf asked.order asked.npix && is_at (nat_cmp leaf) q)
    (Some (record { depth = probe_depth; n = asked.n; numbers = numbers })) (lookup (is_at (nat_cmp q)) tiles))
    → KeepsLeaves asked.top asked.order asked.npix (recorded_leaves asked.n input i) tiles → KeepsLeaves asked.top asked.order asked.npix (recorded_leaves asked.n input (i + 1)) tiles'
keeps_more asked input i leaf numbers left' tiles tiles' taken put keeps q =
    let leaf_is : leaf_number asked.n input i ≡ leaf = sym (taken.leaf_is ∙ leaf_of_rest asked.n input i) in
    let numbers_are : stored_numbers asked.n input i ≡ numbers = sym (taken.numbers_are ∙ numbers_of_rest asked.n input i) in
    let more : leaf_numbers (recorded_leaves asked.n input (i + 1)) q ≡ cond (is_at (nat_cmp leaf) q) (Some numbers) (leaf_numbers (recorded_leaves asked.n input i) q) =
    ap (lookup (is_at (nat_cmp q))) (leaves_more asked.n input i ∙ ap₂ (λ l ns. insert_entry nat_cmp (recorded_leaves asked.n input i) l ns) leaf_is numbers_are)
    ∙ lookup-insert_entry (recorded_leaves asked.n input i) leaf numbers q in
    let same : is_at (nat_cmp leaf) q ≡ true → lies_under asked.top q asked.order asked.npix ≡ lies_under asked.top leaf asked.order asked.npix =
    λ at. let one : q ≡ leaf = grind (arith, nat_tests) in ap (λ l. lies_under asked.top l asked.order asked.npix) one in
    rw (put q, more) (at_number (lies_under asked.top leaf asked.order asked.npix) (lies_under asked.top q asked.order asked.npix) (is_at (nat_cmp leaf) q) numbers
    (lookup (is_at (nat_cmp q)) tiles) (leaf_numbers (recorded_leaves asked.n input i) q) (record { depth = probe_depth; n = asked.n; numbers = numbers }) same refl (keeps q))
  where
    at_number : (u v at : Bool) (numbers : List ℤ) (o : Option PixelTile) (kept : Option (List ℤ)) (tile : PixelTile) → (at ≡ true → v ≡ u) → tile.numbers ≡ numbers
        → option_map (λ t. t.numbers) o ≡ cond v kept None
        → option_map (λ t. t.numbers) (cond (u && at) (Some tile) o) ≡ cond v (cond at (Some numbers) kept) None
    at_number true true true numbers o kept tile same is before = ap Some is
    at_number true false true numbers o kept tile same is before = let e : false ≡ true = same refl in cc
    at_number true v false numbers o kept tile same is before = before
    at_number false true true numbers o kept tile same is before = let e : true ≡ false = same refl in cc
    at_number false false true numbers o kept tile same is before = before
    at_number false v false numbers o kept tile same is before = before

-- and one more step where it is
pub counts_more : (asked : Probe) (input : List ℕ) (i leaf : ℕ) (numbers : List ℤ) (left' : Option (List ℕ)) (first before after : ℕ)
    → TakesRecord asked.top asked.n (drop (i * record_length asked.n) input) left' leaf numbers
    → after ≡ steps_after (if lies_under asked.top leaf asked.order asked.npix then 1 else 0) before → before ≡ steps_after (records_under asked input i) first
    → after ≡ steps_after (records_under asked input (i + 1)) first
counts_more asked input i leaf numbers left' first before after taken counted so =
    let leaf_is : leaf ≡ leaf_number asked.n input i = taken.leaf_is ∙ leaf_of_rest asked.n input i in
    let here : ℕ = if lies_under asked.top leaf asked.order asked.npix then 1 else 0 in
    let more : records_under asked input (i + 1) ≡ here + records_under asked input i =
    ap (count_by (λ k. lies_under asked.top (leaf_number asked.n input k) asked.order asked.npix)) (row_more i)
    ∙ sum_by_push (λ k. cond (lies_under asked.top (leaf_number asked.n input k) asked.order asked.npix) 1 0) (range_with_len 0 i) i
    ∙ ap (λ l. records_under asked input i + cond (lies_under asked.top l asked.order asked.npix) 1 0) (sym leaf_is) ∙ add_comm _ _ in
    counted ∙ ap (steps_after here) so ∙ sym (steps_sum here (records_under asked input i) first) ∙ ap (λ m. steps_after m first) (sym more)
