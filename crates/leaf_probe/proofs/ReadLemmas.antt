-- How reads in turn fill a buffer, and what the first bytes of an input say.
use Rattle.std.proofs.Common.{◌≡◌, ℕ, ◌+◌, ◌-◌, ◌*◌, ◌^◌, ◌≤◌, ◌<◌, zero, suc, map, List, ◌∷◌, ◌++◌, ℤ, w16, Option, None, Some, length, take, drop, refl, sym, ap, subst, ◌∙◌, arith, drop_at, length-take-le, le_refl, length-append, take_at}
use Rattle.std.proofs.lemmas.Slice.{take-put_mid_below}
use Rattle.std.proofs.Math.Nat.{pow-le-pow_right}
use Rattle.std.proofs.lemmas.List.{length-drop, take_all, drop-take, drop-drop}
use Rattle.std.specs.Int.{cast_signed}
use Rattle.std.specs.List.{range_with_len}
use Rattle.byteorder.specs.Endian.{big_number}
use Rattle.byteorder.specs.Numbers.{big_from-take}
use Rattle.leaf_probe.specs.Records.{record_length, leaf_number, stored_numbers}
use Rattle.tile_pixels.specs.Stored.{numbers_from}
use Rattle.leaf_probe.specs.Reading.{TakesRecord}
use Rattle.std.specs.Io.KnownBytes.{Consumes}
use Rattle.leaf_probe.proofs.PieceLemmas.{Consumes-both}
use borrow.Rule.Slice.PartMut.{put_mid, post_of}
use lib.Seq.{take-add, take-append-le}

-- a second read filled the part behind the front that was filled before it
pub filled_more : (initial mid new : Option (List ℕ)) (xs ys : List ℕ) (filled room count : ℕ) → filled ≤ length xs → count ≤ length ys
    → Consumes initial mid (take filled xs) → Consumes mid new (take count ys)
    → Consumes initial new (take (filled + count) (put_mid filled room xs ys))
filled_more initial mid new xs ys filled room count within fits before now =
    let rest = ys ++ post_of filled room xs in
    let front : take filled (put_mid filled room xs ys) ≡ take filled xs = take-put_mid_below filled room xs ys filled (le_refl filled) within in
    let behind : take count (drop filled (put_mid filled room xs ys)) ≡ take count ys =
    ap (take count) (drop_at (take filled xs) rest filled (length-take-le filled xs within)) ∙ take-append-le count ys (post_of filled room xs) fits in
    let whole : take (filled + count) (put_mid filled room xs ys) ≡ take filled xs ++ take count ys =
    take-add filled count (put_mid filled room xs ys) ∙ ap (λ l. l ++ take count (drop filled (put_mid filled room xs ys))) front ∙ ap (λ l. take filled xs ++ l) behind in
    subst (Consumes initial new) (sym whole) (Consumes-both initial mid new _ _ before now)

-- ---- what was read of an input that is told

-- the bytes that were read are the first ones of the input, and the others are left
record Read (input : List ℕ) (new : Option (List ℕ)) (bytes : List ℕ) : Type 0 where
  within : length bytes ≤ length input
  front : bytes ≡ take (length bytes) input
  rest : new ≡ Some (drop (length bytes) input)

read_of : (old new : Option (List ℕ)) (input bytes : List ℕ) → old ≡ Some input → Consumes old new bytes → Read input new bytes
read_of None new input bytes told taken = cc
read_of (Some xs) None input bytes told taken = absurd taken
read_of (Some xs) (Some ys) input bytes told taken =
    let whole : input ≡ bytes ++ ys = cc in
    record {
      within = omega (arith, ap length whole, length-append bytes ys);
      front = sym (ap (take (length bytes)) whole ∙ take_at bytes ys (length bytes) refl);
      rest = ap Some (sym (ap (drop (length bytes)) whole ∙ drop_at bytes ys (length bytes) refl));
    }

-- ---- the numbers of an input

-- two functions that agree on a range
pub same_numbers : (f g : ℕ → ℤ) (a n : ℕ) → ((s : ℕ) → a ≤ s → s < a + n → f s ≡ g s) → map f (range_with_len a n) ≡ map g (range_with_len a n)
same_numbers f g a zero same = refl
same_numbers f g a (suc n) same =
    ap (λ z. z ∷ map f (range_with_len (a + 1) n)) (same a (omega arith) (omega arith))
    ∙ ap (λ l. g a ∷ l) (same_numbers f g (a + 1) n (λ s low high. same s (omega arith) (omega arith)))

-- numbers read no byte behind their own
numbers-take : (count : ℕ) (input : List ℕ) → numbers_from 16 count (take (2 * count) input) ≡ numbers_from 16 count input
unfolding numbers_from
numbers-take count input = same_numbers _ _ 0 count (λ s low high.
    let room : s * 2 + (2 * count - s * 2) ≡ 2 * count = omega arith in
    let behind : drop (s * 2) (take (2 * count) input) ≡ take (2 * count - s * 2) (drop (s * 2) input) =
    ap (λ m. drop (s * 2) (take m input)) (sym room) ∙ drop-take (s * 2) (2 * count - s * 2) input in
    ap (λ l. cast_signed w16 (big_number 2 l)) behind ∙ ap (cast_signed w16) (big_from-take 0 2 (2 * count - s * 2) (drop (s * 2) input) (omega arith)))

-- a full buffer holds the first numbers of the input
pub numbers_told : (count m : ℕ) (old new : Option (List ℕ)) (raw : List ℕ) (items : List ℤ) → length raw ≡ 2 * count → length raw ≤ m
    → Consumes old new (take m raw) → items ≡ numbers_from 16 count raw → (input : List ℕ) → old ≡ Some input
    → (2 * count ≤ length input) × (items ≡ numbers_from 16 count input) × (new ≡ Some (drop (2 * count) input))
numbers_told count m old new raw items size full taken are input told =
    let whole : take m raw ≡ raw = take_all m raw full in
    let r = read_of old new input raw told (subst (Consumes old new) whole taken) in
    let front : raw ≡ take (2 * count) input = r.front ∙ ap (λ k. take k input) size in (
      omega (arith, r.within),
      are ∙ ap (numbers_from 16 count) front ∙ numbers-take count input,
      r.rest ∙ ap (λ k. Some (drop k input)) size,
    )

-- a record has few numbers
pub few_numbers : (n : ℕ) → n ≤ 9 → 4 ^ n ≤ 262144
few_numbers n small = pow-le-pow_right {n = 4} (omega arith) {i = n} {j = 9} small

-- ---- a record

-- the first stored numbers stand behind the 8 bytes of the leaf's
stored_behind : (n : ℕ) (input : List ℕ) → numbers_from 16 (4 ^ n) (drop 8 input) ≡ stored_numbers n input 0
unfolding numbers_from
stored_behind n input = same_numbers _ _ 0 (4 ^ n) (λ s low high.
    let place : 8 + s * 2 ≡ 0 * record_length n + 8 + 2 * s = omega arith in
    ap (λ l. cast_signed w16 (big_number 2 l)) (drop-drop (s * 2) 8 input ∙ ap (λ k. drop k input) place))

-- the leaf's number stands in the first 8 bytes
leaf_in_front : (n : ℕ) (input : List ℕ) → big_number 8 (take 8 input) ≡ leaf_number n input 0
leaf_in_front n input =
    let none : 0 ≡ 0 * record_length n = omega arith in
    big_from-take 0 8 8 input (omega arith) ∙ ap (λ k. big_number 8 (drop k input)) none

-- a whole record was read
pub record_told : (top n : ℕ) (old mid new : Option (List ℕ)) (head : List ℕ) (count leaf : ℕ) (items : List ℤ) → length head ≡ 8 → 8 ≤ count
    → Consumes old mid (take count head) → leaf ≡ big_number 8 head
    → ((rest : List ℕ) → mid ≡ Some rest → (2 * 4 ^ n ≤ length rest) × (items ≡ numbers_from 16 (4 ^ n) rest) × (new ≡ Some (drop (2 * 4 ^ n) rest)))
    → (input : List ℕ) → old ≡ Some input → TakesRecord top n input new leaf items
record_told top n old mid new head count leaf items size full taken is behind input told =
    let whole : take count head ≡ head = take_all count head (omega arith) in
    let r = read_of old mid input head told (subst (Consumes old mid) whole taken) in
    let front : head ≡ take 8 input = r.front ∙ ap (λ k. take k input) size in
    let b = behind (drop 8 input) (r.rest ∙ ap (λ k. Some (drop k input)) size) in
    record {
      whole = omega (arith, r.within, b.0, length-drop 8 input);
      leaf_is = is ∙ ap (big_number 8) front ∙ leaf_in_front n input;
      numbers_are = b.1 ∙ stored_behind n input;
      rest = b.2 ∙ ap Some (drop-drop (2 * 4 ^ n) 8 input);
    }
