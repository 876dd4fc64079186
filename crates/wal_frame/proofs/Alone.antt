-- What stands whole at the front of some bytes is told by its own bytes.
use Rattle.std.proofs.Common.{◌≡◌, ◌≢◌, ℕ, ◌+◌, ◌-◌, ◌<◌, ◌≤◌, Bool, true, false, ltb, eqb, not, ◌||◌, ◌&&◌, List, [], ◌++◌, length, take, drop, get_or, refl, sym, ap, ◌∙◌, append_assoc, arith}
use Rattle.std.specs.Prelude.{slice_index}
use Rattle.std.specs.Int.{w64, from_be_bytes, to_be_bytes}
use Rattle.std.proofs.Math.Seq.{take-append-add}
use Rattle.std.proofs.lemmas.Bool.Decides.{nat_tests}
use Rattle.std.proofs.lemmas.Nat.{from_be_bytes-to_be_bytes_8}
use Rattle.std.proofs.lemmas.List.{take_at, drop-take, take-take, take-append-le, append-nil, length-append, length-take, length-take-le, get_or-take}
use Rattle.pyramid_model.specs.Shape.{PyramidShape}
use Rattle.wal_frame.specs.Record.{WalRecord, kind_of, payload, record_head, record_bytes, FitsRecord}
use Rattle.wal_frame.specs.Reading.{Found, wal_end, record_then, malformed, ends_here, first_length, second_length, StandsFirst, IsMalformed}
use Rattle.wal_frame.specs.Told.{most_payload}
use Rattle.wal_frame.specs.Laws.{IsKnown, RecordsStandAlone, then_more}
use Rattle.wal_frame.proofs.Records.{is_whole}
use Rattle.wal_frame.proofs.Payloads.{payload_fits, payload_at_most}

-- what two have in common that begin with the same 18 bytes
record SameHead (a b : List ℕ) : Type 0 where
  pub gate : slice_index a 0 ≡ slice_index b 0
  pub first : first_length a ≡ first_length b
  pub second : second_length a ≡ second_length b

same_head : (a b : List ℕ) → take 18 a ≡ take 18 b → SameHead a b
same_head a b same = record {
  gate = sym (get_or-take 18 a 0 0 (omega arith)) ∙ ap (λ (t : List ℕ). get_or t 0 0) same ∙ get_or-take 18 b 0 0 (omega arith);
  first = ap (from_be_bytes w64) (sym (first_in a) ∙ ap (λ (t : List ℕ). take 8 (drop 2 t)) same ∙ first_in b);
  second = ap (from_be_bytes w64) (sym (second_in a) ∙ ap (λ (t : List ℕ). take 8 (drop 10 t)) same ∙ second_in b);
}
  where
    first_in : (xs : List ℕ) → take 8 (drop 2 (take 18 xs)) ≡ take 8 (drop 2 xs)
    first_in xs = ap (take 8) (drop-take 2 16 xs) ∙ take-take 8 16 (drop 2 xs) (omega arith)

    second_in : (xs : List ℕ) → take 8 (drop 10 (take 18 xs)) ≡ take 8 (drop 10 xs)
    second_in xs = ap (take 8) (drop-take 10 8 xs) ∙ take-take 8 8 (drop 10 xs) (omega arith)

-- where the WAL ends, by the head and the length
ends_by : (bytes head : List ℕ) → take 18 bytes ≡ take 18 head
    → ends_here bytes ≡ (not (eqb (slice_index head 0) 1) || (ltb (length bytes) 18 || (eqb (first_length head) (second_length head) && ltb (length bytes) (18 + first_length head))))
unfolding ends_here
ends_by bytes head same = let is = same_head bytes head same in rw (is.gate, is.first, is.second) refl

pub ends_short : (bytes head : List ℕ) → take 18 bytes ≡ take 18 head → length head < 18 → true ≡ ends_here bytes
ends_short bytes head same few =
    let short : length bytes < 18 = omega (arith, few, ap length same, length-take 18 bytes, length-take 18 head) in
    sym (ends_by bytes head same ∙ is_short (eqb (slice_index head 0) 1) (length bytes) (eqb (first_length head) (second_length head) && ltb (length bytes) (18 + first_length head)) short)
  where
    is_short : (gate : Bool) (n : ℕ) (b : Bool) → n < 18 → (not gate || (ltb n 18 || b)) ≡ true
    is_short gate n b few = grind (arith, nat_tests)

pub ends_shut : (bytes head : List ℕ) → take 18 bytes ≡ take 18 head → slice_index head 0 ≢ 1 → true ≡ ends_here bytes
ends_shut bytes head same other = sym (ends_by bytes head same ∙ is_shut (slice_index head 0) _ other)
  where
    is_shut : (gate : ℕ) (b : Bool) → gate ≢ 1 → (not (eqb gate 1) || b) ≡ true
    is_shut gate b other = grind (arith, nat_tests)

pub ends_cut : (bytes head : List ℕ) (left n m : ℕ) → take 18 bytes ≡ take 18 head → length bytes ≡ left → 18 ≤ left → slice_index head 0 ≡ 1 → n ≡ first_length head → m ≡ second_length head → n ≡ m
    → ltb (left - 18) n ≡ ends_here bytes
ends_cut bytes head left n m same size long gate first second equal =
    sym (ends_by bytes head same ∙ rw (← first, ← second, size) (is_cut (slice_index head 0) left n m gate long equal))
  where
    is_cut : (gate left n m : ℕ) → gate ≡ 1 → 18 ≤ left → n ≡ m → (not (eqb gate 1) || (ltb left 18 || (eqb n m && ltb left (18 + n)))) ≡ ltb (left - 18) n
    is_cut gate left n m one long equal = grind (arith, nat_tests)

pub goes_on_differ : (bytes head : List ℕ) (left n m : ℕ) → take 18 bytes ≡ take 18 head → length bytes ≡ left → 18 ≤ left → slice_index head 0 ≡ 1 → n ≡ first_length head → m ≡ second_length head → n ≢ m
    → eqb n m ≡ ends_here bytes
goes_on_differ bytes head left n m same size long gate first second differ =
    sym (ends_by bytes head same ∙ rw (← first, ← second, size) (goes_on (slice_index head 0) left n m gate long differ))
  where
    goes_on : (gate left n m : ℕ) → gate ≡ 1 → 18 ≤ left → n ≢ m → (not (eqb gate 1) || (ltb left 18 || (eqb n m && ltb left (18 + n)))) ≡ eqb n m
    goes_on gate left n m one long differ = grind (arith, nat_tests)

-- what begins as an open record that is there whole, and is long enough, is one
goes_on_as : (a b : List ℕ) → take 18 a ≡ take 18 b → ends_here a ≡ false → 18 ≤ length b → (first_length a ≡ second_length a → 18 + first_length a ≤ length b) → ends_here b ≡ false
unfolding ends_here
goes_on_as a b same on long whole =
    let head = same_head a b same in
    still (slice_index b 0) (length b) (first_length b) (second_length b) (sym head.gate ∙ (is_whole a on).gate) long
    (λ e. let there : 18 + first_length a ≤ length b = whole (head.first ∙ e ∙ sym head.second) in omega (arith, head.first, there))
  where
    still : (gate len x y : ℕ) → gate ≡ 1 → 18 ≤ len → (x ≡ y → 18 + x ≤ len) → (not (eqb gate 1) || (ltb len 18 || (eqb x y && ltb len (18 + x)))) ≡ false
    still gate len x y one long whole = grind (arith, nat_tests)

-- the first bytes of it tell that, if they are enough
front_goes_on : (bytes : List ℕ) (n : ℕ) → ends_here bytes ≡ false → 18 ≤ n → n ≤ length bytes → (first_length bytes ≡ second_length bytes → 18 + first_length bytes ≤ n) → ends_here (take n bytes) ≡ false
front_goes_on bytes n on head within whole =
    let long : length (take n bytes) ≡ n = length-take-le n bytes within in
    goes_on_as bytes (take n bytes) (sym (take-take 18 n bytes head)) on (omega (arith, long, head)) (λ e. omega (arith, long, whole e))

-- ---- the law

-- a record in the bytes says how long it is
record Counts (bytes : List ℕ) (r : WalRecord) : Type 0 where
  pub first : first_length bytes ≡ length (payload r)
  pub second : second_length bytes ≡ length (payload r)

counts : (shape : PyramidShape) (bytes rest : List ℕ) (r : WalRecord) → IsKnown shape → FitsRecord shape r → bytes ≡ record_bytes r ++ rest → Counts bytes r
counts shape bytes rest r known fits is =
    let count : from_be_bytes w64 (to_be_bytes w64 (length (payload r))) ≡ length (payload r) = from_be_bytes-to_be_bytes_8 (length (payload r)) (payload_fits shape r known fits) in
    record { first = ap first_length is ∙ count; second = ap second_length is ∙ count }

length-record : (r : WalRecord) → length (record_bytes r) ≡ 18 + length (payload r)
length-record r = omega (arith, length-append (record_head (kind_of r) (length (payload r))) (payload r))

module _ (shape : PyramidShape) (known : IsKnown shape) where
  -- a record at the front of more bytes is one of those that are there whole
  within_front : (front more rest : List ℕ) (r : WalRecord) → ends_here front ≡ false → FitsRecord shape r → front ++ more ≡ record_bytes r ++ rest
      → front ≡ record_bytes r ++ take (length front - length (record_bytes r)) rest
  within_front front more rest r on fits is =
      let whole = is_whole front on in
      let head = same_head (front ++ more) front (take-append-le 18 front more whole.head) in
      let says = counts shape (front ++ more) rest r known fits is in
      let long : 18 + first_length front ≤ length front = whole.payload (sym head.first ∙ says.first ∙ sym says.second ∙ head.second) in
      let count : first_length front ≡ length (payload r) = sym head.first ∙ says.first in
      let all : length front ≡ length (record_bytes r) + (length front - length (record_bytes r)) = omega (arith, length-record r, long, count) in
      sym (take_at front more (length front) refl) ∙ ap (take (length front)) is ∙ ap (λ (n : ℕ). take n (record_bytes r ++ rest)) all
      ∙ take-append-add (record_bytes r) rest (length front - length (record_bytes r))

  longer : (front more : List ℕ) (found : Found) → ends_here front ≡ false → StandsFirst shape front found → StandsFirst shape (front ++ more) (then_more more found)
  longer front more wal_end on first = let clash : true ≡ false = sym first ∙ on in absurd cc
  longer front more (record_then r rest) on first = (first.0, ap (λ (t : List ℕ). t ++ more) first.1 ∙ append_assoc (record_bytes r) rest more)
  longer front more malformed on first =
      let whole = is_whole front on in
      let all : length (front ++ more) ≡ length front + length more = length-append front more in
      record {
        goes_on = goes_on_as front (front ++ more) (sym (take-append-le 18 front more whole.head)) on (omega (arith, all, whole.head)) (λ e. let there : 18 + first_length front ≤ length front = whole.payload e in omega (arith, all, there));
        none = λ r rest fits is. first.none r (take (length front - length (record_bytes r)) rest) fits (within_front front more rest r on fits is);
      }

pub records_stand_alone : RecordsStandAlone
records_stand_alone = record {
  longer = λ shape front more found known. longer shape known front more found;
  alone = λ shape bytes rest r first. (first.0, ap (take (length (record_bytes r))) first.1 ∙ take_at (record_bytes r) rest (length (record_bytes r)) refl ∙ sym (append-nil (record_bytes r)));
}

-- ---- what a head tells

pub begins_as : (bytes head : List ℕ) → take 18 bytes ≡ head → take 18 bytes ≡ take 18 head
begins_as bytes head begins = sym (take-take 18 18 bytes (omega arith)) ∙ ap (take 18) begins

module _ (bytes head : List ℕ) (begins : take 18 bytes ≡ head) (on : ends_here bytes ≡ false) where
  pub head_is_enough : first_length head ≢ second_length head → (18 ≤ length bytes) × (ends_here (take 18 bytes) ≡ false)
  head_is_enough differ =
      let same = same_head bytes head (begins_as bytes head begins) in
      let whole = is_whole bytes on in
      (whole.head, front_goes_on bytes 18 on (omega arith) whole.head (λ e. absurd (differ (sym same.first ∙ e ∙ same.second))))

  pub payload_is_enough : first_length head ≡ second_length head → (18 + first_length head ≤ length bytes) × (ends_here (take (18 + first_length head) bytes) ≡ false)
  payload_is_enough equal =
      let same = same_head bytes head (begins_as bytes head begins) in
      let there : 18 + first_length bytes ≤ length bytes = (is_whole bytes on).payload (same.first ∙ equal ∙ sym same.second) in
      let within : 18 + first_length head ≤ length bytes = omega (arith, same.first, there) in
      (within, front_goes_on bytes (18 + first_length head) on (omega arith) within (λ e. omega (arith, same.first)))

  pub too_long : (shape : PyramidShape) → IsKnown shape → most_payload shape < first_length head → IsMalformed shape bytes
  too_long shape known long = record {
    goes_on = on;
    none = λ r rest fits is.
        let same = same_head bytes head (begins_as bytes head begins) in
        let says = counts shape bytes rest r known fits is in
        let most : length (payload r) ≤ most_payload shape = payload_at_most shape r known fits in
        absurd (omega (arith, long, most, says.first, same.first));
  }
