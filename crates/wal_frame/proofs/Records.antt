-- A record that is read is the one that was written, and what was written is read again.
use Rattle.std.proofs.Common.{◌≡◌, ℕ, ◌+◌, ◌≤◌, Bool, true, false, ltb, eqb, not, ◌||◌, ◌&&◌, List, ◌∷◌, ◌++◌, length, take, drop, drop-cons, Option, Some, None, refl, sym, ap, subst, ◌∙◌, append_assoc, arith}
use Rattle.std.specs.Prelude.{option_map, slice_index}
use Rattle.std.specs.Int.{w64, from_be_bytes, to_be_bytes}
use Rattle.std.proofs.lemmas.Bool.{eqb-true, le-ltb}
use Rattle.std.proofs.lemmas.Bool.Decides.{nat_tests}
use Rattle.std.proofs.lemmas.List.{take_at, drop_at, take-append-drop, length-append, length-take-le, length-drop, drop-drop}
use Rattle.std.proofs.lemmas.Nat.{be_bytes_8, from_be_bytes-to_be_bytes_8}
use Rattle.pyramid_model.specs.Shape.{PyramidShape}
use Rattle.tile_pixels.specs.StoredLaws.{AreBytes, AreBytes-take, AreBytes-drop}
use Rattle.wal_frame.specs.Record.{WalRecord, kind_of, payload, record_head, record_bytes, FitsRecord}
use Rattle.wal_frame.specs.Reading.{record_then, malformed, is_open, is_cut, ends_here, first_length, second_length, StandsFirst}
use Rattle.wal_frame.specs.Payload.{payload_of, whole_record, found}
use Rattle.wal_frame.specs.Laws.{IsKnown}
use Rattle.wal_frame.proofs.Edits.{chosen}
use Rattle.wal_frame.proofs.Payloads.{payload_takes, payload_again, payload_fits}

same_number : (n : ℕ) → eqb n n ≡ true
same_number n = grind (arith, nat_tests)

-- ---- what was written is read

-- a record in parts
whole_is : (shape : PyramidShape) (bytes front rest : List ℕ) (n kind : ℕ) (r : WalRecord) → first_length bytes ≡ n → second_length bytes ≡ n → slice_index bytes 1 ≡ kind
    → drop 18 bytes ≡ front ++ rest → length front ≡ n → payload_of shape kind front ≡ Some r → whole_record shape bytes ≡ Some (r, rest)
unfolding whole_record
whole_is shape bytes front rest n kind r first second kind-is behind long reads =
    rw (first, second, kind-is, behind, same_number n, take_at front rest n long, drop_at front rest n long, reads) refl

goes_on_if : (gate : Bool) (len n : ℕ) (same : Bool) → gate ≡ true → 18 + n ≤ len → (not gate || (ltb len 18 || (same && ltb len (18 + n)))) ≡ false
goes_on_if gate len n same one long =
    let head : ltb len 18 ≡ false = le-ltb _ _ (omega (arith, long)) in
    let whole : ltb len (18 + n) ≡ false = le-ltb _ _ long in
    rw (one, head, whole) (never same)
  where
    never : (b : Bool) → (b && false) ≡ false
    never true = refl
    never false = refl

module _ (shape : PyramidShape) (r : WalRecord) (rest : List ℕ) (known : IsKnown shape) (fits : FitsRecord shape r) where
  pub not_the_end : ends_here (record_bytes r ++ rest) ≡ false
  unfolding ends_here
  not_the_end =
      let count : first_length (record_bytes r ++ rest) ≡ length (payload r) = from_be_bytes-to_be_bytes_8 (length (payload r)) (payload_fits shape r known fits) in
      let long : 18 + first_length (record_bytes r ++ rest) ≤ length (record_bytes r ++ rest) = omega (arith, count, length-append (record_bytes r) rest, length-append (record_head (kind_of r) (length (payload r))) (payload r)) in
      goes_on_if true (length (record_bytes r ++ rest)) (first_length (record_bytes r ++ rest)) (eqb (first_length (record_bytes r ++ rest)) (second_length (record_bytes r ++ rest))) refl long

  pub whole_again : whole_record shape (record_bytes r ++ rest) ≡ Some (r, rest)
  whole_again =
      let count : from_be_bytes w64 (to_be_bytes w64 (length (payload r))) ≡ length (payload r) = from_be_bytes-to_be_bytes_8 (length (payload r)) (payload_fits shape r known fits) in
      whole_is shape (record_bytes r ++ rest) (payload r) rest (length (payload r)) (kind_of r) r count count refl refl refl (payload_again shape r known fits)

  pub found_again : found shape (record_bytes r ++ rest) ≡ record_then r rest
  unfolding found
  found_again = rw (not_the_end, whole_again) refl

-- ---- what is read was written

-- the front of a record in parts
head_parts : (bytes : List ℕ) (n : ℕ) → AreBytes bytes → 18 ≤ length bytes → slice_index bytes 0 ≡ 1 → first_length bytes ≡ n → second_length bytes ≡ n
    → bytes ≡ record_head (slice_index bytes 1) n ++ drop 18 bytes
head_parts bytes n fits long gate first second =
    let number = λ (at : ℕ) (within : at + 8 ≤ length bytes) (is : from_be_bytes w64 (take 8 (drop at bytes)) ≡ n).
    let front : length (take 8 (drop at bytes)) ≡ 8 = length-take-le 8 (drop at bytes) (omega (arith, length-drop at bytes, within)) in
    be_bytes_8 (take 8 (drop at bytes)) n front (AreBytes-take 8 (drop at bytes) (AreBytes-drop at bytes fits)) (sym is) in
    let one : to_be_bytes w64 n ≡ take 8 (drop 2 bytes) = number 2 (omega (arith, long)) first in
    let two : to_be_bytes w64 n ≡ take 8 (drop 10 bytes) = number 10 (omega (arith, long)) second in
    let d0 : bytes ≡ slice_index bytes 0 ∷ drop 1 bytes = drop-cons bytes 0 0 (omega (arith, long)) in
    let d1 : drop 1 bytes ≡ slice_index bytes 1 ∷ drop 2 bytes = drop-cons bytes 1 0 (omega (arith, long)) in
    let d2 : drop 2 bytes ≡ to_be_bytes w64 n ++ drop 10 bytes = sym (take-append-drop 8 (drop 2 bytes)) ∙ ap (λ (t : List ℕ). t ++ drop 8 (drop 2 bytes)) (sym one) ∙ ap (λ (t : List ℕ). to_be_bytes w64 n ++ t) (drop-drop 8 2 bytes) in
    let d10 : drop 10 bytes ≡ to_be_bytes w64 n ++ drop 18 bytes = sym (take-append-drop 8 (drop 10 bytes)) ∙ ap (λ (t : List ℕ). t ++ drop 8 (drop 10 bytes)) (sym two) ∙ ap (λ (t : List ℕ). to_be_bytes w64 n ++ t) (drop-drop 8 10 bytes) in
    d0 ∙ ap (λ (g : ℕ). g ∷ drop 1 bytes) gate ∙ ap (λ (t : List ℕ). 1 ∷ t) (d1 ∙ ap (λ (t : List ℕ). slice_index bytes 1 ∷ t) (d2 ∙ ap (λ (t : List ℕ). to_be_bytes w64 n ++ t) d10))

-- an open record that is there whole
pub record IsWhole (bytes : List ℕ) : Type 0 where
  pub gate : slice_index bytes 0 ≡ 1
  pub head : 18 ≤ length bytes
  pub payload : first_length bytes ≡ second_length bytes → 18 + first_length bytes ≤ length bytes

pub is_whole : (bytes : List ℕ) → ends_here bytes ≡ false → IsWhole bytes
unfolding ends_here
is_whole bytes on = record { gate = gate (slice_index bytes 0) (is_cut bytes) on; head = head (not (is_open bytes)) (length bytes) (eqb (first_length bytes) (second_length bytes)) (ltb (length bytes) (18 + first_length bytes)) on; payload = rest (not (is_open bytes)) (first_length bytes) (second_length bytes) (length bytes) (ltb (length bytes) 18) on }
  where
    gate : (b : ℕ) (o : Bool) → (not (eqb b 1) || o) ≡ false → b ≡ 1
    gate b o on = grind (arith, nat_tests)

    head : (b : Bool) (len : ℕ) (c d : Bool) → (b || (ltb len 18 || (c && d))) ≡ false → 18 ≤ len
    head b len c d on = grind (arith, nat_tests)

    rest : (b : Bool) (x y len : ℕ) (c : Bool) → (b || (c || (eqb x y && ltb len (18 + x)))) ≡ false → x ≡ y → 18 + x ≤ len
    rest b x y len c on e = grind (arith, nat_tests)

pub whole_head : (bytes : List ℕ) → ends_here bytes ≡ false → 18 ≤ length bytes
whole_head bytes on = (is_whole bytes on).head

pub whole_payload : (bytes : List ℕ) → ends_here bytes ≡ false → first_length bytes ≡ second_length bytes → 18 + first_length bytes ≤ length bytes
whole_payload bytes on same = (is_whole bytes on).payload same

-- what is read step by step
pub whole_in_steps : (shape : PyramidShape) (bytes front back : List ℕ) (n m kind : ℕ) (r : WalRecord) → n ≡ first_length bytes → m ≡ second_length bytes → n ≡ m → kind ≡ slice_index bytes 1
    → front ≡ take n (drop 18 bytes) → back ≡ drop n (drop 18 bytes) → payload_of shape kind front ≡ Some r → whole_record shape bytes ≡ Some (r, back)
unfolding whole_record
whole_in_steps shape bytes front back n m kind r first second same kind-is front-is back-is reads =
    rw (← first, ← second, ← same, same_number n, ← kind-is, ← front-is, ← back-is, reads) refl

pub whole_takes : (shape : PyramidShape) (bytes : List ℕ) (x : WalRecord × List ℕ) → IsKnown shape → AreBytes bytes → ends_here bytes ≡ false → whole_record shape bytes ≡ Some x
    → StandsFirst shape bytes (record_then x.0 x.1)
unfolding whole_record
whole_takes shape bytes x known fits on e =
    let whole = is_whole bytes on in
    let n : ℕ = first_length bytes in
    let c = chosen (eqb n (second_length bytes)) _ x e in
    let same : n ≡ second_length bytes = eqb-true _ _ c.0 in
    let front : List ℕ = take n (drop 18 bytes) in
    let back : List ℕ = drop n (drop 18 bytes) in
    let b = found_in (payload_of shape (slice_index bytes 1) front) back x c.1 in
    let t = payload_takes shape (slice_index bytes 1) front b.0 known (AreBytes-take n (drop 18 bytes) (AreBytes-drop 18 bytes fits)) b.1 in
    let long : length front ≡ n = length-take-le n (drop 18 bytes) (omega (arith, length-drop 18 bytes, whole.payload same)) in
    let count : n ≡ length (payload b.0) = sym long ∙ ap length t.same_bytes in
    let parts : bytes ≡ record_head (slice_index bytes 1) n ++ (front ++ back) = head_parts bytes n fits whole.head whole.gate refl (sym same) ∙ ap (λ (r : List ℕ). record_head (slice_index bytes 1) n ++ r) (sym (take-append-drop n (drop 18 bytes))) in
    let written : bytes ≡ record_bytes b.0 ++ back =
    parts ∙ ap (λ (k : ℕ). record_head k n ++ (front ++ back)) t.same_kind ∙ ap (λ (m : ℕ). record_head (kind_of b.0) m ++ (front ++ back)) count
    ∙ ap (λ (f : List ℕ). record_head (kind_of b.0) (length (payload b.0)) ++ (f ++ back)) t.same_bytes
    ∙ sym (append_assoc (record_head (kind_of b.0) (length (payload b.0))) (payload b.0) back) in
    subst (λ (x : WalRecord × List ℕ). FitsRecord shape x.0 × (bytes ≡ record_bytes x.0 ++ x.1)) b.2 (t.fits, written)
  where
    found_in : (o : Option WalRecord) (back : List ℕ) (x : WalRecord × List ℕ) → option_map {U = WalRecord × List ℕ} (λ r. (r, back)) o ≡ Some x → (r : WalRecord) × (o ≡ Some r) × ((r, back) ≡ x)
    found_in None back x e = absurd cc
    found_in (Some r) back x e = (r, refl, cc)

abbrev nothing : Option (WalRecord × List ℕ)
nothing = None

-- no record stands there
pub whole_malformed : (shape : PyramidShape) (bytes : List ℕ) → IsKnown shape → ends_here bytes ≡ false → whole_record shape bytes ≡ None → StandsFirst shape bytes malformed
whole_malformed shape bytes known on none = record {
  goes_on = on;
  none = λ r rest fits is.
      let again : whole_record shape bytes ≡ Some (r, rest) = ap (whole_record shape) is ∙ whole_again shape r rest known fits in
      let clash : nothing ≡ Some (r, rest) = sym none ∙ again in
      absurd cc;
}
