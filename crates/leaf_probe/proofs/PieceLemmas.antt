-- Readings one after another: the pieces that they gave, and how many they were.
use Rattle.std.proofs.Common.{◌≡◌, ℕ, zero, suc, ◌+◌, ◌≤◌, ◌<◌, List, [], ◌∷◌, ◌++◌, Option, None, Some, length, take, refl, sym, ap, subst, ◌∙◌, arith, append_assoc, length-append, length-take-le}
use Rattle.std.specs.Prelude.{nat_lt, true, false, if◌then◌else◌}
use Rattle.std.specs.Io.KnownBytes.{Consumes}
use Rattle.std.proofs.lemmas.Bool.Decides.{nat_tests}
use Rattle.std.proofs.lemmas.Grind.{flat_map-append}
use Rattle.std.proofs.lemmas.List.Elements.{All-append, All-cons, All-nil}
use Rattle.survey_link.specs.Link.{readings_after}
use Rattle.leaf_probe.specs.declared.fault.ProbeFault.{ProbeFault}
use Rattle.leaf_probe.specs.declared.fault.ProbeFault.TheVariants.{Cut, Read, Write, NoLeaf, OutOfMemory, TooMany, OutOfRange}
use Rattle.leaf_probe.specs.Reading.{ReadsPieces, after_readings, empty_readings}

-- what two reads in turn took
pub Consumes-both : (old mid new : Option (List ℕ)) (first second : List ℕ) → Consumes old mid first → Consumes mid new second → Consumes old new (first ++ second)
Consumes-both None mid new first second p q = tt
Consumes-both (Some xs) None new first second p q = absurd p
Consumes-both (Some xs) (Some ys) None first second p q = absurd q
Consumes-both (Some xs) (Some ys) (Some zs) first second p q = p ∙ ap (λ l. first ++ l) q ∙ sym (append_assoc first second zs)

Consumes-none : (left : Option (List ℕ)) → Consumes left left []
Consumes-none None = tt
Consumes-none (Some xs) = refl

-- some readings and then others are all of them
readings_sum : (m n : ℕ) (readings : Option ℕ) → after_readings (m + n) readings ≡ after_readings n (after_readings m readings)
readings_sum m zero readings = let e : m + 0 ≡ m = omega arith in ap (λ k. after_readings k readings) e
readings_sum m (suc n) readings = let e : m + suc n ≡ suc (m + n) = omega arith in ap (λ k. after_readings k readings) e ∙ ap (readings_after 1) (readings_sum m n readings)

-- before the first reading
pub reads_none : (left : Option (List ℕ)) (readings : Option ℕ) → ReadsPieces 0 left left readings readings
reads_none left readings = record { pieces = []; none_is_empty = All-nil (λ piece. 0 < length piece); taken = Consumes-none left; counted = refl }

-- pieces, and then more of them
pub reads_then : (empty : ℕ) (a b c : Option (List ℕ)) (r s t : Option ℕ) → ReadsPieces 0 a b r s → ReadsPieces empty b c s t → ReadsPieces empty a c r t
reads_then empty a b c r s t first second =
    let P : List ℕ → Type 0 = Consumes a c in
    let count : length (first.pieces ++ second.pieces) ≡ length first.pieces + length second.pieces = length-append first.pieces second.pieces in
    let whole : length (first.pieces ++ second.pieces) + empty ≡ (length first.pieces + 0) + (length second.pieces + empty) = omega arith in
    record {
      pieces = first.pieces ++ second.pieces;
      none_is_empty = All-append (λ piece. 0 < length piece) first.pieces second.pieces first.none_is_empty second.none_is_empty;
      taken = subst P (sym (flat_map-append (λ piece. piece) first.pieces second.pieces)) (Consumes-both a b c _ _ first.taken second.taken);
      counted = second.counted ∙ ap (after_readings (length second.pieces + empty)) first.counted
          ∙ sym (readings_sum (length first.pieces + 0) (length second.pieces + empty) r) ∙ ap (λ k. after_readings k r) (sym whole);
    }

-- one reading that gave a piece
pub reads_piece : (b c : Option (List ℕ)) (s t : Option ℕ) (buf : List ℕ) (m : ℕ) → Consumes b c (take m buf) → 0 < m → m ≤ length buf → t ≡ readings_after 1 s → ReadsPieces 0 b c s t
reads_piece b c s t buf m taken some within counted =
    let size : length (take m buf) ≡ m = length-take-le m buf within in
    let P : List ℕ → Type 0 = Consumes b c in
    record {
      pieces = take m buf ∷ [];
      none_is_empty = All-cons (λ piece. 0 < length piece) (take m buf) [] (omega arith) (All-nil (λ piece. 0 < length piece));
      taken = subst P (sym (append_nil (take m buf))) taken;
      counted = counted;
    }
  where
    append_nil : (xs : List ℕ) → xs ++ [] ≡ xs
    append_nil [] = refl
    append_nil (x ∷ xs) = ap (λ l. x ∷ l) (append_nil xs)

-- one reading that gave nothing
pub reads_empty : (b c : Option (List ℕ)) (s t : Option ℕ) → Consumes b c [] → t ≡ readings_after 1 s → ReadsPieces 1 b c s t
reads_empty b c s t taken counted = record { pieces = []; none_is_empty = All-nil (λ piece. 0 < length piece); taken = taken; counted = counted }

-- a reading that was refused leaves all
pub reads_refused : (b c : Option (List ℕ)) (s t : Option ℕ) → c ≡ b → t ≡ readings_after 1 s → ReadsPieces 1 b c s t
reads_refused b c s t kept counted = reads_empty b c s t (let P : Option (List ℕ) → Type 0 = λ l. Consumes b l [] in subst P (sym kept) (Consumes-none b)) counted

-- a reading that gave no byte took none
pub reads_end : (b c : Option (List ℕ)) (s t : Option ℕ) (buf : List ℕ) (m : ℕ) → Consumes b c (take m buf) → m ≡ 0 → t ≡ readings_after 1 s → ReadsPieces 1 b c s t
reads_end b c s t buf m taken none counted = reads_empty b c s t (let P : ℕ → Type 0 = λ k. Consumes b c (take k buf) in subst P none taken) counted

-- a buffer that was filled took pieces alone, and one that was not met the end
pub reads_filled : (a b : Option (List ℕ)) (r s : Option ℕ) (m len : ℕ) → len ≤ m → ReadsPieces (if nat_lt m len then 1 else 0) a b r s → ReadsPieces 0 a b r s
reads_filled a b r s m len h reads = let full : nat_lt m len ≡ false = grind (arith, nat_tests) in rw full at reads

pub reads_cut : (a b : Option (List ℕ)) (r s : Option ℕ) (m len : ℕ) → m < len → ReadsPieces (if nat_lt m len then 1 else 0) a b r s → ReadsPieces 1 a b r s
reads_cut a b r s m len h reads = let part : nat_lt m len ≡ true = grind (arith, nat_tests) in rw part at reads

-- a fault comes of at most one reading that gave nothing
pub few_empty : (fault : ProbeFault) → empty_readings fault ≤ 1
few_empty Cut = omega arith
few_empty Read = omega arith
few_empty Write = omega arith
few_empty NoLeaf = omega arith
few_empty OutOfMemory = omega arith
few_empty TooMany = omega arith
few_empty OutOfRange = omega arith
