-- Texts that are written one after another, and how long they are.
use Rattle.std.proofs.Common.{◌≡◌, ℕ, suc, ◌+◌, ◌^◌, ◌<◌, ◌≤◌, List, ◌∷◌, ◌++◌, length, take, drop, ℤ, pos, negsuc, refl, sym, ap, ap₂, ◌∙◌, arith, append_assoc}
use Rattle.std.specs.Prelude.{unsigned_abs, decimal, codes, ◌≤ℤ◌}
use Rattle.std.specs.Fmt.{signed_decimal}
use Rattle.std.proofs.lemmas.Int.{ints}
use Rattle.std.proofs.lemmas.Fmt.{length-decimal-le}
use Rattle.std.proofs.lemmas.List.{take_at, drop_at, drop-drop, length-append}
use Rattle.decimal_scale.specs.Real.{DecimalNumber, IsNormal, real_text}

-- one more piece
next_piece : (old front piece out new : List ℕ) (at end : ℕ) → out ≡ front ++ drop at old → length front ≡ at → end ≡ at + length piece →
    new ≡ take at out ++ piece ++ drop end out → new ≡ front ++ piece ++ drop end old
next_piece old front piece out new at end e place to h =
    let kept : take at out ≡ front = ap (take at) e ∙ take_at front (drop at old) at place in
    let rest : drop end out ≡ drop end old =
    ap (λ (n : ℕ). drop n out) to ∙ sym (drop-drop (length piece) at out) ∙ ap (drop (length piece)) (ap (drop at) e ∙ drop_at front (drop at old) at place)
    ∙ drop-drop (length piece) at old ∙ ap (λ (n : ℕ). drop n old) (sym to) in
    h ∙ ap₂ (λ (xs : List ℕ) (ys : List ℕ). xs ++ piece ++ ys) kept rest

-- three pieces at the front
pub three_pieces : (old one two three a b c : List ℕ) (i j k : ℕ) →
    i ≡ 0 + length a → one ≡ take 0 old ++ a ++ drop i old → j ≡ i + length b → two ≡ take i one ++ b ++ drop j one →
    k ≡ j + length c → three ≡ take j two ++ c ++ drop k two → (k ≡ length (a ++ b ++ c)) × (three ≡ a ++ b ++ c ++ drop k old)
three_pieces old one two three a b c i j k ei e1 ej e2 ek e3 =
    let front : length a ≡ i = omega (arith, ei) in
    let middle : length (a ++ b) ≡ j = omega (arith, ei, ej, length-append a b) in
    let first : one ≡ a ++ drop i old = e1 in
    let second : two ≡ a ++ b ++ drop j old = next_piece old a b one two i j first front ej e2 in
    let whole : length (a ++ b ++ c) ≡ length (a ++ b) + length c = length-append (a ++ b) c in
    (omega (arith, middle, whole, ek), next_piece old (a ++ b) c two three j k second middle ek e3)

-- how long a number of `digits` digits is, with its sign
signed_length : (digits : ℕ) (z : ℤ) → 0 < digits → unsigned_abs z < 10 ^ digits → unsigned_abs z < 2 ^ 64 → length (signed_decimal z) ≤ digits + 1
signed_length digits (pos n) positive small fits = let h : length (decimal n) ≤ digits = length-decimal-le digits n positive small fits in omega (arith, h)
signed_length digits (negsuc n) positive small fits = let h : length (decimal (suc n)) ≤ digits = length-decimal-le digits (suc n) positive small fits in omega (arith, h)

pub exp_size : (z : ℤ) → negsuc 399 ≤ℤ z → z ≤ℤ pos 400 → unsigned_abs z < 1000
exp_size (pos n) low high = omega (arith, ints)
exp_size (negsuc n) low high = omega (arith, ints)

pub parts_short : (number : DecimalNumber) → IsNormal number → (length (signed_decimal number.mantissa) ≤ 19) × (length (signed_decimal number.exp) ≤ 4)
parts_short number h =
    let size : unsigned_abs number.exp < 1000 = exp_size number.exp h.least_exp h.greatest_exp in
    let digits : unsigned_abs number.mantissa < 10 ^ 18 = h.digits in
    (signed_length 18 number.mantissa (omega arith) digits (omega (arith, digits)), signed_length 3 number.exp (omega arith) size (omega (arith, size)))

pub text_short : (number : DecimalNumber) → IsNormal number → length (real_text number) ≤ 26
unfolding real_text
text_short number h =
    let parts : (length (signed_decimal number.mantissa) ≤ 19) × (length (signed_decimal number.exp) ≤ 4) = parts_short number h in
    let whole = length-append (signed_decimal number.mantissa ++ codes ".0E") (signed_decimal number.exp) in
    let front = length-append (signed_decimal number.mantissa) (codes ".0E") in
    let middle : length (codes ".0E") ≡ 3 = refl in
    omega (arith, parts.0, parts.1, whole, front, middle)

-- there is room for the exponent behind the mantissa
pub room_for_exp : (number : DecimalNumber) (a c : List ℕ) (i j room : ℕ) → IsNormal number →
    a ≡ signed_decimal number.mantissa → c ≡ signed_decimal number.exp → i ≡ 0 + length a → j ≡ i + 3 → 26 ≤ room → j + length c ≤ room
room_for_exp number a c i j room normal ea ec ei ej enough =
    let parts : (length (signed_decimal number.mantissa) ≤ 19) × (length (signed_decimal number.exp) ≤ 4) = parts_short number normal in
    let la : length a ≡ length (signed_decimal number.mantissa) = ap length ea in
    let lc : length c ≡ length (signed_decimal number.exp) = ap length ec in
    omega (arith, parts.0, parts.1, la, lc, ei, ej, enough)

-- the text of a number stands at the front
pub record IsWritten (number : DecimalNumber) (old new : List ℕ) (len : ℕ) : Type 0 where
  pub length_is : len ≡ length (real_text number)
  pub short : len ≤ 26
  pub text : new ≡ real_text number ++ drop len old

pub text_written : (number : DecimalNumber) (old one two three a c : List ℕ) (i j k : ℕ) → IsNormal number →
    a ≡ signed_decimal number.mantissa → c ≡ signed_decimal number.exp →
    i ≡ 0 + length a → one ≡ a ++ drop i old → j ≡ i + 3 → two ≡ take i one ++ codes ".0E" ++ drop j one →
    k ≡ j + length c → three ≡ take j two ++ c ++ drop k two → IsWritten number old three k
unfolding real_text
text_written number old one two three a c i j k normal ea ec ei e1 ej e2 ek e3 =
    let pieces : (k ≡ length (a ++ codes ".0E" ++ c)) × (three ≡ a ++ codes ".0E" ++ c ++ drop k old) = three_pieces old one two three a (codes ".0E") c i j k ei e1 ej e2 ek e3 in
    let whole : a ++ codes ".0E" ++ c ≡ real_text number = ap₂ (λ (x : List ℕ) (y : List ℕ). x ++ codes ".0E" ++ y) ea ec in
    let len : k ≡ length (real_text number) = pieces.0 ∙ ap length whole in
    let most : length (real_text number) ≤ 26 = text_short number normal in
    record { length_is = len; short = omega (arith, len, most); text = pieces.1 ∙ ap (λ (x : List ℕ). x ++ drop k old) whole }

-- the parts of a number that is kept in machine numbers
pub part_text : (bytes text : List ℕ) (bits part whole : ℤ) → bytes ≡ text → text ≡ signed_decimal bits → bits ≡ part → part ≡ whole → bytes ≡ signed_decimal whole
part_text bytes text bits part whole e1 e2 e3 e4 = e1 ∙ e2 ∙ ap signed_decimal (e3 ∙ e4)

-- the text of a number, piece by piece
pub text_of_pieces : (number : DecimalNumber) (bits m other e : ℤ) → bits ≡ m → m ≡ number.mantissa → other ≡ e → e ≡ number.exp →
    signed_decimal bits ++ 46 ∷ 48 ∷ 69 ∷ signed_decimal other ≡ real_text number
unfolding real_text
text_of_pieces number bits m other e p q r s =
    ap₂ (λ (x : ℤ) (y : ℤ). signed_decimal x ++ 46 ∷ 48 ∷ 69 ∷ signed_decimal y) (p ∙ q) (r ∙ s)
    ∙ sym (append_assoc (signed_decimal number.mantissa) (codes ".0E") (signed_decimal number.exp))
