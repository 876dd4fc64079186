-- What the makers write is printable ASCII without spaces and `/`.
use Rattle.std.proofs.Common.{◌≡◌, ℕ, zero, suc, ◌+◌, ◌-◌, ◌^◌, ◌<◌, ◌≤◌, ◌%◌, Bool, true, false, cond, not, ◌&&◌, ℤ, pos, negsuc, List, [], ◌∷◌, ◌++◌, length, replicate, refl, ap, ◌∙◌, arith, length-append, lit<}
use Rattle.std.specs.Prelude.{codes, decimal, nat_le, unsigned_abs, ◌≤ℤ◌}
use Rattle.std.specs.Fmt.{signed_decimal}
use Rattle.std.specs.List.{list_all}
use Rattle.std.proofs.lemmas.Bool.Decides.{nat_tests}
use Rattle.std.proofs.lemmas.Int.{ints}
use Rattle.std.proofs.lemmas.Fmt.{decimal_by_steps, decimal_nonempty, length-decimal-le}
use Rattle.std.proofs.lemmas.List.{length-replicate}
use Rattle.std.proofs.lemmas.List.Folds.{list_all-append}
use Rattle.std.proofs.lemmas.Bool.{and_parts}
use Rattle.decimal_scale.specs.Real.{DecimalNumber, IsNormal, real_text}
use Rattle.decimal_scale.specs.Whole.{fits_64_bits}
use Rattle.fits_header.specs.Values.{ends_value}
use Rattle.fits_header.specs.Reading.{is_text_byte}
use Rattle.fits_header.specs.WrittenCards.{is_word, is_word_byte, filled, set_right, keyword_columns, value_card, text_card}
use Rattle.fits_header.specs.Laws.{IsCard, MadeCardsAreCards}
use Rattle.fits_header.proofs.FillLemmas.{length-filled, length-columns, word-short}

-- ---- plain bytes

-- printable, and neither a space nor `/`
abbrev pub is_plain : ℕ → Bool
is_plain byte = is_text_byte byte && not (ends_value byte)

-- a plain text of 1 to 70 bytes
pub record IsPlain (text : List ℕ) : Type 0 where
  pub some : 0 < length text
  pub short : length text ≤ 70
  pub bytes : list_all is_plain text ≡ true

all-append : (p : ℕ → Bool) (xs ys : List ℕ) → list_all p xs ≡ true → list_all p ys ≡ true → list_all p (xs ++ ys) ≡ true
all-append p xs ys e f = list_all-append p xs ys ∙ ap (λ b. b && list_all p ys) e ∙ f

all-weaker : (p q : ℕ → Bool) → ((b : ℕ) → p b ≡ true → q b ≡ true) → (xs : List ℕ) → list_all p xs ≡ true → list_all q xs ≡ true
all-weaker p q weaker [] e = refl
all-weaker p q weaker (x ∷ xs) e =
    let parts = and_parts (p x) (list_all p xs) e in
    ap (λ b. b && list_all q xs) (weaker x parts.0) ∙ all-weaker p q weaker xs parts.1

digit_plain : (d : ℕ) → d < 10 → is_plain (48 + d) ≡ true
digit_plain d h = grind (arith, nat_tests)

decimal_plain : (n : ℕ) → n < 2 ^ 64 → list_all is_plain (decimal n) ≡ true
decimal_plain n = decimal_by_steps (λ n ds. list_all is_plain ds ≡ true)
    (λ n h. ap (λ b. b && true) (digit_plain n h))
    (λ n ds h e. all-append is_plain ds ((48 + n % 10) ∷ []) e (ap (λ b. b && true) (digit_plain (n % 10) (omega arith)))) n

-- ---- the texts of values

small : (z : ℤ) → fits_64_bits z ≡ true → unsigned_abs z < 2 ^ 63 + 1
small (pos n) e = grind (arith, nat_tests)
small (negsuc n) e = grind (arith, nat_tests)

signed_plain : (z : ℤ) → unsigned_abs z < 2 ^ 64 → list_all is_plain (signed_decimal z) ≡ true
signed_plain (pos n) h = decimal_plain n h
signed_plain (negsuc n) h = decimal_plain (suc n) h

signed_some : (z : ℤ) → unsigned_abs z < 2 ^ 64 → 0 < length (signed_decimal z)
signed_some (pos n) h = decimal_nonempty n h
signed_some (negsuc n) h = omega arith

signed_short : (z : ℤ) → unsigned_abs z < 2 ^ 64 → length (signed_decimal z) ≤ 21
signed_short (pos n) h = let l : length (decimal n) ≤ 20 = length-decimal-le 20 n (lit< tt) (omega arith) h in omega arith
signed_short (negsuc n) h = let l : length (decimal (suc n)) ≤ 20 = length-decimal-le 20 (suc n) (lit< tt) (omega arith) h in omega arith

pub integer-plain : (z : ℤ) → fits_64_bits z ≡ true → IsPlain (signed_decimal z)
integer-plain z e =
    let h = small z e in
    record {
      some = signed_some z (omega (arith, h));
      short = omega (arith, signed_short z (omega (arith, h)));
      bytes = signed_plain z (omega (arith, h));
    }

exp_size : (z : ℤ) → negsuc 399 ≤ℤ z → z ≤ℤ pos 400 → unsigned_abs z < 1000
exp_size (pos n) low high = omega (arith, ints)
exp_size (negsuc n) low high = omega (arith, ints)

pub real-plain : (d : DecimalNumber) → IsNormal d → IsPlain (real_text d)
unfolding real_text
real-plain d h =
    let mantissa = signed_decimal d.mantissa in
    let exp = signed_decimal d.exp in
    let digits : unsigned_abs d.mantissa < 10 ^ 18 = h.digits in
    let size : unsigned_abs d.exp < 1000 = exp_size d.exp h.least_exp h.greatest_exp in
    let front = length-append mantissa (codes ".0E") in
    let all = length-append (mantissa ++ codes ".0E") exp in
    let some = signed_some d.mantissa (omega (arith, digits)) in
    let first = signed_short d.mantissa (omega (arith, digits)) in
    let second = signed_short d.exp (omega (arith, size)) in
    record {
      some = omega (arith, front, all, some);
      short = omega (arith, front, all, first, second);
      bytes = all-append is_plain (mantissa ++ codes ".0E") exp
          (all-append is_plain mantissa (codes ".0E") (signed_plain d.mantissa (omega (arith, digits))) refl)
          (signed_plain d.exp (omega (arith, size)));
    }

pub logical-plain : (v : Bool) → IsPlain (cond v (codes "T") (codes "F"))
logical-plain true = record { some = omega arith; short = omega arith; bytes = refl }
logical-plain false = record { some = omega arith; short = omega arith; bytes = refl }

-- ---- cards

plain_text : (b : ℕ) → is_plain b ≡ true → is_text_byte b ≡ true
plain_text b e = (and_parts (is_text_byte b) (not (ends_value b)) e).0

word_text : (b : ℕ) → is_word_byte b ≡ true → is_text_byte b ≡ true
word_text b e = grind (arith, nat_tests)

word-text : (text : List ℕ) → is_word text ≡ true → list_all is_text_byte text ≡ true
word-text text word =
    all-weaker is_word_byte is_text_byte word_text text (and_parts (nat_le 1 (length text) && nat_le (length text) 8) (list_all is_word_byte text) word).1

spaces-text : (n : ℕ) → list_all is_text_byte (replicate n 32) ≡ true
spaces-text zero = refl
spaces-text (suc n) = spaces-text n

filled-text : (n : ℕ) (xs : List ℕ) → list_all is_text_byte xs ≡ true → list_all is_text_byte (filled n xs) ≡ true
filled-text n xs e = all-append is_text_byte xs (replicate (n - length xs) 32) e (spaces-text (n - length xs))

columns-text : (keyword : List ℕ) → is_word keyword ≡ true → list_all is_text_byte (keyword_columns keyword) ≡ true
unfolding keyword_columns
columns-text keyword word = all-append is_text_byte (filled 8 keyword) (codes "= ") (filled-text 8 keyword (word-text keyword word)) refl

value-card : (keyword value : List ℕ) → is_word keyword ≡ true → length value ≤ 70 → list_all is_text_byte value ≡ true → IsCard (value_card keyword value)
unfolding value_card
value-card keyword value word short text =
    let ten = length-columns keyword (word-short keyword word) in
    let all = length-append (keyword_columns keyword) value in
    record {
      len = length-filled 80 (keyword_columns keyword ++ value) (omega (arith, ten, all));
      bytes = filled-text 80 (keyword_columns keyword ++ value) (all-append is_text_byte (keyword_columns keyword) value (columns-text keyword word) text);
    }

plain-card : (keyword text : List ℕ) → is_word keyword ≡ true → IsPlain text → IsCard (value_card keyword (set_right 20 text))
plain-card keyword text word plain =
    let spaces = length-replicate {A = ℕ} (20 - length text) 32 in
    let all = length-append (replicate (20 - length text) 32) text in
    let short = plain.short in
    value-card keyword (set_right 20 text) word (omega (arith, spaces, all, short))
    (all-append is_text_byte (replicate (20 - length text) 32) text (spaces-text (20 - length text)) (all-weaker is_plain is_text_byte plain_text text plain.bytes))

quoted-card : (keyword v : List ℕ) → is_word keyword ≡ true → is_word v ≡ true → IsCard (text_card keyword v)
quoted-card keyword v word value =
    let eight = length-filled 8 v (word-short v value) in
    let front = length-append (codes "'") (filled 8 v) in
    let all = length-append (codes "'" ++ filled 8 v) (codes "'") in
    value-card keyword (codes "'" ++ filled 8 v ++ codes "'") word (omega (arith, eight, front, all))
    (all-append is_text_byte (codes "'" ++ filled 8 v) (codes "'") (all-append is_text_byte (codes "'") (filled 8 v) refl (filled-text 8 v (word-text v value))) refl)

pub made-cards : MadeCardsAreCards
made-cards = record {
  of_logical = λ keyword v word. plain-card keyword (cond v (codes "T") (codes "F")) word (logical-plain v);
  of_integer = λ keyword v word fits. plain-card keyword (signed_decimal v) word (integer-plain v fits);
  of_real = λ keyword v word normal. plain-card keyword (real_text v) word (real-plain v normal);
  of_text = quoted-card;
  of_end = record { len = refl; bytes = refl };
}
