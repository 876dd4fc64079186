-- The value text of a card that was written.
use Rattle.std.proofs.Common.{◌≡◌, ℕ, zero, suc, ◌+◌, ◌-◌, ◌<◌, Bool, true, false, cond, not, ◌||◌, List, [], ◌∷◌, ◌++◌, length, take, drop, replicate, Some, Ok, refl, ap, ◌∙◌, arith, append_assoc}
use Rattle.std.specs.Prelude.{codes, ◌==◌}
use Rattle.std.specs.Fmt.{signed_decimal}
use Rattle.std.specs.List.{list_all, position_or_len, prefix_len}
use Rattle.std.specs.Option.{option_and_then}
use Rattle.std.specs.Result.{result_ok}
use Rattle.std.proofs.lemmas.List.{take_at, drop_at}
use Rattle.std.proofs.lemmas.Bool.{and_parts}
use Rattle.decimal_scale.specs.Real.{DecimalNumber, real_text, read_real}
use Rattle.decimal_scale.specs.Laws.{WrittenIsRead, WholeIsRead}
use Rattle.decimal_scale.specs.Whole.{whole_value}
use Rattle.fits_header.specs.Laws.{WrittenValuesAreRead}
use Rattle.fits_header.specs.Values.{is_space, ends_value, without_leading_spaces, value_field, field_text, value_text, logical, real}
use Rattle.fits_header.specs.Reading.{is_text_byte}
use Rattle.fits_header.specs.WrittenCards.{is_word, filled, set_right, keyword_columns, value_card}
use Rattle.fits_header.proofs.FillLemmas.{length-columns, word-short}
use Rattle.fits_header.proofs.MadeLemmas.{is_plain, IsPlain, logical-plain, integer-plain, real-plain}

-- ---- bytes

plain_stays : (b : ℕ) → is_plain b ≡ true → ends_value b ≡ false
plain_stays b e = by (ends_value b) (and_parts (is_text_byte b) (not (ends_value b)) e).1
  where
    by : (c : Bool) → not c ≡ true → c ≡ false
    by true h = absurd cc
    by false h = refl

plain_visible : (b : ℕ) → is_plain b ≡ true → is_space b ≡ false
plain_visible b e = by (is_space b) (b == 47) (plain_stays b e)
  where
    by : (c d : Bool) → (c || d) ≡ false → c ≡ false
    by true d h = absurd cc
    by false d h = refl

-- ---- spaces

skip-spaces : (n : ℕ) (b : ℕ) (ys : List ℕ) → is_space b ≡ false → without_leading_spaces (replicate n 32 ++ b ∷ ys) ≡ b ∷ ys
skip-spaces zero b ys e = rw e refl
skip-spaces (suc n) b ys e =
    let next : 1 + prefix_len is_space (replicate n 32 ++ b ∷ ys) ≡ suc (prefix_len is_space (replicate n 32 ++ b ∷ ys)) = omega arith in
    ap (λ m. drop m (32 ∷ (replicate n 32 ++ b ∷ ys))) next ∙ skip-spaces n b ys e

only-spaces : (n : ℕ) → without_leading_spaces (replicate n 32) ≡ []
only-spaces zero = refl
only-spaces (suc n) =
    let next : 1 + prefix_len is_space (replicate n 32) ≡ suc (prefix_len is_space (replicate n 32)) = omega arith in
    ap (λ m. drop m (32 ∷ replicate n 32)) next ∙ only-spaces n

-- ---- the value text

ends-at : (text : List ℕ) (n : ℕ) → list_all is_plain text ≡ true → position_or_len ends_value (text ++ replicate n 32) ≡ length text
ends-at [] zero e = refl
ends-at [] (suc n) e = refl
ends-at (b ∷ text) n e =
    let parts = and_parts (is_plain b) (list_all is_plain text) e in
    let next : 1 + length text ≡ suc (length text) = omega arith in
    rw (plain_stays b parts.0, ends-at text n parts.1) next

text-of : (text : List ℕ) (n : ℕ) → list_all is_plain text ≡ true → field_text (text ++ replicate n 32) ≡ text
unfolding field_text
text-of text n e = ap (λ m. take m (text ++ replicate n 32)) (ends-at text n e) ∙ take_at text (replicate n 32) (length text) refl

field-of : (keyword text : List ℕ) (before after : ℕ) → length keyword ≡ 10 → 0 < length text → list_all is_plain text ≡ true
    → without_leading_spaces (drop 10 ((keyword ++ (replicate before 32 ++ text)) ++ replicate after 32)) ≡ text ++ replicate after 32
field-of keyword [] before after ten some e = absurd (omega arith)
field-of keyword (b ∷ text) before after ten some e =
    let parts = and_parts (is_plain b) (list_all is_plain text) e in
    ap (λ xs. without_leading_spaces (drop 10 xs)) (append_assoc keyword (replicate before 32 ++ b ∷ text) (replicate after 32))
    ∙ ap without_leading_spaces (drop_at keyword ((replicate before 32 ++ b ∷ text) ++ replicate after 32) 10 ten)
    ∙ ap without_leading_spaces (append_assoc (replicate before 32) (b ∷ text) (replicate after 32))
    ∙ skip-spaces before b (text ++ replicate after 32) (plain_visible b parts.0)

value-of-field : (card text : List ℕ) (after : ℕ) → value_field card ≡ text ++ replicate after 32 → list_all is_plain text ≡ true → value_text card ≡ Some text
unfolding value_text
value-of-field card text after field plain =
    let is = text-of text after plain in
    let rest : drop (length text) (text ++ replicate after 32) ≡ replicate after 32 = drop_at text (replicate after 32) (length text) refl in
    rw (field, is, rest, only-spaces after) refl

pub written-text : (keyword text : List ℕ) → is_word keyword ≡ true → IsPlain text → value_text (value_card keyword (set_right 20 text)) ≡ Some text
unfolding value_card value_field
written-text keyword text word plain =
    let head = keyword_columns keyword in
    let value = set_right 20 text in
    let card = filled 80 (head ++ value) in
    value-of-field card text (80 - length (head ++ value))
    (field-of head text (20 - length text) (80 - length (head ++ value)) (length-columns keyword (word-short keyword word)) plain.some plain.bytes)
    plain.bytes

-- ---- the values

logical-text : (v : Bool) → logical (cond v (codes "T") (codes "F")) ≡ Some v
unfolding logical
logical-text true = refl
logical-text false = refl

real-text : (v : DecimalNumber) → read_real (real_text v) ≡ Ok v → real (real_text v) ≡ Some v
unfolding real
real-text v e = ap result_ok e

pub written-values : WrittenIsRead → WholeIsRead → WrittenValuesAreRead
written-values reals wholes = record {
  of_logical = λ keyword v word.
      ap (option_and_then logical) (written-text keyword (cond v (codes "T") (codes "F")) word (logical-plain v)) ∙ logical-text v;
  of_integer = λ keyword v word fits.
      ap (option_and_then whole_value) (written-text keyword (signed_decimal v) word (integer-plain v fits)) ∙ wholes v fits;
  of_real = λ keyword v word normal.
      ap (option_and_then real) (written-text keyword (real_text v) word (real-plain v normal)) ∙ real-text v (reals v normal);
}
