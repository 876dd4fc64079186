-- One more byte of a number with at most one point: its significant digits.
use Rattle.std.proofs.Common.{◌≡◌, ℕ, ◌+◌, ◌*◌, ◌^◌, ◌<◌, ◌≤◌, Bool, true, false, cond, List, [], ◌∷◌, ◌++◌, length, replicate, refl, sym, ap, ◌∙◌, arith, append_assoc, add-one, pow-suc, zero, suc}
use Rattle.std.specs.Prelude.{filter}
use Rattle.std.specs.Str.Parse.{digits_value}
use Rattle.std.specs.Char.{digit_value}
use Rattle.std.proofs.lemmas.List.{length-append, length-replicate, length_push, append-nil, replicate_more, nil_from_length}
use Rattle.std.proofs.lemmas.List.Elements.{filter-append}
use Rattle.std.proofs.lemmas.Int.Digits.{digits_value_push}
use Rattle.decimal_scale.specs.Real.{is_digit, is_zero, without_leading_zeros, without_trailing_zeros, led_digits, significant}
use Rattle.decimal_scale.specs.Scan.{HasDigits}
use Rattle.decimal_scale.proofs.Zeros.{led_after_zeros, led_more, trailing_zero, last_digit_stays, value_before_zeros}

pub digits_none : HasDigits [] 0 0 0
unfolding led_digits significant
digits_none = record { counted = refl; followed = refl; none = λ e. refl; written = λ e. refl; room = omega arith }

-- a byte that is no digit changes nothing
filtered_no : (text : List ℕ) (b : ℕ) → is_digit b ≡ false → filter is_digit (text ++ b ∷ []) ≡ filter is_digit text
filtered_no text b h = filter-append is_digit text (b ∷ []) ∙ ap (λ (t : Bool). filter is_digit text ++ cond t (b ∷ []) []) h ∙ append-nil (filter is_digit text)

filtered_yes : (text : List ℕ) (b : ℕ) → is_digit b ≡ true → filter is_digit (text ++ b ∷ []) ≡ filter is_digit text ++ b ∷ []
filtered_yes text b h = filter-append is_digit text (b ∷ []) ∙ ap (λ (t : Bool). filter is_digit text ++ cond t (b ∷ []) []) h

-- the digits of a text are those of another with the same led digits
same_led : (text other : List ℕ) (value count zeros : ℕ) → led_digits other ≡ led_digits text → length text ≤ length other →
    HasDigits text value count zeros → HasDigits other value count zeros
unfolding significant
same_led text other value count zeros e longer h = record {
  counted = ap (λ (ds : List ℕ). length (without_trailing_zeros ds)) e ∙ h.counted;
  followed = e ∙ h.followed ∙ ap (λ (ds : List ℕ). without_trailing_zeros ds ++ replicate zeros 48) (sym e);
  none = h.none;
  written = λ small. h.written small ∙ ap (λ (ds : List ℕ). digits_value 10 (without_trailing_zeros ds)) (sym e);
  room = (let r : count + zeros ≤ length text = h.room in omega (arith, longer, r));
}

pub digits_point : (text : List ℕ) (value count zeros : ℕ) → HasDigits text value count zeros → HasDigits (text ++ 46 ∷ []) value count zeros
unfolding led_digits
digits_point text value count zeros h =
    let longer : length (text ++ 46 ∷ []) ≡ length text + 1 = length_push text 46 in
    same_led text (text ++ 46 ∷ []) value count zeros (ap without_leading_zeros (filtered_no text 46 refl)) (omega (arith, longer)) h

-- nothing is led where nothing is significant
none_led : (text : List ℕ) (value zeros : ℕ) → HasDigits text value 0 zeros → led_digits text ≡ []
none_led text value zeros h =
    let empty : significant text ≡ [] = nil_from_length (significant text) h.counted in
    let gone : zeros ≡ 0 = h.none refl in
    h.followed ∙ ap (λ (ds : List ℕ). ds ++ replicate zeros 48) empty ∙ ap (λ (n : ℕ). replicate n 48) gone

-- a zero before all other digits
pub digits_leading_zero : (text : List ℕ) (value zeros : ℕ) → HasDigits text value 0 zeros → HasDigits (text ++ 48 ∷ []) value 0 zeros
unfolding led_digits
digits_leading_zero text value zeros h =
    let longer : length (text ++ 48 ∷ []) ≡ length text + 1 = length_push text 48 in
    let empty : led_digits text ≡ [] = none_led text value zeros h in
    same_led text (text ++ 48 ∷ []) value 0 zeros
    (ap without_leading_zeros (filtered_yes text 48 refl) ∙ led_after_zeros (filter is_digit text) (48 ∷ []) empty ∙ sym empty)
    (omega (arith, longer)) h

-- a digit after significant ones stands behind all that is led
led_pushed : (text : List ℕ) (b value count zeros : ℕ) → is_digit b ≡ true → 0 < count → HasDigits text value count zeros → led_digits (text ++ b ∷ []) ≡ led_digits text ++ b ∷ []
unfolding led_digits
led_pushed text b value count zeros digit positive h =
    let parts : length (led_digits text) ≡ length (significant text) + length (replicate zeros 48) = ap length h.followed ∙ length-append (significant text) (replicate zeros 48) in
    let some : 0 < length (led_digits text) = omega (arith, parts, h.counted, positive) in
    ap without_leading_zeros (filtered_yes text b digit) ∙ led_more (filter is_digit text) (b ∷ []) some

-- a zero after significant digits
pub digits_zero : (text : List ℕ) (value count zeros : ℕ) → 0 < count → HasDigits text value count zeros → HasDigits (text ++ 48 ∷ []) value count (zeros + 1)
unfolding significant
digits_zero text value count zeros positive h =
    let longer : length (text ++ 48 ∷ []) ≡ length text + 1 = length_push text 48 in
    let led : led_digits (text ++ 48 ∷ []) ≡ led_digits text ++ 48 ∷ [] = led_pushed text 48 value count zeros refl positive h in
    let same : significant (text ++ 48 ∷ []) ≡ significant text = ap without_trailing_zeros led ∙ trailing_zero (led_digits text) in
    record {
      counted = ap (λ (ds : List ℕ). length ds) same ∙ h.counted;
      followed = led ∙ ap (λ (ds : List ℕ). ds ++ 48 ∷ []) h.followed ∙ append_assoc (significant text) (replicate zeros 48) (48 ∷ [])
          ∙ ap (λ (ds : List ℕ). significant text ++ ds) (replicate_more zeros 48) ∙ ap (λ (ds : List ℕ). ds ++ replicate (zeros + 1) 48) (sym same);
      none = λ e. absurd (omega (arith, e, positive));
      written = λ small. h.written small ∙ ap (digits_value 10) (sym same);
      room = (let r : count + zeros ≤ length text = h.room in omega (arith, longer, r));
    }

-- a digit that is not 0 stands behind all that is led
led_next : (text : List ℕ) (b value count zeros : ℕ) → is_digit b ≡ true → is_zero b ≡ false → HasDigits text value count zeros →
    led_digits (text ++ b ∷ []) ≡ led_digits text ++ b ∷ []
unfolding led_digits
led_next text b value zero zeros digit some h =
    let empty : led_digits text ≡ [] = none_led text value zeros h in
    let alone : without_leading_zeros (b ∷ []) ≡ b ∷ [] = ap (λ (t : Bool). cond t [] (b ∷ [])) some in
    ap without_leading_zeros (filtered_yes text b digit) ∙ led_after_zeros (filter is_digit text) (b ∷ []) empty ∙ alone
    ∙ ap (λ (ds : List ℕ). ds ++ b ∷ []) (sym empty)
led_next text b value (suc count) zeros digit some h = led_pushed text b value (suc count) zeros digit (omega arith) h

next_value : (v zeros d : ℕ) → v * 10 ^ zeros * 10 + d ≡ v * 10 ^ (zeros + 1) + d
next_value v zeros d = let e : 10 ^ (zeros + 1) ≡ 10 ^ zeros * 10 = ap (λ (n : ℕ). 10 ^ n) (add-one zeros) ∙ pow-suc 10 zeros in rw e (omega arith)

-- a digit that is not 0: all before it is significant
pub digits_next : (text : List ℕ) (b value count zeros next : ℕ) → is_digit b ≡ true → is_zero b ≡ false →
    (count + (zeros + 1) ≤ 18 → next ≡ value * 10 ^ (zeros + 1) + digit_value b) →
    HasDigits text value count zeros → HasDigits (text ++ b ∷ []) next (count + (zeros + 1)) 0
unfolding significant
digits_next text b value count zeros next digit some value_is h =
    let longer : length (text ++ b ∷ []) ≡ length text + 1 = length_push text b in
    let led : led_digits (text ++ b ∷ []) ≡ led_digits text ++ b ∷ [] = led_next text b value count zeros digit some h in
    let whole : significant (text ++ b ∷ []) ≡ led_digits text ++ b ∷ [] = ap without_trailing_zeros led ∙ last_digit_stays (led_digits text) b some in
    let parts : length (led_digits text) ≡ length (significant text) + zeros =
    ap length h.followed ∙ length-append (significant text) (replicate zeros 48) ∙ ap (λ (n : ℕ). length (significant text) + n) (length-replicate zeros 48) in
    record {
      counted = ap (λ (ds : List ℕ). length ds) whole ∙ length_push (led_digits text) b ∙ (let c : length (significant text) ≡ count = h.counted in omega (arith, parts, c));
      followed = led ∙ sym whole ∙ sym (append-nil (significant (text ++ b ∷ [])));
      none = λ e. refl;
      written = λ small.
          let old : value ≡ digits_value 10 (significant text) = h.written (omega (arith, small)) in
          let pushed : digits_value 10 (led_digits text ++ b ∷ []) ≡ digits_value 10 (led_digits text) * 10 + digit_value b = digits_value_push 10 (led_digits text) b in
          let before : digits_value 10 (led_digits text) ≡ digits_value 10 (significant text) * 10 ^ zeros = ap (digits_value 10) h.followed ∙ value_before_zeros (significant text) zeros in
          value_is small ∙ ap (λ (v : ℕ). v * 10 ^ (zeros + 1) + digit_value b) old ∙ sym (next_value (digits_value 10 (significant text)) zeros (digit_value b))
          ∙ ap (λ (v : ℕ). v * 10 + digit_value b) (sym before) ∙ sym pushed ∙ ap (digits_value 10) (sym whole);
      room = (let r : count + zeros ≤ length text = h.room in omega (arith, longer, r));
    }
