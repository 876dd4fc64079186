-- One more byte of a number with at most one point: its shape.
use Rattle.std.proofs.Common.{◌≡◌, ℕ, ◌+◌, ◌-◌, ◌<◌, ◌≤◌, Bool, true, false, cond, ◌||◌, eqb, List, [], ◌∷◌, ◌++◌, length, refl, sym, ap, ◌∙◌, arith}
use Rattle.std.specs.Prelude.{nat_lt, count_by}
use Rattle.std.specs.List.{list_all, list_any, position_or_len}
use Rattle.std.proofs.lemmas.List.{length-drop, length_push}
use Rattle.std.proofs.lemmas.List.Sums.{sum_by_push, prefix_len-le-length}
use Rattle.std.proofs.lemmas.List.Folds.{list_all-append, list_any-append, position_or_len_push}
use Rattle.std.proofs.lemmas.Bool.{and_from}
use Rattle.std.proofs.lemmas.Bool.Decides.{nat_tests}
use Rattle.decimal_scale.specs.Real.{is_digit, is_point, digits_after_point}
use Rattle.decimal_scale.specs.Scan.{HasShape}

-- how many digits follow the point, by its place
after_by_place : (text : List ℕ) → digits_after_point text ≡ length text - (position_or_len is_point text + 1)
unfolding digits_after_point
after_by_place text = length-drop (position_or_len is_point text + 1) text

-- the place of the first point after one more byte
place_more_found : (place n other : ℕ) → nat_lt place n ≡ true → cond (eqb place n) other place ≡ place
place_more_found place n other h = grind (arith, nat_tests)

place_more_none : (place n other : ℕ) → place ≤ n → nat_lt place n ≡ false → cond (eqb place n) other place ≡ other
place_more_none place n other h e = grind (arith, nat_tests)

below_more_true : (place n : ℕ) → nat_lt place n ≡ true → nat_lt place (n + 1) ≡ true
below_more_true place n h = grind (arith, nat_tests)

below_next : (n : ℕ) → nat_lt n (n + 1) ≡ true
below_next n = grind (arith, nat_tests)

not_below_self : (n : ℕ) → nat_lt (n + 1) (n + 1) ≡ false
not_below_self n = grind (arith, nat_tests)

lt_from_test : (m n : ℕ) → nat_lt m n ≡ true → m < n
lt_from_test m n h = grind (arith, nat_tests)

le_from_test : (m n : ℕ) → nat_lt m n ≡ false → n ≤ m
le_from_test m n h = grind (arith, nat_tests)

or_false : (b : Bool) → (b || false) ≡ b
or_false true = refl
or_false false = refl

or_true : (b : Bool) → (b || true) ≡ true
or_true true = refl
or_true false = refl

-- the first byte of all is no point, no digit
pub shape_none : HasShape [] false false 0
unfolding digits_after_point
shape_none = record { allowed = refl; points = refl; found = refl; some = refl; after_point = refl; room = omega arith }

all_more : (text : List ℕ) (b : ℕ) → list_all (λ byte. is_digit byte || is_point byte) text ≡ true → (is_digit b || is_point b) ≡ true →
    list_all (λ byte. is_digit byte || is_point byte) (text ++ b ∷ []) ≡ true
all_more text b h e = list_all-append (λ byte. is_digit byte || is_point byte) text (b ∷ []) ∙ and_from _ _ h (and_from _ _ e refl)

place_after : (text : List ℕ) (b : ℕ) → position_or_len is_point (text ++ b ∷ []) ≡ cond (eqb (position_or_len is_point text) (length text)) (length text + cond (is_point b) 0 1) (position_or_len is_point text)
place_after text b = position_or_len_push is_point text b

-- a first point
pub shape_point : (text : List ℕ) (some : Bool) (after : ℕ) → HasShape text false some after → HasShape (text ++ 46 ∷ []) true some after
shape_point text some after h =
    let within : position_or_len is_point text ≤ length text = prefix_len-le-length _ text in
    let place : position_or_len is_point (text ++ 46 ∷ []) ≡ length text =
    place_after text 46 ∙ place_more_none (position_or_len is_point text) (length text) (length text + 0) within h.found ∙ omega arith in
    let longer : length (text ++ 46 ∷ []) ≡ length text + 1 = length_push text 46 in
    let at_end : length text ≤ position_or_len is_point text = le_from_test _ _ h.found in
    let old : length text - (position_or_len is_point text + 1) ≡ 0 = omega (arith, at_end) in
    let none : after ≡ 0 = sym h.after_point ∙ after_by_place text ∙ old in
    record {
      allowed = all_more text 46 h.allowed refl;
      points = sum_by_push (λ x. cond (is_point x) 1 0) text 46 ∙ ap (λ (m : ℕ). m + 1) h.points;
      found = ap (λ (m : ℕ). nat_lt m (length (text ++ 46 ∷ []))) place ∙ ap (λ (m : ℕ). nat_lt (length text) m) longer ∙ below_next (length text);
      some = list_any-append is_digit text (46 ∷ []) ∙ or_false (list_any is_digit text) ∙ h.some;
      after_point = after_by_place (text ++ 46 ∷ []) ∙ (let zero : length (text ++ 46 ∷ []) - (position_or_len is_point (text ++ 46 ∷ []) + 1) ≡ 0 = omega (arith, place, longer) in zero) ∙ sym none;
      room = omega (arith, none);
    }

digit_is_no_point : (b : ℕ) → is_digit b ≡ true → is_point b ≡ false
digit_is_no_point b h = grind (arith, nat_tests)

-- a digit
pub shape_digit : (text : List ℕ) (b : ℕ) (has_point some : Bool) (after : ℕ) → is_digit b ≡ true →
    HasShape text has_point some after → HasShape (text ++ b ∷ []) has_point true (after + cond has_point 1 0)
shape_digit text b true some after digit h =
    let plain : is_point b ≡ false = digit_is_no_point b digit in
    let below : position_or_len is_point text < length text = lt_from_test _ _ h.found in
    let place : position_or_len is_point (text ++ b ∷ []) ≡ position_or_len is_point text =
    place_after text b ∙ place_more_found (position_or_len is_point text) (length text) _ h.found in
    let longer : length (text ++ b ∷ []) ≡ length text + 1 = length_push text b in
    let old : length text - (position_or_len is_point text + 1) ≡ after = sym (after_by_place text) ∙ h.after_point in
    record {
      allowed = all_more text b h.allowed (ap (λ (t : Bool). t || is_point b) digit);
      points = sum_by_push (λ x. cond (is_point x) 1 0) text b ∙ (let none : ◌≡◌ {A = ℕ} (cond (is_point b) 1 0) 0 = ap {B = ℕ} (λ (t : Bool). cond t 1 0) plain in let were : count_by is_point text ≡ 1 = h.points in omega (arith, none, were));
      found = ap (λ (m : ℕ). nat_lt m (length (text ++ b ∷ []))) place ∙ ap (λ (m : ℕ). nat_lt (position_or_len is_point text) m) longer ∙ below_more_true _ _ h.found;
      some = list_any-append is_digit text (b ∷ []) ∙ ap (λ (t : Bool). list_any is_digit text || (t || false)) digit ∙ or_true _;
      after_point = after_by_place (text ++ b ∷ []) ∙ (let more : length (text ++ b ∷ []) - (position_or_len is_point (text ++ b ∷ []) + 1) ≡ after + 1 = omega (arith, place, longer, old, below) in more);
      room = (let r : after ≤ length text = h.room in omega (arith, longer, r));
    }
shape_digit text b false some after digit h =
    let plain : is_point b ≡ false = digit_is_no_point b digit in
    let within : position_or_len is_point text ≤ length text = prefix_len-le-length _ text in
    let place : position_or_len is_point (text ++ b ∷ []) ≡ length text + 1 =
    place_after text b ∙ place_more_none (position_or_len is_point text) (length text) (length text + cond (is_point b) 0 1) within h.found ∙ ap (λ (t : Bool). length text + cond t 0 1) plain in
    let longer : length (text ++ b ∷ []) ≡ length text + 1 = length_push text b in
    let old : length text - (position_or_len is_point text + 1) ≡ after = sym (after_by_place text) ∙ h.after_point in
    let at_end : length text ≤ position_or_len is_point text = le_from_test _ _ h.found in
    let zero : after ≡ 0 = omega (arith, old, at_end) in
    record {
      allowed = all_more text b h.allowed (ap (λ (t : Bool). t || is_point b) digit);
      points = sum_by_push (λ x. cond (is_point x) 1 0) text b ∙ (let none : ◌≡◌ {A = ℕ} (cond (is_point b) 1 0) 0 = ap {B = ℕ} (λ (t : Bool). cond t 1 0) plain in let were : count_by is_point text ≡ 0 = h.points in omega (arith, none, were));
      found = ap (λ (m : ℕ). nat_lt m (length (text ++ b ∷ []))) place ∙ ap (λ (m : ℕ). nat_lt (length text + 1) m) longer ∙ not_below_self _;
      some = list_any-append is_digit text (b ∷ []) ∙ ap (λ (t : Bool). list_any is_digit text || (t || false)) digit ∙ or_true _;
      after_point = after_by_place (text ++ b ∷ []) ∙ (let none : length (text ++ b ∷ []) - (position_or_len is_point (text ++ b ∷ []) + 1) ≡ after + 0 = omega (arith, place, longer, zero) in none);
      room = (let r : after ≤ length text = h.room in omega (arith, longer, r));
    }
