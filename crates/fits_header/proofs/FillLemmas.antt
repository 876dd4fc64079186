-- Texts that are filled with spaces.
use Rattle.std.proofs.Common.{◌≡◌, ℕ, ◌+◌, ◌-◌, ◌≤◌, max, true, ◌&&◌, List, ◌++◌, length, take, drop, replicate, sym, ap, ◌∙◌, arith, append_assoc, length-append}
use Rattle.std.specs.Prelude.{codes, nat_le}
use Rattle.std.specs.List.{list_all}
use Rattle.std.proofs.lemmas.Bool.Decides.{nat_tests}
use Rattle.std.proofs.Math.Seq.{take-append-add, drop-append-add}
use Rattle.std.proofs.lemmas.List.{drop-drop, take-replicate, drop-replicate, append-nil, length-replicate}
use Rattle.std.proofs.lemmas.Bool.{and_parts}
use Rattle.fits_header.specs.WrittenCards.{is_word, is_word_byte, filled, set_right, keyword_columns, value_card}

pub length-filled : (n : ℕ) (xs : List ℕ) → length xs ≤ n → length (filled n xs) ≡ n
length-filled n xs short =
    let a = length-append xs (replicate (n - length xs) 32) in
    let b = length-replicate {A = ℕ} (n - length xs) 32 in
    omega (arith, a, b)

filled-exact : (n : ℕ) (xs : List ℕ) → length xs ≡ n → filled n xs ≡ xs
filled-exact n xs e =
    let none : n - length xs ≡ 0 = omega arith in
    rw none (append-nil xs)

take-filled : (n k : ℕ) (xs : List ℕ) → length xs ≤ k → k ≤ n → take k (filled n xs) ≡ filled k xs
take-filled n k xs short within =
    let split : k ≡ length xs + (k - length xs) = omega arith in
    ap (λ m. take m (filled n xs)) split
    ∙ take-append-add xs (replicate (n - length xs) 32) (k - length xs)
    ∙ ap (λ ys. xs ++ ys) (take-replicate (k - length xs) (n - length xs) 32 (omega arith))

drop-filled : (n k : ℕ) (xs : List ℕ) → length xs ≤ k → drop k (filled n xs) ≡ replicate (n - k) 32
drop-filled n k xs short =
    let split : k ≡ length xs + (k - length xs) = omega arith in
    let left : n - length xs - (k - length xs) ≡ n - k = omega arith in
    ap (λ m. drop m (filled n xs)) split
    ∙ drop-append-add xs (replicate (n - length xs) 32) (k - length xs)
    ∙ drop-replicate (k - length xs) (n - length xs) 32
    ∙ ap (λ m. replicate m 32) left

-- a text that is put over the spaces
pub put-filled : (n start : ℕ) (before text : List ℕ) → length before ≤ start → start + length text ≤ n
    → take start (filled n before) ++ (text ++ drop (start + length text) (filled n before)) ≡ filled n (filled start before ++ text)
put-filled n start before text short within =
    let len : length (filled start before ++ text) ≡ start + length text =
    length-append (filled start before) text ∙ ap (λ m. m + length text) (length-filled start before short) in
    rw (take-filled n start before short (omega arith), drop-filled n (start + length text) before (omega arith))
    (sym (append_assoc (filled start before) text (replicate (n - (start + length text)) 32))
    ∙ ap (λ m. (filled start before ++ text) ++ replicate (n - m) 32) (sym len))

-- ---- value cards

pub length-columns : (keyword : List ℕ) → length keyword ≤ 8 → length (keyword_columns keyword) ≡ 10
unfolding keyword_columns
length-columns keyword short =
    let a = length-append (filled 8 keyword) (codes "= ") in
    let b = length-filled 8 keyword short in
    omega (arith, a, b)

pub fixed-format : (keyword value : List ℕ) → length keyword ≤ 8 → filled 80 (filled (max (30 - length value) 10) (keyword_columns keyword) ++ value) ≡ value_card keyword (set_right 20 value)
unfolding value_card
fixed-format keyword value short =
    let ten = length-columns keyword short in
    let spaces : max (30 - length value) 10 - length (keyword_columns keyword) ≡ 20 - length value = omega (arith, ten) in
    ap (filled 80) (ap (λ m. (keyword_columns keyword ++ replicate m 32) ++ value) spaces
    ∙ append_assoc (keyword_columns keyword) (replicate (20 - length value) 32) value)

pub quoted-text : (keyword v : List ℕ) → length keyword ≤ 8 → length v ≤ 8
    → filled 80 (filled 19 (filled 11 (filled 10 (keyword_columns keyword) ++ codes "'") ++ v) ++ codes "'") ≡ value_card keyword (codes "'" ++ filled 8 v ++ codes "'")
unfolding value_card
quoted-text keyword v short least =
    let head = keyword_columns keyword in
    let ten = length-columns keyword short in
    let eleven : length (head ++ codes "'") ≡ 11 = length-append head (codes "'") ∙ ap (λ m. m + 1) ten in
    let all : length ((head ++ codes "'") ++ v) ≡ 11 + length v = length-append (head ++ codes "'") v ∙ ap (λ m. m + length v) eleven in
    let spaces : 19 - length ((head ++ codes "'") ++ v) ≡ 8 - length v = omega (arith, all) in
    let line : filled 19 (filled 11 (filled 10 head ++ codes "'") ++ v) ≡ ((head ++ codes "'") ++ v) ++ replicate (8 - length v) 32 =
    ap (λ xs. filled 19 (filled 11 (xs ++ codes "'") ++ v)) (filled-exact 10 head ten)
    ∙ ap (λ xs. filled 19 (xs ++ v)) (filled-exact 11 (head ++ codes "'") eleven)
    ∙ ap (λ m. ((head ++ codes "'") ++ v) ++ replicate m 32) spaces in
    ap (filled 80) (ap (λ xs. xs ++ codes "'") line ∙ regroup head (codes "'") v (replicate (8 - length v) 32) (codes "'"))
  where
    regroup : (a b c d e : List ℕ) → (((a ++ b) ++ c) ++ d) ++ e ≡ a ++ ((b ++ (c ++ d)) ++ e)
    regroup a b c d e = simp append_assoc

-- what the code's copy into a card gives
pub put-mid : (start : ℕ) (card text new before : List ℕ) → start + length text ≤ 80 → new ≡ text → length before ≤ start → card ≡ filled 80 before
    → take start card ++ (new ++ drop (start + length text - start) (drop start card)) ≡ filled 80 (filled start before ++ text)
put-mid start card text new before within copied short spaces =
    let len : start + (start + length text - start) ≡ start + length text = omega arith in
    ap (λ ys. take start card ++ (ys ++ drop (start + length text - start) (drop start card))) copied
    ∙ ap (λ ys. take start card ++ (text ++ ys)) (drop-drop (start + length text - start) start card ∙ ap (λ m. drop m card) len)
    ∙ ap (λ c. take start c ++ (text ++ drop (start + length text) c)) spaces
    ∙ put-filled 80 start before text short within

pub length-filled-append : (n : ℕ) (xs ys : List ℕ) → length xs ≤ n → length (filled n xs ++ ys) ≡ n + length ys
length-filled-append n xs ys short = length-append (filled n xs) ys ∙ ap (λ m. m + length ys) (length-filled n xs short)

pub word-short : (text : List ℕ) → is_word text ≡ true → length text ≤ 8
word-short text word =
    let parts = and_parts (nat_le 1 (length text) && nat_le (length text) 8) (list_all is_word_byte text) word in
    let bound = and_parts (nat_le 1 (length text)) (nat_le (length text) 8) parts.0 in
    grind (arith, nat_tests, bound.1)
