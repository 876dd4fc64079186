-- A key and its value as a line, and what is read of the line.
use Rattle.std.proofs.Common.{◌≡◌, ℕ, ◌+◌, ◌-◌, ◌≤◌, Bool, true, false, not, ◌&&◌, ◌||◌, ◌==◌, nat_lt, nat_le, true≢false, List, [], ◌∷◌, ◌++◌, length, drop, map, get_or, codes, refl, sym, ap, ◌∙◌, ap₂, append_assoc, arith, All}
use Rattle.std.specs.List.{AllByRecursion, flat_map, slice_split, list_all, list_any, position_or_len, before_first, after_first}
use Rattle.std.proofs.Math.Seq.{drop-append-add}
use Rattle.std.proofs.lemmas.Bool.{and_parts, or_left, or_right}
use Rattle.std.proofs.lemmas.Bool.Decides.{nat_tests}
use Rattle.std.proofs.lemmas.List.{get_or-append-add, length-append, take_at}
use Rattle.std.proofs.lemmas.List.Elements.{All-from_recursion, recursion_from_All, All-get_or}
use Rattle.std.proofs.lemmas.List.Folds.{list_any-append}
use Rattle.std.proofs.lemmas.List.Splits.{slice_split_at}
use Rattle.std.proofs.lemmas.List.Sums.{AllPass-from_list_all}
use Rattle.survey_conf.specs.Lines.{is_line_feed, without_empty_last, lines, contents, content, is_blank, trimmed, is_skipped, is_equals, key_in, value_in, is_lowercase, is_digit, is_key_byte, is_key, is_value_byte, is_value, has_form}
use Rattle.survey_conf.specs.Properties.{line}
use Rattle.survey_conf.proofs.RoundTripBytes.{IsBare, prefix_len_past, prefix_len_none, prefix_len_kept, suffix_len_kept, suffix_len_none, trimmed_bare, trimmed_before, trimmed_behind}

-- ---- elements of a list

pub all_weaker : {X : Type 0} (P Q : X → Type 0) (xs : List X) → ((x : X) → P x → Q x) → AllByRecursion P xs → AllByRecursion Q xs
all_weaker P Q [] f h = tt
all_weaker P Q (x ∷ xs) f h = (f x h.0, all_weaker P Q xs f h.1)

pub all_append : {X : Type 0} (P : X → Type 0) (xs ys : List X) → AllByRecursion P xs → AllByRecursion P ys → AllByRecursion P (xs ++ ys)
all_append P [] ys f g = g
all_append P (x ∷ xs) ys f g = (f.0, all_append P xs ys f.1 g)

pub all_pass : {X : Type 0} (p : X → Bool) (xs : List X) → list_all p xs ≡ true → AllByRecursion (λ x. p x ≡ true) xs
all_pass p xs h = recursion_from_All (λ x. p x ≡ true) xs (AllPass-from_list_all p xs h)

-- ---- bytes

pub record IsPlainByte (b : ℕ) : Type 0 where
  pub no_line_feed : is_line_feed b ≡ false
  pub no_return : (b == 13) ≡ false
  pub no_blank : is_blank b ≡ false
  pub no_equals : is_equals b ≡ false

key_byte : (b : ℕ) → is_key_byte b ≡ true → IsPlainByte b
key_byte b h = record {
  no_line_feed = grind (arith, nat_tests);
  no_return = grind (arith, nat_tests);
  no_blank = grind (arith, nat_tests);
  no_equals = grind (arith, nat_tests);
}

first_letter : (b : ℕ) → is_lowercase b ≡ true → (b == 35) ≡ false
first_letter b h = grind (arith, nat_tests)

drop_at_next : (xs : List ℕ) (y : ℕ) (ys : List ℕ) (n : ℕ) → n ≡ length xs + 1 → drop n (xs ++ y ∷ ys) ≡ ys
drop_at_next xs y ys n e = rw e (drop-append-add xs (y ∷ ys) 1)

-- the bytes of a key
pub key_bytes : (key : List ℕ) → is_key key ≡ true → AllByRecursion IsPlainByte key
unfolding is_key
key_bytes [] h = tt
key_bytes (b ∷ bytes) h =
    let parts = and_parts (is_lowercase b && list_all is_key_byte bytes) (nat_lt (length bytes) 64) h in
    let both = and_parts (is_lowercase b) (list_all is_key_byte bytes) parts.0 in (
      key_byte b (or_left (is_lowercase b || is_digit b) (b == 95) (or_left (is_lowercase b) (is_digit b) both.0)),
      all_weaker (λ x. is_key_byte x ≡ true) IsPlainByte bytes key_byte (all_pass is_key_byte bytes both.1),
    )

-- the first byte of a key begins no comment
key_first : (b : ℕ) (bytes : List ℕ) → is_key (b ∷ bytes) ≡ true → (b == 35) ≡ false
unfolding is_key
key_first b bytes h =
    let parts = and_parts (is_lowercase b && list_all is_key_byte bytes) (nat_lt (length bytes) 64) h in
    let both = and_parts (is_lowercase b) (list_all is_key_byte bytes) parts.0 in
    first_letter b both.0

key_some : (key : List ℕ) → is_key key ≡ true → 1 ≤ length key
unfolding is_key
key_some [] h = absurd (true≢false (sym h))
key_some (b ∷ bytes) h = omega arith

pub record IsValueByte (b : ℕ) : Type 0 where
  pub no_line_feed : is_line_feed b ≡ false
  pub no_return : (b == 13) ≡ false

value_byte : (b : ℕ) → is_value_byte b ≡ true → IsValueByte b
value_byte b h = record { no_line_feed = grind (arith, nat_tests); no_return = grind (arith, nat_tests) }

value_bytes : (value : List ℕ) → is_value value ≡ true → AllByRecursion IsValueByte value
unfolding is_value
value_bytes value h =
    let parts = and_parts (nat_le 1 (length value) && nat_le (length value) 1024) (list_all is_value_byte value) h in
    all_weaker (λ x. is_value_byte x ≡ true) IsValueByte value value_byte (all_pass is_value_byte value parts.1)

-- ---- a line

-- a key, and a value with no blank at its ends
pub record IsPair (p : List ℕ × List ℕ) : Type 0 where
  pub key : is_key p.0 ≡ true
  pub value : is_value p.1 ≡ true
  pub bare : IsBare p.1

pub written : List ℕ × List ℕ → List ℕ
written p = p.0 ++ codes " = " ++ p.1

no_plain_blanks : (bytes : List ℕ) → 1 ≤ length bytes → AllByRecursion IsPlainByte bytes → IsBare bytes
no_plain_blanks [] some h = absurd (omega arith)
no_plain_blanks (b ∷ bytes) some h = record {
  some = some;
  front = prefix_len_none is_blank b bytes h.0.no_blank;
  back = suffix_len_none is_blank (b ∷ bytes) (all_weaker IsPlainByte (λ x. is_blank x ≡ false) (b ∷ bytes) (λ x g. g.no_blank) h);
}

pub bare_key : (key : List ℕ) → is_key key ≡ true → IsBare key
bare_key key h = no_plain_blanks key (key_some key h) (key_bytes key h)

bare_line : (p : List ℕ × List ℕ) → IsPair p → IsBare (written p)
unfolding written
bare_line p h =
    let key = bare_key p.0 h.key in
    record {
      some = (let long = key.some in omega (arith, length-append (p.0 ++ codes " = ") p.1, length-append p.0 (codes " = ")));
      front = rw (append_assoc p.0 (codes " = ") p.1) (prefix_len_kept is_blank p.0 (codes " = " ++ p.1) key.some key.front);
      back = suffix_len_kept is_blank (p.0 ++ codes " = ") p.1 h.bare.some h.bare.back;
    }

last_byte : (p : List ℕ × List ℕ) → IsPair p → (get_or (written p) (length (written p) - 1) 0 == 13) ≡ false
unfolding written
last_byte p h =
    let front : List ℕ = p.0 ++ codes " = " in
    let n : length (front ++ p.1) - 1 ≡ length front + (length p.1 - 1) = (let long = h.bare.some in omega (arith, length-append front p.1)) in
    let at : get_or (front ++ p.1) (length front + (length p.1 - 1)) 0 ≡ get_or p.1 (length p.1 - 1) 0 = get_or-append-add front p.1 (length p.1 - 1) 0 in
    let all : All IsValueByte p.1 = All-from_recursion IsValueByte p.1 (value_bytes p.1 h.value) in
    let byte : IsValueByte (get_or p.1 (length p.1 - 1) 0) = All-get_or IsValueByte p.1 (length p.1 - 1) 0 (let long = h.bare.some in omega arith) all in
    rw (n, at) byte.no_return

content_written : (p : List ℕ × List ℕ) → IsPair p → content (written p) ≡ written p
unfolding content
content_written p h = rw (last_byte p h) (trimmed_bare (written p) (bare_line p h))

-- ---- what is read of it

skipped_first : (key rest : List ℕ) → is_key key ≡ true → is_skipped (key ++ rest) ≡ false
skipped_first [] rest h = absurd (omega (arith, key_some [] h))
skipped_first (b ∷ bytes) rest h = key_first b bytes h

pub not_skipped : (p : List ℕ × List ℕ) → IsPair p → is_skipped (written p) ≡ false
unfolding written
not_skipped p h = rw (append_assoc p.0 (codes " = ") p.1) (skipped_first p.0 (codes " = " ++ p.1) h.key)

-- the first `=` stands behind the key and a blank
equals_at : (p : List ℕ × List ℕ) → IsPair p → position_or_len is_equals (written p) ≡ length p.0 + 1
unfolding written
equals_at p h =
    rw (append_assoc p.0 (codes " = ") p.1)
    (prefix_len_past (λ b. not (is_equals b)) p.0 (codes " = " ++ p.1)
    (all_weaker IsPlainByte (λ b. not (is_equals b) ≡ true) p.0 (λ b g. rw g.no_equals refl) (key_bytes p.0 h.key)))

front_of : (p : List ℕ × List ℕ) → written p ≡ (p.0 ++ 32 ∷ []) ++ (61 ∷ 32 ∷ p.1)
unfolding written
front_of p = rw (append_assoc p.0 (codes " = ") p.1, append_assoc p.0 (32 ∷ []) (61 ∷ 32 ∷ p.1)) refl

pub key_read : (p : List ℕ × List ℕ) → IsPair p → key_in (written p) ≡ p.0
key_read p h =
    let before : before_first is_equals (written p) ≡ p.0 ++ 32 ∷ [] = rw (equals_at p h, front_of p) (take_at (p.0 ++ 32 ∷ []) (61 ∷ 32 ∷ p.1) (length p.0 + 1) (length-append p.0 (32 ∷ []))) in
    ap trimmed before ∙ trimmed_behind p.0 (bare_key p.0 h.key)

pub value_read : (p : List ℕ × List ℕ) → IsPair p → value_in (written p) ≡ p.1
value_read p h =
    let after : after_first is_equals (written p) ≡ 32 ∷ p.1 =
    rw (equals_at p h, front_of p) (drop_at_next (p.0 ++ 32 ∷ []) 61 (32 ∷ p.1) (length p.0 + 1 + 1) (omega (arith, length-append p.0 (32 ∷ [])))) in
    ap trimmed after ∙ trimmed_before p.1 h.bare

has_equals : (p : List ℕ × List ℕ) → list_any is_equals (written p) ≡ true
has_equals p =
    rw (front_of p, list_any-append is_equals (p.0 ++ 32 ∷ []) (61 ∷ 32 ∷ p.1))
    (or_right (list_any is_equals (p.0 ++ 32 ∷ [])) true refl)

pub form_read : (p : List ℕ × List ℕ) → IsPair p → has_form (written p) ≡ true
form_read p h = rw (key_read p h, value_read p h, has_equals p, h.key, h.value) refl

-- ---- the lines of the text

no_line_feeds : (p : List ℕ × List ℕ) → IsPair p → AllByRecursion (λ b. is_line_feed b ≡ false) (written p)
unfolding written
no_line_feeds p h =
    all_append (λ b. is_line_feed b ≡ false) (p.0 ++ codes " = ") p.1
    (all_append (λ b. is_line_feed b ≡ false) p.0 (codes " = ")
    (all_weaker IsPlainByte (λ b. is_line_feed b ≡ false) p.0 (λ b g. g.no_line_feed) (key_bytes p.0 h.key))
    (refl, (refl, (refl, tt))))
    (all_weaker IsValueByte (λ b. is_line_feed b ≡ false) p.1 (λ b g. g.no_line_feed) (value_bytes p.1 h.value))

one_line : (p : List ℕ × List ℕ) (rest : List ℕ) → IsPair p → slice_split is_line_feed (line p ++ rest) ≡ written p ∷ slice_split is_line_feed rest
unfolding written
one_line p rest h =
    rw (append_assoc (p.0 ++ codes " = " ++ p.1) (10 ∷ []) rest)
    (slice_split_at is_line_feed (written p) 10 rest (All-from_recursion (λ b. is_line_feed b ≡ false) (written p) (no_line_feeds p h)) refl)

parts_of : (pairs : List (List ℕ × List ℕ)) → AllByRecursion IsPair pairs → slice_split is_line_feed (flat_map line pairs) ≡ map written pairs ++ [] ∷ []
parts_of [] h = refl
parts_of (p ∷ pairs) h = one_line p (flat_map line pairs) h.0 ∙ ap (λ (parts : List (List ℕ)). written p ∷ parts) (parts_of pairs h.1)

last_dropped : (parts : List (List ℕ)) → without_empty_last (parts ++ [] ∷ []) ≡ parts
last_dropped [] = refl
last_dropped (part ∷ []) = refl
last_dropped (part ∷ next ∷ parts) = ap (λ (rest : List (List ℕ)). part ∷ rest) (last_dropped (next ∷ parts))

lines_of : (pairs : List (List ℕ × List ℕ)) → AllByRecursion IsPair pairs → lines (flat_map line pairs) ≡ map written pairs
unfolding lines
lines_of pairs h = ap without_empty_last (parts_of pairs h) ∙ last_dropped (map written pairs)

each_content : (pairs : List (List ℕ × List ℕ)) → AllByRecursion IsPair pairs → map content (map written pairs) ≡ map written pairs
each_content [] h = refl
each_content (p ∷ pairs) h = ap₂ (λ (w : List ℕ) (ws : List (List ℕ)). w ∷ ws) (content_written p h.0) (each_content pairs h.1)

-- each pair is a line of its own
pub contents_of : (pairs : List (List ℕ × List ℕ)) → AllByRecursion IsPair pairs → contents (flat_map line pairs) ≡ map written pairs
contents_of pairs h = ap (map content) (lines_of pairs h) ∙ each_content pairs h
