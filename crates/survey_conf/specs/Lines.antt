-- The lines of a description, and what is written in one: this project's profile of the records `key = value` of a
-- properties file (HiPS 1.0, section 4.4.1). Bytes: 9 a tab, 10 a line feed, 13 a carriage return, 32 a space, 35 `#`,
-- 61 `=`, 95 `_`.
use Rattle.std.specs.Prelude.{ℕ, ◌-◌, Bool, true, false, not, ◌&&◌, ◌||◌, ◌==◌, nat_le, nat_lt, if◌then◌else◌, List, [], ◌∷◌, length, map, take, drop}
use Rattle.std.specs.List.{slice_split, before_first, after_first, prefix_len, suffix_len, list_any, list_all}
use Rattle.std.specs.Str.Lines.{strip_carriage_return}

abbrev pub is_line_feed : ℕ → Bool
is_line_feed b = b == 10

-- of the parts between line feeds, each but an empty last one
abbrev pub without_empty_last : List (List ℕ) → List (List ℕ)
without_empty_last [] = []
without_empty_last (part ∷ []) = if length part == 0 then [] else part ∷ []
without_empty_last (part ∷ next ∷ parts) = part ∷ without_empty_last (next ∷ parts)

-- the lines of a text: its parts between line feeds, where nothing after the last line feed is no line
unfoldable pub lines : List ℕ → List (List ℕ)
lines text = without_empty_last (slice_split is_line_feed text)

-- spaces and tabs
abbrev pub is_blank : ℕ → Bool
is_blank b = b == 32 || b == 9

-- the bytes without the spaces and tabs at both ends
abbrev pub without_leading_blanks : List ℕ → List ℕ
without_leading_blanks bytes = drop (prefix_len is_blank bytes) bytes

abbrev pub without_trailing_blanks : List ℕ → List ℕ
without_trailing_blanks bytes = take (length bytes - suffix_len is_blank bytes) bytes

unfoldable pub trimmed : List ℕ → List ℕ
trimmed bytes = without_trailing_blanks (without_leading_blanks bytes)

-- what is written in a line: the line without one carriage return at its end, trimmed
unfoldable pub content : List ℕ → List ℕ
content line = trimmed (strip_carriage_return line)

-- what is written in each line of a text
abbrev pub contents : List ℕ → List (List ℕ)
contents text = map content (lines text)

-- an empty line and a comment are skipped
abbrev pub is_skipped : List ℕ → Bool
is_skipped [] = true
is_skipped (b ∷ bytes) = b == 35

abbrev pub is_equals : ℕ → Bool
is_equals b = b == 61

-- the key stands before the first `=`, and the value after it
abbrev pub key_in : List ℕ → List ℕ
key_in written = trimmed (before_first is_equals written)

abbrev pub value_in : List ℕ → List ℕ
value_in written = trimmed (after_first is_equals written)

abbrev pub is_lowercase : ℕ → Bool
is_lowercase b = nat_le 97 b && nat_le b 122

abbrev pub is_digit : ℕ → Bool
is_digit b = nat_le 48 b && nat_le b 57

-- a key is 1 to 64 lowercase letters, digits and `_`, the first a letter
abbrev pub is_key_byte : ℕ → Bool
is_key_byte b = is_lowercase b || is_digit b || b == 95

unfoldable pub is_key : List ℕ → Bool
is_key [] = false
is_key (b ∷ bytes) = is_lowercase b && list_all is_key_byte bytes && nat_lt (length bytes) 64

-- a value has 1 to 1,024 bytes and no control character of ASCII
abbrev pub is_value_byte : ℕ → Bool
is_value_byte b = nat_le 32 b && not (b == 127)

unfoldable pub is_value : List ℕ → Bool
is_value bytes = nat_le 1 (length bytes) && nat_le (length bytes) 1024 && list_all is_value_byte bytes

-- what is written has a key, an `=` and a value
abbrev pub has_form : List ℕ → Bool
has_form written = list_any is_equals written && is_key (key_in written) && is_value (value_in written)
