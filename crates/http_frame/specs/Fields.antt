-- The fields of a head (RFC 9110, section 5): pairs of a name, whose case doesn't count, and a value without the blanks
-- around it.
use Rattle.std.specs.Prelude.{ℕ, Bool, List, map, filter, length, nat_lt, ◌==◌}
use Rattle.std.specs.List.{list_any, slice_split}
use Rattle.std.specs.Char.{to_ascii_lowercase}
use Rattle.std.specs.Str.{bytes_eq}
use Rattle.httparse.specs.Ascii.{comma}
use Rattle.httparse.specs.Grammar.{trim_ows}

-- a name and a value
abbrev pub NamedValue : Type 0
NamedValue = List ℕ × List ℕ

-- the texts differ at most by the case of ASCII letters
abbrev pub same_text : List ℕ → List ℕ → Bool
same_text a b = bytes_eq (map to_ascii_lowercase a) (map to_ascii_lowercase b)

-- the values of the fields with that name, in order
abbrev pub values : List ℕ → List NamedValue → List (List ℕ)
values name fields = map (λ f. f.1) (filter (λ f. same_text f.0 name) fields)

-- some field has that name
abbrev pub has_field : List ℕ → List NamedValue → Bool
has_field name fields = nat_lt 0 (length (values name fields))

-- between its commas the value has this item, with or without blanks around it (RFC 9110, section 5.6.1)
abbrev pub has_item : List ℕ → List ℕ → Bool
has_item item value = list_any (λ part. same_text (trim_ows part) item) (slice_split (λ byte. byte == comma) value)
