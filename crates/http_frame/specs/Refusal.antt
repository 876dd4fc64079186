-- Which heads are refused, and by which status code (RFC 9110, section 15; RFC 9112, sections 3.2 and 6; RFC 6585).
use Rattle.std.specs.Prelude.{◌≡◌, ℕ, ◌-◌, ◌≤◌, ◌⊎◌, Bool, true, false, not, ◌&&◌, ◌||◌, ◌==◌, nat_eq, nat_lt, List, [], ◌∷◌, length, drop, Option, Some, None, slice_index, if◌then◌else◌, codes}
use Rattle.std.specs.List.{list_all, list_any, starts_with}
use Rattle.std.specs.Char.{is_ascii_digit}
use Rattle.httparse.specs.Ascii.{carriage_return, line_feed}
use Rattle.httparse.specs.declared.spans.HeaderSpan.{HeaderSpan}
use Rattle.httparse.specs.declared.spans.RequestSpans.{RequestSpans}
use Rattle.httparse.specs.Grammar.{RequestHead, ReadsRequest}
use Rattle.httparse.specs.Spans.{IsRequestAt}
use Rattle.http_frame.specs.Fields.{NamedValue, values, has_field}
use Rattle.http_frame.specs.declared.request.Method.{Method}
use Rattle.http_frame.specs.declared.request.Method.TheVariants.{Get, Head, Put, Delete, Post, Other}
use Rattle.http_frame.specs.declared.request.Request.{Request}
use Rattle.http_frame.specs.Request.{body_length, fields_of, method_of, request_of}

-- the bytes before the first CR LF, all where there is none
abbrev pub first_line : List ℕ → List ℕ
first_line [] = []
first_line (b ∷ []) = b ∷ []
first_line (b ∷ c ∷ rest) = if b == carriage_return && c == line_feed then [] else b ∷ first_line (c ∷ rest)

-- the text is a space, `HTTP/`, a digit, `.` and a digit
abbrev pub is_version : List ℕ → Bool
is_version text = length text == 9 && starts_with nat_eq text (codes " HTTP/") && is_ascii_digit (slice_index text 6)
    && slice_index text 7 == 46 && is_ascii_digit (slice_index text 8)

-- 1.0 or 1.1
abbrev pub is_known_version : List ℕ → Bool
is_known_version text = slice_index text 6 == 49 && (slice_index text 8 == 48 || slice_index text 8 == 49)

-- the line ends in a version that is neither 1.0 nor 1.1
abbrev pub ends_in_other_version : List ℕ → Bool
ends_in_other_version line = is_version (drop (length line - 9) line) && not (is_known_version (drop (length line - 9) line))

-- the first line of the head names another version
abbrev pub names_other_version : List ℕ → Bool
names_other_version head = ends_in_other_version (first_line head)

-- the greatest number of fields
abbrev pub most_fields : ℕ
most_fields = 64

-- the text is exactly this head, which has at most 64 fields
pub record IsOneHead (text : List ℕ) (head : RequestHead) : Type 0 where
  pub reads : ReadsRequest text head []
  pub fields : length head.fields ≤ most_fields

-- the text is exactly one head, and these are the places of its parts
pub record IsParsed (text : List ℕ) (spans : List HeaderSpan) (parts : RequestSpans) : Type 0 where
  pub head : RequestHead
  pub one : IsOneHead text head
  pub at : IsRequestAt text spans parts head

-- the text is one or more digits
abbrev pub is_digits : List ℕ → Bool
is_digits text = nat_lt 0 (length text) && list_all is_ascii_digit text

-- there is no Host field in version 1.1, or more than one
abbrev pub has_wrong_hosts : ℕ → List NamedValue → Bool
has_wrong_hosts minor fields = ((minor == 1) && not (has_field (codes "host") fields)) || nat_lt 1 (length (values (codes "host") fields))

-- there are two Content-Length fields, or one that isn't digits
abbrev pub has_wrong_length : List NamedValue → Bool
has_wrong_length fields = nat_lt 1 (length (values (codes "content-length") fields))
    || list_any (λ value. not (is_digits value)) (values (codes "content-length") fields)

abbrev pub is_put : Method → Bool
is_put Put = true
is_put Get = false
is_put Head = false
is_put Delete = false
is_put Post = false
is_put Other = false

-- it is a PUT that has no Content-Length field
abbrev pub lacks_length : Method → List NamedValue → Bool
lacks_length method fields = is_put method && not (has_field (codes "content-length") fields)

-- why a head of the grammar is refused, where a body may have that many bytes
abbrev pub framing_refusal : ℕ → Method → ℕ → List NamedValue → Option ℕ
framing_refusal room method minor fields =
    if has_wrong_hosts minor fields || has_wrong_length fields then Some 400
    else (if has_field (codes "transfer-encoding") fields then Some 501
    else (if lacks_length method fields then Some 411
    else (if nat_lt room (body_length fields) then Some 413
    else None)))

abbrev pub refusal_of : ℕ → RequestHead → Option ℕ
refusal_of room head = framing_refusal room (method_of head.method) head.minor (fields_of head)

-- the text of a head is refused by this code
abbrev pub IsRefused : ℕ → List ℕ → ℕ → Type 0
IsRefused room text code =
    ((names_other_version text ≡ true) × (code ≡ 505))
    ⊎ ((names_other_version text ≡ false) × ((head : RequestHead) → ¬ IsOneHead text head) × (code ≡ 400))
    ⊎ ((names_other_version text ≡ false) × (head : RequestHead) × IsOneHead text head × (refusal_of room head ≡ Some code))

-- the text is this head, and no reason to refuse it applies
pub record IsAccepted (room : ℕ) (text : List ℕ) (head : RequestHead) : Type 0 where
  pub version : names_other_version text ≡ false
  pub one : IsOneHead text head
  pub framed : refusal_of room head ≡ None

-- the text is an accepted head, which asks for this with that target
pub record IsReadAs (room : ℕ) (text : List ℕ) (request : Request) (target : List ℕ) : Type 0 where
  pub head : RequestHead
  pub accepted : IsAccepted room text head
  pub request_is : request ≡ request_of head
  pub target_is : target ≡ head.target
