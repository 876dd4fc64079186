-- When a reply is well-formed, is cut, or is neither, by the unread bytes that it comes first in (RFC 9112, sections 4 and
-- 6). Which code, version and fields are asked for is this project's profile.
use Rattle.std.specs.Prelude.{◌≡◌, ◌⊎◌, ℕ, ◌<◌, ◌≤◌, ◌^◌, ◌&&◌, nat_lt, nat_le, if◌then◌else◌, List, [], ◌∷◌, ◌++◌, length, take, drop, map, codes, decimal, Option, Some, None, IfSome, IsSome, ⊤}
use Rattle.std.specs.Option.{option_and_then}
use Rattle.std.specs.Str.Parse.{digits_value}
use Rattle.decimal_scale.specs.Whole.{plain_value}
use Rattle.httparse.specs.Grammar.{ResponseHead, ReadsResponse, status_code}
use Rattle.httparse.specs.Spans.{name_and_value}
use Rattle.http_frame.specs.Fields.{NamedValue, values}
use Rattle.http_frame.specs.Refusal.{is_digits, most_fields}
use Rattle.http_frame.specs.Next.{IsHeadLength, HasNoHead, most_head}
use Rattle.mirror_frame.specs.declared.due.Due.{Due}
use Rattle.mirror_frame.specs.declared.due.Due.TheVariants.{Pinned, Survey, Any}

-- ---- what a head says

-- the greatest length of a body
abbrev pub most_body : ℕ
most_body = 67108864

-- the length that the value of a Content-Length field states: 1 to 8 digits
abbrev pub length_in : List ℕ → Option ℕ
length_in value = if is_digits value && nat_le (length value) 8 && nat_le (digits_value 10 value) most_body then Some (digits_value 10 value) else None

-- the value of a Survey-Prefix field as the number of edits that are published
abbrev pub prefix_in : List ℕ → Option ℕ
prefix_in value = option_and_then (λ k. if nat_lt k (2 ^ 32) then Some k else None) (plain_value value)

-- what the one value says; nothing if there is none, or more than one
abbrev pub of_one : (List ℕ → Option ℕ) → List (List ℕ) → Option ℕ
of_one read [] = None
of_one read (value ∷ []) = read value
of_one read (_ ∷ _ ∷ _) = None

abbrev pub stated_length : List NamedValue → Option ℕ
stated_length fields = of_one length_in (values (codes "content-length") fields)

abbrev pub stated_prefix : List NamedValue → Option ℕ
stated_prefix fields = of_one prefix_in (values (codes "survey-prefix") fields)

-- the names and the values of the head's fields
abbrev pub fields_of : ResponseHead → List NamedValue
fields_of head = map name_and_value head.fields

-- the text is exactly one head, of a reply that went well, with a body of that length and that Survey-Prefix
pub record SaysReply (text : List ℕ) (body_length : ℕ) (prefix : Option ℕ) : Type 0 where
  pub head : ResponseHead
  pub reads : ReadsResponse text head []
  pub few : length head.fields ≤ most_fields
  pub version : head.minor ≡ 1
  pub code : status_code head ≡ 200
  pub length_is : stated_length (fields_of head) ≡ Some body_length
  pub prefix_is : stated_prefix (fields_of head) ≡ prefix

-- ---- what it must say

-- the body of the reply to a pin
abbrev pub pinned_line : ℕ → List ℕ
pinned_line k = codes "pinned " ++ decimal k ++ 10 ∷ []

-- a reply to a pin has some Survey-Prefix, each later one but the last has the one that was pinned
abbrev pub FitsPrefix : Due → Option ℕ → Type 0
FitsPrefix Pinned prefix = IsSome prefix
FitsPrefix (Survey k) prefix = prefix ≡ Some k
FitsPrefix Any prefix = ⊤

-- the body of a reply to a pin gives the same number
abbrev pub FitsBody : Due → Option ℕ → List ℕ → Type 0
FitsBody Pinned prefix body = IfSome prefix (λ k. body ≡ pinned_line k)
FitsBody (Survey k) prefix body = ⊤
FitsBody Any prefix body = ⊤

-- the head of the reply is the first n bytes, and is well-formed
pub record BeginsReply (due : Due) (unread : List ℕ) (n body_length : ℕ) (prefix : Option ℕ) : Type 0 where
  pub ends : IsHeadLength unread n
  pub says : SaysReply (take n unread) body_length prefix
  pub fits : FitsPrefix due prefix

-- a well-formed reply comes first, with this body, and the rest follows it
pub record IsReply (due : Due) (unread body rest : List ℕ) : Type 0 where
  pub head_length : ℕ
  pub prefix : Option ℕ
  pub begins : BeginsReply due unread head_length (length body) prefix
  pub told : FitsBody due prefix body
  pub rest_is : drop head_length unread ≡ body ++ rest

-- the head is well-formed, and less than its body follows it
pub record IsCutInBody (due : Due) (unread : List ℕ) : Type 0 where
  pub head_length : ℕ
  pub body_length : ℕ
  pub prefix : Option ℕ
  pub begins : BeginsReply due unread head_length body_length prefix
  pub short : length (drop head_length unread) < body_length

-- the input ends within the head, or the head is well-formed and the input ends within the body
abbrev pub IsCutReply : Due → List ℕ → Type 0
IsCutReply due unread = ((length unread < most_head) × HasNoHead unread) ⊎ IsCutInBody due unread

-- the body is there whole and isn't what the reply to a pin has
pub record IsWrongBody (due : Due) (unread : List ℕ) : Type 0 where
  pub head_length : ℕ
  pub body_length : ℕ
  pub prefix : Option ℕ
  pub begins : BeginsReply due unread head_length body_length prefix
  pub whole : body_length ≤ length (drop head_length unread)
  pub wrong : ¬ FitsBody due prefix (take body_length (drop head_length unread))

-- the reply is malformed, however the input goes on: no head ends where it may at most, or the head is malformed, or the body
abbrev pub IsWrongReply : Due → List ℕ → Type 0
IsWrongReply due unread =
    (HasNoHead unread × (most_head ≤ length unread))
    ⊎ ((n : ℕ) × IsHeadLength unread n × ((body_length : ℕ) (prefix : Option ℕ) → ¬ BeginsReply due unread n body_length prefix))
    ⊎ IsWrongBody due unread
