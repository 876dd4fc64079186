-- What a head asks for (RFC 9110, sections 7.6.1, 8.6, 9, 10.1.1, 13.1; RFC 9112, section 9.3).
use Rattle.std.specs.Prelude.{ℕ, Bool, ◌||◌, ◌&&◌, ◌==◌, nat_lt, List, [], ◌∷◌, map, if◌then◌else◌, codes}
use Rattle.std.specs.List.{list_any, list_all}
use Rattle.std.specs.Str.{bytes_eq}
use Rattle.std.specs.Str.Parse.{digits_value}
use Rattle.httparse.specs.Grammar.{RequestHead}
use Rattle.httparse.specs.Spans.{name_and_value}
use Rattle.http_frame.specs.Fields.{NamedValue, same_text, values, has_item}
use Rattle.http_frame.specs.declared.request.Method.{Method}
use Rattle.http_frame.specs.declared.request.Method.TheVariants.{Get, Head, Put, Delete, Post, Other}
use Rattle.http_frame.specs.declared.request.Tags.{Tags}
use Rattle.http_frame.specs.declared.request.Tags.TheVariants.{Absent, Any, Listed}
use Rattle.http_frame.specs.declared.request.Request.{Request}

-- the method of that name, in this case
abbrev pub method_of : List ℕ → Method
method_of name =
    if bytes_eq name (codes "GET") then Get
    else (if bytes_eq name (codes "HEAD") then Head
    else (if bytes_eq name (codes "PUT") then Put
    else (if bytes_eq name (codes "DELETE") then Delete
    else (if bytes_eq name (codes "POST") then Post
    else Other))))

-- the number that the first of the values writes, 0 where there is none
abbrev pub first_number : List (List ℕ) → ℕ
first_number [] = 0
first_number (value ∷ rest) = digits_value 10 value

-- the length of the body
abbrev pub body_length : List NamedValue → ℕ
body_length fields = first_number (values (codes "content-length") fields)

-- the connection must be closed after the reply
abbrev pub asks_to_close : ℕ → List NamedValue → Bool
asks_to_close minor fields = (minor == 0) || list_any (has_item (codes "close")) (values (codes "connection") fields)

-- the client waits for `100 Continue` before it sends the body
abbrev pub expects_continue : ℕ → List NamedValue → Bool
expects_continue minor fields = (minor == 1) && nat_lt 0 (body_length fields)
    && list_any (λ value. same_text value (codes "100-continue")) (values (codes "expect") fields)

-- the value is `*`
abbrev pub is_star : List ℕ → Bool
is_star value = bytes_eq value (codes "*")

-- which tags the values list: none, any, or some
abbrev pub tags_of : List (List ℕ) → Tags
tags_of [] = Absent
tags_of (value ∷ rest) = if list_all is_star (value ∷ rest) then Any else Listed

-- the names and the values of the head's fields
abbrev pub fields_of : RequestHead → List NamedValue
fields_of head = map name_and_value head.fields

-- what a head with this method, minor version and fields asks for
abbrev pub asked_of : Method → ℕ → List NamedValue → Request
asked_of method minor fields = record {
  method = method;
  length = body_length fields;
  close = asks_to_close minor fields;
  expects = expects_continue minor fields;
  if_match = tags_of (values (codes "if-match") fields);
  if_none_any = list_any is_star (values (codes "if-none-match") fields);
}

-- what the head asks for
abbrev pub request_of : RequestHead → Request
request_of head = asked_of (method_of head.method) head.minor (fields_of head)
