-- The bytes of a reply (RFC 9112, sections 4 and 6): lines that end in CR LF, an empty line, and the body.
use Rattle.std.specs.Prelude.{◌≡◌, ◌⊎◌, ℕ, Bool, true, false, List, [], ◌∷◌, ◌++◌, length, ◌==◌, if◌then◌else◌, codes, decimal}
use Rattle.std.specs.List.{list_any}
use Rattle.httparse.specs.Ascii.{crlf_bytes}
use Rattle.http_frame.specs.declared.reply.Allow.{Allow}
use Rattle.http_frame.specs.declared.reply.Allow.TheVariants as allow
use Rattle.http_frame.specs.declared.reply.Kind.{Kind}
use Rattle.http_frame.specs.declared.reply.Kind.TheVariants as kind
use Rattle.http_frame.specs.declared.reply.Number.{Number}
use Rattle.http_frame.specs.declared.reply.Number.TheVariants as number
use Rattle.http_frame.specs.declared.reply.Reply.{Reply}

-- the reason phrase of a code (RFC 9110, section 15; RFC 6585; RFC 4918)
abbrev pub reason_of : ℕ → List ℕ
reason_of code =
    if code == 200 then codes "OK"
    else (if code == 201 then codes "Created"
    else (if code == 204 then codes "No Content"
    else (if code == 400 then codes "Bad Request"
    else (if code == 404 then codes "Not Found"
    else (if code == 405 then codes "Method Not Allowed"
    else (if code == 411 then codes "Length Required"
    else (if code == 412 then codes "Precondition Failed"
    else (if code == 413 then codes "Content Too Large"
    else (if code == 422 then codes "Unprocessable Content"
    else (if code == 431 then codes "Request Header Fields Too Large"
    else (if code == 501 then codes "Not Implemented"
    else (if code == 503 then codes "Service Unavailable"
    else (if code == 505 then codes "HTTP Version Not Supported"
    else (if code == 507 then codes "Insufficient Storage"
    else []))))))))))))))

-- the code is one that replies have
abbrev pub is_reply_code : ℕ → Bool
is_reply_code code = list_any (λ known. known == code)
    (200 ∷ 201 ∷ 204 ∷ 400 ∷ 404 ∷ 405 ∷ 411 ∷ 412 ∷ 413 ∷ 422 ∷ 431 ∷ 501 ∷ 503 ∷ 505 ∷ 507 ∷ [])

-- a line and its end
abbrev pub line : List ℕ → List ℕ
line text = text ++ crlf_bytes

-- the version, the code and its reason
abbrev pub status_line : ℕ → List ℕ
status_line code = line (codes "HTTP/1.1 " ++ decimal code ++ codes " " ++ reason_of code)

-- the methods that fit a path of that kind
abbrev pub allow_line : Allow → List ℕ
allow_line allow.Absent = []
allow_line allow.Control = line (codes "Allow: POST")
allow_line allow.Leaf = line (codes "Allow: GET, HEAD, PUT, DELETE")
allow_line allow.Other = line (codes "Allow: GET, HEAD")

-- what the body is
abbrev pub type_line : Kind → List ℕ
type_line kind.Absent = []
type_line kind.Text = line (codes "Content-Type: text/plain")
type_line kind.Fits = line (codes "Content-Type: application/fits")

-- how long the body is; a reply with code 204 has none (RFC 9110, section 8.6)
abbrev pub length_line : ℕ → ℕ → List ℕ
length_line code n = if code == 204 then [] else line (codes "Content-Length: " ++ decimal n)

-- how many edits the state has that the reply is of: those published, or those accepted
abbrev pub number_line : Number → List ℕ
number_line number.Absent = []
number_line (number.Prefix k) = line (codes "Survey-Prefix: " ++ decimal k)
number_line (number.Edits e) = line (codes "Survey-Edits: " ++ decimal e)

-- whether the connection is closed after the reply
abbrev pub close_line : Bool → List ℕ
close_line true = line (codes "Connection: close")
close_line false = []

-- the head of a reply
unfoldable pub reply_head : Reply → List ℕ
reply_head reply = status_line reply.code ++ allow_line reply.allow ++ type_line reply.kind
    ++ length_line reply.code reply.length ++ number_line reply.number ++ close_line reply.close ++ crlf_bytes

-- the head, and the body after it
abbrev pub reply_bytes : Reply → List ℕ → List ℕ
reply_bytes reply body = reply_head reply ++ body

-- the body is empty, as in a reply to HEAD, or as long as the head says
abbrev pub FitsReply : Reply → List ℕ → Type 0
FitsReply reply body = length body ≡ 0 ⊎ length body ≡ reply.length

-- the reply that asks for the body that a client holds back (RFC 9110, section 15.2.1)
abbrev pub continue_bytes : List ℕ
continue_bytes = line (codes "HTTP/1.1 100 Continue") ++ crlf_bytes
