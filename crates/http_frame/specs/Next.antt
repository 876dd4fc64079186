-- The next request in the unread bytes of a connection: `next head` of the whole of them, and then its body.
use Rattle.std.specs.Prelude.{◌≡◌, ℕ, ◌-◌, ◌<◌, ◌≤◌, ◌⊎◌, List, [], ◌∷◌, ◌++◌, length, take, drop, Option}
use Rattle.memchr.specs.Find.{OccursAt, Nowhere}
use Rattle.httparse.specs.Ascii.{carriage_return, line_feed}
use Rattle.http_frame.specs.Target.{path_of}
use Rattle.http_frame.specs.Refusal.{IsRefused, IsReadAs}
use Rattle.http_frame.specs.declared.request.Request.{Request}

-- the end of the last field line, and an empty line
abbrev pub head_end : List ℕ
head_end = carriage_return ∷ line_feed ∷ carriage_return ∷ line_feed ∷ []

-- the greatest length of a head
abbrev pub most_head : ℕ
most_head = 8192

-- the head is the first n bytes: the first CR LF CR LF ends there, within the first 8,192 bytes
pub record IsHeadLength (unread : List ℕ) (n : ℕ) : Type 0 where
  pub least : 4 ≤ n
  pub most : n ≤ most_head
  pub ends : OccursAt unread head_end (n - 4)
  pub first : Nowhere (OccursAt unread head_end) 0 (n - 4)

-- no CR LF CR LF ends within the first 8,192 bytes
abbrev pub HasNoHead : List ℕ → Type 0
HasNoHead unread = Nowhere (OccursAt unread head_end) 0 (most_head - 3)

-- what comes next in the unread bytes
pub data NextHead : Type 0 where
  ended : NextHead
  cut_off : NextHead
  refused : ℕ → NextHead
  found : Request → Option (List ℕ) → List ℕ → NextHead

-- the text is an accepted head, which asks for this with that path
pub record IsTaken (room : ℕ) (text : List ℕ) (request : Request) (path : Option (List ℕ)) : Type 0 where
  pub target : List ℕ
  pub read : IsReadAs room text request target
  pub path_is : path ≡ path_of target

-- an accepted head comes first, which asks for this with that path, and the rest follows it
pub record IsFound (room : ℕ) (unread : List ℕ) (request : Request) (path : Option (List ℕ)) (rest : List ℕ) : Type 0 where
  pub head_length : ℕ
  pub ends : IsHeadLength unread head_length
  pub taken : IsTaken room (take head_length unread) request path
  pub rest_is : rest ≡ drop head_length unread

-- the input ends within a head
pub record IsCut (unread : List ℕ) : Type 0 where
  pub some : 0 < length unread
  pub short : length unread < most_head
  pub none : HasNoHead unread

-- the next head is refused by this code: 431 where it doesn't end
abbrev pub IsRefusedNext : ℕ → List ℕ → ℕ → Type 0
IsRefusedNext room unread code =
    (HasNoHead unread × (most_head ≤ length unread) × (code ≡ 431))
    ⊎ ((n : ℕ) × IsHeadLength unread n × IsRefused room (take n unread) code)

-- this comes next, if a body may have that many bytes
abbrev pub IsNextHead : ℕ → List ℕ → NextHead → Type 0
IsNextHead room unread ended = unread ≡ []
IsNextHead room unread cut_off = IsCut unread
IsNextHead room unread (refused code) = IsRefusedNext room unread code
IsNextHead room unread (found request path rest) = IsFound room unread request path rest

-- more bytes are needed to decide what comes next
pub record NeedsMore (held : List ℕ) : Type 0 where
  pub short : length held < most_head
  pub none : HasNoHead held

-- what comes next with its body: a whole request has its body after its head
pub data Next : Type 0 where
  no_request : Next
  cut_request : Next
  refused_request : ℕ → Next
  whole_request : Request → Option (List ℕ) → List ℕ → List ℕ → Next

-- the head of the request, and after it exactly its body and the rest
pub record IsWhole (room : ℕ) (unread : List ℕ) (asked : Request) (path : Option (List ℕ)) (body rest : List ℕ) : Type 0 where
  pub after : List ℕ
  pub head : IsFound room unread asked path after
  pub body_length : length body ≡ asked.length
  pub body_is : after ≡ body ++ rest

-- a head, and after it less than its body
pub record IsCutInBody (room : ℕ) (unread : List ℕ) : Type 0 where
  pub asked : Request
  pub path : Option (List ℕ)
  pub after : List ℕ
  pub head : IsFound room unread asked path after
  pub short : length after < asked.length

-- the next request in the unread bytes
abbrev pub IsNext : ℕ → List ℕ → Next → Type 0
IsNext room unread no_request = unread ≡ []
IsNext room unread cut_request = IsCut unread ⊎ IsCutInBody room unread
IsNext room unread (refused_request code) = IsRefusedNext room unread code
IsNext room unread (whole_request asked path body rest) = IsWhole room unread asked path body rest
