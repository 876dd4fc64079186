-- When a connection is read: only while the bytes that came of it end before or within its next request. So never after a
-- request that asked to close, and each reading follows the replies to all requests before its own.
use Rattle.std.specs.Prelude.{◌≡◌, ◌⊎◌, ◌≤◌, ℕ, List, ◌++◌, length, take, Bool, Result, Ok, Err, ⊤}
use Rattle.std.specs.List.{concat}
use Rattle.http_frame.specs.Next.{NeedsMore, IsCutInBody, IsWhole}
use Rattle.hips_http.specs.declared.served.SessionEnd.{SessionEnd}
use Rattle.hips_http.specs.Answers.{Asking}
use Rattle.hips_http.specs.SessionRun.{AreRequests, GoOn}

-- the bytes end before a request, or within its head or its body
abbrev pub NeedsRest : ℕ → List ℕ → Type 0
NeedsRest room bytes = NeedsMore bytes ⊎ IsCutInBody room bytes

-- the bytes that came are requests of which none asked to close, and the beginning of one more
pub record NeedsNext (room : ℕ) (came : List ℕ) : Type 0 where
  pub requests : List Asking
  pub rest : List ℕ
  pub are_requests : AreRequests room came requests rest
  pub go_on : GoOn requests
  pub needs : NeedsRest room rest

-- the bytes that came are requests and the beginning of one more, and the replies to these requests, the first of these
-- outputs, are flushed at the end of the connection. This holds for every sink, also for one whose calls all fail from some
-- moment on, and by which nothing more is flushed. So the replies were flushed before the reading that needed these bytes
pub record FollowsReplies (room : ℕ) (outputs : List (List ℕ)) (flushed came : List ℕ) : Type 0 where
  pub next : NeedsNext room came
  pub answered : length next.requests ≤ length outputs
  pub more : List ℕ
  pub flushed_is : flushed ≡ concat (take (length next.requests) outputs) ++ more

-- the bytes are the request that was answered, and then those that are held
abbrev pub HoldsBehind : ℕ → List ℕ → List ℕ → Result Bool SessionEnd → Type 0
HoldsBehind room bytes held (Ok closed) = (request : Asking) × IsWhole room bytes request.asked request.path request.body held × (closed ≡ request.asked.close)
HoldsBehind room bytes held (Err end) = ⊤
