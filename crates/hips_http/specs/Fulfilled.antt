-- Which requests can be fulfilled, and by which replies they are: what the law of completeness is about. This project's
-- profile.
use Rattle.std.specs.Prelude.{◌≡◌, ◌⊎◌, ℕ, ◌+◌, ◌-◌, ◌==◌, ◌||◌, Bool, true, false, List, [], ◌∷◌, ◌++◌, length, slice_get, All, IsNone, IsOk, Some, Ok, Err, if◌then◌else◌}
use Rattle.survey_conf.specs.Description.{Description}
use Rattle.fits_tile.specs.Reading.{reads}
use Rattle.edit_journal.specs.Edit.{LeafEdit}
use Rattle.edit_journal.specs.Leaves.{LeafTiles}
use Rattle.http_frame.specs.Reply.{status_line}
use Rattle.survey_core.specs.BatchBody.{batch_entries}
use Rattle.survey_core.specs.History.{SurveyState, edits_at}
use Rattle.hips_http.specs.declared.call.PathKind.{PathKind}
use Rattle.hips_http.specs.declared.call.Call.{Call}
use Rattle.hips_http.specs.declared.call.Call.TheVariants as call
use Rattle.hips_http.specs.Paths.{IsOfKind, call_of}
use Rattle.hips_http.specs.Verdict.{accepted, Change, verdict}
use Rattle.hips_http.specs.Replies.{leave_bytes}
use Rattle.hips_http.specs.Answers.{Asking, Point, Asked, asked_put, asked_delete, asked_batch}
use Rattle.hips_http.specs.SessionRun.{room_of, AreRequests, GoOn, EndsWith, AreAnswered}

-- ---- what is wrong with a request by itself

-- a call with which nothing is wrong: the body of a PUT is a tile file of the survey, that of a batch is entries
abbrev pub IsSoundCall : Description → List ℕ → Call → Type 0
IsSoundCall conf body (call.NotAllowed allow) = ⊥
IsSoundCall conf body (call.Put leaf) = IsOk (reads conf body)
IsSoundCall conf body call.Batch = IsNone (batch_entries conf body).fault
IsSoundCall conf body _ = Unit {0}

-- the method fits the path, and nothing is wrong with the call
pub record IsSound (conf : Description) (request : Asking) : Type 0 where
  pub kind : PathKind
  pub of_kind : IsOfKind conf.shape.top request.path kind
  pub call : IsSoundCall conf request.body (call_of request.asked.method kind)

-- one of the requests asks to close, and it is the last
pub record LastCloses (requests : List Asking) : Type 0 where
  pub last : Asking
  pub ends : EndsWith requests last
  pub closes : last.asked.close ≡ true

-- the input has these requests and no others, each of them sound, to its end or to the one that asks to close
pub record IsSoundInput (conf : Description) (input : List ℕ) (requests : List Asking) : Type 0 where
  pub rest : List ℕ
  pub are_requests : AreRequests (room_of conf) input requests rest
  pub ends : (GoOn requests × (rest ≡ [])) ⊎ LastCloses requests
  pub sound : All (IsSound conf) requests

-- ---- why a state refuses a change

-- the place of the state that judges a request: the one before the step that is made by it, and its own where none is
abbrev pub judging_place : Point → Point → ℕ
judging_place before after = if length after.own == length before.own then after.place else after.place - 1

-- the state at the place accepts the change
pub record IsAcceptedAt (opening : LeafTiles) (states : List SurveyState) (place : ℕ) (change : Change) : Type 0 where
  pub state : SurveyState
  pub items : List LeafEdit
  pub there : slice_get states place ≡ Some state
  pub judged : verdict opening (edits_at state) change ≡ accepted items

-- the change is accepted by the state that judges it, unless no memory was found for it: then none does
abbrev pub IsAccepted : LeafTiles → List SurveyState → Asked → Point → Point → Type 0
IsAccepted opening states (Err refusal) before after = Unit {0}
IsAccepted opening states (Ok change) before after = after.memory_faults ≡ before.memory_faults → IsAcceptedAt opening states (judging_place before after) change

abbrev pub IsAcceptedCall : Description → LeafTiles → List SurveyState → Asking → Call → Point → Point → Type 0
IsAcceptedCall conf opening states request call.Batch before after = IsAccepted opening states (asked_batch conf request) before after
IsAcceptedCall conf opening states request (call.Put leaf) before after = IsAccepted opening states (asked_put conf request leaf) before after
IsAcceptedCall conf opening states request (call.Delete leaf) before after = IsAccepted opening states (asked_delete request leaf) before after
IsAcceptedCall conf opening states request _ before after = Unit {0}

-- each change that is asked for is accepted
abbrev pub AreAccepted : (conf : Description) (opening : LeafTiles) (states : List SurveyState) (count : ℕ) (before : Point) (requests : List Asking) (after : Point)
    (outputs : List (List ℕ)) → AreAnswered conf opening states count before requests after outputs → Type 0
AreAccepted conf opening states count before [] after outputs answered = Unit {0}
AreAccepted conf opening states count before (request ∷ requests) after [] answered = Unit {0}
AreAccepted conf opening states count before (request ∷ requests) after (output ∷ outputs) answered =
    IsAcceptedCall conf opening states request (call_of request.asked.method answered.1.answered.kind) before answered.0
    × AreAccepted conf opening states (count + 1) answered.0 requests after outputs answered.2

-- ---- how a request is fulfilled

-- the codes of the replies to a call that is fulfilled, and 503, out of memory, if it can need some; a file that isn't there
-- is answered by 404
abbrev pub fulfils : Call → ℕ → Bool
fulfils (call.File file) code = (code == 200) || (code == 404)
fulfils call.Pin code = code == 200
fulfils call.Unpin code = code == 200
fulfils call.Publish code = (code == 200) || (code == 503)
fulfils call.Batch code = (code == 200) || (code == 503)
fulfils (call.Put leaf) code = (code == 201) || (code == 204) || (code == 503)
fulfils (call.Delete leaf) code = (code == 204) || (code == 503)
fulfils (call.NotAllowed allow) code = false

-- what was written for the request: 100 Continue, if it waits for that, and a reply with such a code
pub record IsFulfilled (conf : Description) (request : Asking) (output : List ℕ) : Type 0 where
  pub kind : PathKind
  pub code : ℕ
  pub more : List ℕ
  pub of_kind : IsOfKind conf.shape.top request.path kind
  pub fits : fulfils (call_of request.asked.method kind) code ≡ true
  pub output_is : output ≡ leave_bytes request.asked ++ status_line code ++ more
