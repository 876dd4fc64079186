-- What one request of a connection is answered, by the states of its survey: `states` are all that are known when the
-- connection ends, and each request is answered at a place of theirs. This project's profile.
use Rattle.std.specs.Prelude.{◌≡◌, ◌⊎◌, ℕ, ◌+◌, ◌-◌, ◌*◌, ◌<◌, ◌≤◌, List, [], ◌∷◌, ◌++◌, length, slice_get, Contains, Option, Some, None, unwrap_or, ℤ, Result, Ok, Err}
use Rattle.survey_conf.specs.Description.{Description}
use Rattle.pyramid_model.specs.Shape.{PyramidShape}
use Rattle.dirty_plan.specs.Dirty.{work}
use Rattle.generation.specs.Steps.{touched}
use Rattle.fits_tile.specs.Reading.{reads}
use Rattle.fits_tile.specs.declared.fault.TileFault.{TileFault}
use Rattle.edit_journal.specs.Edit.{LeafEdit}
use Rattle.edit_journal.specs.Leaves.{LeafTiles}
use Rattle.http_frame.specs.declared.request.Request.{Request}
use Rattle.survey_core.specs.declared.fault.EntryFault.{EntryFault}
use Rattle.survey_core.specs.BatchBody.{batch_entries, tile_count}
use Rattle.survey_core.specs.History.{SurveyState, edits_at, AppendsBatch, IsPublication}
use Rattle.hips_http.specs.declared.call.PathKind.{PathKind}
use Rattle.hips_http.specs.declared.call.Call.{Call}
use Rattle.hips_http.specs.declared.call.Call.TheVariants as call
use Rattle.hips_http.specs.Paths.{IsOfKind, call_of}
use Rattle.hips_http.specs.Verdict.{Verdict, refused, refused_at, accepted, Change, put, delete, batch, verdict}
use Rattle.hips_http.specs.Replies.{Answer, file_answer, pinned, released, published, already, refused_answer, refused_batch, accepted_answer, not_allowed, tile_refused, batch_refused, no_memory}

-- a request: what its head asks for, its decoded path, and its body
pub record Asking : Type 0 where
  pub asked : Request
  pub path : Option (List ℕ)
  pub body : List ℕ

-- where a connection is between two requests: the place of the state that the last one was answered at, that of the state
-- it holds, the places of the events that it made, how many requests found no memory, and how many steps these allow
pub record Point : Type 0 where
  pub place : ℕ
  pub held : Option ℕ
  pub own : List ℕ
  pub memory_faults : ℕ
  pub cost : ℕ

-- ---- what a request does beside its answer

-- nothing
pub record Keeps (before after : Point) : Type 0 where
  pub held : after.held ≡ before.held
  pub own : after.own ≡ before.own
  pub memory_faults : after.memory_faults ≡ before.memory_faults

-- the state at its place is held
pub record Holds (before after : Point) : Type 0 where
  pub held : after.held ≡ Some after.place
  pub own : after.own ≡ before.own
  pub memory_faults : after.memory_faults ≡ before.memory_faults

-- none is held
pub record Releases (before after : Point) : Type 0 where
  pub held : after.held ≡ None
  pub own : after.own ≡ before.own
  pub memory_faults : after.memory_faults ≡ before.memory_faults

-- its place is a step of the survey that it made, later than the place before
pub record Steps (before after : Point) : Type 0 where
  pub later : before.place < after.place
  pub held : after.held ≡ before.held
  pub own : after.own ≡ before.own ++ after.place ∷ []
  pub memory_faults : after.memory_faults ≡ before.memory_faults

-- ---- changes

-- the change that a body asks for, or the answer that refuses the body
abbrev pub Asked : Type 0
Asked = Result Change Answer

abbrev pub put_of : Description → Request → ℕ → Result (List ℤ) TileFault → Asked
put_of conf asked leaf (Ok numbers) =
    Ok (put asked.if_match asked.if_none_any leaf (record { depth = conf.shape.depth; n = conf.shape.n; numbers = numbers }))
put_of conf asked leaf (Err fault) = Err (tile_refused fault)

abbrev pub batch_of : List LeafEdit → Option EntryFault → Asked
batch_of edits None = Ok (batch edits)
batch_of edits (Some fault) = Err (batch_refused (length edits) fault)

abbrev pub asked_put : Description → Asking → ℕ → Asked
asked_put conf request leaf = put_of conf request.asked leaf (reads conf request.body)

abbrev pub asked_delete : Asking → ℕ → Asked
asked_delete request leaf = Ok (delete request.asked.if_match request.asked.if_none_any leaf)

abbrev pub asked_batch : Description → Asking → Asked
asked_batch conf request = batch_of (batch_entries conf request.body).edits (batch_entries conf request.body).fault

-- the answer to a change that is refused by a state with so many edits
abbrev pub refusal_of : ℕ → Verdict → Option Answer
refusal_of edits (refused cause) = Some (refused_answer edits cause)
refusal_of edits (refused_at at cause) = Some (refused_batch edits at cause)
refusal_of edits (accepted items) = None

-- it is refused by the state at its place, which is the place before, or a state that the connection didn't make
pub record Refuses (opening : LeafTiles) (states : List SurveyState) (change : Change) (before after : Point) (answer : Answer) : Type 0 where
  pub state : SurveyState
  pub there : slice_get states after.place ≡ Some state
  pub seen : (after.place ≡ before.place) ⊎ (¬ Contains before.own after.place)
  pub answer_is : refusal_of (length (edits_at state)) (verdict opening (edits_at state) change) ≡ Some answer
  pub kept : Keeps before after

-- it is accepted by the state before its place, and is the step from there to its place
pub record Accepts (opening : LeafTiles) (states : List SurveyState) (change : Change) (before after : Point) (answer : Answer) : Type 0 where
  pub old : SurveyState
  pub new : SurveyState
  pub items : List LeafEdit
  pub old_there : slice_get states (after.place - 1) ≡ Some old
  pub new_there : slice_get states after.place ≡ Some new
  pub judged : verdict opening (edits_at old) change ≡ accepted items
  pub appended : AppendsBatch opening items old new
  pub answer_is : answer ≡ accepted_answer opening (edits_at old) change (length (edits_at new))
  pub step : Steps before after

-- no memory was found for it, and nothing was changed
pub record FindsNoMemory (before after : Point) (answer : Answer) : Type 0 where
  pub held : after.held ≡ before.held
  pub own : after.own ≡ before.own
  pub memory_faults : after.memory_faults ≡ before.memory_faults + 1
  pub answer_is : answer ≡ no_memory

-- its body is refused; or the change is refused, or accepted
abbrev pub Judges : LeafTiles → List SurveyState → Asked → Point → Point → Answer → Type 0
Judges opening states (Err refusal) before after answer = Keeps before after × (answer ≡ refusal)
Judges opening states (Ok change) before after answer =
    Refuses opening states change before after answer ⊎ Accepts opening states change before after answer

abbrev pub Changes : LeafTiles → List SurveyState → Asked → Point → Point → Answer → Type 0
Changes opening states asked before after answer = Judges opening states asked before after answer ⊎ FindsNoMemory before after answer

-- ---- files and publications

-- the file of the state that is held, or of that at its place where none is
pub record Reads (conf : Description) (opening : LeafTiles) (states : List SurveyState) (path : Option (List ℕ)) (before after : Point) (answer : Answer) : Type 0 where
  pub state : SurveyState
  pub there : slice_get states (unwrap_or before.held after.place) ≡ Some state
  pub answer_is : answer ≡ file_answer conf opening state path
  pub kept : Keeps before after

-- the state at its place is held from now on
pub record Pins (states : List SurveyState) (before after : Point) (answer : Answer) : Type 0 where
  pub state : SurveyState
  pub there : slice_get states after.place ≡ Some state
  pub answer_is : answer ≡ pinned state.tip
  pub holds : Holds before after

-- all edits that the connection had seen are published, by the step to its place
pub record Publishes (states : List SurveyState) (before after : Point) (answer : Answer) : Type 0 where
  pub known : SurveyState
  pub old : SurveyState
  pub new : SurveyState
  pub known_there : slice_get states before.place ≡ Some known
  pub old_there : slice_get states (after.place - 1) ≡ Some old
  pub new_there : slice_get states after.place ≡ Some new
  pub publication : IsPublication old new
  pub all : length (edits_at known) ≤ new.tip
  pub answer_is : answer ≡ published new.tip
  pub step : Steps before after

-- in the state at its place all edits are published
pub record HasPublished (states : List SurveyState) (before after : Point) (answer : Answer) : Type 0 where
  pub state : SurveyState
  pub there : slice_get states after.place ≡ Some state
  pub all : state.tip ≡ length (edits_at state)
  pub answer_is : answer ≡ already state.tip
  pub kept : Keeps before after

-- ---- one request

-- what a call is answered
abbrev pub Answers : Description → LeafTiles → List SurveyState → Asking → Call → Point → Point → Answer → Type 0
Answers conf opening states request (call.NotAllowed allow) before after answer = Keeps before after × (answer ≡ not_allowed allow)
Answers conf opening states request (call.File file) before after answer = Reads conf opening states request.path before after answer
Answers conf opening states request call.Pin before after answer = Pins states before after answer
Answers conf opening states request call.Unpin before after answer = Releases before after × (answer ≡ released)
Answers conf opening states request call.Publish before after answer =
    Publishes states before after answer ⊎ HasPublished states before after answer ⊎ FindsNoMemory before after answer
Answers conf opening states request call.Batch before after answer = Changes opening states (asked_batch conf request) before after answer
Answers conf opening states request (call.Put leaf) before after answer =
    Changes opening states (asked_put conf request leaf) before after answer
Answers conf opening states request (call.Delete leaf) before after answer =
    Changes opening states (asked_delete request leaf) before after answer

-- the steps that a publication may take: twice the cells above the leaves under which an edit is that wasn't published
-- before and is known then
abbrev pub publication_cost : PyramidShape → Option SurveyState → Option SurveyState → ℕ
publication_cost shape (Some old) (Some new) = 2 * work shape.top shape.low (touched (edits_at new) old.tip (length (edits_at new)))
publication_cost shape _ _ = 0

-- the steps that a call may take: one for each tile of its body
abbrev pub cost_of : Description → List SurveyState → Asking → Call → ℕ → ℕ → ℕ
cost_of conf states request (call.Put leaf) from to = 1
cost_of conf states request call.Batch from to = tile_count (batch_entries conf request.body)
cost_of conf states request call.Publish from to = publication_cost conf.shape (slice_get states from) (slice_get states to)
cost_of conf states request _ from to = 0

-- a request is answered: at a place that isn't before the one before
pub record IsAnswered (conf : Description) (opening : LeafTiles) (states : List SurveyState) (request : Asking) (before after : Point) (answer : Answer) : Type 0 where
  pub kind : PathKind
  pub of_kind : IsOfKind conf.shape.top request.path kind
  pub never_falls : before.place ≤ after.place
  pub within : after.place < length states
  pub answers : Answers conf opening states request (call_of request.asked.method kind) before after answer
  pub cost : after.cost ≡ before.cost + cost_of conf states request (call_of request.asked.method kind) before.place after.place
