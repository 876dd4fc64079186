-- The reply of each case: its code, its fields and its body (RFC 9110, section 15; RFC 4918, section 11.5). The texts of the
-- bodies and the fields Survey-Prefix and Survey-Edits are this project's profile.
use Rattle.std.specs.Prelude.{◌≡◌, ℕ, Bool, true, List, [], ◌∷◌, ◌++◌, length, codes, decimal, Option, Some, None, if◌then◌else◌}
use Rattle.std.specs.Option.{option_map_or}
use Rattle.std.specs.Str.{bytes_eq}
use Rattle.survey_conf.specs.Description.{Description}
use Rattle.fits_tile.specs.declared.fault.TileFault.{TileFault}
use Rattle.fits_tile.specs.Faults.{fault_text}
use Rattle.edit_journal.specs.Edit.{LeafEdit}
use Rattle.edit_journal.specs.Leaves.{LeafTiles, leaves_of}
use Rattle.edit_journal.specs.Faults.{has_leaf}
use Rattle.http_frame.specs.declared.request.Method.{Method}
use Rattle.http_frame.specs.declared.request.Method.TheVariants.{Head}
use Rattle.http_frame.specs.declared.request.Request.{Request}
use Rattle.http_frame.specs.declared.reply.Allow.{Allow}
use Rattle.http_frame.specs.declared.reply.Allow.TheVariants as allow
use Rattle.http_frame.specs.declared.reply.Kind.{Kind}
use Rattle.http_frame.specs.declared.reply.Kind.TheVariants as kind
use Rattle.http_frame.specs.declared.reply.Number.{Number}
use Rattle.http_frame.specs.declared.reply.Number.TheVariants as number
use Rattle.http_frame.specs.declared.reply.Reply.{Reply}
use Rattle.http_frame.specs.Reply.{reply_bytes, continue_bytes}
use Rattle.survey_core.specs.declared.fault.EntryFault.{EntryFault}
use Rattle.survey_core.specs.Faults.{entry_fault_text}
use Rattle.survey_core.specs.History.{SurveyState}
use Rattle.survey_core.specs.Reply.{file_at}
use Rattle.hips_http.specs.Verdict.{Cause, missing, unmet, limit, Change, put, delete, batch}

-- a reply but for the field Connection, with the whole body
pub record Answer : Type 0 where
  pub code : ℕ
  pub allow : Allow
  pub kind : Kind
  pub number : Number
  pub body : List ℕ

-- its head, where the connection is closed after it or not
abbrev pub head_of : Bool → Answer → Reply
head_of close answer = record {
  code = answer.code;
  allow = answer.allow;
  kind = answer.kind;
  number = answer.number;
  length = length answer.body;
  close = close;
}

-- the body that is sent: none in answer to HEAD (RFC 9110, section 9.3.2)
abbrev pub sent_body : Method → List ℕ → List ℕ
sent_body Head body = []
sent_body _ body = body

-- a head and a body are those of a reply
pub record IsReplyOf (close : Bool) (answer : Answer) (head : Reply) (body : List ℕ) : Type 0 where
  pub head_is : head ≡ head_of close answer
  pub body_is : body ≡ answer.body

-- the bytes that are written if a client waits for 100 Continue
abbrev pub leave_bytes : Request → List ℕ
leave_bytes asked = if asked.expects then continue_bytes else []

-- all that is written for a request
abbrev pub output_of : Bool → Request → Answer → List ℕ
output_of close asked answer = leave_bytes asked ++ reply_bytes (head_of close answer) (sent_body asked.method answer.body)

-- ---- the forms that replies have

-- a text of one line
abbrev pub text_answer : ℕ → Number → List ℕ → Answer
text_answer code of_state text = record { code = code; allow = allow.Absent; kind = kind.Text; number = of_state; body = text ++ 10 ∷ [] }

-- no body
abbrev pub empty_answer : ℕ → Number → Answer
empty_answer code of_state = record { code = code; allow = allow.Absent; kind = kind.Absent; number = of_state; body = [] }

-- ---- files

-- the properties are a text, each other file is a FITS file
abbrev pub file_kind : List ℕ → Kind
file_kind path = if bytes_eq path (codes "properties") then kind.Text else kind.Fits

abbrev pub found_answer : ℕ → List ℕ → List ℕ → Answer
found_answer tip path file = record { code = 200; allow = allow.Absent; kind = file_kind path; number = number.Prefix tip; body = file }

abbrev pub not_found : ℕ → Answer
not_found tip = text_answer 404 (number.Prefix tip) (codes "not found")

-- the file that the published leaves of a state have at the path, or that there is none
abbrev pub path_answer : Description → LeafTiles → SurveyState → List ℕ → Answer
path_answer conf opening state path = option_map_or (found_answer state.tip path) (file_at conf opening state path) (not_found state.tip)

abbrev pub file_answer : Description → LeafTiles → SurveyState → Option (List ℕ) → Answer
file_answer conf opening state None = not_found state.tip
file_answer conf opening state (Some path) = path_answer conf opening state path

-- ---- control

abbrev pub published : ℕ → Answer
published k = text_answer 200 (number.Prefix k) (codes "published " ++ decimal k)

abbrev pub already : ℕ → Answer
already k = text_answer 200 (number.Prefix k) (codes "already " ++ decimal k)

abbrev pub pinned : ℕ → Answer
pinned k = text_answer 200 (number.Prefix k) (codes "pinned " ++ decimal k)

abbrev pub released : Answer
released = text_answer 200 number.Absent (codes "released")

-- ---- changes

-- a change that is refused, by a state with so many edits
abbrev pub cause_code : Cause → ℕ
cause_code missing = 404
cause_code unmet = 412
cause_code (limit which) = 507

abbrev pub cause_text : Cause → List ℕ
cause_text missing = codes "absent"
cause_text unmet = codes "precondition failed"
cause_text (limit which) = codes "limit " ++ decimal which

abbrev pub refused_answer : ℕ → Cause → Answer
refused_answer edits cause = text_answer (cause_code cause) (number.Edits edits) (cause_text cause)

abbrev pub refused_batch : ℕ → ℕ → Cause → Answer
refused_batch edits at cause = text_answer (cause_code cause) (number.Edits edits) (codes "batch " ++ decimal at ++ codes " " ++ cause_text cause)

-- a change that is accepted, where the leaf was there before or not, or of so many edits, and the state has so many then
abbrev pub edited : Bool → ℕ → Answer
edited there edits = empty_answer (if there then 204 else 201) (number.Edits edits)

abbrev pub batch_accepted : ℕ → ℕ → Answer
batch_accepted count edits = text_answer 200 (number.Edits edits) (codes "accepted " ++ decimal count)

abbrev pub accepted_answer : LeafTiles → List LeafEdit → Change → ℕ → Answer
accepted_answer opening before (put tags none_any leaf tile) edits = edited (has_leaf leaf (leaves_of opening before)) edits
accepted_answer opening before (delete tags none_any leaf) edits = edited true edits
accepted_answer opening before (batch items) edits = batch_accepted (length items) edits

-- ---- requests that are refused whatever the state

abbrev pub not_allowed : Allow → Answer
not_allowed of_path = record {
  code = 405;
  allow = of_path;
  kind = kind.Text;
  number = number.Absent;
  body = codes "method not allowed" ++ 10 ∷ [];
}

abbrev pub tile_refused : TileFault → Answer
tile_refused fault = text_answer 422 number.Absent (codes "tile refused " ++ fault_text fault)

abbrev pub batch_refused : ℕ → EntryFault → Answer
batch_refused at fault = text_answer 422 number.Absent (codes "batch refused " ++ decimal at ++ codes " " ++ entry_fault_text fault)

-- out of memory
abbrev pub no_memory : Answer
no_memory = text_answer 503 number.Absent (codes "out of memory")

-- a head that is refused by its framing: the connection is closed after it
abbrev pub refusal_bytes : ℕ → List ℕ
refusal_bytes code = reply_bytes (head_of true (empty_answer code number.Absent)) []
