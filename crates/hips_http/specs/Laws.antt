-- Laws of connections, each the whole contract of a function of `laws`.
use Rattle.std.specs.Prelude.{◌≡◌, ◌⊎◌, ℕ, ◌+◌, ◌<◌, ◌≤◌, List, [], ◌∷◌, length, Contains}
use Rattle.std.specs.List.{AllZip, concat}
use Rattle.survey_conf.specs.Description.{Description}
use Rattle.survey_link.specs.Link.{Rises}
use Rattle.edit_journal.specs.Leaves.{LeafTiles}
use Rattle.survey_core.specs.History.{SurveyState, IsHistory}
use Rattle.hips_http.specs.declared.served.SessionEnd.{SessionEnd}
use Rattle.hips_http.specs.declared.served.SessionEnd.TheVariants.{Closed, Asked, Refused, Cut, Spent, ReadFault, WriteFault, OutOfMemory}
use Rattle.hips_http.specs.Answers.{Asking, Point}
use Rattle.hips_http.specs.SessionRun.{Exchange, input_of, SessionRun, AreAnswered, first_point}
use Rattle.hips_http.specs.Fulfilled.{IsSoundInput, AreAccepted, IsFulfilled}

-- a connection to a survey of which these states were seen before it
pub record Connection (conf : Description) (opening : LeafTiles) (states : List SurveyState) : Type 0 where
  pub exchange : Exchange
  pub own : List ℕ
  pub later : List SurveyState
  pub end : SessionEnd
  pub memory_faults : ℕ
  pub run : SessionRun conf opening states exchange own later end memory_faults

-- each state after those is an event of the connection's own
abbrev pub OwnsAll : List SurveyState → List SurveyState → List ℕ → Type 0
OwnsAll states later own = (place : ℕ) → length states ≤ place → place < length later → Contains own place

-- the place is that of the newest state then: those states and the connection's own events so far are all that there are
abbrev pub IsNewest : List SurveyState → Point → Type 0
IsNewest states point = point.place + 1 ≡ length states + length point.own

-- each request is answered at the newest state then
abbrev pub AreNewest : (states : List SurveyState) (conf : Description) (opening : LeafTiles) (later : List SurveyState) (count : ℕ) (before : Point) (requests : List Asking) (after : Point)
    (outputs : List (List ℕ)) → AreAnswered conf opening later count before requests after outputs → Type 0
AreNewest states conf opening later count before [] after outputs answered = Unit {0}
AreNewest states conf opening later count before (request ∷ requests) after [] answered = Unit {0}
AreNewest states conf opening later count before (request ∷ requests) after (output ∷ outputs) answered =
    IsNewest states answered.0 × AreNewest states conf opening later (count + 1) answered.0 requests after outputs answered.2

abbrev pub EachNewest : {conf : Description} {opening : LeafTiles} {states : List SurveyState} → Connection conf opening states → Type 0
EachNewest {conf} {opening} {states} c =
    AreNewest states conf opening c.later 0 (first_point states) c.run.requests c.run.last c.run.outputs c.run.answered

-- it ended neither by a fault nor out of memory
abbrev pub IsFaultless : SessionEnd → Type 0
IsFaultless Closed = Unit {0}
IsFaultless Asked = Unit {0}
IsFaultless (Refused code) = Unit {0}
IsFaultless Cut = Unit {0}
IsFaultless Spent = Unit {0}
IsFaultless ReadFault = ⊥
IsFaultless WriteFault = ⊥
IsFaultless OutOfMemory = ⊥

-- nobody else changed the survey, each request was answered at the newest state then and found memory, and no fault ended it
pub record IsUndisturbed {conf : Description} {opening : LeafTiles} {states : List SurveyState} (c : Connection conf opening states) : Type 0 where
  pub owns : OwnsAll states c.later c.own
  pub newest : EachNewest c
  pub memory : c.memory_faults ≡ 0
  pub faultless : IsFaultless c.end

-- the same was written, the same states were seen then, and it ended the same
pub record IsSameOutcome {conf : Description} {opening : LeafTiles} {states : List SurveyState} (one other : Connection conf opening states) : Type 0 where
  pub written : one.exchange.written ≡ other.exchange.written
  pub later : one.later ≡ other.later
  pub end : one.end ≡ other.end

-- the law of one outcome: of one survey, after one history and from one input, all undisturbed connections come out the same
abbrev pub OneOutcome : Type 0
OneOutcome = (conf : Description) (opening : LeafTiles) (states : List SurveyState) (one other : Connection conf opening states)
    → IsHistory opening states → IsUndisturbed one → IsUndisturbed other → input_of one.exchange ≡ input_of other.exchange
    → IsSameOutcome one other

-- where each state after those seen before is the connection's own event, each request is answered at the newest state then
abbrev pub OwnIsNewest : Type 0
OwnIsNewest = (conf : Description) (opening : LeafTiles) (states : List SurveyState) (c : Connection conf opening states)
    → IsHistory opening states → OwnsAll states c.later c.own → EachNewest c

-- ---- completeness

-- each change that was asked for was accepted by the state that judged it
abbrev pub EachAccepted : {conf : Description} {opening : LeafTiles} {states : List SurveyState} → Connection conf opening states → Type 0
EachAccepted {conf} {opening} {states} c =
    AreAccepted conf opening c.later 0 (first_point states) c.run.requests c.run.last c.run.outputs c.run.answered

-- neither the source nor the sink failed
pub record IsUnbroken (exchange : Exchange) : Type 0 where
  pub source : ¬ Rises exchange.source_faults exchange.source_faults_then
  pub sink : ¬ Rises exchange.sink_faults exchange.sink_faults_then

-- these requests were answered, each was fulfilled, and nothing else was written
pub record FulfilsAll {conf : Description} {opening : LeafTiles} {states : List SurveyState} (c : Connection conf opening states) (requests : List Asking) : Type 0 where
  pub ended : (c.end ≡ Closed) ⊎ (c.end ≡ Asked)
  pub answered : c.run.requests ≡ requests
  pub fulfilled : AllZip (IsFulfilled conf) c.run.requests c.run.outputs
  pub written : c.exchange.written ≡ concat c.run.outputs

-- there was no memory to begin with, and nothing was read, written or changed
pub record NeverBegins {conf : Description} {opening : LeafTiles} {states : List SurveyState} (c : Connection conf opening states) : Type 0 where
  pub ended : c.end ≡ OutOfMemory
  pub read : c.exchange.read ≡ []
  pub written : c.exchange.written ≡ []
  pub later : c.later ≡ states

-- the law of completeness: where the input has only sound requests, each change is accepted, and neither source nor sink
-- fails, all requests are fulfilled, or the connection never begins
abbrev pub Completeness : Type 0
Completeness = (conf : Description) (opening : LeafTiles) (states : List SurveyState) (c : Connection conf opening states) (requests : List Asking)
    → IsSoundInput conf (input_of c.exchange) requests → EachAccepted c → IsUnbroken c.exchange → FulfilsAll c requests ⊎ NeverBegins c
