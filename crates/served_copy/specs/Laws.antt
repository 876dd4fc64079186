-- Laws of copies of a survey that is served, each the whole contract of a function of `laws`.
use Rattle.std.specs.Prelude.{◌≡◌, ◌⊎◌, ℕ, List}
use Rattle.std.specs.Map.{keys_of}
use Rattle.pyramid_model.specs.Shape.{LeafMap}
use Rattle.survey_conf.specs.Description.{Description}
use Rattle.edit_journal.specs.Leaves.{LeafTiles}
use Rattle.survey_core.specs.History.{SurveyState}
use Rattle.hips_http.specs.SessionRun.{input_of}
use Rattle.hips_http.specs.Laws.{Connection, IsUnbroken, NeverBegins}
use Rattle.mirror_frame.specs.Requests.{mirror_requests}
use Rattle.hips_mirror.specs.Mirror.{IsCopy}
use Rattle.hips_mirror.specs.Peer.{published, CanBeCopied}
use Rattle.served_copy.specs.Served.{IsSeen, AsksForCopy, AnswersCopy}

-- a session answers the requests of a copy by one state, unless it runs out of memory before it begins
abbrev pub SessionsAnswerCopies : Type 0
SessionsAnswerCopies = (conf : Description) (opening : LeafTiles) (states : List SurveyState) (c : Connection conf opening states) (leaves : List ℕ)
    → AsksForCopy c leaves → ((state : SurveyState) × AnswersCopy c leaves state) ⊎ NeverBegins c

-- what a session flushed that was sent the requests of a copy, and that is a copy, is one of a state that the session had seen
abbrev pub CopiesAreOfSeenStates : Type 0
CopiesAreOfSeenStates = (conf : Description) (opening : LeafTiles) (states : List SurveyState) (c : Connection conf opening states) (d : Description) (leaves : LeafMap)
    → IsCopy c.exchange.flushed d leaves → input_of c.exchange ≡ mirror_requests d.shape.top (keys_of leaves) → IsUnbroken c.exchange
    → (state : SurveyState) × IsSeen c state × (CanBeCopied conf opening state → (d ≡ conf) × (leaves ≡ published opening state))
