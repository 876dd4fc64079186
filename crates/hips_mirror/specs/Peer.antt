-- What a peer sends that serves a survey in order: the replies of one connection to the requests of a copy, all of the state
-- that it holds for this copy (RFC 9110, sections 15.3.1 and 15.5.5). The texts of bodies and the field Survey-Prefix are this
-- project's profile.
use Rattle.std.specs.Prelude.{◌≡◌, ℕ, ◌<◌, ◌≤◌, ◌^◌, Bool, true, false, List, [], ◌∷◌, ◌++◌, length, flat_map, codes, decimal, All, if◌then◌else◌}
use Rattle.std.specs.Option.{option_map_or}
use Rattle.std.specs.Map.{keys_of}
use Rattle.std.specs.Str.{bytes_eq}
use Rattle.pyramid_model.specs.Shape.{LeafMap, FitsShape}
use Rattle.survey_conf.specs.Description.{Description, IsDescription}
use Rattle.tile_path.specs.Spelling.{spelling}
use Rattle.edit_journal.specs.Leaves.{LeafTiles}
use Rattle.generation.specs.Files.{leaf_map}
use Rattle.http_frame.specs.declared.reply.Allow.TheVariants as allow
use Rattle.http_frame.specs.declared.reply.Kind.{Kind}
use Rattle.http_frame.specs.declared.reply.Kind.TheVariants as kind
use Rattle.http_frame.specs.declared.reply.Number.{Number}
use Rattle.http_frame.specs.declared.reply.Number.TheVariants as number
use Rattle.http_frame.specs.Reply.{reply_bytes}
use Rattle.survey_core.specs.History.{SurveyState, leaves_at}
use Rattle.survey_core.specs.Reply.{file_at}
use Rattle.mirror_frame.specs.Reply.{most_body}
use Rattle.mirror_frame.specs.Requests.{asks}
use Rattle.mirror_frame.specs.declared.ask.Ask.{Ask}
use Rattle.mirror_frame.specs.declared.ask.Ask.TheVariants.{Pin, File, Unpin}
use Rattle.hips_mirror.specs.Mirror.{is_too_large}

-- a reply but for the field Connection, with its body
pub record PeerReply : Type 0 where
  pub code : ℕ
  pub kind : Kind
  pub number : Number
  pub body : List ℕ

-- its bytes, where the connection is closed after it or not
abbrev pub bytes_of : Bool → PeerReply → List ℕ
bytes_of close reply =
    reply_bytes (record { code = reply.code; allow = allow.Absent; kind = reply.kind; number = reply.number; length = length reply.body; close = close })
    reply.body

-- a text of one line
abbrev pub text_reply : ℕ → Number → List ℕ → PeerReply
text_reply code of_state text = record { code = code; kind = kind.Text; number = of_state; body = text ++ 10 ∷ [] }

-- the properties are a text, each other file is a FITS file
abbrev pub file_kind : List ℕ → Kind
file_kind path = if bytes_eq path (codes "properties") then kind.Text else kind.Fits

abbrev pub found_reply : ℕ → List ℕ → List ℕ → PeerReply
found_reply tip path file = record { code = 200; kind = file_kind path; number = number.Prefix tip; body = file }

-- the file that the published leaves of a state have at the path, or that there is none
abbrev pub file_reply : Description → LeafTiles → SurveyState → List ℕ → PeerReply
file_reply conf opening state path =
    option_map_or (found_reply state.tip path) (file_at conf opening state path) (text_reply 404 (number.Prefix state.tip) (codes "not found"))

-- the reply to a request of a copy, where the state is held
abbrev pub reply_to : Description → LeafTiles → SurveyState → Ask → PeerReply
reply_to conf opening state Pin = text_reply 200 (number.Prefix state.tip) (codes "pinned " ++ decimal state.tip)
reply_to conf opening state (File path) = file_reply conf opening state (spelling path)
reply_to conf opening state Unpin = text_reply 200 number.Absent (codes "released")

-- the last request asks to close the connection
abbrev pub closes : Ask → Bool
closes Pin = false
closes (File path) = false
closes Unpin = true

-- the published leaves of a state, by their stored numbers
abbrev pub published : LeafTiles → SurveyState → LeafMap
published opening state = leaf_map (leaves_at opening state)

-- the requests of a copy of the state
abbrev pub asks_of : Description → LeafTiles → SurveyState → List Ask
asks_of conf opening state = asks conf.shape.top (keys_of (published opening state))

-- all that is sent in reply to them
unfoldable pub peer_bytes : Description → LeafTiles → SurveyState → List ℕ
peer_bytes conf opening state = flat_map (λ ask. bytes_of (closes ask) (reply_to conf opening state ask)) (asks_of conf opening state)

-- what each state of a survey keeps, and the bounds of a copy: on the leaves, and on the body of each reply
pub record CanBeCopied (conf : Description) (opening : LeafTiles) (state : SurveyState) : Type 0 where
  pub description : IsDescription conf
  pub leaves : FitsShape conf.shape (published opening state)
  pub tip : state.tip < 2 ^ 32
  pub few : is_too_large conf.shape (length (published opening state)) ≡ false
  pub bodies : All (λ ask. length (reply_to conf opening state ask).body ≤ most_body) (asks_of conf opening state)
