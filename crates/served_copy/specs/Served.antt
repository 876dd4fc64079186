-- A connection over which a survey is copied: `hips_http` says what a session answers, `hips_mirror` which requests a copy sends
-- and what it makes of the replies.
use Rattle.std.specs.Prelude.{◌≡◌, ◌⊎◌, ℕ, ◌+◌, ◌≤◌, ◌<◌, List, flat_map, length, All, slice_get, Option, Some, IsSome, Result, Ok, Err}
use Rattle.std.specs.FinMap.{len}
use Rattle.std.specs.Map.{keys_of}
use Rattle.std.specs.Io.KnownBytes.{Appends}
use Rattle.healpix_nested.specs.Cells.{cell_count}
use Rattle.survey_conf.specs.Description.{Description, IsDescription}
use Rattle.survey_link.specs.Shelf.{ShelfFiles}
use Rattle.edit_journal.specs.Leaves.{LeafTiles}
use Rattle.survey_core.specs.History.{SurveyState}
use Rattle.survey_core.specs.Reply.{files_at}
use Rattle.shelf_io.specs.Survey.{Replaces}
use Rattle.hips_http.specs.declared.served.SessionEnd.TheVariants.{Asked}
use Rattle.hips_http.specs.SessionRun.{input_of}
use Rattle.hips_http.specs.Laws.{Connection, IsUnbroken, NeverBegins}
use Rattle.mirror_frame.specs.Requests.{asks, mirror_requests}
use Rattle.hips_mirror.specs.declared.refusal.MirrorRefusal.{MirrorRefusal}
use Rattle.hips_mirror.specs.Mirror.{most_leaves}
use Rattle.hips_mirror.specs.Peer.{bytes_of, closes, reply_to, published, peer_bytes, CanBeCopied}
use Rattle.hips_mirror.specs.Laws.{IsNoMatterOfBytes}

-- a state that the session had seen at its end, and that isn't older than the last one seen before it
pub record IsSeen {conf : Description} {opening : LeafTiles} {states : List SurveyState} (c : Connection conf opening states) (state : SurveyState) : Type 0 where
  pub place : ℕ
  pub there : slice_get c.later place ≡ Some state
  pub late : length states ≤ place + 1

-- ---- what a session answers to a copy

-- the session was sent the requests of a copy of these leaves, and no others; neither its source nor its sink failed
pub record AsksForCopy {conf : Description} {opening : LeafTiles} {states : List SurveyState} (c : Connection conf opening states) (leaves : List ℕ) : Type 0 where
  pub description : IsDescription conf
  pub cells : All (λ leaf. leaf < cell_count conf.shape.top) leaves
  pub few : length leaves ≤ most_leaves
  pub input : input_of c.exchange ≡ mirror_requests conf.shape.top leaves
  pub unbroken : IsUnbroken c.exchange

-- the bytes that a peer sends in reply to these requests, where it holds the state
abbrev pub replies_of : Description → LeafTiles → SurveyState → List ℕ → List ℕ
replies_of conf opening state leaves = flat_map (λ ask. bytes_of (closes ask) (reply_to conf opening state ask)) (asks conf.shape.top leaves)

-- all of them were answered by this state: its replies were written and flushed, and nothing else. They are what a peer in
-- order sends if the leaves are the state's
pub record AnswersCopy {conf : Description} {opening : LeafTiles} {states : List SurveyState} (c : Connection conf opening states) (leaves : List ℕ) (state : SurveyState) : Type 0 where
  pub seen : IsSeen c state
  pub ended : c.end ≡ Asked
  pub written : c.exchange.written ≡ replies_of conf opening state leaves
  pub flushed : c.exchange.flushed ≡ replies_of conf opening state leaves
  pub in_order : keys_of (published opening state) ≡ leaves → c.exchange.flushed ≡ peer_bytes conf opening state

-- ---- what a copy makes of it

-- of all files that a survey can have, the shelf then has exactly these, so many; all other files stay
abbrev pub IsCopied : ShelfFiles → Option ShelfFiles → Option ShelfFiles → ℕ → Type 0
IsCopied wanted old new count = Replaces wanted old new × (count ≡ len wanted)

-- that, or the copy failed by what doesn't depend on the bytes
abbrev pub IsMirrored : ShelfFiles → Option ShelfFiles → Option ShelfFiles → Result ℕ MirrorRefusal → Type 0
IsMirrored wanted old new (Ok count) = IsCopied wanted old new count
IsMirrored wanted old new (Err refusal) = IsNoMatterOfBytes refusal

-- where a session was sent the requests of a copy, and the source has what it flushed: if these are the requests for the state
-- that it answered by, that state is copied, unless what doesn't depend on the bytes fails
abbrev pub CopiesServed : Option (List ℕ) → Option ShelfFiles → Option ShelfFiles → Result ℕ MirrorRefusal → Type 0
CopiesServed left old new result = (conf : Description) (opening : LeafTiles) (states : List SurveyState) (c : Connection conf opening states) (leaves : List ℕ)
    → AsksForCopy c leaves → left ≡ Some c.exchange.flushed
    → ((state : SurveyState) × AnswersCopy c leaves state
    × (CanBeCopied conf opening state → keys_of (published opening state) ≡ leaves → IsMirrored (files_at conf opening state) old new result))
    ⊎ NeverBegins c

-- a session and a copy talk to each other: the session was sent what the copy wrote, as the proof can see, and the source has
-- what the session flushed; neither end of the session failed
pub record IsJoined {conf : Description} {opening : LeafTiles} {states : List SurveyState} (c : Connection conf opening states) (left held held' : Option (List ℕ)) : Type 0 where
  pub visible : IsSome held
  pub sent : Appends held held' (input_of c.exchange)
  pub received : left ≡ Some c.exchange.flushed
  pub unbroken : IsUnbroken c.exchange

-- what was copied then is a state that the session had seen, if that is within the bounds of a copy
abbrev pub CopiesJoined : Option (List ℕ) → Option (List ℕ) → Option (List ℕ) → Option ShelfFiles → Option ShelfFiles → ℕ → Type 0
CopiesJoined left held held' old new count = (conf : Description) (opening : LeafTiles) (states : List SurveyState) (c : Connection conf opening states)
    → IsJoined c left held held' → (state : SurveyState) × IsSeen c state × (CanBeCopied conf opening state → IsCopied (files_at conf opening state) old new count)
