-- What the steps of a copy say.
use Rattle.std.specs.Prelude.{◌≡◌, ◌≢◌, ◌⊎◌, ◌↔◌, ℕ, zero, suc, ◌<◌, ◌^◌, ◌+◌, nat_lt, if◌then◌else◌, ℤ, List, [], ◌∷◌, ◌++◌, Ok, Option, Some, false, ⊤}
use Rattle.std.specs.Io.KnownBytes.{Consumes}
use Rattle.survey_link.specs.declared.source.Source as source
use Rattle.survey_link.specs.declared.sink.Sink as sink
use Rattle.survey_conf.specs.Description.{Description}
use Rattle.survey_conf.specs.Properties.{properties_text}
use Rattle.pyramid_model.specs.Shape.{LeafMap}
use Rattle.tile_pixels.specs.Tile.{PixelTile}
use Rattle.edit_journal.specs.Leaves.{LeafTiles, FitsLeaves}
use Rattle.fits_tile.specs.Reading.{reads}
use Rattle.mirror_frame.specs.Reply.{IsReply}
use Rattle.tile_path.specs.declared.path.Path.TheVariants as path
use Rattle.mirror_frame.specs.Requests.{asks}
use Rattle.mirror_frame.specs.declared.ask.Ask.TheVariants.{File}
use Rattle.mirror_frame.specs.Exchange.{Converses, StopsIn}
use Rattle.mirror_frame.specs.Peer.{talk, Goes}
use Rattle.mirror_frame.specs.declared.peer.Peer.{Peer}
use Rattle.mirror_frame.specs.declared.ask.Ask.{Ask}
use Rattle.mirror_frame.specs.declared.due.Due.TheVariants.{Survey}
use Rattle.mirror_frame.specs.declared.reading.ReplyStop.{ReplyStop}
use Rattle.mirror_frame.specs.declared.reading.ReplyStop.TheVariants as stop
use Rattle.hips_mirror.specs.declared.refusal.MirrorRefusal.{MirrorRefusal}
use Rattle.hips_mirror.specs.declared.refusal.MirrorRefusal.TheVariants as refusal
use Rattle.hips_mirror.specs.Mirror.{Described, Covered, HasLeaves, IsProperties, IsCoverOf, Refuses, TrueOf, is_read_fault, is_write_fault}

-- the number of leaves with which the description's properties are this body; none where there is no such number
abbrev pub Counts : Description → List ℕ → Option ℕ → Type 0
Counts d body counted = (n : ℕ) → n < 2 ^ 64 → (body ≡ properties_text d n) ↔ (counted ≡ Some n)

-- the reply comes first, with the properties file of this description, and what is kept of it is the number of leaves
pub record TellsProperties (k : ℕ) (d : Description) (counted : Option ℕ) (bytes unread : List ℕ) : Type 0 where
  pub body : List ℕ
  pub reply : IsReply (Survey k) bytes body unread
  pub is : IsProperties body d
  pub counts : Counts d body counted

-- the description is read, and what is kept of the body that describes it is the number of leaves
pub record TellsSurvey (k : ℕ) (d : Description) (counted : Option ℕ) (bytes unread : List ℕ) : Type 0 where
  pub properties : List ℕ
  pub described : Described bytes k properties d unread
  pub counts : Counts d properties counted

-- so is the cover, with all that came before it
pub record TellsCovered (k : ℕ) (d : Description) (counted : Option ℕ) (numbers bytes unread : List ℕ) : Type 0 where
  pub properties : List ℕ
  pub covered : Covered bytes k properties d numbers unread
  pub counts : Counts d properties counted

-- and so are the leaves
pub record TellsTiles (k : ℕ) (d : Description) (counted : Option ℕ) (leaves : LeafMap) (bytes unread : List ℕ) : Type 0 where
  pub properties : List ℕ
  pub has : HasLeaves bytes k properties d leaves unread
  pub counts : Counts d properties counted

-- the reply comes first, with the coverage file of these leaves
pub record TellsCover (k : ℕ) (d : Description) (numbers bytes unread : List ℕ) : Type 0 where
  pub body : List ℕ
  pub reply : IsReply (Survey k) bytes body unread
  pub is : IsCoverOf d.shape.top body numbers

-- the reply comes first, and its body is the tile of the leaf that is put behind the others
pub record TellsLeaf (k : ℕ) (d : Description) (leaves leaves' : LeafMap) (bytes unread : List ℕ) : Type 0 where
  pub body : List ℕ
  pub leaf : ℕ × List ℤ
  pub reply : IsReply (Survey k) bytes body unread
  pub reads : reads d body ≡ Ok leaf.1
  pub put : leaves' ≡ leaves ++ leaf ∷ []

-- the mosaic is asked for where there is a leaf
abbrev pub asks_of_mosaic : ℕ → List Ask
asks_of_mosaic zero = []
asks_of_mosaic (suc leaves) = File path.Allsky ∷ []

-- the reply to that request comes first, with this body
abbrev pub TellsMosaic : ℕ → ℕ → List ℕ → List ℕ → List ℕ → Type 0
TellsMosaic k zero body bytes unread = unread ≡ bytes
TellsMosaic k (suc leaves) body bytes unread = IsReply (Survey k) bytes body unread

-- the tile that the body reads as is put behind the others
pub record PutsLeaf (d : Description) (number : ℕ) (body : List ℕ) (tiles tiles' : LeafTiles) : Type 0 where
  pub tile : PixelTile
  pub reads : reads d body ≡ Ok tile.numbers
  pub put : tiles' ≡ tiles ++ (number, tile) ∷ []
  pub fits : FitsLeaves d.shape tiles'

-- why a body that was read is refused; or there is no memory
abbrev pub RefusedBy : (MirrorRefusal → List ℕ → Type 0) → List ℕ → MirrorRefusal → Type 0
RefusedBy Wrong body refused = Wrong refused body ⊎ (refused ≡ refusal.OutOfMemory)

-- what a request without a reply is refused with
abbrev pub of_stop : ReplyStop → ℕ → MirrorRefusal
of_stop stop.Wrong request = refusal.Reply request
of_stop stop.Cut request = refusal.Cut
of_stop stop.ReadFault request = refusal.ReadFault
of_stop stop.WriteFault request = refusal.WriteFault
of_stop stop.OutOfMemory request = refusal.OutOfMemory

-- the refusal is this stop of some request
abbrev pub Tells : MirrorRefusal → ReplyStop → Type 0
Tells why stopped = (request : ℕ) × (why ≡ of_stop stopped request)

-- the refusal is of a body that came, or out of memory
abbrev pub IsOfBody : MirrorRefusal → Type 0
IsOfBody (refusal.Reply request) = ⊥
IsOfBody refusal.Properties = ⊤
IsOfBody refusal.Cover = ⊤
IsOfBody (refusal.TooLarge count) = ⊤
IsOfBody (refusal.Leaf cell fault) = ⊤
IsOfBody (refusal.Differs path) = ⊤
IsOfBody refusal.Cut = ⊥
IsOfBody refusal.ReadFault = ⊥
IsOfBody refusal.WriteFault = ⊥
IsOfBody refusal.ShelfFault = ⊥
IsOfBody refusal.OutOfMemory = ⊤

-- the number of the last request, after those of so many leaves: a mosaic is asked for where there is a leaf
abbrev pub unpin_request : ℕ → ℕ
unpin_request count = 3 + count + (if nat_lt 0 count then 1 else 0)

module _ {S K : Type 0} (told_source : source.Ghosts S) (told_sink : sink.Ghosts K) where
  -- these requests have their replies: these bytes came, and this is so of the unread bytes before and after, however they go on
  pub record Reaches (k : ℕ) (asks : List Ask) (Leads : List ℕ → List ℕ → Type 0) (old new : Peer S K) : Type 0 where
    pub conversed : Converses told_source told_sink k asks (talk old) (talk new)
    pub came : List ℕ
    pub taken : Consumes (told_source.left old.src.now) (told_source.left new.src.now) came
    pub leads : (more : List ℕ) → Leads ((talk old).held ++ (came ++ more)) ((talk new).held ++ more)
    pub goes : Goes told_source told_sink false false old new

  -- this is true of the unread bytes: those held, and those left
  abbrev pub TrueOfUnread : Peer S K → (List ℕ → Type 0) → Type 0
  TrueOfUnread peer P = TrueOf (told_source.left peer.src.now) (λ bytes. P ((talk peer).held ++ bytes))

  -- a prefix of these requests has its replies, the next one is begun at most, and the unread bytes are refused so
  pub record IsRefusedIn (k : ℕ) (asks : List Ask) (Refused : List ℕ → Type 0) (old new : Peer S K) (why : MirrorRefusal) : Type 0 where
    pub stops : StopsIn told_source told_sink k (Tells why) (IsOfBody why) asks (talk old) (talk new)
    pub refused : TrueOfUnread old Refused
    pub goes : Goes told_source told_sink (is_read_fault why) (is_write_fault why) old new

  -- a copy of some leaves was refused: one of its requests at least has no reply
  pub record IsRefused (old new : Peer S K) (why : MirrorRefusal) : Type 0 where
    pub k : ℕ
    pub top : ℕ
    pub leaves : List ℕ
    pub stopped : IsRefusedIn k (asks top leaves) (λ bytes. Refuses bytes why) old new why
    pub short : stopped.stops.rest ≢ []
