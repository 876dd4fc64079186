-- What the bytes of a peer make of a copy of its survey, stage by stage: the description, the cover, the leaves one by one, the
-- mosaic and the last reply. The files are those of HiPS 1.0 (section 4). Which requests are sent, in which order the replies
-- are judged, and what is refused is this project's profile.
use Rattle.std.specs.Prelude.{◌≡◌, ◌≢◌, ◌⊎◌, ℕ, ◌<◌, ◌+◌, ◌-◌, ◌*◌, ◌≤◌, ◌==◌, ◌&&◌, ◌||◌, not, nat_le, nat_lt, Bool, true, false, List, [], ◌∷◌, ◌++◌, codes, length, map, take, slice_get, slice_index, All, Option, Some, None, Result, Ok, Err, ⊤}
use Rattle.std.specs.Map.{keys_of}
use Rattle.std.specs.FinMap.{len}
use Rattle.std.specs.Io.KnownBytes.{Appends}
use Rattle.healpix_nested.specs.Cells.{cell_count}
use Rattle.pyramid_model.specs.Shape.{PyramidShape, LeafMap}
use Rattle.survey_conf.specs.Description.{Description, description_of}
use Rattle.survey_conf.specs.Faults.{fault_of}
use Rattle.survey_conf.specs.Properties.{line}
use Rattle.fits_tile.specs.Reading.{reads}
use Rattle.fits_tile.specs.declared.fault.TileFault.{TileFault}
use Rattle.coverage_moc.specs.Cover.{IsAscending, cover}
use Rattle.coverage_moc.specs.CoverFile.{moc_file}
use Rattle.edit_journal.specs.Leaves.{leaf_charge}
use Rattle.edit_journal.specs.Faults.{most_charge}
use Rattle.tile_path.specs.declared.path.Path.TheVariants as path
use Rattle.http_frame.specs.Refusal.{is_digits}
use Rattle.survey_link.specs.Shelf.{ShelfFiles}
use Rattle.generation.specs.Files.{file_of, files}
use Rattle.generation.specs.Steps.{tiles_above}
use Rattle.shelf_io.specs.Survey.{Replaces}
use Rattle.mirror_frame.specs.Requests.{mosaic_asks, mirror_requests}
use Rattle.mirror_frame.specs.Reply.{IsReply, IsCutReply, IsWrongReply, pinned_line}
use Rattle.mirror_frame.specs.declared.due.Due.{Due}
use Rattle.mirror_frame.specs.declared.due.Due.TheVariants.{Pinned, Survey, Any}
use Rattle.hips_mirror.specs.declared.refusal.MirrorRefusal.{MirrorRefusal}
use Rattle.hips_mirror.specs.declared.refusal.MirrorRefusal.TheVariants.{Reply, Properties, Cover, TooLarge, Leaf, Differs, Cut, ReadFault, WriteFault, ShelfFault, OutOfMemory}

-- ---- what a body must be

-- plain decimals: one or more digits, of which the first is 0 only if it is the only one
abbrev pub is_plain : List ℕ → Bool
is_plain text = is_digits text && (nat_le (length text) 1 || not (slice_index text 0 == 48))

-- whole lines: nothing, or a text whose last byte is a line feed
abbrev pub are_lines : List ℕ → Bool
are_lines text = length text == 0 || slice_index text (length text - 1) == 10

-- the last line gives a number of leaves by these digits, and this text comes before it
pub record TellsLeaves (body text digits : List ℕ) : Type 0 where
  pub whole : body ≡ text ++ line (codes "survey_leaves", digits)
  pub lines : are_lines text ≡ true
  pub plain : is_plain digits ≡ true

-- the body is the properties file of a survey: before that line comes a description without a fault, and this is what it says
pub record IsProperties (body : List ℕ) (d : Description) : Type 0 where
  pub text : List ℕ
  pub digits : List ℕ
  pub last : TellsLeaves body text digits
  pub faultless : fault_of text ≡ None
  pub described : d ≡ description_of text

-- the body is the coverage file of these leaves, which ascend
pub record IsCoverOf (top : ℕ) (body leaves : List ℕ) : Type 0 where
  pub file : moc_file top (cover top leaves) ≡ body
  pub ascending : IsAscending leaves
  pub cells : All (λ leaf. leaf < cell_count top) leaves

abbrev pub most_leaves : ℕ
most_leaves = 65000

-- so many leaves are more than are copied, or are charged with more than a survey may be
abbrev pub is_too_large : PyramidShape → ℕ → Bool
is_too_large shape count = nat_lt most_leaves count || nat_lt most_charge (count * leaf_charge shape)

-- ---- how far a copy came, and which bytes are unread then

-- the description: k edits are published in the state that is held, and this is the body that describes it
pub record Described (bytes : List ℕ) (k : ℕ) (properties : List ℕ) (d : Description) (unread : List ℕ) : Type 0 where
  pub behind : List ℕ
  pub pinned : IsReply Pinned bytes (pinned_line k) behind
  pub reply : IsReply (Survey k) behind properties unread
  pub is : IsProperties properties d

-- the cover: which leaves there are
pub record Covered (bytes : List ℕ) (k : ℕ) (properties : List ℕ) (d : Description) (numbers unread : List ℕ) : Type 0 where
  pub behind : List ℕ
  pub described : Described bytes k properties d behind
  pub body : List ℕ
  pub reply : IsReply (Survey k) behind body unread
  pub is : IsCoverOf d.shape.top body numbers
  pub fits : is_too_large d.shape (length numbers) ≡ false

-- the replies to the requests of these leaves come first, and their bodies read as these stored numbers
abbrev pub AreLeaves : ℕ → Description → List ℕ → LeafMap → List ℕ → Type 0
AreLeaves k d unread [] rest = rest ≡ unread
AreLeaves k d unread (leaf ∷ leaves) rest =
    (body : List ℕ) × (behind : List ℕ) × IsReply (Survey k) unread body behind × (reads d body ≡ Ok leaf.1) × AreLeaves k d behind leaves rest

-- all leaves
pub record HasLeaves (bytes : List ℕ) (k : ℕ) (properties : List ℕ) (d : Description) (leaves : LeafMap) (unread : List ℕ) : Type 0 where
  pub behind : List ℕ
  pub covered : Covered bytes k properties d (keys_of leaves) behind
  pub are : AreLeaves k d behind leaves unread

-- the reply to the request of the mosaic, which is sent where there is a leaf, and what its body must be
abbrev pub IsMosaicReply : ℕ → Description → LeafMap → List ℕ → List ℕ → Type 0
IsMosaicReply k d [] unread rest = rest ≡ unread
IsMosaicReply k d (leaf ∷ leaves) unread rest = IsReply (Survey k) unread (file_of d (leaf ∷ leaves) path.Allsky) rest

-- the two files that the leaves decide are those that they make
pub record Compared (bytes : List ℕ) (k : ℕ) (d : Description) (leaves : LeafMap) (unread : List ℕ) : Type 0 where
  pub behind : List ℕ
  pub has : HasLeaves bytes k (file_of d leaves path.Properties) d leaves behind
  pub mosaic : IsMosaicReply k d leaves behind unread

-- the whole copy
pub record IsCopy (bytes : List ℕ) (d : Description) (leaves : LeafMap) : Type 0 where
  pub k : ℕ
  pub behind : List ℕ
  pub compared : Compared bytes k d leaves behind
  pub body : List ℕ
  pub rest : List ℕ
  pub reply : IsReply Any behind body rest

-- ---- why it came no further

-- the reply to this request, counted from 0, is malformed or cut; faults and running out of memory don't depend on the bytes
abbrev pub RefusesReply : Due → ℕ → List ℕ → MirrorRefusal → Type 0
RefusesReply due request unread (Reply told) = (told ≡ request) × IsWrongReply due unread
RefusesReply due request unread Properties = ⊥
RefusesReply due request unread Cover = ⊥
RefusesReply due request unread (TooLarge count) = ⊥
RefusesReply due request unread (Leaf cell fault) = ⊥
RefusesReply due request unread (Differs path) = ⊥
RefusesReply due request unread Cut = IsCutReply due unread
RefusesReply due request unread ReadFault = ⊤
RefusesReply due request unread WriteFault = ⊤
RefusesReply due request unread ShelfFault = ⊤
RefusesReply due request unread OutOfMemory = ⊤

-- the reply is well-formed, and its body is refused
pub record RefusesBody (due : Due) (unread : List ℕ) (Wrong : List ℕ → Type 0) : Type 0 where
  pub body : List ℕ
  pub rest : List ℕ
  pub reply : IsReply due unread body rest
  pub wrong : Wrong body

-- one of the two
abbrev pub RefusesAt : Due → ℕ → (MirrorRefusal → List ℕ → Type 0) → List ℕ → MirrorRefusal → Type 0
RefusesAt due request Wrong unread refusal = RefusesReply due request unread refusal ⊎ RefusesBody due unread (Wrong refusal)

-- the body is no properties file
abbrev pub WrongProperties : MirrorRefusal → List ℕ → Type 0
WrongProperties refusal body = (refusal ≡ Properties) × ((d : Description) → ¬ IsProperties body d)

-- the body is no coverage file of leaves of the order, or that of too many
abbrev pub WrongCover : Description → MirrorRefusal → List ℕ → Type 0
WrongCover d refusal body =
    ((refusal ≡ Cover) × ((numbers : List ℕ) → ¬ IsCoverOf d.shape.top body numbers))
    ⊎ ((numbers : List ℕ) × (refusal ≡ TooLarge (length numbers)) × IsCoverOf d.shape.top body numbers × (is_too_large d.shape (length numbers) ≡ true))

-- the body is no tile file of the survey
abbrev pub WrongLeaf : Description → ℕ → MirrorRefusal → List ℕ → Type 0
WrongLeaf d number refusal body = (fault : TileFault) × (refusal ≡ Leaf (record { order = d.shape.top; npix = number }) fault) × (reads d body ≡ Err fault)

-- the leaf behind a prefix of the cover's leaves is the first that is refused
pub record RefusesLeaf (k : ℕ) (d : Description) (numbers unread : List ℕ) (refusal : MirrorRefusal) : Type 0 where
  pub leaves : LeafMap
  pub behind : List ℕ
  pub first : keys_of leaves ≡ take (length leaves) numbers
  pub are : AreLeaves k d unread leaves behind
  pub number : ℕ
  pub next : slice_get numbers (length leaves) ≡ Some number
  pub refused : RefusesAt (Survey k) (3 + length leaves) (WrongLeaf d number) behind refusal

-- the properties differ from those that the leaves make; or they are the same, and the mosaic differs
abbrev pub WrongMosaic : List ℕ → Description → LeafMap → MirrorRefusal → List ℕ → Type 0
WrongMosaic properties d leaves refusal body =
    ((refusal ≡ Differs path.Properties) × (properties ≢ file_of d leaves path.Properties))
    ⊎ ((refusal ≡ Differs path.Allsky) × (properties ≡ file_of d leaves path.Properties) × (body ≢ file_of d leaves path.Allsky))

-- where there is no leaf, there is no reply to be judged; faults and running out of memory don't depend on the bytes
abbrev pub RefusesFiles : ℕ → List ℕ → Description → LeafMap → List ℕ → MirrorRefusal → Type 0
RefusesFiles k properties d [] unread refusal =
    ((refusal ≡ Differs path.Properties) × (properties ≢ file_of d [] path.Properties)) ⊎ (refusal ≡ OutOfMemory)
RefusesFiles k properties d (leaf ∷ leaves) unread refusal =
    RefusesAt (Survey k) (3 + length (leaf ∷ leaves)) (WrongMosaic properties d (leaf ∷ leaves)) unread refusal

-- the number of the last request
abbrev pub last_request : List ℕ → ℕ
last_request numbers = 3 + length numbers + length (mosaic_asks numbers)

-- the refusal by the first stage that gives one
pub data Refuses (bytes : List ℕ) (refusal : MirrorRefusal) : Type 0 where
  at_pin : RefusesReply Pinned 0 bytes refusal → Refuses bytes refusal
  at_properties : (k : ℕ) (unread : List ℕ) → IsReply Pinned bytes (pinned_line k) unread
      → RefusesAt (Survey k) 1 WrongProperties unread refusal → Refuses bytes refusal
  at_cover : (k : ℕ) (properties unread : List ℕ) (d : Description) → Described bytes k properties d unread
      → RefusesAt (Survey k) 2 (WrongCover d) unread refusal → Refuses bytes refusal
  at_leaf : (k : ℕ) (properties numbers unread : List ℕ) (d : Description) → Covered bytes k properties d numbers unread
      → RefusesLeaf k d numbers unread refusal → Refuses bytes refusal
  at_mosaic : (k : ℕ) (properties unread : List ℕ) (d : Description) (leaves : LeafMap) → HasLeaves bytes k properties d leaves unread
      → RefusesFiles k properties d leaves unread refusal → Refuses bytes refusal
  at_unpin : (k : ℕ) (unread : List ℕ) (d : Description) (leaves : LeafMap) → Compared bytes k d leaves unread
      → RefusesReply Any (last_request (keys_of leaves)) unread refusal → Refuses bytes refusal

-- ---- what a copy does

-- the source failed; the sink; the shelf
abbrev pub is_read_fault : MirrorRefusal → Bool
is_read_fault ReadFault = true
is_read_fault _ = false

abbrev pub is_write_fault : MirrorRefusal → Bool
is_write_fault WriteFault = true
is_write_fault _ = false

abbrev pub is_shelf_fault : MirrorRefusal → Bool
is_shelf_fault ShelfFault = true
is_shelf_fault _ = false

-- there is no result, for such a reason
abbrev pub is_err_and : {T E : Type 0} → (E → Bool) → Result T E → Bool
is_err_and test (Ok value) = false
is_err_and test (Err why) = test why

-- this is true of the bytes that are left, where the proof can see them; of some bytes, where it can't
abbrev pub TrueOf : Option (List ℕ) → (List ℕ → Type 0) → Type 0
TrueOf None P = (bytes : List ℕ) × P bytes
TrueOf (Some bytes) P = P bytes

-- the whole conversation: the bytes are a copy of this description and these leaves, and all requests were sent
pub record Talks (left held held' : Option (List ℕ)) : Type 0 where
  pub conf : Description
  pub leaves : LeafMap
  pub read : TrueOf left (λ bytes. IsCopy bytes conf leaves)
  pub sent : Appends held held' (mirror_requests conf.shape.top (keys_of leaves))

-- after it the shelf has exactly these files of a survey, so many; a step was taken for each leaf and each tile above them,
-- at most
pub record Copies (left held held' : Option (List ℕ)) (old new : Option ShelfFiles) (steps steps' count : ℕ) : Type 0 where
  pub talk : Talks left held held'
  pub replaced : Replaces (files talk.conf talk.leaves) old new
  pub counted : count ≡ len (files talk.conf talk.leaves)
  pub few : steps' ≤ steps + (length talk.leaves + tiles_above talk.conf.shape talk.leaves)

-- the leaves with these numbers; which tiles exist above them needs no more
abbrev pub bare : List ℕ → LeafMap
bare numbers = map (λ number. (number, [])) numbers

-- these are the leaves of the cover
pub record TellsNumbers (bytes : List ℕ) (shape : PyramidShape) (numbers : List ℕ) : Type 0 where
  pub k : ℕ
  pub properties : List ℕ
  pub d : Description
  pub unread : List ℕ
  pub covered : Covered bytes k properties d numbers unread
  pub shape_is : shape ≡ d.shape

-- a step was taken for each leaf of the cover and each tile above them, at most
pub record StepsFit (left : Option (List ℕ)) (steps steps' : ℕ) : Type 0 where
  pub shape : PyramidShape
  pub numbers : List ℕ
  pub told : TrueOf left (λ bytes. TellsNumbers bytes shape numbers)
  pub few : steps' ≤ steps + (length numbers + tiles_above shape (bare numbers))
