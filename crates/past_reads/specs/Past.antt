-- A cache of past states as contracts see it, and what it is kept as.
use Rattle.std.specs.Prelude.{◌≡◌, ℕ, ◌<◌, ◌≤◌, Bool, nat_lt, List, length, take, Contains, Option, Some, None, IfSome, option_map, if◌then◌else◌}
use Rattle.std.specs.Borrow.{Bor}
use Rattle.past_reads.specs.Costs.{greater, base}
use Rattle.std.specs.List.{AllByRecursion}
use Rattle.survey_conf.specs.Description.{Description}
use Rattle.edit_journal.specs.Edit.{LeafEdit}
use Rattle.edit_journal.specs.Leaves.{LeafTiles, leaves_of}
use Rattle.edit_journal.specs.Journal.{JournalContent}
use Rattle.edit_journal.specs.Batches.{edits_of, ends}
use Rattle.generation.specs.Generation.{GenerationContent}
use Rattle.survey_core.specs.History.{Begins}
use Rattle.past_reads.specs.declared.refusal.PastRefusal.{PastRefusal}
use Rattle.past_reads.specs.declared.refusal.PastRefusal.TheVariants.{TooNew, Split, OutOfMemory}

-- the survey's description and its opening leaves, whether the generation of these is kept, the batches that are known, how
-- many generations may be held beside it, and the prefixes of those that are, the most recently used first
pub record PastContent : Type 0 where
  pub conf : Description
  pub opening : LeafTiles
  pub opened : Bool
  pub batches : List (List LeafEdit)
  pub room : ℕ
  pub held : List ℕ

-- the leaves after the first k edits
abbrev pub past_leaves : LeafTiles → List (List LeafEdit) → ℕ → LeafTiles
past_leaves opening batches k = leaves_of opening (take k (edits_of batches))

-- the generation of the first k edits
abbrev pub past_generation : Description → LeafTiles → List (List LeafEdit) → ℕ → GenerationContent
past_generation d opening batches k = record { conf = d; prefix = k; leaves = past_leaves opening batches k }

-- a journal of the survey that begins with these batches
pub record GoesOnFrom (past : PastContent) (journal : JournalContent) : Type 0 where
  pub shape : journal.shape ≡ past.conf.shape
  pub opening : journal.opening ≡ past.opening
  pub batches : Begins past.batches journal.batches

-- why there is no generation of the first k edits of these batches; memory runs out only where the others don't apply
abbrev pub TellsPastRefusal : List (List LeafEdit) → ℕ → PastRefusal → Type 0
TellsPastRefusal batches k (TooNew edits) = (length (edits_of batches) < k) × (edits ≡ length (edits_of batches))
TellsPastRefusal batches k (Split told) = (k ≤ length (edits_of batches)) × (Contains (ends batches) k → ⊥) × (told ≡ k)
TellsPastRefusal batches k OutOfMemory = Contains (ends batches) k

-- the journal of what is known
abbrev pub journal_of : PastContent → JournalContent
journal_of past = record { shape = past.conf.shape; opening = past.opening; batches = past.batches }

-- ---- how it is kept: by the survey's description, a journal, and the generations with their prefixes

abbrev pub kept_content : Description → Bool → JournalContent → List ℕ → ℕ → PastContent
kept_content d opened journal held room = record { conf = d; opening = journal.opening; opened = opened; batches = journal.batches; room = room; held = held }

-- a generation is that of its prefix, an end of the batches
pub record IsHeld (d : Description) (journal : JournalContent) (k : ℕ) (generation : GenerationContent) : Type 0 where
  pub whole : Contains (ends journal.batches) k
  pub is : generation ≡ past_generation d journal.opening journal.batches k

-- so is each of the pairs of a prefix and what its generation is kept as; that of the opening leaves is kept beside them, if
-- it was given
pub record IsKeptPast {X : Type 0} (value : X → GenerationContent) (d : Description) (journal : JournalContent) (first : Option X) (pairs : List (ℕ × X)) (room : ℕ) : Type 0 where
  pub shape : journal.shape ≡ d.shape
  pub opening : IfSome first (λ x. value x ≡ record { conf = d; prefix = 0; leaves = journal.opening })
  pub held : AllByRecursion (λ pair. IsHeld d journal pair.0 (value pair.1)) pairs
  pub most : room ≤ 8

-- ---- the generation that another one is made from

-- the prefix of a generation that was found
abbrev pub prefix_by : {X : Type 0} → (X → GenerationContent) → Option (Bor X) → Option ℕ
prefix_by value found = option_map (λ generation. (value generation.now).prefix) found

-- it is that of the base of k
pub record FindsBase {X : Type 0} (value : X → GenerationContent) (past : PastContent) (k : ℕ) (found : Option (Bor X)) : Type 0 where
  pub prefix : prefix_by value found ≡ base past.opened k past.held
  pub held : IfSome found (λ generation. IsHeld past.conf (journal_of past) (value generation.now).prefix (value generation.now))
  pub at_most : IfSome found (λ generation. (value generation.now).prefix ≤ k)

-- of two, the one with more edits, where these are below k
abbrev pub better_prefix : ℕ → Option ℕ → ℕ → Option ℕ
better_prefix k best other = if nat_lt other k then greater best other else best
