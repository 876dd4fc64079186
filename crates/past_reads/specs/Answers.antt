-- What reads of past states are answered, by the survey's description, its opening leaves and the batches of edits alone: no
-- generation is held. This project's profile.
use Rattle.std.specs.Prelude.{◌≡◌, ℕ, Bool, nat_eq, nat_lt, List, [], ◌∷◌, map, length, Vec, Option, option_map, Result, Ok, Err, ⊤, if◌then◌else◌}
use Rattle.std.specs.declared.alloc.Global.{Global}
use Rattle.std.specs.List.{list_any}
use Rattle.std.specs.FinMap.{get}
use Rattle.survey_conf.specs.Description.{Description}
use Rattle.edit_journal.specs.Edit.{LeafEdit}
use Rattle.edit_journal.specs.Leaves.{LeafTiles}
use Rattle.edit_journal.specs.Batches.{edits_of, ends}
use Rattle.edit_journal.specs.Journal.{JournalContent}
use Rattle.tile_path.specs.Spelling.{spelling}
use Rattle.generation.specs.Files.{leaf_map, files}
use Rattle.past_reads.specs.Past.{past_leaves}
use Rattle.past_reads.specs.declared.refusal.PastRefusal.{PastRefusal}
use Rattle.past_reads.specs.declared.refusal.PastRefusal.TheVariants.{TooNew, Split, OutOfMemory}
use Rattle.past_reads.specs.declared.reads.PastRead.{PastRead}

-- the file, if there is one; or why there is no generation
abbrev pub PastAnswer : Type 0
PastAnswer = Result (Option (List ℕ)) PastRefusal

-- the first k edits split no batch
abbrev pub is_end : List (List LeafEdit) → ℕ → Bool
is_end batches k = list_any (nat_eq k) (ends batches)

-- the bytes of the file at a path after the first k edits
abbrev pub past_file : Description → LeafTiles → List (List LeafEdit) → ℕ → List ℕ → Option (List ℕ)
past_file d opening batches k path = get (files d (leaf_map (past_leaves opening batches k))) path

-- the answer to a read of it
unfoldable pub past_answer : Description → LeafTiles → List (List LeafEdit) → ℕ → List ℕ → PastAnswer
past_answer d opening batches k path =
    if nat_lt (length (edits_of batches)) k then Err (TooNew (length (edits_of batches)))
    else (if is_end batches k then Ok (past_file d opening batches k path) else Err (Split k))

-- the answers to reads
abbrev pub past_answers : Description → JournalContent → List PastRead → List PastAnswer
past_answers d journal reads = map (λ read. past_answer d journal.opening journal.batches read.k (spelling read.path)) reads

-- ---- answers that were given

abbrev pub Given : Type 0
Given = Result (Option (Vec ℕ Global)) PastRefusal

-- it is the answer; or there was no memory for the file
abbrev pub IsAnswered : PastAnswer → Given → Type 0
IsAnswered (Ok file) (Ok found) = option_map (λ bytes. bytes.items) found ≡ file
IsAnswered (Ok file) (Err refusal) = refusal ≡ OutOfMemory
IsAnswered (Err refusal) (Ok found) = ⊥
IsAnswered (Err refusal) (Err told) = told ≡ refusal

-- each of them is
abbrev pub AreAnswered : List PastAnswer → List Given → Type 0
AreAnswered [] [] = ⊤
AreAnswered [] (given ∷ later) = ⊥
AreAnswered (answer ∷ answers) [] = ⊥
AreAnswered (answer ∷ answers) (given ∷ later) = IsAnswered answer given × AreAnswered answers later
