-- What `mirror` does: it copies one published state of a peer's survey onto the shelf. The source has what the peer sends, and
-- the sink gets the requests.
use Rattle.std.specs.Prelude.{◌≡◌, ◌≢◌, ◌⊎◌, ℕ, Option, Result, Ok, Err, List, [], ◌∷◌}
use Rattle.survey_link.specs.Door.{Connection}
use Rattle.survey_link.specs.Shelf.{ShelfFiles}
use Rattle.shelf_io.specs.Survey.{OthersStay}
use Rattle.hips_mirror.specs.Mirror.{Copies, Refuses, TrueOf, Talks, StepsFit}
use Rattle.hips_mirror.specs.declared.refusal.MirrorRefusal.{MirrorRefusal}
use Rattle.hips_mirror.specs.declared.refusal.MirrorRefusal.TheVariants.{Reply, Properties, Cover, TooLarge, Leaf, Differs, Cut, ReadFault, WriteFault, ShelfFault, OutOfMemory}

-- ---- the status

abbrev pub refusal_status : MirrorRefusal → ℕ
refusal_status (Reply request) = 21
refusal_status Properties = 22
refusal_status Cover = 23
refusal_status (TooLarge leaves) = 24
refusal_status (Leaf cell fault) = 25
refusal_status (Differs path) = 26
refusal_status Cut = 4
refusal_status ReadFault = 5
refusal_status WriteFault = 6
refusal_status ShelfFault = 7
refusal_status OutOfMemory = 11

-- how it can end
abbrev pub mirror_statuses : List ℕ
mirror_statuses = 0 ∷ 4 ∷ 5 ∷ 6 ∷ 7 ∷ 11 ∷ 21 ∷ 22 ∷ 23 ∷ 24 ∷ 25 ∷ 26 ∷ []

-- ---- the run

-- what the proof sees of a run: the source, the sink, the files and the count of steps, before and after
pub record Copying : Type 0 where
  pub old : Connection
  pub new : Connection
  pub files : Option ShelfFiles
  pub files_then : Option ShelfFiles
  pub steps : ℕ
  pub steps_then : ℕ

-- the shelf's files of a survey became those of the copy, so many, and all requests were written and flushed
pub record IsCopied (run : Copying) (count : ℕ) : Type 0 where
  pub copies : Copies run.old.unread run.old.written run.new.written run.files run.files_then run.steps run.steps_then count
  pub flushed : run.new.flushed ≡ run.new.written

-- it came no further for this refusal, the first that what the peer sends gives. The files stay, unless the shelf failed or
-- there was no memory once all replies were read; all files stay that no survey can have
pub record IsRefused (run : Copying) (refusal : MirrorRefusal) : Type 0 where
  pub refused : TrueOf run.old.unread (λ bytes. Refuses bytes refusal)
  pub untouched : refusal ≢ ShelfFault → refusal ≢ OutOfMemory → run.files_then ≡ run.files
  pub last : (run.files_then ≡ run.files) ⊎ (Talks run.old.unread run.old.written run.new.written × OthersStay run.files run.files_then)
  pub steps : (run.steps_then ≡ run.steps) ⊎ StepsFit run.old.unread run.steps run.steps_then

abbrev pub MirrorOf : Copying → ℕ → Result ℕ MirrorRefusal → Type 0
MirrorOf run status (Ok count) = (status ≡ 0) × IsCopied run count
MirrorOf run status (Err refusal) = (status ≡ refusal_status refusal) × IsRefused run refusal

-- `mirror`, whatever the peer sends
abbrev pub RunsMirror : Copying → ℕ → Type 0
RunsMirror run status = (outcome : Result ℕ MirrorRefusal) × MirrorOf run status outcome

abbrev pub copying_of : Connection → Connection → Option ShelfFiles → Option ShelfFiles → ℕ → ℕ → Copying
copying_of old new files files_then steps steps_then =
    record { old = old; new = new; files = files; files_then = files_then; steps = steps; steps_then = steps_then }
