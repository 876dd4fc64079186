-- Reads are answered by what was found, one after another.
use Rattle.std.proofs.Common.{◌≡◌, ℕ, ◌+◌, ◌<◌, List, [], ◌∷◌, ◌++◌, length, map, take, get_or, refl, sym, ap, ◌∙◌, subst}
use Rattle.std.specs.Prelude.{Contains, Ok, Err, IfOk, IfErr, option_map}
use Rattle.std.specs.FinMap.{get}
use Rattle.std.proofs.lemmas.List.{map_more}
use Rattle.survey_conf.specs.Description.{Description}
use Rattle.edit_journal.specs.Edit.{LeafEdit}
use Rattle.edit_journal.specs.Leaves.{LeafTiles}
use Rattle.edit_journal.specs.Batches.{ends}
use Rattle.edit_journal.specs.Journal.{JournalContent}
use Rattle.tile_path.specs.Spelling.{spelling}
use Rattle.generation.specs.Files.{files_in}
use Rattle.generation.specs.Generation.{GenerationContent}
use Rattle.past_reads.specs.Past.{past_generation, TellsPastRefusal}
use Rattle.past_reads.specs.Answers.{PastAnswer, past_file, past_answer, past_answers, Given, IsAnswered, AreAnswered}
use Rattle.past_reads.specs.AnswerLaws.{found_answer, refused_answer}
use Rattle.past_reads.specs.declared.reads.PastRead.{PastRead}
use Rattle.past_reads.specs.declared.refusal.PastRefusal.{PastRefusal}
use Rattle.past_reads.specs.declared.refusal.PastRefusal.TheVariants.{TooNew, Split, OutOfMemory}

-- ---- one read

module _ (d : Description) (opening : LeafTiles) (batches : List (List LeafEdit)) (k : ℕ) (path : List ℕ) where
  answered_by : (answer : PastAnswer) (given : Given) → past_answer d opening batches k path ≡ answer → IsAnswered answer given → IsAnswered (past_answer d opening batches k path) given
  answered_by answer given is so = subst (λ answer. IsAnswered answer given) (sym is) so

  copied : (generation : GenerationContent) (given : Given) → generation ≡ past_generation d opening batches k → IfOk given (λ found. option_map (λ bytes. bytes.items) found ≡ get (files_in generation) path)
      → IfErr given (λ refusal. refusal ≡ OutOfMemory) → IsAnswered (Ok (past_file d opening batches k path)) given
  copied generation (Ok found) is file memory = file ∙ ap (λ (g : GenerationContent). get (files_in g) path) is
  copied generation (Err refusal) is file memory = memory

  pub found_given : (generation : GenerationContent) (given : Given) → generation ≡ past_generation d opening batches k → Contains (ends batches) k
      → IfOk given (λ found. option_map (λ bytes. bytes.items) found ≡ get (files_in generation) path) → IfErr given (λ refusal. refusal ≡ OutOfMemory) → IsAnswered (past_answer d opening batches k path) given
  found_given generation given is there file memory =
      answered_by (Ok (past_file d opening batches k path)) given (found_answer d opening batches k path there) (copied generation given is file memory)

  pub refused_given : (refusal : PastRefusal) → TellsPastRefusal batches k refusal → IsAnswered (past_answer d opening batches k path) (Err refusal)
  refused_given (TooNew edits) tells = answered_by (Err (TooNew edits)) (Err (TooNew edits)) (refused_answer d opening batches k path (TooNew edits) tells (λ e. cc)) refl
  refused_given (Split told) tells = answered_by (Err (Split told)) (Err (Split told)) (refused_answer d opening batches k path (Split told) tells (λ e. cc)) refl
  refused_given OutOfMemory tells = answered_by (Ok (past_file d opening batches k path)) (Err OutOfMemory) (found_answer d opening batches k path tells) refl

-- ---- one after another

more_answered : (answers : List PastAnswer) (answer : PastAnswer) (given : List Given) (one : Given) → AreAnswered answers given → IsAnswered answer one → AreAnswered (answers ++ answer ∷ []) (given ++ one ∷ [])
more_answered [] answer [] one so is = (is, tt)
more_answered [] answer (_ ∷ _) one so is = absurd so
more_answered (_ ∷ _) answer [] one so is = absurd so
more_answered (_ ∷ answers) answer (_ ∷ given) one so is = (so.0, more_answered answers answer given one so.1 is)

pub read_more : (d : Description) (journal : JournalContent) (reads : List PastRead) (i : ℕ) (read : PastRead) (given : List Given) (one : Given) → i < length reads → read ≡ get_or reads i read
    → AreAnswered (past_answers d journal (take i reads)) given → IsAnswered (past_answer d journal.opening journal.batches read.k (spelling read.path)) one
    → AreAnswered (past_answers d journal (take (i + 1) reads)) (given ++ one ∷ [])
read_more d journal reads i read given one within is so answered =
    let answer : PastRead → PastAnswer = λ r. past_answer d journal.opening journal.batches r.k (spelling r.path) in
    let more : past_answers d journal (take (i + 1) reads) ≡ past_answers d journal (take i reads) ++ answer read ∷ [] =
    map_more answer reads i read within ∙ ap (λ r. past_answers d journal (take i reads) ++ answer r ∷ []) (sym is) in
    subst (λ answers. AreAnswered answers (given ++ one ∷ [])) (sym more) (more_answered (past_answers d journal (take i reads)) (answer read) given one so answered)
