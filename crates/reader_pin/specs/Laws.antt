-- Laws of boards, each the whole contract of a function of `laws`.
use Rattle.std.specs.Prelude.{◌≡◌, ℕ, ◌≤◌, List}
use Rattle.edit_journal.specs.Edit.{LeafEdit}
use Rattle.survey_core.specs.History.{IsHistory}
use Rattle.reader_pin.specs.Board.{BoardContent, IsOwned, Stays, Happens, Publishes, last_seen, edit_count}
use Rattle.reader_pin.specs.Answers.{Appends}
use Rattle.reader_pin.specs.Solo.{IsAlone}

-- of a board before a call and after it, all of whose steps are its own: where the call made no event, nothing changed; an
-- event is the next step after those seen before; and a publication of all edits seen before publishes all edits
pub record AloneSeesAll : Type 0 where
  pub stays : (old new : BoardContent) → IsHistory old.opening old.history → IsOwned old → IsAlone old → IsAlone new → Stays old new → new ≡ old
  pub appends : (batch : List LeafEdit) (old new : BoardContent) → IsHistory old.opening old.history → IsAlone old → IsAlone new →
      (appends : Appends batch old new) → appends.before ≡ old.history
  pub publishes : (k : ℕ) (old new : BoardContent) → IsHistory old.opening old.history → IsAlone old → IsAlone new →
      (publishes : Happens (Publishes k) old new) → publishes.before ≡ old.history
  pub whole : (k : ℕ) (old new : BoardContent) → IsHistory old.opening old.history → IsAlone old → IsAlone new →
      Happens (Publishes k) old new → edit_count (last_seen old) ≤ k → k ≡ edit_count (last_seen old)
