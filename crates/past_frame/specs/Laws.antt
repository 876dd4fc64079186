-- A law of the definitions, the whole contract of a function of `laws`.
use Rattle.std.specs.Prelude.{◌≡◌, ℕ, List, ◌++◌}
use Rattle.past_frame.specs.Record.{PastRecord, next_record, no_line, then_rest}

-- a record comes first however the input goes on, and so it is if no line of a record comes
pub record RecordsStand : Type 0 where
  pub whole : (room : ℕ) (bytes rest more : List ℕ) (first : PastRecord) → next_record room bytes ≡ then_rest first rest →
      next_record room (bytes ++ more) ≡ then_rest first (rest ++ more)
  pub bad : (room : ℕ) (bytes more : List ℕ) → next_record room bytes ≡ no_line → next_record room (bytes ++ more) ≡ no_line
