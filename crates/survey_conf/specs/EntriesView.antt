-- What the entries of the code's map say, wherever the texts lie in memory.
use Rattle.std.specs.Prelude.{ℕ, List, map}
use denote.Ref.{Bor}
use Rattle.survey_conf.specs.Entries.{Entries, Setting}
use Rattle.survey_conf.specs.declared.entries.Setting.{Setting as Slices}

abbrev pub setting_view : Slices → Setting
setting_view s = record { line = s.line; value = s.value.now }

abbrev pub entries_view : List (Bor (List ℕ) × Slices) → Entries
entries_view es = map (λ e. (e.0.now, setting_view e.1)) es
