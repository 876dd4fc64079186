-- The pairs that the entries of a store stand for.
use Rattle.std.specs.Prelude.{ℕ, List, map}
use Rattle.std.specs.Arc.{arc_value}
use Rattle.std.specs.declared.sync.Arc.{Arc}

-- the pairs that entries of shared values stand for: each shared value stands for the value itself
abbrev pub pairs_of : {T Z : Type 0} → List (ℕ × Arc T Z) → List (ℕ × T)
pairs_of entries = map (λ entry. (entry.0, arc_value entry.1)) entries
