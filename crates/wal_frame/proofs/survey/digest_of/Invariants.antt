use Rattle.std.proofs.Common.{◌≡◌, ◌++◌, ℕ, List}
use Rattle.std.specs.Prelude.{flat_map}
use Rattle.sha2.specs.Hashers.{Holds512_256}
use Rattle.wal_frame.specs.Survey.{leaf_bytes, survey_bytes}
use Rattle.wal_frame.proofs.survey.digest_of.Given as goal

-- what the hasher holds, with what is left, is all
abbrev pub invariant-loop-leaf : goal.invariant-loop-leaf
invariant-loop-leaf l = (held : List ℕ) × Holds512_256 l.hasher held × (held ++ flat_map leaf_bytes l.leaf-iterator ≡ survey_bytes l.fn.text l.fn.opening)
