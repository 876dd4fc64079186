-- What a write of nothing leaves.
use Rattle.std.proofs.Common.{◌≡◌, ℕ, List, ◌++◌, append-nil, take, Option, Some, None, ap, ◌∙◌}
use Rattle.std.specs.Io.KnownBytes.{Appends, Keeps}

-- where nothing was appended, known bytes stay
pub nothing_appended : (old new : Option (List ℕ)) (m : ℕ) (bytes : List ℕ) → m ≡ 0 → Appends old new (take m bytes) → Keeps old new
nothing_appended None new m bytes none h = tt
nothing_appended (Some xs) None m bytes none h = absurd h
nothing_appended (Some xs) (Some ys) m bytes none h = h ∙ ap (λ n. xs ++ take n bytes) none ∙ append-nil xs
