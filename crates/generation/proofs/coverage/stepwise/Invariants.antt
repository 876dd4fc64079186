use Rattle.std.proofs.Common.{◌≡◌, ◌∷◌, ℕ, List, take}
use Rattle.coverage_moc.specs.Cover.{cover}
use Rattle.generation.specs.Presence.{all_as_in}
use Rattle.generation.proofs.coverage.stepwise.Given as goal

abbrev pub invariant-loop-leaf : goal.invariant-loop-leaf
invariant-loop-leaf l = record {
  top : l.made.top ≡ l.top;
  rows : (there : List ℕ) → l.fn.before.rows ≡ cover l.top there → l.made.rows ≡ cover l.top (all_as_in l.leaves there (l.first ∷ take l.leaf-index l.rest));
}
