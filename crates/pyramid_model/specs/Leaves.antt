-- Leaf tiles as the plain program keeps them.
use Rattle.std.specs.Prelude.{ℕ, List, map, ℤ, Vec}
use Rattle.std.specs.declared.alloc.Global.{Global}
use Rattle.pyramid_model.specs.Shape.{LeafMap}

-- the leaf map that the entries of an ordered map stand for
abbrev pub leaf_map : List (ℕ × Vec ℤ Global) → LeafMap
leaf_map entries = map (λ leaf. (leaf.0, leaf.1.items)) entries
