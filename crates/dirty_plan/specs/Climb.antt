-- From cells to their parents.
use Rattle.std.specs.Prelude.{ℕ, ◌/◌, List, map, nat_eq}
use Rattle.std.specs.List.{dedup}

-- the parents of ascending cells, those that follow one another and are equal once
abbrev pub parents : List ℕ → List ℕ
parents cells = dedup nat_eq (map (λ cell. cell / 4) cells)
