-- Lists of which one has an item more than the other, and lists of sources in order.
use Rattle.std.specs.Prelude.{◌≡◌, true, List, [], ◌∷◌}
use Rattle.std.specs.List.{AllByRecursion}
use Rattle.hips_catalog.specs.Rows.{Source, is_better}

-- few with the item x somewhere is many
pub data OneMore {T : Type 0} (x : T) : List T → List T → Type 0 where
  here : {xs : List T} → OneMore x xs (x ∷ xs)
  later : {y : T} {few many : List T} → OneMore x few many → OneMore x (y ∷ few) (y ∷ many)

-- each source is better than those after it
abbrev pub IsInOrder : List Source → Type 0
IsInOrder [] = Unit {0}
IsInOrder (s ∷ ss) = AllByRecursion (λ r. is_better s r ≡ true) ss × IsInOrder ss
