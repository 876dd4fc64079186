-- Laws of the definitions, each the whole contract of a function of `laws`.
use Rattle.std.specs.Prelude.{◌≡◌, ◌↔◌, ℕ, ◌+◌, ◌*◌, ◌^◌, ◌<◌, ◌≤◌, true}
use Rattle.std.specs.declared.cmp.Ordering.{Ordering}
use Rattle.std.specs.declared.cmp.Ordering.TheVariants.{Less, Equal, Greater}
use Rattle.healpix_nested.specs.Cells.{NestedCell, IsCell, ComesBefore, lies_under, uniq_number}
use Rattle.healpix_nested.specs.Place.{Interleaves, z_order, stored_z, stored_at_z}

-- a comparison of cells says which comes before the other, and that they are one where neither does
pub record OrdersByOrderAndNumber (compare : NestedCell → NestedCell → Ordering) : Type 0 where
  pub less : (a b : NestedCell) → (compare a b ≡ Less) ↔ ComesBefore a b
  pub equal : (a b : NestedCell) → (compare a b ≡ Equal) ↔ (a ≡ b)
  pub greater : (a b : NestedCell) → (compare a b ≡ Greater) ↔ ComesBefore b a

-- each stored number of a tile of 2^n columns, at most 512, has a z in the tile, and that z leads back to it
abbrev pub StoredNumbersComeBack : Type 0
StoredNumbersComeBack = (n s : ℕ) → n ≤ 9 → s < 4 ^ n → (stored_z n s < 4 ^ n) × (stored_at_z n (stored_z n s) ≡ s)

-- and each z of the tile has a stored number in it, which leads back to that z
abbrev pub NumbersZComeBack : Type 0
NumbersZComeBack = (n z : ℕ) → n ≤ 9 → z < 4 ^ n → (stored_at_z n z < 4 ^ n) × (stored_z n (stored_at_z n z) ≡ z)

-- the rule on bits says what z(c, r) is, and leaves no choice
abbrev pub InterleavingIsARuleOnBits : Type 0
InterleavingIsARuleOnBits = (column line : ℕ) → column < 512 → line < 512 →
    Interleaves (z_order column line) column line × ((z : ℕ) → Interleaves z column line → z ≡ z_order column line)

-- no two cells have one uniq number
abbrev pub UniqNumbersDiffer : Type 0
UniqNumbersDiffer = (order npix order' npix' : ℕ) → IsCell order npix → IsCell order' npix' →
    uniq_number order npix ≡ uniq_number order' npix' → (order ≡ order') × (npix ≡ npix')

-- lying under is a nesting: a cell lies under itself, under what lies over a cell over it, and under no two cells of one
-- order; and the cells of the next order under cell p are 4p to 4p + 3
pub record CellsNest : Type 0 where
  pub itself : (k p : ℕ) → lies_under k p k p ≡ true
  pub through : (k p j q i r : ℕ) → lies_under k p j q ≡ true → lies_under j q i r ≡ true → lies_under k p i r ≡ true
  pub one : (k p j q r : ℕ) → lies_under k p j q ≡ true → lies_under k p j r ≡ true → q ≡ r
  pub four : (k p c : ℕ) → (lies_under (k + 1) c k p ≡ true) ↔ ((4 * p ≤ c) × (c < 4 * p + 4))

-- the four places of the next order under a place stand in a square, numbered down its first
-- column and then down its second
abbrev pub FourStandInASquare : Type 0
FourStandInASquare = (column line dc dl : ℕ) → column < 256 → line < 256 → dc < 2 → dl < 2 →
    z_order (2 * column + dc) (2 * line + dl) ≡ 4 * z_order column line + (2 * dc + dl)
