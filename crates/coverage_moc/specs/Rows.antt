-- What the steps of a change say of ascending rows.
use Rattle.std.specs.Prelude.{◌≡◌, ℕ, ◌+◌, ◌-◌, ◌*◌, ◌/◌, ◌^◌, ◌==◌, ◌||◌, not, true, ◌<◌, ◌≤◌, ◌&&◌, Bool, List, [], ◌∷◌}
use Rattle.std.specs.List.{list_all}
use Rattle.healpix_nested.specs.Cells.{cell_count, uniq_number}
use Rattle.coverage_moc.specs.Cover.{has, cover, is_under}

-- the same numbers are in both lists
abbrev pub SameMembers : List ℕ → List ℕ → Type 0
SameMembers xs ys = (x : ℕ) → has xs x ≡ has ys x

-- the test passes at the four children of cell q
abbrev pub four : (ℕ → Bool) → ℕ → Bool
four test q = test (4 * q) && (test (4 * q + 1) && (test (4 * q + 2) && test (4 * q + 3)))

-- the four children of cell q
abbrev pub four_cells : ℕ → List ℕ
four_cells q = (4 * q) ∷ (4 * q + 1) ∷ (4 * q + 2) ∷ (4 * q + 3) ∷ []

-- the numbers of the four children, of order k, of cell q of the order above
abbrev pub children : ℕ → ℕ → List ℕ
children k q = uniq_number k (4 * q) ∷ uniq_number k (4 * q + 1) ∷ uniq_number k (4 * q + 2) ∷ uniq_number k (4 * q + 3) ∷ []

-- the numbers of cells of order at most k are below 16·4^k; there the rows are those of the cover of these cells of order k
abbrev pub AgreesUpTo : ℕ → List ℕ → List ℕ → Type 0
AgreesUpTo k rows cells = (row : ℕ) → row < 16 * 4 ^ k → has rows row ≡ has (cover k cells) row

-- the rows of orders above k are the same
abbrev pub SameAbove : ℕ → List ℕ → List ℕ → Type 0
SameAbove k xs ys = (row : ℕ) → 16 * 4 ^ k ≤ row → has xs row ≡ has ys row

-- cell p of order k lies under no row of a lower order, and doesn't stand with its three siblings
abbrev pub is_alone : List ℕ → ℕ → ℕ → Bool
is_alone rows k p = (k == 0) || (not (is_under (k - 1) rows (p / 4)) && not (list_all (has rows) (children k (p / 4))))

-- the row is the number of such a cell, of an order up to `top`
abbrev pub IsMaximalRow : ℕ → List ℕ → ℕ → Type 0
IsMaximalRow top rows row = (k : ℕ) × (p : ℕ) × (k ≤ top) × (p < cell_count k) × (uniq_number k p ≡ row) × (is_alone rows k p ≡ true)
