-- The tiles as a source rises out of them.
use Rattle.std.specs.Prelude.{◌≡◌, ℕ, ◌<◌, true, false, List, length}
use Rattle.std.specs.List.{remove}
use Rattle.healpix_nested.specs.Cells.{lies_under}
use Rattle.hips_catalog.specs.Rows.{Source}
use Rattle.hips_catalog.specs.Held.{rest_of, held}
use Rattle.hips_catalog.specs.More.{OneMore}

-- the tiles not under cell p of order k are those of few, and the others those of many, but that the tile of the cell has
-- another source in the place of x, at i
pub record Rising (top n : ℕ) (few many : List Source) (tiles : ℕ → ℕ → List Source) (k p : ℕ) (x : Source) (i : ℕ) : Type 0 where
  pub more : OneMore x (rest_of top n few k p) (rest_of top n many k p)
  pub done : (j q : ℕ) → lies_under j q k p ≡ false → tiles j q ≡ held top n few j q
  pub below : (j q : ℕ) → lies_under j q k p ≡ true → ¬ ((j ≡ k) × (q ≡ p)) → tiles j q ≡ held top n many j q
  pub place : i < length (tiles k p)
  pub gone : OneMore x (remove (tiles k p) i) (held top n many k p)
