-- The paths of leaves, and their spellings.
use Rattle.std.proofs.Common.{◌≡◌, ℕ, ◌<◌, ◌≤◌, Bool, true, false, cond, eqb, List, Option, Some, None, refl, sym, ap, ◌∙◌, subst, arith, ◌↔◌}
use Rattle.std.specs.Prelude.{◌≢◌, nat_eq, ◌==◌, IfSome}
use Rattle.std.proofs.lemmas.Bool.Decides.{nat_tests}
use Rattle.healpix_nested.specs.Cells.{NestedCell, cell_count}
use Rattle.tile_path.specs.Spelling.{IsPath, IsTile, spelling}
use Rattle.tile_path.specs.declared.path.Path.{Path}
use Rattle.tile_path.specs.declared.path.Path.TheVariants.{Properties, Moc, Allsky, Tile}
use Rattle.shelf_io.specs.Opening.{leaf_cell, leaf_path}
use Rattle.shelf_io.specs.Listed.{leaf_of}

pub leaf_is_path : (top leaf : ℕ) → top ≤ 11 → leaf < cell_count top → IsPath (Tile (leaf_cell top leaf))
leaf_is_path top leaf h below = record { cell = record { known_order = omega arith; in_order = below }; order_at_most_11 = h }

pub leaf_spelling : (top leaf : ℕ) → spelling (Tile (leaf_cell top leaf)) ≡ leaf_path top leaf
unfolding leaf_path
leaf_spelling top leaf = refl

pub same_cell : (top leaf : ℕ) (cell : NestedCell) → top ≡ cell.order → leaf ≡ cell.npix → leaf_cell top leaf ≡ cell
same_cell top leaf cell order npix i = record { order = order i; npix = npix i }

-- a path is of the leaf that it is the path of
own_leaf : (top leaf : ℕ) → leaf_of top (Tile (leaf_cell top leaf)) ≡ Some leaf
own_leaf top leaf = let same : (top == top) ≡ true = grind (arith, nat_tests) in ap (λ b. cond b (Some leaf) None) same

-- and of no other
leaf_is : (top leaf : ℕ) (path : Path) → leaf_of top path ≡ Some leaf → path ≡ Tile (leaf_cell top leaf)
leaf_is top leaf Properties e = cc
leaf_is top leaf Moc e = cc
leaf_is top leaf Allsky e = cc
leaf_is top leaf (Tile cell) e =
    elim (cell.order == top) as (λ b. (cell.order == top) ≡ b → cond b (Some cell.npix) None ≡ Some leaf → Tile cell ≡ Tile (leaf_cell top leaf)) [
      | true ↦ λ same found. let order : top ≡ cell.order = grind (arith, nat_tests) in let npix : leaf ≡ cell.npix = cc in ap Tile (sym (same_cell top leaf cell order npix))
      | false ↦ λ other found. cc
    ] refl e

-- a text that is read as this path is spelled as a leaf's exactly where the path is of the leaf
pub leaf_of_read : (top : ℕ) (text : List ℕ) (path : Path) → top ≤ 11 → spelling path ≡ text → ((other : Path) → IsPath other → spelling other ≡ text → Some path ≡ Some other)
    → (leaf : ℕ) → leaf < cell_count top → (leaf_of top path ≡ Some leaf) ↔ (leaf_path top leaf ≡ text)
leaf_of_read top text path h spelled only leaf below = (
  λ is. sym (leaf_spelling top leaf) ∙ ap spelling (sym (leaf_is top leaf path is)) ∙ spelled,
  λ is. let found : Some path ≡ Some (Tile (leaf_cell top leaf)) = only (Tile (leaf_cell top leaf)) (leaf_is_path top leaf h below) (leaf_spelling top leaf ∙ is) in
      let same : path ≡ Tile (leaf_cell top leaf) = cc in
      ap (leaf_of top) same ∙ own_leaf top leaf,
)

-- the leaf of a path that a survey can have is a cell of its order
pub leaf_below : (top : ℕ) (path : Path) → IsPath path → IfSome (leaf_of top path) (λ leaf. leaf < cell_count top)
leaf_below top Properties is = tt
leaf_below top Moc is = tt
leaf_below top Allsky is = tt
leaf_below top (Tile cell) is =
    elim (cell.order == top) as (λ b. (cell.order == top) ≡ b → IfSome (cond b (Some cell.npix) None) (λ leaf. leaf < cell_count top)) [
      | true ↦ λ same. let order : cell.order ≡ top = grind (arith, nat_tests) in let below : cell.npix < cell_count cell.order = is.cell.in_order in rw (sym order) below
      | false ↦ λ other. tt
    ] refl

-- the cell that was made
pub made_cell : (top order leaf : ℕ) (made : Option NestedCell) (cell : NestedCell) → order ≡ top → made ≡ Some cell → IfSome made (λ c. (c.order ≡ order) × (c.npix ≡ leaf)) → cell ≡ leaf_cell top leaf
made_cell top order leaf made cell at e is =
    let own : IfSome (Some cell) (λ c. (c.order ≡ order) × (c.npix ≡ leaf)) = subst (λ o. IfSome o (λ c. (c.order ≡ order) × (c.npix ≡ leaf))) e is in
    sym (same_cell top leaf cell (sym (own.0 ∙ at)) (sym own.1))
