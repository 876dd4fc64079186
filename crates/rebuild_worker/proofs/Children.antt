-- The four children of a cell, as a store lends them.
use Rattle.std.proofs.Common.{◌≡◌, ℕ, ◌+◌, ◌*◌, ◌^◌, ◌<◌, ◌≤◌, List, Option, Some, None, option_map, refl, sym, ◌∙◌, ap, arith, Bor, ◌||◌}
use Rattle.std.specs.Prelude.{is_some, IfSome}
use Rattle.std.specs.Option.{ForSome}
use Rattle.std.specs.BTreeMap.{is_at}
use Rattle.std.specs.Ordering.{nat_cmp}
use Rattle.std.proofs.lemmas.Map.Views.{IfSome-lookup_from_All}
use Rattle.healpix_nested.specs.Cells.{cell_count}
use Rattle.healpix_nested.specs.CellLaws.{four_pow_mono}
use Rattle.leaf_store.specs.Store.{value_at}
use Rattle.pyramid_model.specs.Shape.{PyramidShape}
use Rattle.tile_pixels.specs.Tile.{PixelTile}
use Rattle.tile_pixels.specs.Merge.{FourTiles}
use Rattle.rebuild_worker.specs.Level.{numbers_of, children_of, any_of, HaveShape}

-- the numbers of the children of a cell above order 11 are small
pub children_fit : (order npix : ℕ) → order < 11 → npix < cell_count order → 4 * npix + 4 ≤ 2 ^ 26
children_fit order npix h below = let power : 4 ^ order ≤ 4 ^ 10 = four_pow_mono order 10 (omega arith) in omega arith

-- a tile that a store of tiles of a shape lends has the shape
lent_shape : (shape : PyramidShape) (v : Option PixelTile) (r : Option (Bor PixelTile)) → IfSome v (λ t. (t.depth ≡ shape.depth) × (t.n ≡ shape.n)) → option_map (λ t. t.now) r ≡ v
    → ForSome r (λ t. (t.now.depth ≡ shape.depth) × (t.now.n ≡ shape.n))
lent_shape shape v None holds is x e = cc
lent_shape shape None (Some lent) holds is x e = cc
lent_shape shape (Some v) (Some lent) holds is x e =
    let same : lent ≡ x = cc in
    let now : lent.now ≡ v = cc in
    let found : x.now ≡ v = ap (λ b. b.now) (sym same) ∙ now in
    (ap (λ t. t.depth) found ∙ holds.0, ap (λ t. t.n) found ∙ holds.1)

pub child_shape : (shape : PyramidShape) (tiles : List (ℕ × PixelTile)) (key : ℕ) (r : Option (Bor PixelTile)) → HaveShape shape tiles → option_map (λ t. t.now) r ≡ value_at key tiles
    → ForSome r (λ t. (t.now.depth ≡ shape.depth) × (t.now.n ≡ shape.n))
child_shape shape tiles key r all is = lent_shape shape (value_at key tiles) r (IfSome-lookup_from_All (λ t. (t.depth ≡ shape.depth) × (t.n ≡ shape.n)) (is_at (nat_cmp key)) tiles all) is

-- its numbers
pub child_numbers : (v : Option PixelTile) (r : Option (Bor PixelTile)) → option_map (λ t. t.now) r ≡ v → option_map (λ t. t.now.numbers) r ≡ numbers_of v
child_numbers v None is = ap numbers_of is
child_numbers v (Some lent) is = ap numbers_of is

-- which are there exactly where the tile is
child_some : (r : Option (Bor PixelTile)) → is_some (option_map (λ t. t.now.numbers) r) ≡ is_some r
child_some None = refl
child_some (Some lent) = refl

-- the four that are lent are the children that a store has
pub record AreLent (tiles : List (ℕ × PixelTile)) (npix : ℕ) (r0 r1 r2 r3 : Option (Bor PixelTile)) : Type 0 where
  pub first : option_map (λ t. t.now) r0 ≡ value_at (4 * npix) tiles
  pub second : option_map (λ t. t.now) r1 ≡ value_at (4 * npix + 1) tiles
  pub third : option_map (λ t. t.now) r2 ≡ value_at (4 * npix + 2) tiles
  pub fourth : option_map (λ t. t.now) r3 ≡ value_at (4 * npix + 3) tiles

-- the numbers of four tiles that are lent
abbrev pub lent : Option (Bor PixelTile) → Option (Bor PixelTile) → Option (Bor PixelTile) → Option (Bor PixelTile) → FourTiles
lent r0 r1 r2 r3 = record {
  first = option_map (λ t. t.now.numbers) r0;
  second = option_map (λ t. t.now.numbers) r1;
  third = option_map (λ t. t.now.numbers) r2;
  fourth = option_map (λ t. t.now.numbers) r3;
}

-- they are those of the children
pub lent_children : (tiles : List (ℕ × PixelTile)) (npix : ℕ) (r0 r1 r2 r3 : Option (Bor PixelTile)) → AreLent tiles npix r0 r1 r2 r3 → lent r0 r1 r2 r3 ≡ children_of tiles npix
lent_children tiles npix r0 r1 r2 r3 are =
    let n0 = child_numbers (value_at (4 * npix) tiles) r0 are.first in
    let n1 = child_numbers (value_at (4 * npix + 1) tiles) r1 are.second in
    let n2 = child_numbers (value_at (4 * npix + 2) tiles) r2 are.third in
    let n3 = child_numbers (value_at (4 * npix + 3) tiles) r3 are.fourth in
    rw (n0, n1, n2, n3) refl

-- one of the four is there where one is lent
pub any_lent : (r0 r1 r2 r3 : Option (Bor PixelTile)) → any_of (lent r0 r1 r2 r3) ≡ (is_some r0 || is_some r1 || is_some r2 || is_some r3)
any_lent r0 r1 r2 r3 = rw (child_some r0, child_some r1, child_some r2, child_some r3) refl
