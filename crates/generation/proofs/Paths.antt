-- The paths of tiles, counted order by order.
use Rattle.std.proofs.Common.{◌≡◌, ℕ, zero, suc, ◌+◌, ◌-◌, ◌^◌, ◌<◌, ◌≤◌, map, flat_map, List, [], ◌∷◌, ◌++◌, Option, Some, None, option_map, refl, sym, ap, ◌∙◌, subst, arith, length, slice_get, add-zero}
use Rattle.std.specs.Prelude.{IsSome, IfSome, take, drop}
use Rattle.std.specs.List.{range_with_len}
use Rattle.std.proofs.lemmas.List.{length-append, length-drop, take_at}
use Rattle.std.proofs.lemmas.Grind.{flat_map-append}
use Rattle.std.proofs.lemmas.Map.Views.{length-le_from_below}
use Rattle.std.proofs.lemmas.Option.{slice_get_within, get_or_from_slice_get}
use Rattle.healpix_nested.specs.Cells.{cell_count, NestedCell, IsCell}
use Rattle.healpix_nested.specs.CellLaws.{four_pow_mono}
use Rattle.pyramid_model.specs.Shape.{PyramidShape, LeafMap}
use Rattle.pyramid_model.specs.Tile.{exists}
use Rattle.tile_pixels.specs.Tile.{tile_of, PixelTile}
use Rattle.tile_path.specs.declared.path.Path.{Path}
use Rattle.tile_path.specs.declared.path.Path.TheVariants.{Tile}
use Rattle.generation.specs.Files.{existing, tile_paths}
use Rattle.generation.specs.Kept.{tiles_of}
use Rattle.generation.proofs.Lists.{selection_ascends}
use Rattle.generation.proofs.Mosaics.{existing_in}

length-map : {A B : Type 0} (f : A → B) (xs : List A) → length (map f xs) ≡ length xs
length-map f [] = refl
length-map f (x ∷ xs) = ap suc (length-map f xs)

slice_get-map : {A B : Type 0} (f : A → B) (xs : List A) (i : ℕ) → slice_get (map f xs) i ≡ option_map f (slice_get xs i)
slice_get-map f [] i = refl
slice_get-map f (x ∷ xs) zero = refl
slice_get-map f (x ∷ xs) (suc i) = slice_get-map f xs i

pub slice_get-front : {A : Type 0} (xs ys : List A) (i : ℕ) → i < length xs → slice_get (xs ++ ys) i ≡ slice_get xs i
slice_get-front [] ys i h = absurd (omega arith)
slice_get-front (x ∷ xs) ys zero h = refl
slice_get-front (x ∷ xs) ys (suc i) h = slice_get-front xs ys i (omega arith)

pub slice_get-back : {A : Type 0} (xs ys : List A) (i j : ℕ) → i ≡ length xs + j → slice_get (xs ++ ys) i ≡ slice_get ys j
slice_get-back [] ys i j e = ap (slice_get ys) (e ∙ omega arith)
slice_get-back (x ∷ xs) ys zero j e = absurd (omega arith)
slice_get-back (x ∷ xs) ys (suc i) j e = slice_get-back xs ys i j (omega arith)

abbrev tile_pair : PyramidShape → LeafMap → ℕ → ℕ → ℕ × PixelTile
tile_pair shape leaves k npix = (npix, tile_of shape leaves k npix)

module _ (shape : PyramidShape) (leaves : LeafMap) where
  pub count_is : (k : ℕ) → length (tiles_of shape leaves k) ≡ length (tile_paths shape leaves k)
  unfolding tiles_of
  count_is k =
      length-map (tile_pair shape leaves k) (existing shape leaves k)
      ∙ sym (length-map (λ npix. Tile (record { order = k; npix = npix })) (existing shape leaves k))

  pub few_paths : (k : ℕ) → k ≤ 11 → length (tile_paths shape leaves k) ≤ 50331648
  few_paths k h =
      let count : length (tile_paths shape leaves k) ≡ length (existing shape leaves k) = length-map (λ npix. Tile (record { order = k; npix = npix })) (existing shape leaves k) in
      let few : length (existing shape leaves k) ≤ cell_count k = length-le_from_below (cell_count k) (existing shape leaves k) (selection_ascends (exists shape leaves k) 0 (cell_count k)) (existing_in shape leaves k) in
      let power : 4 ^ k ≤ 4 ^ 11 = four_pow_mono k 11 h in
      omega arith

  -- tile i of an order, and its cell
  pub cell_found : (k i npix : ℕ) (t : PixelTile) (r : Option NestedCell) → k ≤ 20 → slice_get (tiles_of shape leaves k) i ≡ Some (npix, t) → (IsCell k npix → IsSome r) → IfSome r (λ cell. (cell.order ≡ k) × (cell.npix ≡ npix))
      → option_map (λ cell. Tile cell) r ≡ slice_get (tile_paths shape leaves k) i
  unfolding tiles_of
  cell_found k i npix t r small at made is =
      let pair : option_map (tile_pair shape leaves k) (slice_get (existing shape leaves k) i) ≡ Some (npix, t) = sym (slice_get-map (tile_pair shape leaves k) (existing shape leaves k) i) ∙ at in
      let number : slice_get (existing shape leaves k) i ≡ Some npix = first (slice_get (existing shape leaves k) i) pair in
      let within : i < length (existing shape leaves k) = slice_get_within (existing shape leaves k) i npix number in
      let below : npix < cell_count k = subst (λ x. x < cell_count k) (get_or_from_slice_get (existing shape leaves k) i npix npix number) (existing_in shape leaves k i npix within) in
      cell r (made (record { known_order = small; in_order = below })) is
      ∙ ap (option_map (λ npix. Tile (record { order = k; npix = npix }))) (sym number) ∙ sym (slice_get-map (λ npix. Tile (record { order = k; npix = npix })) (existing shape leaves k) i)
    where
      first : (o : Option ℕ) → option_map (tile_pair shape leaves k) o ≡ Some (npix, t) → o ≡ Some npix
      first None e = cc
      first (Some x) e = ap (option_map (λ (p : ℕ × PixelTile). p.0)) e

      cell : (r : Option NestedCell) → IsSome r → IfSome r (λ cell. (cell.order ≡ k) × (cell.npix ≡ npix)) → option_map (λ cell. Tile cell) r ≡ Some (Tile (record { order = k; npix = npix }))
      cell None some is = cc
      cell (Some x) some is = λ j. Some (Tile (record { order = is.0 j; npix = is.1 j }))

  pub no_cell : (k i : ℕ) → slice_get (tiles_of shape leaves k) i ≡ None → None ≡ slice_get (tile_paths shape leaves k) i
  unfolding tiles_of
  no_cell k i at =
      let pair : option_map (tile_pair shape leaves k) (slice_get (existing shape leaves k) i) ≡ None = sym (slice_get-map (tile_pair shape leaves k) (existing shape leaves k) i) ∙ at in
      sym (slice_get-map (λ npix. Tile (record { order = k; npix = npix })) (existing shape leaves k) i ∙ gone (slice_get (existing shape leaves k) i) pair)
    where
      gone : (o : Option ℕ) → option_map (tile_pair shape leaves k) o ≡ None → option_map (λ npix. Tile (record { order = k; npix = npix })) o ≡ None
      gone None e = refl
      gone (Some x) e = cc

-- ---- several orders

abbrev pub orders_from : PyramidShape → LeafMap → ℕ → List Path
orders_from shape leaves order = flat_map (tile_paths shape leaves) (range_with_len order (shape.top + 1 - order))

pub orders_step : (shape : PyramidShape) (leaves : LeafMap) (order : ℕ) → order ≤ shape.top → orders_from shape leaves order ≡ tile_paths shape leaves order ++ orders_from shape leaves (order + 1)
orders_step shape leaves order h =
    let e : shape.top + 1 - order ≡ suc (shape.top + 1 - (order + 1)) = omega arith in
    ap (λ n. flat_map (tile_paths shape leaves) (range_with_len order n)) e

pub orders_end : (shape : PyramidShape) (leaves : LeafMap) (order : ℕ) → shape.top < order → orders_from shape leaves order ≡ []
orders_end shape leaves order h =
    let e : shape.top + 1 - order ≡ 0 = omega arith in
    ap (λ n. flat_map (tile_paths shape leaves) (range_with_len order n)) e

range_more : (a n : ℕ) → range_with_len a (n + 1) ≡ range_with_len a n ++ (a + n) ∷ []
range_more a zero = ap (λ z. z ∷ []) (omega arith)
range_more a (suc n) =
    let e : suc n + 1 ≡ suc (n + 1) = omega arith in
    let s : a + 1 + n ≡ a + suc n = omega arith in
    ap (range_with_len a) e ∙ ap (λ r. a ∷ r) (range_more (a + 1) n) ∙ ap (λ z. a ∷ (range_with_len (a + 1) n ++ z ∷ [])) s

-- the tiles of the orders below one, counted
pub counted_more : (shape : PyramidShape) (leaves : LeafMap) (order : ℕ) → shape.low ≤ order
    → length (flat_map (tile_paths shape leaves) (range_with_len shape.low (order + 1 - shape.low))) ≡ length (flat_map (tile_paths shape leaves) (range_with_len shape.low (order - shape.low))) + length (tile_paths shape leaves order)
counted_more shape leaves order h =
    let n : ℕ = order - shape.low in
    let e : order + 1 - shape.low ≡ n + 1 = omega arith in
    let back : shape.low + n ≡ order = omega arith in
    let f = tile_paths shape leaves in
    ap (λ k. length (flat_map f (range_with_len shape.low k))) e
    ∙ ap (λ r. length (flat_map f r)) (range_more shape.low n)
    ∙ ap length (flat_map-append f (range_with_len shape.low n) ((shape.low + n) ∷ []))
    ∙ length-append (flat_map f (range_with_len shape.low n)) (f (shape.low + n) ++ [])
    ∙ ap (λ k. length (flat_map f (range_with_len shape.low n)) + k) (length-append (f (shape.low + n)) [] ∙ add-zero (length (f (shape.low + n))) ∙ ap (λ k. length (f k)) back)

pub counted_none : (shape : PyramidShape) (leaves : LeafMap) → flat_map (tile_paths shape leaves) (range_with_len shape.low (shape.low - shape.low)) ≡ []
counted_none shape leaves = let e : shape.low - shape.low ≡ 0 = omega arith in ap (λ k. flat_map (tile_paths shape leaves) (range_with_len shape.low k)) e

-- ---- what was written at the front

pub written_front : (new old bytes : List ℕ) (n : ℕ) → new ≡ bytes ++ drop n old → length new ≡ length old → n ≤ length old → take n new ≡ bytes
written_front new old bytes n is long within =
    let rest : length (drop n old) ≡ length old - n = length-drop n old in
    let all : length new ≡ length bytes + length (drop n old) = ap length is ∙ length-append bytes (drop n old) in
    ap (take n) is ∙ take_at bytes (drop n old) n (omega arith)
