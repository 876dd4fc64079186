-- What the files of leaves give, leaf by leaf.
use Rattle.std.proofs.Common.{◌≡◌, ℕ, zero, suc, ◌+◌, ◌*◌, ◌<◌, ◌≤◌, Bool, true, false, List, [], ◌∷◌, ◌++◌, Option, Some, None, Result, Ok, Err, refl, sym, ap, ◌∙◌, subst, arith, map, take, length, get_or, ℤ}
use Rattle.std.specs.Prelude.{All, IfSome, Vec, option_map, option_and_then, slice_get, ◌/◌, ◌^◌, max, sum_by}
use Rattle.std.specs.declared.alloc.Global.{Global}
use Rattle.std.specs.declared.cmp.Ordering.TheVariants.{Less, Equal, Greater}
use Rattle.std.specs.List.{filter_map, cons_option}
use Rattle.std.specs.List.Sorted.{IsStrictlyIncreasing}
use Rattle.std.specs.Ordering.{nat_cmp, match_ordering}
use Rattle.std.specs.Result.{result_ok, result_err}
use Rattle.std.specs.Map.{keys_of, values_of}
use Rattle.std.specs.BTreeMap.{insert_entry}
use Rattle.std.specs.FinMap.{get}
use Rattle.std.proofs.lemmas.Bool.Decides.{nat_tests}
use Rattle.std.proofs.lemmas.List.{take_more, map-append}
use Rattle.std.proofs.lemmas.List.Kept.{AllPairs-from_increasing}
use Rattle.std.proofs.lemmas.List.Elements.{All-head, All-tail, All-push, All-weaker, filter_map-append}
use Rattle.healpix_nested.specs.Cells.{NestedCell, cell_count}
use Rattle.pyramid_model.specs.Shape.{PyramidShape}
use Rattle.tile_pixels.specs.Tile.{PixelTile}
use Rattle.leaf_store.specs.Store.{IsAscending, with_value}
use Rattle.survey_link.specs.Shelf.{ShelfFiles, Finds}
use Rattle.survey_conf.specs.Description.{Description}
use Rattle.fits_tile.specs.Reading.{reads}
use Rattle.fits_tile.specs.declared.fault.TileFault.{TileFault}
use Rattle.edit_journal.specs.Leaves.{LeafTiles, FitsTile, FitsLeaves}
use Rattle.shelf_io.specs.Opening.{leaf_cell, leaf_path, leaf_reads, leaf_with, leaf_tile, leaf_refusal, IsRefusedBy}
use Rattle.shelf_io.specs.declared.refusal.LoadRefusal.{LoadRefusal}
use Rattle.shelf_io.specs.declared.refusal.LoadRefusal.TheVariants.{NoConf, Conf, Tile, TooMany, ShelfFault, OutOfMemory}

-- ---- one leaf

module _ (d : Description) (leaf : ℕ) (text : List ℕ) (spelled : text ≡ leaf_path d.shape.top leaf) where
  leaf_in : Option (List ℕ) → Option (ℕ × PixelTile)
  leaf_in o = option_map (leaf_with d leaf) (option_and_then result_ok (option_map (reads d) o))

  refusal_of : Option (List ℕ) → Option LoadRefusal
  refusal_of o = option_map (Tile (leaf_cell d.shape.top leaf)) (option_and_then result_err (option_map (reads d) o))

  there : (files : ShelfFiles) (o : Option (List ℕ)) → o ≡ get files text → get files (leaf_path d.shape.top leaf) ≡ o
  there files o e = ap (get files) (sym spelled) ∙ sym e

  tile_is : (numbers : List ℤ) (tile : PixelTile) → numbers ≡ tile.numbers → tile.depth ≡ d.shape.depth → tile.n ≡ d.shape.n → ◌≡◌ {A = ℕ × PixelTile} (leaf, tile) (leaf_with d leaf numbers)
  tile_is numbers tile e depth n i = (leaf, record { depth = depth i; n = n i; numbers = sym e i })

  pub tile_read : (files : Option ShelfFiles) (bytes : Vec ℕ Global) (tile : PixelTile) → Finds files text (Some bytes) → reads d bytes.items ≡ Ok tile.numbers → tile.depth ≡ d.shape.depth → tile.n ≡ d.shape.n
      → IfSome files (λ fs. ◌≡◌ {A = Option (ℕ × PixelTile)} (Some (leaf, tile)) (leaf_tile fs d leaf))
  unfolding leaf_in
  tile_read None bytes tile found read depth n = tt
  tile_read (Some fs) bytes tile found read depth n =
      ap (λ pair. Some pair) (tile_is tile.numbers tile refl depth n)
      ∙ sym (ap leaf_in (there fs (Some bytes.items) found) ∙ ap (λ r. option_map (leaf_with d leaf) (result_ok r)) read)

  pub tile_sound : (files : Option ShelfFiles) (bytes : Vec ℕ Global) (numbers : List ℤ) → Finds files text (Some bytes) → reads d bytes.items ≡ Ok numbers → IfSome files (λ fs. leaf_refusal fs d leaf ≡ None)
  unfolding refusal_of
  tile_sound None bytes numbers found read = tt
  tile_sound (Some fs) bytes numbers found read =
      ap refusal_of (there fs (Some bytes.items) found) ∙ ap (λ r. option_map (Tile (leaf_cell d.shape.top leaf)) (result_err r)) read

  pub tile_refused : (files : Option ShelfFiles) (bytes : Vec ℕ Global) (cell : NestedCell) (fault : TileFault) → cell ≡ leaf_cell d.shape.top leaf → Finds files text (Some bytes) → reads d bytes.items ≡ Err fault
      → IfSome files (λ fs. IsRefusedBy (leaf_refusal fs d leaf) (Tile cell fault))
  unfolding refusal_of
  tile_refused None bytes cell fault same found read = tt
  tile_refused (Some fs) bytes cell fault same found read =
      ap refusal_of (there fs (Some bytes.items) found) ∙ ap (λ r. option_map (Tile (leaf_cell d.shape.top leaf)) (result_err r)) read
      ∙ ap (λ c. Some (Tile c fault)) (sym same)

  pub tile_absent : (files : Option ShelfFiles) → Finds files text None → IfSome files (λ fs. ◌≡◌ {A = Option (ℕ × PixelTile)} None (leaf_tile fs d leaf))
  unfolding leaf_in
  tile_absent None found = tt
  tile_absent (Some fs) found = sym (ap leaf_in (there fs None found))

  pub absent_sound : (files : Option ShelfFiles) → Finds files text None → IfSome files (λ fs. leaf_refusal fs d leaf ≡ None)
  unfolding refusal_of
  absent_sound None found = tt
  absent_sound (Some fs) found = ap refusal_of (there fs None found)

-- ---- behind the leaves of lower numbers

greater : (a b : ℕ) → b < a → nat_cmp a b ≡ Greater
greater a b h = grind (arith, nat_tests)

pub put_last : (leaf : ℕ) (tile : PixelTile) (tiles : LeafTiles) → All (λ key. key < leaf) (keys_of tiles) → with_value leaf tile tiles ≡ tiles ++ (leaf, tile) ∷ []
put_last leaf tile [] lower = refl
put_last leaf tile (e ∷ es) lower =
    let after : nat_cmp leaf e.0 ≡ Greater = greater leaf e.0 (All-head (λ key. key < leaf) e.0 (keys_of es) lower) in
    ap (λ o. match_ordering o ((leaf, tile) ∷ e ∷ es) ((e.0, tile) ∷ es) (e ∷ insert_entry nat_cmp es leaf tile)) after
    ∙ ap (λ rest. e ∷ rest) (put_last leaf tile es (All-tail (λ key. key < leaf) e.0 (keys_of es) lower))

keys_push : (tiles : LeafTiles) (leaf : ℕ) (tile : PixelTile) → keys_of (tiles ++ (leaf, tile) ∷ []) ≡ keys_of tiles ++ leaf ∷ []
keys_push tiles leaf tile = map-append (λ e. e.0) tiles ((leaf, tile) ∷ [])

values_push : (tiles : LeafTiles) (leaf : ℕ) (tile : PixelTile) → values_of (tiles ++ (leaf, tile) ∷ []) ≡ values_of tiles ++ tile ∷ []
values_push tiles leaf tile = map-append (λ e. e.1) tiles ((leaf, tile) ∷ [])

pub higher_same : (leaf : ℕ) (tiles : LeafTiles) → All (λ key. key < leaf) (keys_of tiles) → All (λ key. key < leaf + 1) (keys_of tiles)
higher_same leaf tiles lower = All-weaker (λ key. key < leaf) (λ key. key < leaf + 1) (λ key h. omega arith) (keys_of tiles) lower

pub higher_put : (leaf : ℕ) (tile : PixelTile) (tiles next : LeafTiles) → next ≡ tiles ++ (leaf, tile) ∷ [] → All (λ key. key < leaf) (keys_of tiles) → All (λ key. key < leaf + 1) (keys_of next)
higher_put leaf tile tiles next e lower =
    let P : List ℕ → Type 0 = All (λ key. key < leaf + 1) in
    subst P (sym (ap keys_of e ∙ keys_push tiles leaf tile)) (All-push (λ key. key < leaf + 1) (keys_of tiles) leaf (higher_same leaf tiles lower) (omega arith))

pub fits_put : (shape : PyramidShape) (leaf : ℕ) (tile : PixelTile) (tiles next : LeafTiles) → next ≡ tiles ++ (leaf, tile) ∷ [] → IsAscending next → leaf < cell_count shape.top → FitsTile shape tile → FitsLeaves shape tiles → FitsLeaves shape next
fits_put shape leaf tile tiles next e up below fits all = record {
  ascending = up;
  cells = let P : List ℕ → Type 0 = All (λ l. l < cell_count shape.top) in
      subst P (sym (ap keys_of e ∙ keys_push tiles leaf tile)) (All-push (λ l. l < cell_count shape.top) (keys_of tiles) leaf all.cells below);
  tiles = let P : List PixelTile → Type 0 = All (FitsTile shape) in
      subst P (sym (ap values_of e ∙ values_push tiles leaf tile)) (All-push (FitsTile shape) (values_of tiles) tile all.tiles fits);
}

-- ---- leaf by leaf

pub filter_map_more : {X Y : Type 0} (f : X → Option Y) (xs : List X) (i : ℕ) (x : X) → i < length xs → x ≡ get_or xs i x → filter_map f (take (i + 1) xs) ≡ filter_map f (take i xs) ++ cons_option (f x) []
filter_map_more f xs i x h e =
    ap (filter_map f) (take_more xs i x h) ∙ filter_map-append f (take i xs) (get_or xs i x ∷ [])
    ∙ ap (λ y. filter_map f (take i xs) ++ cons_option (f y) []) (sym e)

later : {Y : Type 0} (o : Option Y) (before all : List Y) (y : Y) → cons_option o before ≡ [] → (before ≡ [] → slice_get all 0 ≡ Some y) → slice_get (cons_option o all) 0 ≡ Some y
later None before all y none given = given none
later (Some w) before all y none given = cc

-- the first of what f gives is what it gives of the first element of which it gives something
pub first_given : {X Y : Type 0} (f : X → Option Y) (xs : List X) (i : ℕ) (x : X) (y : Y) → i < length xs → x ≡ get_or xs i x → filter_map f (take i xs) ≡ [] → f x ≡ Some y → slice_get (filter_map f xs) 0 ≡ Some y
first_given f [] i x y h e none given = absurd (omega arith)
first_given f (z ∷ zs) zero x y h e none given = ap (λ o. slice_get (cons_option o (filter_map f zs)) 0) (ap f (sym e) ∙ given)
first_given {X} {Y} f (z ∷ zs) (suc i) x y h e none given =
    later (f z) (filter_map f (take i zs)) (filter_map f zs) y none (λ rest. first_given f zs i x y (omega arith) e rest given)

pub refused_first : (f : ℕ → Option LoadRefusal) (xs : List ℕ) (i x : ℕ) (refusal : LoadRefusal) → i < length xs → x ≡ get_or xs i x → filter_map f (take i xs) ≡ [] → IsRefusedBy (f x) refusal → IsRefusedBy (slice_get (filter_map f xs) 0) refusal
refused_first f xs i x NoConf h e none told = first_given f xs i x NoConf h e none told
refused_first f xs i x (Conf fault) h e none told = first_given f xs i x (Conf fault) h e none told
refused_first f xs i x (Tile cell fault) h e none told = first_given f xs i x (Tile cell fault) h e none told
refused_first f xs i x (TooMany leaves) h e none told = first_given f xs i x (TooMany leaves) h e none told
refused_first f xs i x ShelfFault h e none told = tt
refused_first f xs i x OutOfMemory h e none told = tt

-- after one leaf more of a shelf that stays as it is
module _ (here files : Option ShelfFiles) (same : here ≡ files) (d : Description) (xs : List ℕ) (i x : ℕ) (h : i < length xs) (e : x ≡ get_or xs i x) where
  pub tiles_more : (tiles next : LeafTiles) (tile : Option (ℕ × PixelTile)) → IfSome files (λ fs. tiles ≡ filter_map (leaf_tile fs d) (take i xs)) → IfSome here (λ fs. tile ≡ leaf_tile fs d x)
      → next ≡ tiles ++ cons_option tile [] → IfSome files (λ fs. next ≡ filter_map (leaf_tile fs d) (take (i + 1) xs))
  tiles_more tiles next tile before read added = go files before (subst (λ o. IfSome o (λ fs. tile ≡ leaf_tile fs d x)) same read)
    where
      go : (o : Option ShelfFiles) → IfSome o (λ fs. tiles ≡ filter_map (leaf_tile fs d) (take i xs)) → IfSome o (λ fs. tile ≡ leaf_tile fs d x) → IfSome o (λ fs. next ≡ filter_map (leaf_tile fs d) (take (i + 1) xs))
      go None before read = tt
      go (Some fs) before read = added ∙ ap (λ ts. ts ++ cons_option tile []) before ∙ ap (λ t. filter_map (leaf_tile fs d) (take i xs) ++ cons_option t []) read ∙ sym (filter_map_more (leaf_tile fs d) xs i x h e)

  pub sound_more : IfSome files (λ fs. filter_map (leaf_refusal fs d) (take i xs) ≡ []) → IfSome here (λ fs. leaf_refusal fs d x ≡ None) → IfSome files (λ fs. filter_map (leaf_refusal fs d) (take (i + 1) xs) ≡ [])
  sound_more before sound = go files before (subst (λ o. IfSome o (λ fs. leaf_refusal fs d x ≡ None)) same sound)
    where
      go : (o : Option ShelfFiles) → IfSome o (λ fs. filter_map (leaf_refusal fs d) (take i xs) ≡ []) → IfSome o (λ fs. leaf_refusal fs d x ≡ None) → IfSome o (λ fs. filter_map (leaf_refusal fs d) (take (i + 1) xs) ≡ [])
      go None before sound = tt
      go (Some fs) before sound = filter_map_more (leaf_refusal fs d) xs i x h e ∙ ap (λ ts. ts ++ cons_option (leaf_refusal fs d x) []) before ∙ ap (λ o. cons_option o []) sound

  pub refused_here : (refusal : LoadRefusal) → IfSome files (λ fs. filter_map (leaf_refusal fs d) (take i xs) ≡ []) → IfSome here (λ fs. IsRefusedBy (leaf_refusal fs d x) refusal)
      → IfSome files (λ fs. IsRefusedBy (slice_get (filter_map (leaf_refusal fs d) xs) 0) refusal)
  refused_here refusal before told = go files before (subst (λ o. IfSome o (λ fs. IsRefusedBy (leaf_refusal fs d x) refusal)) same told)
    where
      go : (o : Option ShelfFiles) → IfSome o (λ fs. filter_map (leaf_refusal fs d) (take i xs) ≡ []) → IfSome o (λ fs. IsRefusedBy (leaf_refusal fs d x) refusal) → IfSome o (λ fs. IsRefusedBy (slice_get (filter_map (leaf_refusal fs d) xs) 0) refusal)
      go None before told = tt
      go (Some fs) before told = refused_first (leaf_refusal fs d) xs i x refusal h e before told

pub one_at_most : {Y : Type 0} (o : Option Y) → length (cons_option o []) ≤ 1
one_at_most None = omega arith
one_at_most (Some y) = omega arith

-- the next leaf is above those before
pub lower_next : (leaves : List ℕ) (i k : ℕ) (leaf : ℕ) (keys : List ℕ) → IsStrictlyIncreasing leaves → leaf ≡ get_or leaves i 0 → i + 1 ≤ k → k < length leaves → All (λ key. key < leaf + 1) keys → All (λ key. key < get_or leaves k 0) keys
lower_next leaves i k leaf keys up at h below all =
    let rises : get_or leaves i 0 < get_or leaves k 0 = AllPairs-from_increasing leaves up i k 0 (omega arith) below in
    All-weaker (λ key. key < leaf + 1) (λ key. key < get_or leaves k 0) (λ key lt. omega arith) keys all
