-- The leaves that were read, one after another.
use Rattle.std.proofs.Common.{◌≡◌, inl, ℕ, zero, suc, ◌+◌, ◌<◌, List, [], ◌∷◌, ◌++◌, Some, Ok, Err, length-append, refl, sym, ap, ◌∙◌, subst, arith, length, get_or, ℤ}
use Rattle.std.specs.Prelude.{All, slice_get}
use Rattle.std.specs.List.Sorted.{IsStrictlySortedBy}
use Rattle.std.specs.Map.{keys_of}
use Rattle.std.proofs.lemmas.List.{map-append}
use Rattle.std.proofs.lemmas.Map.Made.{keys_of-map_values}
use Rattle.std.proofs.lemmas.Map.Entries.{length-keys_of}
use Rattle.healpix_nested.specs.Cells.{NestedCell, cell_count}
use Rattle.std.proofs.lemmas.List.Elements.{All-nil}
use Rattle.pyramid_model.specs.Shape.{PyramidShape, LeafMap}
use Rattle.tile_pixels.specs.Tile.{PixelTile}
use Rattle.survey_conf.specs.Description.{Description}
use Rattle.fits_tile.specs.Reading.{reads}
use Rattle.fits_tile.specs.declared.fault.TileFault.{TileFault}
use Rattle.tile_path.specs.declared.path.Path.TheVariants.{Tile}
use Rattle.leaf_store.specs.Store.{IsAscending}
use Rattle.edit_journal.specs.Leaves.{LeafTiles, FitsTile, FitsLeaves}
use Rattle.generation.specs.Files.{leaf_map}
use Rattle.mirror_frame.specs.Requests.{leaf_ask}
use Rattle.mirror_frame.specs.Reply.{IsReply}
use Rattle.mirror_frame.specs.declared.ask.Ask.TheVariants.{File}
use Rattle.mirror_frame.specs.declared.due.Due.TheVariants.{Survey}
use Rattle.shelf_io.proofs.PathLemmas.{same_cell}
use Rattle.shelf_io.proofs.LeafLemmas.{fits_put, higher_put}
use Rattle.hips_mirror.specs.declared.refusal.MirrorRefusal.TheVariants.{Leaf}
use Rattle.hips_mirror.specs.Mirror.{AreLeaves, WrongLeaf}
use Rattle.hips_mirror.specs.Stages.{TellsLeaf, PutsLeaf, RefusedBy}

-- ---- the map of the tiles

pub map_keys : (tiles : LeafTiles) → keys_of (leaf_map tiles) ≡ keys_of tiles
map_keys tiles = keys_of-map_values (λ (t : PixelTile). t.numbers) tiles

pub map_length : (tiles : LeafTiles) → length (leaf_map tiles) ≡ length tiles
map_length tiles = sym (length-keys_of (leaf_map tiles)) ∙ ap length (map_keys tiles) ∙ length-keys_of tiles

-- ---- one leaf more

pub leaves_more : (k : ℕ) (d : Description) (leaves : LeafMap) (leaf : ℕ × List ℤ) (bytes mid rest body : List ℕ) → AreLeaves k d bytes leaves mid
    → IsReply (Survey k) mid body rest → reads d body ≡ Ok leaf.1 → AreLeaves k d bytes (leaves ++ leaf ∷ []) rest
leaves_more k d [] leaf bytes mid rest body are reply read = (body, rest, subst (λ u. IsReply (Survey k) u body rest) are reply, read, refl)
leaves_more k d (first ∷ leaves) leaf bytes mid rest body are reply read =
    (are.0, are.1, are.2, are.3, leaves_more k d leaves leaf are.1 mid rest body are.4 reply read)

-- ---- the leaf that is put

pub puts_leaf : (d : Description) (number : ℕ) (body : List ℕ) (tiles tiles' : LeafTiles) (tile : PixelTile) → reads d body ≡ Ok tile.numbers → tiles' ≡ tiles ++ (number, tile) ∷ []
    → IsAscending tiles' → number < cell_count d.shape.top → FitsTile d.shape tile → FitsLeaves d.shape tiles → PutsLeaf d number body tiles tiles'
puts_leaf d number body tiles tiles' tile read put up below fits all =
    record { tile = tile; reads = read; put = put; fits = fits_put d.shape number tile tiles tiles' put up below fits all }

module _ (d : Description) (number : ℕ) (body : List ℕ) (tiles tiles' : LeafTiles) where
  pub put_keys : PutsLeaf d number body tiles tiles' → keys_of tiles' ≡ keys_of tiles ++ number ∷ []
  put_keys puts = ap keys_of puts.put ∙ map-append (λ e. e.0) tiles ((number, puts.tile) ∷ [])

  pub put_count : PutsLeaf d number body tiles tiles' → length tiles' ≡ length tiles + 1
  put_count puts = ap length puts.put ∙ length-append tiles ((number, puts.tile) ∷ [])

  pub put_fits : PutsLeaf d number body tiles tiles' → FitsLeaves d.shape tiles'
  put_fits puts = puts.fits

  pub put_higher : All (λ key. key < number) (keys_of tiles) → PutsLeaf d number body tiles tiles' → All (λ key. key < number + 1) (keys_of tiles')
  put_higher lower puts = higher_put number puts.tile tiles tiles' puts.put lower

  pub put_tells : (k : ℕ) → PutsLeaf d number body tiles tiles' → (bytes rest : List ℕ) → IsReply (Survey k) bytes body rest → TellsLeaf k d (leaf_map tiles) (leaf_map tiles') bytes rest
  put_tells k puts bytes rest reply =
      let mapped : leaf_map tiles' ≡ leaf_map tiles ++ (number, puts.tile.numbers) ∷ [] =
      ap leaf_map puts.put ∙ map-append (λ (leaf : ℕ × PixelTile). (leaf.0, leaf.1.numbers)) tiles ((number, puts.tile) ∷ []) in
      record { body = body; leaf = (number, puts.tile.numbers); reply = reply; reads = puts.reads; put = mapped }

pub wrong_leaf : (d : Description) (cell : NestedCell) (number : ℕ) (fault : TileFault) (body : List ℕ) → cell.order ≡ d.shape.top → cell.npix ≡ number → reads d body ≡ Err fault
    → RefusedBy (WrongLeaf d number) body (Leaf cell fault)
wrong_leaf d cell number fault body order npix wrong = inl (fault, ap (λ c. Leaf c fault) (sym (same_cell d.shape.top number cell (sym order) (sym npix))), wrong)

pub asked_leaf : (top number : ℕ) (cell : NestedCell) → cell.order ≡ top → cell.npix ≡ number → File (Tile cell) ≡ leaf_ask top number
asked_leaf top number cell order npix = ap (λ c. File (Tile c)) (sym (same_cell top number cell (sym order) (sym npix)))

pub at_place : (numbers : List ℕ) (i : ℕ) → i < length numbers → slice_get numbers i ≡ Some (get_or numbers i 0)
at_place [] i h = absurd (omega (arith, h))
at_place (x ∷ xs) zero h = refl
at_place (x ∷ xs) (suc i) h = at_place xs i (omega (arith, h))

-- ---- before the first leaf

pub empty_fits : (shape : PyramidShape) (tiles : LeafTiles) → tiles ≡ [] → FitsLeaves shape tiles
unfolding IsStrictlySortedBy
empty_fits shape [] none = record { ascending = tt; cells = All-nil (λ leaf. leaf < cell_count shape.top); tiles = All-nil (FitsTile shape) }
empty_fits shape (e ∷ es) none = absurd (omega (arith, ap length none))

pub empty_lower : (n : ℕ) (tiles : LeafTiles) → tiles ≡ [] → All (λ key. key < n) (keys_of tiles)
empty_lower n [] none = All-nil (λ key. key < n)
empty_lower n (e ∷ es) none = absurd (omega (arith, ap length none))

pub none_are : (k : ℕ) (d : Description) (tiles : LeafTiles) → tiles ≡ [] → (bytes : List ℕ) → AreLeaves k d bytes (leaf_map tiles) bytes
none_are k d [] none bytes = refl
none_are k d (e ∷ es) none bytes = absurd (omega (arith, ap length none))
