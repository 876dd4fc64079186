-- How many steps a copy takes.
use Rattle.std.proofs.Common.{◌≡◌, ℕ, ◌+◌, ◌≤◌, List, [], ◌∷◌, Option, refl, sym, ap, ◌∙◌, arith, length, filter}
use Rattle.std.specs.Prelude.{sum_by, ◌||◌}
use Rattle.std.specs.List.{range_with_len}
use Rattle.std.specs.Map.{keys_of}
use Rattle.std.proofs.lemmas.Map.Entries.{length-keys_of}
use Rattle.healpix_nested.specs.Cells.{cell_count, lies_under}
use Rattle.pyramid_model.specs.Shape.{PyramidShape, LeafMap}
use Rattle.pyramid_model.specs.Tile.{exists}
use Rattle.survey_conf.specs.Description.{Description}
use Rattle.dirty_plan.specs.Dirty.{orders_down}
use Rattle.edit_journal.specs.Leaves.{LeafTiles}
use Rattle.tile_path.specs.declared.path.Path.TheVariants as path
use Rattle.generation.specs.Files.{leaf_map, file_of}
use Rattle.generation.specs.Steps.{tiles_above}
use Rattle.hips_mirror.specs.Mirror.{bare, TrueOf, TellsNumbers, StepsFit, IsCopy}
use Rattle.hips_mirror.proofs.ToldLemmas.{true_so}
use Rattle.hips_mirror.proofs.LeavesLemmas.{map_keys, map_length}

-- which tiles exist asks for the numbers of the leaves alone
exists_by_keys : (shape : PyramidShape) (leaves : LeafMap) (k p : ℕ) → exists shape leaves k p ≡ exists shape (bare (keys_of leaves)) k p
exists_by_keys shape [] k p = refl
exists_by_keys shape (leaf ∷ leaves) k p = ap (λ rest. lies_under shape.top leaf.0 k p || rest) (exists_by_keys shape leaves k p)

above_by_keys : (shape : PyramidShape) (leaves : LeafMap) → tiles_above shape leaves ≡ tiles_above shape (bare (keys_of leaves))
unfolding tiles_above
above_by_keys shape leaves = λ i. sum_by (λ order. length (filter (λ p. exists_by_keys shape leaves order p i) (range_with_len 0 (cell_count order)))) (orders_down shape.top shape.low)

pub above_tiles : (shape : PyramidShape) (tiles : LeafTiles) (numbers : List ℕ) → keys_of tiles ≡ numbers → tiles_above shape (leaf_map tiles) ≡ tiles_above shape (bare numbers)
above_tiles shape tiles numbers keys = above_by_keys shape (leaf_map tiles) ∙ ap (λ ns. tiles_above shape (bare ns)) (map_keys tiles ∙ keys)

-- the steps of the leaves, and of what was built of them
pub leaves_few : (shape : PyramidShape) (tiles : LeafTiles) (numbers : List ℕ) (steps mid last : ℕ) → keys_of tiles ≡ numbers → mid ≤ steps + length numbers → last ≤ mid + tiles_above shape (leaf_map tiles)
    → (last ≤ steps + (length tiles + tiles_above shape (leaf_map tiles))) × (last ≤ steps + (length numbers + tiles_above shape (bare numbers)))
leaves_few shape tiles numbers steps mid last keys first second =
    let long : length tiles ≡ length numbers = sym (length-keys_of tiles) ∙ ap length keys in
    let same : tiles_above shape (leaf_map tiles) ≡ tiles_above shape (bare numbers) = above_tiles shape tiles numbers keys in
    (omega (arith, first, second, long), omega (arith, first, second, same))

-- after the whole conversation
pub copy_fits : (d : Description) (tiles : LeafTiles) (a : Option (List ℕ)) (steps steps' : ℕ) → TrueOf a (λ bytes. IsCopy bytes d (leaf_map tiles))
    → steps' ≤ steps + (length tiles + tiles_above d.shape (leaf_map tiles)) → StepsFit a steps steps'
copy_fits d tiles a steps steps' copy few =
    let keys = keys_of (leaf_map tiles) in
    let same : tiles_above d.shape (leaf_map tiles) ≡ tiles_above d.shape (bare keys) = above_by_keys d.shape (leaf_map tiles) in
    let long : length keys ≡ length tiles = length-keys_of (leaf_map tiles) ∙ map_length tiles in
    record {
      shape = d.shape;
      numbers = keys;
      told = true_so a (λ bytes. IsCopy bytes d (leaf_map tiles)) (λ bytes. TellsNumbers bytes d.shape keys)
          (λ bytes c. record { k = c.k; properties = file_of d (leaf_map tiles) path.Properties; d = d; unread = c.compared.has.behind; covered = c.compared.has.covered; shape_is = refl }) copy;
      few = omega (arith, few, long, same);
    }
