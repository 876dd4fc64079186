-- Lemmas on a made survey and its files.
use Rattle.std.proofs.Common.{◌≡◌, ℕ, ◌+◌, ◌-◌, ◌*◌, ◌^◌, ◌≤◌, [], ◌∷◌, length, flat_map, arith}
use Rattle.std.specs.Prelude.{All}
use Rattle.std.specs.List.{range_with_len}
use Rattle.std.proofs.lemmas.List.{length-append, length-map}
use Rattle.std.proofs.lemmas.List.Concat.{length-flat_map}
use Rattle.std.proofs.lemmas.List.FromFn.{length-range_with_len, get_or-range_with_len}
use Rattle.std.proofs.lemmas.List.Sums.{sum_by-le, length-filter, count_by-le-length}
use Rattle.healpix_nested.specs.Cells.{cell_count}
use Rattle.healpix_nested.specs.CellLaws.{four_pow_mono}
use Rattle.pyramid_model.specs.Shape.{PyramidShape, LeafMap, IsShape}
use Rattle.pyramid_model.specs.Tile.{exists}
use Rattle.edit_journal.specs.Leaves.{LeafTiles, charge_of}
use Rattle.edit_journal.specs.Faults.{most_charge}
use Rattle.generation.specs.Files.{paths, mosaic_paths, tile_paths, existing}

-- a survey without leaves is charged with nothing
pub no_charge : (leaves : LeafTiles) → leaves ≡ [] → charge_of leaves [] ≤ most_charge
unfolding charge_of
no_charge leaves e = rw e (omega arith)

-- ---- how many files a survey can have

few_of_order : (shape : PyramidShape) (leaves : LeafMap) (order : ℕ) → order ≤ 11
    → length (tile_paths shape leaves order) ≤ 12 * 4 ^ 11
few_of_order shape leaves order h =
    let most : 4 ^ order ≤ 4 ^ 11 = four_pow_mono order 11 h in
    let cells = range_with_len 0 (cell_count order) in
    let kept : length (existing shape leaves order) ≤ length cells =
    rw (length-filter (exists shape leaves order) cells) (count_by-le-length (exists shape leaves order) cells) in
    let all : length cells ≡ cell_count order = length-range_with_len 0 (cell_count order) in
    rw (length-map (existing shape leaves order)) (omega arith)

mosaic_alone : (leaves : LeafMap) → length (mosaic_paths leaves) ≤ 1
mosaic_alone [] = omega arith
mosaic_alone (leaf ∷ leaves) = omega arith

pub few_paths : (shape : PyramidShape) (leaves : LeafMap) → IsShape shape.top shape.low shape.n
    → length (paths shape leaves) ≤ 2 ^ 30
unfolding paths
few_paths shape leaves is =
    let orders = range_with_len shape.low (shape.top + 1 - shape.low) in
    let count : length orders ≡ shape.top + 1 - shape.low = length-range_with_len shape.low (shape.top + 1 - shape.low) in
    let each : All (λ order. length (tile_paths shape leaves order) ≤ 12 * 4 ^ 11) orders = λ k d h.
    few_of_order shape leaves _ (rw (get_or-range_with_len shape.low (shape.top + 1 - shape.low) k d (omega arith)) (omega arith)) in
    let tiles : length (flat_map (tile_paths shape leaves) orders) ≤ length orders * (12 * 4 ^ 11) =
    rw (length-flat_map (tile_paths shape leaves) orders)
    (sum_by-le (λ order. length (tile_paths shape leaves order)) (12 * 4 ^ 11) orders each) in
    let mosaic = mosaic_alone leaves in
    rw (length-append (mosaic_paths leaves)) (omega arith)
