-- How many steps it takes to make the tiles of an order, and those of several.
use Rattle.std.proofs.Common.{◌≡◌, ℕ, zero, suc, ◌+◌, ◌-◌, ◌*◌, ◌^◌, ◌<◌, ◌≤◌, ◌&&◌, Bool, true, false, List, length, Some, None, sym, ap, ◌∙◌, refl, arith}
use Rattle.std.specs.Prelude.{is_some, filter, sum_by, slice_index, nat_le, nat_lt, if◌then◌else◌}
use Rattle.std.specs.List.{list_any, range_with_len}
use Rattle.std.specs.List.Sorted.{IsStrictlySortedBy}
use Rattle.std.specs.Map.{keys_of}
use Rattle.std.specs.BTreeMap.{is_at}
use Rattle.std.specs.Ordering.{nat_cmp}
use Rattle.std.proofs.lemmas.Bool.Decides.{nat_tests}
use Rattle.std.proofs.lemmas.Cmp.{nat_cmp_total, eq_by_cmp_equiv}
use Rattle.std.proofs.lemmas.List.FromFn.{length-range_with_len, get_or-range_with_len}
use Rattle.std.proofs.lemmas.List.Kept.{IsStrictlySortedBy-filter}
use Rattle.std.proofs.lemmas.List.Sums.{length-filter, sum_by-cons}
use Rattle.std.proofs.lemmas.Map.Entries.{length-keys_of}
use Rattle.std.proofs.lemmas.Map.Keys.{IsDistinct-from_sorted, sorted_from_strictly_increasing}
use Rattle.std.proofs.lemmas.Map.Made.{is_some-lookup, is_member-filter, length-from_same_keys}
use Rattle.healpix_nested.specs.Cells.{lies_under}
use Rattle.healpix_nested.specs.CellLaws.{range_under, under_from_range}
use Rattle.parent_rule.specs.Permit.{one_more}
use Rattle.pyramid_model.specs.Shape.{PyramidShape, LeafMap}
use Rattle.pyramid_model.specs.Tile.{exists}
use Rattle.tile_pixels.specs.Tile.{tile_of, PixelTile}
use Rattle.leaf_probe.specs.Merging.{IsLevel, tiles_under, steps_after}

-- some steps and then others are all of them
pub steps_sum : (m n count : ℕ) → steps_after (m + n) count ≡ steps_after m (steps_after n count)
steps_sum zero n count = let e : 0 + n ≡ n = omega arith in ap (λ k. steps_after k count) e
steps_sum (suc m) n count = let e : suc m + n ≡ suc (m + n) = omega arith in ap (λ k. steps_after k count) e ∙ ap one_more (steps_sum m n count)

-- ---- the cells under a cell

sorted_range : (a m : ℕ) → IsStrictlySortedBy nat_cmp (range_with_len a m)
sorted_range a m = sorted_from_strictly_increasing (range_with_len a m) (λ k h.
    let size : length (range_with_len a m) ≡ m = length-range_with_len a m in
    let this : slice_index (range_with_len a m) k ≡ a + k = get_or-range_with_len a m k 0 (omega arith) in
    let next : slice_index (range_with_len a m) (k + 1) ≡ a + (k + 1) = get_or-range_with_len a m (k + 1) 0 (omega arith) in
    omega arith)

member_range : (a m q : ℕ) → list_any (is_at (nat_cmp q)) (range_with_len a m) ≡ (nat_le a q && nat_lt q (a + m))
member_range a zero q = grind (arith, nat_tests)
member_range a (suc m) q = let rest : list_any (is_at (nat_cmp q)) (range_with_len (a + 1) m) ≡ (nat_le (a + 1) q && nat_lt q (a + 1 + m)) = member_range (a + 1) m q in
    rw rest (grind (arith, nat_tests))

same_test : (low high q : ℕ) (b : Bool) → (low ≤ q → q < high → b ≡ true) → (b ≡ true → (low ≤ q) × (q < high)) → (nat_le low q && nat_lt q high) ≡ b
same_test low high q true there back = grind (arith, nat_tests, back refl)
same_test low high q false there back = grind (arith, nat_tests)

under_range : (k q order npix : ℕ) → order ≤ k → (nat_le (npix * 4 ^ (k - order)) q && nat_lt q (npix * 4 ^ (k - order) + 4 ^ (k - order))) ≡ lies_under k q order npix
under_range k q order npix h = same_test (npix * 4 ^ (k - order)) (npix * 4 ^ (k - order) + 4 ^ (k - order)) q (lies_under k q order npix)
    (λ low high. under_from_range k q order npix h low (omega arith))
    (λ under. let range = range_under k q order npix under in (range.1, omega (arith, range.2)))

-- ---- the tiles of an order

some_test : (b : Bool) (tile : PixelTile) → is_some (if b then Some tile else None) ≡ b
some_test true tile = refl
some_test false tile = refl

respects : (p : ℕ → Bool) (q x : ℕ) → is_at (nat_cmp q) x ≡ true → p q ≡ p x
respects p q x e = let same : q ≡ x = grind (arith, nat_tests) in ap p same

-- the tiles of an order under the asked cell are as many as exist there
pub level_count : (shape : PyramidShape) (leaves : LeafMap) (order npix k : ℕ) (tiles : List (ℕ × PixelTile)) → order ≤ k → IsStrictlySortedBy nat_cmp (keys_of tiles)
    → IsLevel shape leaves order npix k tiles → length tiles ≡ tiles_under shape leaves order npix k
level_count shape leaves order npix k tiles h ordered level =
    let laws = eq_by_cmp_equiv nat_cmp_total in
    let row : List ℕ = range_with_len (npix * 4 ^ (k - order)) (4 ^ (k - order)) in
    sym (length-keys_of tiles)
    ∙ length-from_same_keys laws (keys_of tiles) (filter (exists shape leaves k) row)
    (IsDistinct-from_sorted nat_cmp (keys_of tiles) ordered)
    (IsDistinct-from_sorted nat_cmp (filter (exists shape leaves k) row) (IsStrictlySortedBy-filter nat_cmp (exists shape leaves k) row (sorted_range (npix * 4 ^ (k - order)) (4 ^ (k - order)))))
    (λ q. sym (is_some-lookup (is_at (nat_cmp q)) tiles) ∙ ap is_some (level q) ∙ some_test (lies_under k q order npix && exists shape leaves k q) (tile_of shape leaves k q)
    ∙ ap (λ b. b && exists shape leaves k q) (sym (member_range (npix * 4 ^ (k - order)) (4 ^ (k - order)) q ∙ under_range k q order npix h))
    ∙ sym (is_member-filter laws (exists shape leaves k) q (λ x e. respects (exists shape leaves k) q x e) row))
    ∙ length-filter (exists shape leaves k) row

-- one order more
pub made_more : (f : ℕ → ℕ) (k top : ℕ) → k < top → sum_by f (range_with_len k (top - k)) ≡ f k + sum_by f (range_with_len (k + 1) (top - (k + 1)))
made_more f k top h =
    let orders : top - k ≡ suc (top - (k + 1)) = omega arith in
    ap (λ m. sum_by f (range_with_len k m)) orders ∙ sum_by-cons f k (range_with_len (k + 1) (top - (k + 1)))
