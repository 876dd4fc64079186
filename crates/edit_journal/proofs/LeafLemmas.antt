-- Leaf tiles after edits.
use Rattle.std.proofs.Common.{◌≡◌, ◌≢◌, ℕ, zero, suc, ◌+◌, ◌-◌, ◌<◌, ◌≤◌, Bool, true, false, cond, List, [], ◌∷◌, ◌++◌, map, length, take, drop, get_or, Option, Some, None, refl, sym, ap, ◌∙◌, subst, arith, append_assoc}
use Rattle.std.specs.Prelude.{fold, All, is_some, nat_eq}
use Rattle.std.specs.List.{AllByRecursion}
use Rattle.std.specs.List.Sorted.{IsStrictlySortedBy}
use Rattle.std.specs.Ordering.{nat_cmp, match_ordering}
use Rattle.std.specs.declared.cmp.Ordering.TheVariants.{Less, Equal, Greater}
use Rattle.std.specs.Map.{lookup, keys_of, values_of, remove_entry}
use Rattle.std.specs.BTreeMap.{is_at, insert_entry}
use Rattle.std.proofs.lemmas.Bool.Decides.{nat_tests}
use Rattle.std.proofs.lemmas.List.Sums.{fold-append}
use Rattle.std.proofs.lemmas.List.Elements.{All-head, All-tail}
use Rattle.std.proofs.lemmas.Map.Views.{All-keys-insert_entry, All-values-insert_entry, All-map-remove_entry}
use Rattle.healpix_nested.specs.Cells.{cell_count}
use Rattle.pyramid_model.specs.Shape.{PyramidShape}
use Rattle.tile_pixels.specs.Tile.{PixelTile}
use Rattle.leaf_store.specs.Store.{IsAscending, value_at, with_value, without_key}
use Rattle.edit_journal.specs.Edit.{LeafEdit, put, add, replace, remove, leaf_of, edit_tile}
use Rattle.edit_journal.specs.Leaves.{LeafTiles, leaves_after, leaves_of, FitsTile, FitsLeaves, FitsEdit}
use Rattle.edit_journal.specs.Faults.{has_leaf}

-- ---- one leaf's tile

is_at_self : (key : ℕ) → is_at (nat_cmp key) key ≡ true
is_at_self key = grind (arith, nat_tests)

is_at_other : (key other : ℕ) → key ≢ other → is_at (nat_cmp key) other ≡ false
is_at_other key other h = grind (arith, nat_tests)

at_equal : (key other : ℕ) → nat_cmp key other ≡ Equal → is_at (nat_cmp key) other ≡ true
at_equal key other e = grind (arith, nat_tests)

at_greater : (key other : ℕ) → nat_cmp key other ≡ Greater → is_at (nat_cmp key) other ≡ false
at_greater key other e = grind (arith, nat_tests)

same_equal : (key other : ℕ) → nat_cmp key other ≡ Equal → key ≡ other
same_equal key other e = grind (arith, nat_tests)

pub value_at-with_same : (key : ℕ) (tile : PixelTile) (leaves : LeafTiles) → value_at key (with_value key tile leaves) ≡ Some tile
value_at-with_same key tile [] = rw (is_at_self key) refl
value_at-with_same key tile (leaf ∷ leaves) =
    elim (nat_cmp key leaf.0) as (λ o. nat_cmp key leaf.0 ≡ o → value_at key (match_ordering o ((key, tile) ∷ leaf ∷ leaves) ((leaf.0, tile) ∷ leaves) (leaf ∷ insert_entry nat_cmp leaves key tile)) ≡ Some tile) [
      | Less ↦ λ e. rw (is_at_self key) refl
      | Equal ↦ λ e. rw (at_equal key leaf.0 e) refl
      | Greater ↦ λ e. rw (at_greater key leaf.0 e) (value_at-with_same key tile leaves)
    ] refl

pub value_at-with_other : (other key : ℕ) (tile : PixelTile) (leaves : LeafTiles) → other ≢ key → value_at other (with_value key tile leaves) ≡ value_at other leaves
value_at-with_other other key tile [] h = rw (is_at_other other key h) refl
value_at-with_other other key tile (leaf ∷ leaves) h =
    elim (nat_cmp key leaf.0) as (λ o. nat_cmp key leaf.0 ≡ o → value_at other (match_ordering o ((key, tile) ∷ leaf ∷ leaves) ((leaf.0, tile) ∷ leaves) (leaf ∷ insert_entry nat_cmp leaves key tile)) ≡ value_at other (leaf ∷ leaves)) [
      | Less ↦ λ e. rw (is_at_other other key h) refl
      | Equal ↦ λ e. let off : is_at (nat_cmp other) leaf.0 ≡ false = is_at_other other leaf.0 (λ s. h (s ∙ sym (same_equal key leaf.0 e))) in rw off refl
      | Greater ↦ λ e. ap (cond (is_at (nat_cmp other) leaf.0) (Some leaf.1)) (value_at-with_other other key tile leaves h)
    ] refl

pub value_at-without_other : (other key : ℕ) (leaves : LeafTiles) → other ≢ key → value_at other (without_key key leaves) ≡ value_at other leaves
value_at-without_other other key [] h = refl
value_at-without_other other key (leaf ∷ leaves) h =
    elim (is_at (nat_cmp key) leaf.0) as (λ b. is_at (nat_cmp key) leaf.0 ≡ b → value_at other (cond b leaves (leaf ∷ remove_entry (is_at (nat_cmp key)) leaves)) ≡ value_at other (leaf ∷ leaves)) [
      | true ↦ λ e. let off : is_at (nat_cmp other) leaf.0 ≡ false = apart other key leaf.0 h e in rw off refl
      | false ↦ λ e. ap (cond (is_at (nat_cmp other) leaf.0) (Some leaf.1)) (value_at-without_other other key leaves h)
    ] refl
  where
    apart : (other key at : ℕ) → other ≢ key → is_at (nat_cmp key) at ≡ true → is_at (nat_cmp other) at ≡ false
    apart other key at h e = grind (arith, nat_tests)

-- ---- in order

less_trans : (a b c : ℕ) → nat_cmp a b ≡ Less → nat_cmp b c ≡ Less → nat_cmp a c ≡ Less
less_trans a b c h h' = grind (arith, nat_tests)

greater_less : (a b : ℕ) → nat_cmp a b ≡ Greater → nat_cmp b a ≡ Less
greater_less a b h = grind (arith, nat_tests)

below_weaker : (a b : ℕ) → nat_cmp a b ≡ Less → (ks : List ℕ) → AllByRecursion (λ y. nat_cmp b y ≡ Less) ks → AllByRecursion (λ y. nat_cmp a y ≡ Less) ks
below_weaker a b h [] all = tt
below_weaker a b h (k ∷ ks) all = (less_trans a b k h all.0, below_weaker a b h ks all.1)

below_insert : (a key : ℕ) (tile : PixelTile) (leaves : LeafTiles) → nat_cmp a key ≡ Less → AllByRecursion (λ y. nat_cmp a y ≡ Less) (keys_of leaves) → AllByRecursion (λ y. nat_cmp a y ≡ Less) (keys_of (insert_entry nat_cmp leaves key tile))
below_insert a key tile [] h all = (h, tt)
below_insert a key tile (leaf ∷ leaves) h all =
    elim (nat_cmp key leaf.0) as (λ o. AllByRecursion (λ y. nat_cmp a y ≡ Less) (keys_of (match_ordering o ((key, tile) ∷ leaf ∷ leaves) ((leaf.0, tile) ∷ leaves) (leaf ∷ insert_entry nat_cmp leaves key tile)))) [
      | Less ↦ (h, all)
      | Equal ↦ all
      | Greater ↦ (all.0, below_insert a key tile leaves h all.1)
    ]

ascending_with : (key : ℕ) (tile : PixelTile) (leaves : LeafTiles) → IsAscending leaves → IsAscending (with_value key tile leaves)
unfolding IsStrictlySortedBy
ascending_with key tile [] up = (tt, tt)
ascending_with key tile (leaf ∷ leaves) up =
    elim (nat_cmp key leaf.0) as (λ o. nat_cmp key leaf.0 ≡ o → IsAscending (match_ordering o ((key, tile) ∷ leaf ∷ leaves) ((leaf.0, tile) ∷ leaves) (leaf ∷ insert_entry nat_cmp leaves key tile))) [
      | Less ↦ λ e. ((e, below_weaker key leaf.0 e (keys_of leaves) up.0), up)
      | Equal ↦ λ e. up
      | Greater ↦ λ e. (below_insert leaf.0 key tile leaves (greater_less key leaf.0 e) up.0, ascending_with key tile leaves up.1)
    ] refl

below_remove : (a : ℕ) (t : ℕ → Bool) (leaves : LeafTiles) → AllByRecursion (λ y. nat_cmp a y ≡ Less) (keys_of leaves) → AllByRecursion (λ y. nat_cmp a y ≡ Less) (keys_of (remove_entry t leaves))
below_remove a t [] all = all
below_remove a t (leaf ∷ leaves) all =
    elim (t leaf.0) as (λ b. AllByRecursion (λ y. nat_cmp a y ≡ Less) (keys_of (cond b leaves (leaf ∷ remove_entry t leaves)))) [
      | true ↦ all.1
      | false ↦ (all.0, below_remove a t leaves all.1)
    ]

ascending_remove : (t : ℕ → Bool) (leaves : LeafTiles) → IsAscending leaves → IsAscending (remove_entry t leaves)
unfolding IsStrictlySortedBy
ascending_remove t [] up = up
ascending_remove t (leaf ∷ leaves) up =
    elim (t leaf.0) as (λ b. IsAscending (cond b leaves (leaf ∷ remove_entry t leaves))) [
      | true ↦ up.1
      | false ↦ (below_remove leaf.0 t leaves up.0, ascending_remove t leaves up.1)
    ]

none_below : (key : ℕ) (leaves : LeafTiles) → AllByRecursion (λ y. nat_cmp key y ≡ Less) (keys_of leaves) → value_at key leaves ≡ None
none_below key [] all = refl
none_below key (leaf ∷ leaves) all = let off : is_at (nat_cmp key) leaf.0 ≡ false = less_off key leaf.0 all.0 in rw off (none_below key leaves all.1)
  where
    less_off : (key at : ℕ) → nat_cmp key at ≡ Less → is_at (nat_cmp key) at ≡ false
    less_off key at e = grind (arith, nat_tests)

pub value_at-without_same : (key : ℕ) (leaves : LeafTiles) → IsAscending leaves → value_at key (without_key key leaves) ≡ None
unfolding IsStrictlySortedBy
value_at-without_same key [] up = refl
value_at-without_same key (leaf ∷ leaves) up =
    elim (is_at (nat_cmp key) leaf.0) as (λ b. is_at (nat_cmp key) leaf.0 ≡ b → value_at key (cond b leaves (leaf ∷ remove_entry (is_at (nat_cmp key)) leaves)) ≡ None) [
      | true ↦ λ e. none_below key leaves (subst (λ k. AllByRecursion (λ y. nat_cmp k y ≡ Less) (keys_of leaves)) (sym (at_same key leaf.0 e)) up.0)
      | false ↦ λ e. rw e (value_at-without_same key leaves up.1)
    ] refl
  where
    at_same : (key at : ℕ) → is_at (nat_cmp key) at ≡ true → key ≡ at
    at_same key at e = grind (arith, nat_tests)

pub ascending_after : (leaves : LeafTiles) (edit : LeafEdit) → IsAscending leaves → IsAscending (leaves_after leaves edit)
ascending_after leaves (put leaf tile) up = ascending_with leaf tile leaves up
ascending_after leaves (add leaf tile) up = ascending_with leaf tile leaves up
ascending_after leaves (replace leaf tile) up = ascending_with leaf tile leaves up
ascending_after leaves (remove leaf) up = ascending_remove (is_at (nat_cmp leaf)) leaves up

fold_ascending : (leaves : LeafTiles) (edits : List LeafEdit) → IsAscending leaves → IsAscending (fold leaves_after leaves edits)
fold_ascending leaves [] up = up
fold_ascending leaves (edit ∷ edits) up = fold_ascending (leaves_after leaves edit) edits (ascending_after leaves edit up)

-- ---- whether a leaf is there

pub has_after_same : (leaf : ℕ) (leaves : LeafTiles) (edit : LeafEdit) → IsAscending leaves → leaf_of edit ≡ leaf → has_leaf leaf (leaves_after leaves edit) ≡ is_some (edit_tile edit)
has_after_same leaf leaves (put at tile) up e = ap (λ k. has_leaf k (with_value at tile leaves)) (sym e) ∙ ap is_some (value_at-with_same at tile leaves)
has_after_same leaf leaves (add at tile) up e = ap (λ k. has_leaf k (with_value at tile leaves)) (sym e) ∙ ap is_some (value_at-with_same at tile leaves)
has_after_same leaf leaves (replace at tile) up e = ap (λ k. has_leaf k (with_value at tile leaves)) (sym e) ∙ ap is_some (value_at-with_same at tile leaves)
has_after_same leaf leaves (remove at) up e = ap (λ k. has_leaf k (without_key at leaves)) (sym e) ∙ ap is_some (value_at-without_same at leaves up)

-- a leaf that an edit isn't of stays
pub value_after_other : (leaf : ℕ) (leaves : LeafTiles) (edit : LeafEdit) → leaf_of edit ≢ leaf → value_at leaf (leaves_after leaves edit) ≡ value_at leaf leaves
value_after_other leaf leaves (put at tile) h = value_at-with_other leaf at tile leaves (λ e. h (sym e))
value_after_other leaf leaves (add at tile) h = value_at-with_other leaf at tile leaves (λ e. h (sym e))
value_after_other leaf leaves (replace at tile) h = value_at-with_other leaf at tile leaves (λ e. h (sym e))
value_after_other leaf leaves (remove at) h = value_at-without_other leaf at leaves (λ e. h (sym e))

value_after_others : (leaf : ℕ) (leaves : LeafTiles) (edits : List LeafEdit) → All (λ edit. leaf_of edit ≢ leaf) edits → value_at leaf (fold leaves_after leaves edits) ≡ value_at leaf leaves
value_after_others leaf leaves [] all = refl
value_after_others leaf leaves (edit ∷ edits) all =
    value_after_others leaf (leaves_after leaves edit) edits (All-tail (λ edit. leaf_of edit ≢ leaf) edit edits all)
    ∙ value_after_other leaf leaves edit (All-head (λ edit. leaf_of edit ≢ leaf) edit edits all)

pub value_of_others : (leaf : ℕ) (opening : LeafTiles) (edits : List LeafEdit) → All (λ edit. leaf_of edit ≢ leaf) edits → value_at leaf (leaves_of opening edits) ≡ value_at leaf opening
unfolding leaves_of
value_of_others leaf opening edits all = value_after_others leaf opening edits all

has_after_others : (leaf : ℕ) (leaves : LeafTiles) (edits : List LeafEdit) → All (λ edit. leaf_of edit ≢ leaf) edits → has_leaf leaf (fold leaves_after leaves edits) ≡ has_leaf leaf leaves
has_after_others leaf leaves edits all = ap is_some (value_after_others leaf leaves edits all)

-- no edit of some more is of the leaf
pub has_of_none : (leaf : ℕ) (opening : LeafTiles) (edits more : List LeafEdit) → All (λ edit. leaf_of edit ≢ leaf) more → has_leaf leaf (leaves_of opening (edits ++ more)) ≡ has_leaf leaf (leaves_of opening edits)
unfolding leaves_of
has_of_none leaf opening edits more all =
    ap (has_leaf leaf) (fold-append leaves_after opening edits more) ∙ has_after_others leaf (fold leaves_after opening edits) more all

-- the last edit of the leaf decides
pub has_of_last : (leaf : ℕ) (opening : LeafTiles) (edits : List LeafEdit) (edit : LeafEdit) (more : List LeafEdit) → IsAscending opening → leaf_of edit ≡ leaf → All (λ edit. leaf_of edit ≢ leaf) more →
    has_leaf leaf (leaves_of opening (edits ++ edit ∷ more)) ≡ is_some (edit_tile edit)
unfolding leaves_of
has_of_last leaf opening edits edit more up e all =
    ap (has_leaf leaf) (fold-append leaves_after opening edits (edit ∷ more))
    ∙ has_after_others leaf (leaves_after (fold leaves_after opening edits) edit) more all
    ∙ has_after_same leaf (fold leaves_after opening edits) edit (fold_ascending opening edits up) e

-- ---- edits one after another

pub leaves_of-append : (opening : LeafTiles) (edits more : List LeafEdit) → leaves_of opening (edits ++ more) ≡ fold leaves_after (leaves_of opening edits) more
unfolding leaves_of
leaves_of-append opening edits more = fold-append leaves_after opening edits more

pub leaves_go_on : (opening : LeafTiles) (edits more : List LeafEdit) → leaves_of opening (edits ++ more) ≡ leaves_of (leaves_of opening edits) more
unfolding leaves_of
leaves_go_on opening edits more = fold-append leaves_after opening edits more

-- ---- leaves that fit the shape

pub none_fits : (shape : PyramidShape) → FitsLeaves shape []
unfolding IsStrictlySortedBy
none_fits shape = record { ascending = tt; cells = λ k d h. absurd (omega arith); tiles = λ k d h. absurd (omega arith) }

-- an edit fits where its leaf and its tile do
pub fits_edit : (shape : PyramidShape) (edit : LeafEdit) → leaf_of edit < cell_count shape.top → ((tile : PixelTile) → edit_tile edit ≡ Some tile → FitsTile shape tile) → FitsEdit shape edit
fits_edit shape (put leaf tile) lt fits = (lt, fits tile refl)
fits_edit shape (add leaf tile) lt fits = (lt, fits tile refl)
fits_edit shape (replace leaf tile) lt fits = (lt, fits tile refl)
fits_edit shape (remove leaf) lt fits = lt

pub fits_with : (shape : PyramidShape) (key : ℕ) (tile : PixelTile) (leaves : LeafTiles) → key < cell_count shape.top → FitsTile shape tile → FitsLeaves shape leaves → FitsLeaves shape (with_value key tile leaves)
fits_with shape key tile leaves lt fits all = record {
  ascending = ascending_with key tile leaves all.ascending;
  cells = All-keys-insert_entry nat_cmp key tile (λ leaf. leaf < cell_count shape.top) leaves all.cells lt;
  tiles = All-values-insert_entry nat_cmp key tile (FitsTile shape) leaves all.tiles fits;
}

pub fits_after : (shape : PyramidShape) (leaves : LeafTiles) (edit : LeafEdit) → FitsEdit shape edit → FitsLeaves shape leaves → FitsLeaves shape (leaves_after leaves edit)
fits_after shape leaves (put leaf tile) fits all = fits_with shape leaf tile leaves fits.0 fits.1 all
fits_after shape leaves (add leaf tile) fits all = fits_with shape leaf tile leaves fits.0 fits.1 all
fits_after shape leaves (replace leaf tile) fits all = fits_with shape leaf tile leaves fits.0 fits.1 all
fits_after shape leaves (remove leaf) fits all = record {
  ascending = ascending_remove (is_at (nat_cmp leaf)) leaves all.ascending;
  cells = All-map-remove_entry (is_at (nat_cmp leaf)) (λ pair. pair.0) (λ leaf. leaf < cell_count shape.top) leaves all.cells;
  tiles = All-map-remove_entry (is_at (nat_cmp leaf)) (λ pair. pair.1) (FitsTile shape) leaves all.tiles;
}

fits_fold : (shape : PyramidShape) (leaves : LeafTiles) (edits : List LeafEdit) → All (FitsEdit shape) edits → FitsLeaves shape leaves → FitsLeaves shape (fold leaves_after leaves edits)
fits_fold shape leaves [] all fits = fits
fits_fold shape leaves (edit ∷ edits) all fits = fits_fold shape (leaves_after leaves edit) edits (All-tail (FitsEdit shape) edit edits all) (fits_after shape leaves edit (All-head (FitsEdit shape) edit edits all) fits)

pub fits_of : (shape : PyramidShape) (opening : LeafTiles) (edits : List LeafEdit) → All (FitsEdit shape) edits → FitsLeaves shape opening → FitsLeaves shape (leaves_of opening edits)
unfolding leaves_of
fits_of shape opening edits all fits = fits_fold shape opening edits all fits
