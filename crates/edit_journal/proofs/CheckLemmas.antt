-- How a batch is judged edit by edit.
use Rattle.std.proofs.Common.{◌≡◌, ◌≢◌, ℕ, zero, suc, ◌+◌, ◌-◌, ◌*◌, ◌^◌, ◌<◌, ◌≤◌, min, Bool, true, false, List, [], ◌∷◌, ◌++◌, map, length, take, drop, get_or, Option, Some, None, option_map, refl, sym, ap, ◌∙◌, subst, arith, append_assoc, length-append, length-take-le}
use Rattle.std.specs.Prelude.{All, slice_get, is_some, sum_by}
use Rattle.std.specs.Option.{option_or}
use Rattle.std.specs.Map.{values_of}
use Rattle.std.proofs.lemmas.Option.{slice_get-map, slice_get_within}
use Rattle.std.proofs.lemmas.List.{take_more, take-map, length-map}
use Rattle.std.proofs.lemmas.List.Elements.{All-cons, All-head, All-tail}
use Rattle.std.proofs.lemmas.List.Sums.{sum_by-cons}
use Rattle.std.proofs.lemmas.Option.{get_or_from_slice_get}
use Rattle.pyramid_model.specs.Shape.{PyramidShape}
use Rattle.tile_pixels.specs.Tile.{PixelTile}
use Rattle.leaf_store.specs.Store.{IsAscending, value_at}
use Rattle.edit_journal.specs.declared.edit.Edit.{Edit}
use Rattle.edit_journal.specs.declared.fault.EditFault.{EditFault}
use Rattle.edit_journal.specs.Edit.{LeafEdit, edit_of, leaf_of, edit_tile}
use Rattle.edit_journal.specs.Leaves.{LeafTiles, leaves_of, charge_of, tile_charge, edit_charge, FitsTile}
use Rattle.edit_journal.specs.Faults.{most_edits, most_charge, has_leaf, leaf_fault, limit_fault, edit_fault, item_fault}
use Rattle.edit_journal.proofs.LeafLemmas.{has_of_last}
use Rattle.edit_journal.proofs.FaultLemmas.{edit_fault_is, item_fault_is, no_limit, neither, charge_of_push}

-- a look-up that lends finds a leaf where the map has it
pub there_is : {X : Type 0} (lent : X → PixelTile) (r : Option X) (key : ℕ) (leaves : LeafTiles) → option_map lent r ≡ value_at key leaves → is_some r ≡ has_leaf key leaves
there_is lent None key leaves e = ap is_some e
there_is lent (Some x) key leaves e = ap is_some e

-- ---- the edits of a batch, place by place

module _ (P : LeafEdit → Type 0) where
  all_from_places : (items : List Edit) → ((k : ℕ) (e : Edit) → slice_get items k ≡ Some e → P (edit_of e)) → All P (map edit_of items)
  all_from_places [] h = λ k d l. absurd (omega arith)
  all_from_places (item ∷ items) h = All-cons P (edit_of item) (map edit_of items) (h zero item refl) (all_from_places items (λ k e. h (suc k) e))

  pub all_after : (i : ℕ) (items : List Edit) → ((k : ℕ) (e : Edit) → i ≤ k → slice_get items k ≡ Some e → P (edit_of e)) → All P (map edit_of (drop i items))
  all_after zero items h = all_from_places items (λ k e. h k e (omega arith))
  all_after (suc i) [] h = λ k d l. absurd (omega arith)
  all_after (suc i) (item ∷ items) h = all_after i items (λ k e le. h (suc k) e (omega arith))

pub split_at : (items : List Edit) (i : ℕ) (e : Edit) → slice_get items i ≡ Some e → map edit_of items ≡ map edit_of (take i items) ++ edit_of e ∷ map edit_of (drop (i + 1) items)
split_at [] i e h = cc
split_at (item ∷ items) zero e h = let same : item ≡ e = cc in ap (λ first. edit_of first ∷ map edit_of items) same
split_at (item ∷ items) (suc i) e h = ap (λ rest. edit_of item ∷ rest) (split_at items i e h) ∙ ap (λ n. edit_of item ∷ map edit_of (take i items) ++ edit_of e ∷ map edit_of (drop n (item ∷ items))) (more i)
  where
    more : (i : ℕ) → suc (i + 1) ≡ suc i + 1
    more i = omega arith

is_some_map : {X Y : Type 0} (f : X → Y) (o : Option X) → is_some (option_map f o) ≡ is_some o
is_some_map f None = refl
is_some_map f (Some x) = refl

-- the last edit of the leaf among some decides whether it is there
pub has_at : {X : Type 0} (lent : X → PixelTile) (r : Option X) (opening : LeafTiles) (edits : List LeafEdit) (leaf : ℕ) (items : List Edit) (i : ℕ) (e : Edit) → IsAscending opening → slice_get items i ≡ Some e → leaf_of (edit_of e) ≡ leaf →
    ((k : ℕ) (other : Edit) → i + 1 ≤ k → slice_get items k ≡ Some other → leaf_of (edit_of other) ≢ leaf) → option_map lent r ≡ edit_tile (edit_of e) →
    is_some r ≡ has_leaf leaf (leaves_of opening (edits ++ map edit_of items))
has_at lent r opening edits leaf items i e up found at none tile =
    let all : All (λ edit. leaf_of edit ≢ leaf) (map edit_of (drop (i + 1) items)) = all_after (λ edit. leaf_of edit ≢ leaf) (i + 1) items none in
    let parts : edits ++ map edit_of items ≡ (edits ++ map edit_of (take i items)) ++ edit_of e ∷ map edit_of (drop (i + 1) items) =
    ap (λ xs. edits ++ xs) (split_at items i e found) ∙ sym (append_assoc edits (map edit_of (take i items)) (edit_of e ∷ map edit_of (drop (i + 1) items))) in
    sym (is_some_map lent r) ∙ ap is_some tile
    ∙ sym (ap (λ xs. has_leaf leaf (leaves_of opening xs)) parts ∙ has_of_last leaf opening (edits ++ map edit_of (take i items)) (edit_of e) (map edit_of (drop (i + 1) items)) up at all)

-- ---- one edit of a batch

module _ (opening : LeafTiles) (edits : List LeafEdit) (items : List Edit) (at : ℕ) (e : Edit) (there : Bool) (count charge charge' : ℕ)
    (found : slice_get items at ≡ Some e)
    (is_there : there ≡ has_leaf (leaf_of (edit_of e)) (leaves_of opening (edits ++ map edit_of (take at items))))
    (is_count : count ≡ length edits + at)
    (is_charge : charge ≡ charge_of opening (edits ++ take at (map edit_of items)))
    (is_charge' : charge' ≡ min (charge + edit_charge (edit_of e)) (2 ^ 64 - 1)) where
  item : slice_get (map edit_of items) at ≡ Some (edit_of e)
  item = slice_get-map edit_of items at ∙ ap (option_map edit_of) found

  within : at < length items
  within = slice_get_within items at e found

  before : edits ++ map edit_of (take at items) ≡ edits ++ take at (map edit_of items)
  before = ap (λ xs. edits ++ xs) (sym (take-map edit_of at items))

  -- it is judged as it stands in the batch
  pub judged : option_or (leaf_fault there (edit_of e)) (limit_fault count charge') ≡ item_fault opening edits (map edit_of items) at
  judged =
      let place : at < length items = within in
      let long : length (edits ++ take at (map edit_of items)) ≡ length edits + length (take at (map edit_of items)) = length-append edits (take at (map edit_of items)) in
      let few : length (take at (map edit_of items)) ≡ at = length-take-le at (map edit_of items) (rw (length-map items edit_of) (omega arith)) in
      edit_fault_is opening (edits ++ take at (map edit_of items)) (edit_of e) there count charge'
      (is_there ∙ ap (λ xs. has_leaf (leaf_of (edit_of e)) (leaves_of opening xs)) before)
      (omega arith)
      (is_charge' ∙ ap (λ n. min (n + edit_charge (edit_of e)) (2 ^ 64 - 1)) is_charge)
      ∙ sym (item_fault_is opening edits (map edit_of items) at (edit_of e) item)

  -- where nothing is wrong, there is room, and the charge is counted on
  pub room : option_or (leaf_fault there (edit_of e)) (limit_fault count charge') ≡ None → (count < most_edits) × (charge' ≡ charge_of opening (edits ++ take (at + 1) (map edit_of items)))
  room none =
      let limits = no_limit count charge' (neither (leaf_fault there (edit_of e)) (limit_fault count charge') none).1 in
      let exact : charge' ≡ charge + edit_charge (edit_of e) = omega arith in
      let read : get_or (map edit_of items) at (edit_of e) ≡ edit_of e = get_or_from_slice_get (map edit_of items) at (edit_of e) (edit_of e) item in
      let longer : at < length (map edit_of items) = rw (length-map items edit_of) within in
      let more : take (at + 1) (map edit_of items) ≡ take at (map edit_of items) ++ edit_of e ∷ [] =
      take_more (map edit_of items) at (edit_of e) longer ∙ ap (λ x. take at (map edit_of items) ++ x ∷ []) read in
      let all : (edits ++ take at (map edit_of items)) ++ edit_of e ∷ [] ≡ edits ++ take (at + 1) (map edit_of items) =
      append_assoc edits (take at (map edit_of items)) (edit_of e ∷ []) ∙ ap (λ xs. edits ++ xs) (sym more) in (
        limits.0,
        exact ∙ ap (λ n. n + edit_charge (edit_of e)) is_charge ∙ sym (charge_of_push opening (edits ++ take at (map edit_of items)) (edit_of e)) ∙ ap (charge_of opening) all,
      )

-- ---- the opening leaves

-- where each is charged the same
pub charge_of_all : (shape : PyramidShape) (leaves : LeafTiles) (each : ℕ) → ((tile : PixelTile) → FitsTile shape tile → tile_charge tile ≡ each) → All (FitsTile shape) (values_of leaves) → charge_of leaves [] ≡ length leaves * each
unfolding charge_of
charge_of_all shape leaves each charged fits = let all : sum_by (λ leaf. tile_charge leaf.1) leaves ≡ length leaves * each = sums leaves fits in omega arith
  where
    sums : (leaves : LeafTiles) → All (FitsTile shape) (values_of leaves) → sum_by (λ leaf. tile_charge leaf.1) leaves ≡ length leaves * each
    sums [] fits = omega arith
    sums (leaf ∷ leaves) fits =
        let here : tile_charge leaf.1 ≡ each = charged leaf.1 (All-head (FitsTile shape) leaf.1 (values_of leaves) fits) in
        let rest : sum_by (λ leaf. tile_charge leaf.1) leaves ≡ length leaves * each = sums leaves (All-tail (FitsTile shape) leaf.1 (values_of leaves) fits) in
        let more : sum_by (λ leaf. tile_charge leaf.1) (leaf ∷ leaves) ≡ tile_charge leaf.1 + sum_by (λ leaf. tile_charge leaf.1) leaves = sum_by-cons (λ leaf. tile_charge leaf.1) leaf leaves in
        omega arith
