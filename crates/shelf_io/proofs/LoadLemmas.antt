-- What a shelf opens as, step by step.
use Rattle.std.proofs.Common.{◌≡◌, ℕ, zero, suc, cond, ◌+◌, ◌*◌, ◌<◌, ◌≤◌, Bool, true, false, List, [], ◌∷◌, ◌++◌, Option, Some, None, Result, Ok, Err, refl, sym, ap, ◌∙◌, subst, arith, map, length, get_or, string_bytes}
use Rattle.std.specs.Prelude.{All, IfSome, IfErr, Vec, String, filter, max, sum_by, slice_get, nat_lt, ◌/◌, ◌^◌, ⊤}
use Rattle.std.specs.declared.alloc.Global.{Global}
use Rattle.std.specs.List.{filter_map, list_any, range_with_len}
use Rattle.std.specs.List.Sorted.{IsStrictlyIncreasing}
use Rattle.std.specs.Option.{option_map_or, option_or}
use Rattle.std.specs.Ordering.{nat_cmp, eq_by_cmp}
use Rattle.std.specs.Cmp.Lexicographic.{slice_cmp}
use Rattle.std.specs.Result.{result_err}
use Rattle.std.specs.Map.{values_of}
use Rattle.std.specs.FinMap.{get, keys, contains_key, contains_key-keys}
use Rattle.std.proofs.lemmas.List.FromFn.{length-range_with_len, get_or-range_with_len}
use Rattle.std.proofs.lemmas.List.Elements.{All-filter, All-from_get_or, All-head, All-tail}
use Rattle.std.proofs.lemmas.List.Sums.{sum_by-cons}
use Rattle.std.proofs.lemmas.Bool.Decides.{nat_tests}
use Rattle.std.proofs.Math.Nat.{mul-le-mul_right}
use Rattle.std.proofs.lemmas.List.Kept.{IsStrictlyIncreasing-filter}
use Rattle.std.proofs.lemmas.List.Sorted.{list_any-IsPermutation}
use Rattle.healpix_nested.specs.Cells.{cell_count}
use Rattle.survey_link.specs.Shelf.{ShelfFiles, Lists, Finds}
use Rattle.pyramid_model.specs.Shape.{PyramidShape}
use Rattle.tile_pixels.specs.Tile.{PixelTile}
use Rattle.fits_tile.specs.TileFile.{data_len}
use Rattle.edit_journal.specs.Leaves.{LeafTiles, tile_charge, charge_of, FitsTile, FitsLeaves}
use Rattle.edit_journal.specs.Faults.{most_charge}
use Rattle.survey_conf.specs.Description.{Description, description_of}
use Rattle.survey_conf.specs.Faults.{fault_of, IsRefusedBy as IsConfRefusal}
use Rattle.survey_conf.specs.declared.fault.ConfRefusal.{ConfRefusal}
use Rattle.survey_conf.specs.declared.fault.ConfRefusal.TheVariants.{Fault, OutOfMemory as NoRoom}
use Rattle.shelf_io.specs.Opening.{conf_path, conf_of_text, conf_on, leaf_path, leaves_on, leaf_tile, leaf_refusal, charge_for, count_refusal, leaves_refusal, OpenedSurvey, survey_on, opening, opening_with, IsRefusedBy}
use Rattle.shelf_io.specs.Refusals.{of_conf}
use Rattle.shelf_io.specs.Listed.{is_among, leaves_among}
use Rattle.shelf_io.specs.declared.refusal.LoadRefusal.{LoadRefusal}
use Rattle.shelf_io.specs.declared.refusal.LoadRefusal.TheVariants.{NoConf, Conf, Tile, TooMany, ShelfFault, OutOfMemory}
use Rattle.shelf_io.proofs.AscendLemmas.{range_increases}

-- what holds of an error holds of the result that has it
pub if_err_from : {T E : Type 0} (P : E → Type 0) (r : Result T E) (e : E) → ((x : E) × (r ≡ Err x) × (x ≡ e)) → P e → IfErr r P
if_err_from P r e p h = subst (λ q. IfErr q P) (sym (p.1 ∙ ap Err p.2)) h

-- ---- the description

pub conf_read : (files : Option ShelfFiles) (text : Vec ℕ Global) (conf : Description) → Finds files conf_path (Some text) → fault_of text.items ≡ None → conf ≡ description_of text.items → IfSome files (λ fs. conf_on fs ≡ Ok conf)
unfolding conf_on
conf_read None text conf found none is = tt
conf_read (Some fs) text conf found none is =
    ap (λ o. option_map_or conf_of_text o (Err NoConf)) (sym found)
    ∙ ap (λ o. option_map_or (λ fault. Err (Conf fault)) o (Ok (description_of text.items))) none ∙ ap Ok (sym is)

refused_text : (text : List ℕ) (refusal : ConfRefusal) → IsConfRefusal (fault_of text) refusal → IsRefusedBy (result_err (conf_of_text text)) (of_conf refusal)
refused_text text (Fault fault) is = ap (λ o. result_err (option_map_or (λ f. Err (Conf f)) o (Ok (description_of text)))) is
refused_text text NoRoom is = tt

pub conf_refused : (files : Option ShelfFiles) (text : Vec ℕ Global) (refusal : ConfRefusal) → Finds files conf_path (Some text) → IsConfRefusal (fault_of text.items) refusal → IfSome files (λ fs. IsRefusedBy (result_err (conf_on fs)) (of_conf refusal))
unfolding conf_on
conf_refused None text refusal found is = tt
conf_refused (Some fs) text refusal found is =
    subst (λ o. IsRefusedBy (result_err (option_map_or conf_of_text o (Err NoConf))) (of_conf refusal)) found (refused_text text.items refusal is)

pub conf_absent : (files : Option ShelfFiles) → Finds files conf_path None → IfSome files (λ fs. IsRefusedBy (result_err (conf_on fs)) NoConf)
unfolding conf_on
conf_absent None found = tt
conf_absent (Some fs) found = ap (λ o. result_err (option_map_or conf_of_text o (Err NoConf))) (sym found)

-- ---- the leaves

filter_same : (p q : ℕ → Bool) → ((n : ℕ) → p n ≡ q n) → (xs : List ℕ) → filter p xs ≡ filter q xs
filter_same p q same xs = λ i. filter (λ n. same n i) xs

pub listed_on : (files : Option ShelfFiles) (paths : List (String Global)) (top : ℕ) → Lists files paths → IfSome files (λ fs. leaves_among (map string_bytes paths) top ≡ leaves_on fs top)
unfolding leaves_among leaves_on
listed_on None paths top listed = tt
listed_on (Some fs) paths top listed =
    filter_same (λ leaf. is_among (map string_bytes paths) (leaf_path top leaf)) (λ leaf. contains_key fs (leaf_path top leaf))
    (λ leaf. list_any-IsPermutation (eq_by_cmp (slice_cmp nat_cmp) (leaf_path top leaf)) (map string_bytes paths) (keys fs) listed ∙ sym (contains_key-keys fs (leaf_path top leaf)))
    (range_with_len 0 (cell_count top))

pub among_ascend : (texts : List (List ℕ)) (top : ℕ) → IsStrictlyIncreasing (leaves_among texts top)
unfolding leaves_among
among_ascend texts top = IsStrictlyIncreasing-filter (λ leaf. is_among texts (leaf_path top leaf)) (range_with_len 0 (cell_count top)) (range_increases 0 (cell_count top))

pub among_cells : (texts : List (List ℕ)) (top : ℕ) → All (λ leaf. leaf < cell_count top) (leaves_among texts top)
unfolding leaves_among
among_cells texts top =
    All-filter (λ leaf. is_among texts (leaf_path top leaf)) (λ leaf. leaf < cell_count top) (range_with_len 0 (cell_count top))
    (All-from_get_or (λ leaf. leaf < cell_count top) (range_with_len 0 (cell_count top)) 0
    (λ i h. let long : length (range_with_len 0 (cell_count top)) ≡ cell_count top = length-range_with_len 0 (cell_count top) in
    let at : get_or (range_with_len 0 (cell_count top)) i 0 ≡ 0 + i = get_or-range_with_len 0 (cell_count top) i 0 (omega arith) in
    omega arith))

-- ---- the survey

err_of : {X : Type 0} (o : Option LoadRefusal) (x : X) → result_err (option_map_or (λ r. Err r) o (Ok x)) ≡ o
err_of None x = refl
err_of (Some r) x = refl

own_refusal : (shown : Option LoadRefusal) (refusal : LoadRefusal) → shown ≡ Some refusal → IsRefusedBy shown refusal
own_refusal shown NoConf e = e
own_refusal shown (Conf fault) e = e
own_refusal shown (Tile cell fault) e = e
own_refusal shown (TooMany leaves) e = e
own_refusal shown ShelfFault e = tt
own_refusal shown OutOfMemory e = tt

module _ (d : Description) (shape : PyramidShape) (top count : ℕ) (numbers : List ℕ) (same : shape ≡ d.shape) (at : top ≡ d.shape.top) (counted : count ≡ length numbers) where
  refusal_is : (fs : ShelfFiles) → conf_on fs ≡ Ok d → numbers ≡ leaves_on fs top → result_err (opening fs) ≡ option_or (count_refusal shape count) (slice_get (filter_map (leaf_refusal fs d) numbers) 0)
  unfolding leaves_refusal
  refusal_is fs conf listed =
      let all : leaves_on fs d.shape.top ≡ numbers = ap (leaves_on fs) (sym at) ∙ sym listed in
      ap (λ r. result_err (opening_with fs r)) conf ∙ err_of (leaves_refusal fs d) (survey_on fs d)
      ∙ (λ i. option_or (count_refusal (sym same i) (length (all i))) (slice_get (filter_map (leaf_refusal fs d) (all i)) 0))
      ∙ ap (λ n. option_or (count_refusal shape n) (slice_get (filter_map (leaf_refusal fs d) numbers) 0)) (sym counted)

  pub count_refused : (files : Option ShelfFiles) (refusal : LoadRefusal) → IfSome files (λ fs. conf_on fs ≡ Ok d) → IfSome files (λ fs. numbers ≡ leaves_on fs top) → Some refusal ≡ count_refusal shape count
      → IfSome files (λ fs. IsRefusedBy (result_err (opening fs)) refusal)
  count_refused None refusal conf listed many = tt
  count_refused (Some fs) refusal conf listed many =
      own_refusal (result_err (opening fs)) refusal (refusal_is fs conf listed ∙ ap (λ o. option_or o (slice_get (filter_map (leaf_refusal fs d) numbers) 0)) (sym many))

  pub leaves_refused : (files : Option ShelfFiles) (refusal : LoadRefusal) → IfSome files (λ fs. conf_on fs ≡ Ok d) → IfSome files (λ fs. numbers ≡ leaves_on fs top) → None ≡ count_refusal shape count
      → IfSome files (λ fs. IsRefusedBy (slice_get (filter_map (leaf_refusal fs d) numbers) 0) refusal) → IfSome files (λ fs. IsRefusedBy (result_err (opening fs)) refusal)
  leaves_refused None refusal conf listed few told = tt
  leaves_refused (Some fs) refusal conf listed few told =
      subst (λ o. IsRefusedBy o refusal) (sym (refusal_is fs conf listed ∙ ap (λ o. option_or o (slice_get (filter_map (leaf_refusal fs d) numbers) 0)) (sym few))) told

  pub all_opened : (files : Option ShelfFiles) (tiles : LeafTiles) → IfSome files (λ fs. conf_on fs ≡ Ok d) → IfSome files (λ fs. numbers ≡ leaves_on fs top) → None ≡ count_refusal shape count
      → IfSome files (λ fs. filter_map (leaf_refusal fs d) numbers ≡ []) → IfSome files (λ fs. tiles ≡ filter_map (leaf_tile fs d) numbers)
      → IfSome files (λ fs. opening fs ≡ Ok (record { conf = d; leaves = tiles }))
  unfolding survey_on
  all_opened None tiles conf listed few sound read = tt
  all_opened (Some fs) tiles conf listed few sound read =
      let all : numbers ≡ leaves_on fs d.shape.top = listed ∙ ap (leaves_on fs) at in
      let none : result_err (opening fs) ≡ None = refusal_is fs conf listed ∙ (λ i. option_or (sym few i) (slice_get (sound i) 0)) in
      let refusal : leaves_refusal fs d ≡ None = sym (err_of (leaves_refusal fs d) (survey_on fs d)) ∙ sym (ap (λ r. result_err (opening_with fs r)) conf) ∙ none in
      ap (opening_with fs) conf ∙ ap (λ o. option_map_or (λ r. Err r) o (Ok (survey_on fs d))) refusal
      ∙ ap (λ ts. Ok (record { conf = d; leaves = ts })) (sym (read ∙ ap (filter_map (leaf_tile fs d)) all))

-- ---- the charge

charge_is : (shape : PyramidShape) (tile : PixelTile) → FitsTile shape tile → tile_charge tile ≡ max 1024 (data_len shape)
charge_is shape tile fits i = max 1024 (4 ^ (fits.1 i) * ((fits.0 i).bitpix / 8))

charge_sum : (shape : PyramidShape) (tiles : LeafTiles) → All (FitsTile shape) (values_of tiles) → sum_by (λ leaf. tile_charge leaf.1) tiles ≡ length tiles * max 1024 (data_len shape)
charge_sum shape [] fits = nothing (max 1024 (data_len shape))
  where
    nothing : (each : ℕ) → 0 ≡ 0 * each
    nothing each = grind arith
charge_sum shape (e ∷ es) fits =
    let here : tile_charge e.1 ≡ max 1024 (data_len shape) = charge_is shape e.1 (All-head (FitsTile shape) e.1 (values_of es) fits) in
    let rest : sum_by (λ leaf. tile_charge leaf.1) es ≡ length es * max 1024 (data_len shape) = charge_sum shape es (All-tail (FitsTile shape) e.1 (values_of es) fits) in
    sum_by-cons (λ leaf. tile_charge leaf.1) e es ∙ add_up (tile_charge e.1) (sum_by (λ leaf. tile_charge leaf.1) es) (length es) (max 1024 (data_len shape)) here rest
  where
    add_up : (a b n each : ℕ) → a ≡ each → b ≡ n * each → a + b ≡ suc n * each
    add_up a b n each e f = grind arith

within : (shape : PyramidShape) (count : ℕ) → None ≡ count_refusal shape count → count * max 1024 (data_len shape) ≤ most_charge
within shape count few =
    elim (nat_lt most_charge (charge_for shape count)) as (λ b. nat_lt most_charge (charge_for shape count) ≡ b → None ≡ (cond b (Some (TooMany count)) None) → count * max 1024 (data_len shape) ≤ most_charge) [
      | true ↦ λ h e. cc
      | false ↦ λ h e. grind (arith, nat_tests)
    ] refl few

pub charge_within : (shape d_shape : PyramidShape) (count : ℕ) (tiles : LeafTiles) → shape ≡ d_shape → None ≡ count_refusal shape count → length tiles ≤ count → FitsLeaves d_shape tiles → charge_of tiles [] ≤ most_charge
unfolding charge_of
charge_within shape d_shape count tiles same few short fits =
    let each = max 1024 (data_len d_shape) in
    let all : sum_by (λ leaf. tile_charge leaf.1) tiles ≡ length tiles * each = charge_sum d_shape tiles fits.tiles in
    let less : length tiles * each ≤ count * each = mul-le-mul_right each short in
    let most : count * each ≤ most_charge = within d_shape count (subst (λ s. None ≡ count_refusal s count) same few) in
    omega arith
