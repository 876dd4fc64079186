-- What the map of files has at a path.
use Rattle.std.proofs.Common.{◌≡◌, ◌≢◌, ◌⊎◌, inl, inr, ℕ, zero, suc, ◌+◌, ◌-◌, ◌<◌, ◌≤◌, Bool, true, false, cond, map, filter, flat_map, List, [], ◌∷◌, ◌++◌, Option, Some, None, refl, sym, ap, ◌∙◌, subst, arith, length, Vec, Global}
use mir.Val.{bool_byte}
use Rattle.std.specs.Prelude.{All, IsSome, IfSome, is_some, slice_get, option_map}
use Rattle.std.proofs.lemmas.List.{length-append}
use Rattle.generation.proofs.Paths.{slice_get-back}
use Rattle.std.specs.List.{range_with_len}
use Rattle.std.proofs.lemmas.Bool.{cases_eq, cases_lt}
use Rattle.std.specs.Map.{keys_of}
use Rattle.std.specs.Ordering.{nat_cmp, eq_by_cmp, is_eq}
use Rattle.std.specs.Cmp.Lexicographic.{slice_cmp, nat_list_cmp_total}
use Rattle.std.specs.declared.cmp.Ordering.{Ordering}
use Rattle.std.specs.declared.cmp.Ordering.TheVariants.{Less, Equal, Greater}
use Rattle.std.proofs.lemmas.Cmp.{eq_by_cmp_equiv}
use Rattle.std.specs.FinMap.{get, len, find, from_entries, get-from_entries, len-empty, len-insert, slice_cmp-IsAntisymmetric, nat_cmp-IsAntisymmetric}
use Rattle.tile_path.specs.declared.path.Path.{Path}
use Rattle.tile_path.specs.declared.path.Path.TheVariants.{Properties, Moc, Allsky, Tile}
use Rattle.tile_path.specs.Laws.{SpellingsDiffer, DeepTilesAreNoPaths}
use Rattle.tile_path.specs.Spelling.{IsPath, spelling}
use Rattle.healpix_nested.specs.Cells.{cell_count, NestedCell, IsCell}
use Rattle.pyramid_model.specs.Shape.{PyramidShape, LeafMap, IsShape}
use Rattle.pyramid_model.specs.Tile.{exists}
use Rattle.survey_conf.specs.Description.{Description}
use Rattle.generation.specs.Files.{leaf_map, tile_paths, mosaic_paths, paths, file_of, files}
use Rattle.generation.specs.Kept.{HasTile, PyramidContent, IsKeptGeneration, KeepsMosaic, IsMosaicFile}
use Rattle.tile_pixels.specs.Tile.{tile_of, PixelTile}
use Rattle.coverage_moc.specs.Cover.{MocCover, cover}
use Rattle.coverage_moc.specs.CoverFile.{moc_file}
use Rattle.fits_tile.specs.TileFile.{tile_file}
use Rattle.survey_conf.specs.Properties.{properties_text}
use Rattle.edit_journal.specs.Leaves.{LeafTiles}
use Rattle.std.proofs.lemmas.Map.Made.{keys_of-map_values}
use Rattle.generation.proofs.Orders.{exists_in_order}
use Rattle.generation.proofs.NoFile.{Among, among_cases, same_key, other_key, not_found}

-- ---- a path among others

pub among_left : (path : Path) (ps qs : List Path) → Among path ps → Among path (ps ++ qs)
among_left path [] qs h = absurd h
among_left path (p ∷ ps) qs (inl e) = inl e
among_left path (p ∷ ps) qs (inr h) = inr (among_left path ps qs h)

pub among_right : (path : Path) (ps qs : List Path) → Among path qs → Among path (ps ++ qs)
among_right path [] qs h = h
among_right path (p ∷ ps) qs h = inr (among_right path ps qs h)

-- ---- look-ups by spelling

own_key : (a : List ℕ) → eq_by_cmp (slice_cmp nat_cmp) a a ≡ true
own_key a = (eq_by_cmp_equiv nat_list_cmp_total).refl a

module _ (f : Path → List ℕ) where
  found : (path : Path) (ps : List Path) → ((other : Path) → Among other ps → spelling other ≡ spelling path → other ≡ path) → Among path ps
      → find (slice_cmp nat_cmp) (spelling path) (map (λ p. (spelling p, f p)) ps) ≡ Some (f path)
  found path [] apart h = absurd h
  found path (p ∷ ps) apart h = elim (eq_by_cmp (slice_cmp nat_cmp) (spelling path) (spelling p)) as (λ t. eq_by_cmp (slice_cmp nat_cmp) (spelling path) (spelling p) ≡ t
      → cond t (Some (f p)) (find (slice_cmp nat_cmp) (spelling path) (map (λ q. (spelling q, f q)) ps)) ≡ Some (f path)) [
        | true ↦ λ e. ap (λ q. Some (f q)) (apart p (inl refl) (sym (same_key (spelling path) (spelling p) e)))
        | false ↦ λ e. found path ps (λ other a. apart other (inr a)) (later h e)
      ] refl
    where
      later : (p ≡ path) ⊎ Among path ps → eq_by_cmp (slice_cmp nat_cmp) (spelling path) (spelling p) ≡ false → Among path ps
      later (inl is) e = let own : eq_by_cmp (slice_cmp nat_cmp) (spelling path) (spelling p) ≡ true = ap (λ q. eq_by_cmp (slice_cmp nat_cmp) (spelling path) (spelling q)) is ∙ own_key (spelling path) in cc
      later (inr a) e = a

  -- where something is found, it is at some place
  pub place_found : (text : List ℕ) (ps : List Path) → IsSome (find (slice_cmp nat_cmp) text (map (λ p. (spelling p, f p)) ps)) → (i : ℕ) × (i < length ps) × (option_map spelling (slice_get ps i) ≡ Some text)
  place_found text [] h = cc
  place_found text (p ∷ ps) h = elim (eq_by_cmp (slice_cmp nat_cmp) text (spelling p)) as (λ t. eq_by_cmp (slice_cmp nat_cmp) text (spelling p) ≡ t
      → IsSome (cond t (Some (f p)) (find (slice_cmp nat_cmp) text (map (λ q. (spelling q, f q)) ps))) → (i : ℕ) × (i < length (p ∷ ps)) × (option_map spelling (slice_get (p ∷ ps) i) ≡ Some text)) [
        | true ↦ λ e k. (0, omega arith, ap Some (sym (same_key text (spelling p) e)))
        | false ↦ λ e k. let rest = place_found text ps k in (suc rest.0, omega (arith, rest.1), rest.2)
      ] refl h

-- ---- the paths of a survey

-- a survey has the file
abbrev pub HasFile : PyramidShape → LeafMap → Path → Type 0
HasFile shape leaves Properties = Unit {0}
HasFile shape leaves Moc = Unit {0}
HasFile shape leaves Allsky = leaves ≢ []
HasFile shape leaves (Tile cell) = HasTile shape leaves cell.order cell.npix

mosaic_among : (leaves : LeafMap) → leaves ≢ [] → Among Allsky (mosaic_paths leaves)
mosaic_among [] some = some refl
mosaic_among (e ∷ es) some = inl refl

mosaic_has : (leaves : LeafMap) (path : Path) → Among path (mosaic_paths leaves) → (path ≡ Allsky) × (leaves ≢ [])
mosaic_has [] path h = absurd h
mosaic_has (e ∷ es) path (inl is) = (sym is, λ k. cc)
mosaic_has (e ∷ es) path (inr h) = absurd h

selected_among : (order : ℕ) (t : ℕ → Bool) (a n p : ℕ) → t p ≡ true → a ≤ p → p < a + n → Among (Tile (record { order = order; npix = p })) (map (λ q. Tile (record { order = order; npix = q })) (filter t (range_with_len a n)))
selected_among order t a zero p is low high = absurd (omega arith)
selected_among order t a (suc n) p is low high = elim (cases_eq p a) [
  | inl e ↦
      let here : t a ≡ true = sym (ap t e) ∙ is in
      rw here (inl (ap (λ q. Tile (record { order = order; npix = q })) (sym e)))
  | inr apart ↦
      let rest = selected_among order t (a + 1) n p is (omega arith) (omega arith) in
      elim (t a) as (λ b. Among (Tile (record { order = order; npix = p })) (map (λ q. Tile (record { order = order; npix = q })) (cond b (a ∷ filter t (range_with_len (a + 1) n)) (filter t (range_with_len (a + 1) n))))) [
        | true ↦ inr rest
        | false ↦ rest
      ]
]

-- a path that is selected is of a number that passes the test
pub record Selected (order : ℕ) (t : ℕ → Bool) (high : ℕ) (path : Path) : Type 0 where
  pub npix : ℕ
  pub is : Tile (record { order = order; npix = npix }) ≡ path
  pub passes : t npix ≡ true
  pub below : npix < high

among_selected : (order : ℕ) (t : ℕ → Bool) (a n : ℕ) (path : Path) → Among path (map (λ q. Tile (record { order = order; npix = q })) (filter t (range_with_len a n))) → Selected order t (a + n) path
among_selected order t a zero path h = absurd h
among_selected order t a (suc n) path h =
    elim (t a) as (λ b. t a ≡ b → Among path (map (λ q. Tile (record { order = order; npix = q })) (cond b (a ∷ filter t (range_with_len (a + 1) n)) (filter t (range_with_len (a + 1) n)))) → Selected order t (a + suc n) path) [
      | true ↦ λ here k. elim k [
        | inl is ↦ record { npix = a; is = is; passes = here; below = omega arith }
        | inr later ↦ more (among_selected order t (a + 1) n path later)
      ]
      | false ↦ λ here k. more (among_selected order t (a + 1) n path k)
    ] refl h
  where
    more : Selected order t (a + 1 + n) path → Selected order t (a + suc n) path
    more s = record { npix = s.npix; is = s.is; passes = s.passes; below = let b : s.npix < a + 1 + n = s.below in omega arith }

-- the tiles of some orders
orders_among : (shape : PyramidShape) (leaves : LeafMap) (a n k : ℕ) (path : Path) → Among path (tile_paths shape leaves k) → a ≤ k → k < a + n → Among path (flat_map (tile_paths shape leaves) (range_with_len a n))
orders_among shape leaves a zero k path h low high = absurd (omega arith)
orders_among shape leaves a (suc n) k path h low high = elim (cases_eq k a) [
  | inl e ↦ among_left path (tile_paths shape leaves a) (flat_map (tile_paths shape leaves) (range_with_len (a + 1) n)) (subst (λ j. Among path (tile_paths shape leaves j)) e h)
  | inr apart ↦ among_right path (tile_paths shape leaves a) (flat_map (tile_paths shape leaves) (range_with_len (a + 1) n)) (orders_among shape leaves (a + 1) n k path h (omega arith) (omega arith))
]

pub record OfOrder (shape : PyramidShape) (leaves : LeafMap) (low high : ℕ) (path : Path) : Type 0 where
  pub order : ℕ
  pub from : low ≤ order
  pub to : order < high
  pub selected : Selected order (exists shape leaves order) (cell_count order) path

among_orders : (shape : PyramidShape) (leaves : LeafMap) (a n : ℕ) (path : Path) → Among path (flat_map (tile_paths shape leaves) (range_with_len a n)) → OfOrder shape leaves a (a + n) path
among_orders shape leaves a zero path h = absurd h
among_orders shape leaves a (suc n) path h = elim (among_cases path (tile_paths shape leaves a) (flat_map (tile_paths shape leaves) (range_with_len (a + 1) n)) h) [
  | inl here ↦ let s = among_selected a (exists shape leaves a) 0 (cell_count a) path here in
      record { order = a; from = omega arith; to = omega arith; selected = record { npix = s.npix; is = s.is; passes = s.passes; below = let b : s.npix < 0 + cell_count a = s.below in omega arith } }
  | inr later ↦ let o = among_orders shape leaves (a + 1) n path later in
      record { order = o.order; from = (let f : a + 1 ≤ o.order = o.from in omega arith); to = (let t : o.order < a + 1 + n = o.to in omega arith); selected = o.selected }
]

-- ---- the map

module _ (shape : PyramidShape) (leaves : LeafMap) (known : IsShape shape.top shape.low shape.n) (cells : All (λ leaf. leaf < cell_count shape.top) (keys_of leaves)) where
  has_among : (path : Path) → HasFile shape leaves path → Among path (paths shape leaves)
  unfolding paths
  has_among Properties has = inl refl
  has_among Moc has = inr (inl refl)
  has_among Allsky has = inr (inr (among_left Allsky (mosaic_paths leaves) (flat_map (tile_paths shape leaves) (range_with_len shape.low (shape.top + 1 - shape.low))) (mosaic_among leaves has)))
  has_among (Tile cell) has =
      let top : shape.top ≤ 11 = known.greatest_top in
      let low : shape.low ≤ cell.order = has.0 in
      let high : cell.order ≤ shape.top = has.1 in
      let below : cell.npix < cell_count cell.order = exists_in_order shape leaves cell.order cell.npix (omega arith) cells has.2 in
      inr (inr (among_right (Tile cell) (mosaic_paths leaves) (flat_map (tile_paths shape leaves) (range_with_len shape.low (shape.top + 1 - shape.low)))
      (orders_among shape leaves shape.low (shape.top + 1 - shape.low) cell.order (Tile cell) (selected_among cell.order (exists shape leaves cell.order) 0 (cell_count cell.order) cell.npix has.2 (omega arith) (omega arith)) low (omega arith))))

  pub record IsFile (path : Path) : Type 0 where
    pub has : HasFile shape leaves path
    pub is : IsPath path

  of_order : (path : Path) → OfOrder shape leaves shape.low (shape.low + (shape.top + 1 - shape.low)) path → IsFile path
  of_order path o =
      let top : shape.top ≤ 11 = known.greatest_top in
      let low : shape.low ≤ 3 = known.low_order in
      let least : 3 ≤ shape.top = known.least_top in
      let from : shape.low ≤ o.order = o.from in
      let to : o.order < shape.low + (shape.top + 1 - shape.low) = o.to in
      let s = o.selected in
      subst IsFile s.is (record {
        has = (from, omega arith, s.passes);
        is = record { cell = record { known_order = omega arith; in_order = s.below }; order_at_most_11 = omega arith };
      })

  among_has : (path : Path) → Among path (paths shape leaves) → IsFile path
  unfolding paths
  among_has path (inl e) = subst IsFile e (record { has = tt; is = tt })
  among_has path (inr (inl e)) = subst IsFile e (record { has = tt; is = tt })
  among_has path (inr (inr h)) = elim (among_cases path (mosaic_paths leaves) (flat_map (tile_paths shape leaves) (range_with_len shape.low (shape.top + 1 - shape.low))) h) [
    | inl here ↦ let m = mosaic_has leaves path here in subst IsFile (sym m.0) (record { has = m.1; is = tt })
    | inr later ↦ of_order path (among_orders shape leaves shape.low (shape.top + 1 - shape.low) path later)
  ]

  module _ (d : Description) (differ : SpellingsDiffer) where
    pub file_there : (path : Path) → IsPath path → HasFile shape leaves path → get (from_entries {R = slice_cmp nat_cmp} (map (λ p. (spelling p, file_of d leaves p)) (paths shape leaves))) (spelling path) ≡ Some (file_of d leaves path)
    file_there path is has =
        get-from_entries nat_list_cmp_total (map (λ p. (spelling p, file_of d leaves p)) (paths shape leaves)) (spelling path)
        ∙ found (file_of d leaves) path (paths shape leaves) (λ other a e. differ other path (among_has other a).is is e) (has_among path has)

    pub file_absent : (path : Path) → IsPath path → (HasFile shape leaves path → ⊥) → get (from_entries {R = slice_cmp nat_cmp} (map (λ p. (spelling p, file_of d leaves p)) (paths shape leaves))) (spelling path) ≡ None
    file_absent path is none =
        get-from_entries nat_list_cmp_total (map (λ p. (spelling p, file_of d leaves p)) (paths shape leaves)) (spelling path)
        ∙ not_found (file_of d leaves) (spelling path) (paths shape leaves) (λ other a e. none (subst (HasFile shape leaves) (differ other path (among_has other a).is is e) (among_has other a).has))

    pub deep_absent : DeepTilesAreNoPaths → (cell : NestedCell) → IsCell cell.order cell.npix → 11 < cell.order → get (from_entries {R = slice_cmp nat_cmp} (map (λ p. (spelling p, file_of d leaves p)) (paths shape leaves))) (spelling (Tile cell)) ≡ None
    deep_absent deep cell is above =
        get-from_entries nat_list_cmp_total (map (λ p. (spelling p, file_of d leaves p)) (paths shape leaves)) (spelling (Tile cell))
        ∙ not_found (file_of d leaves) (spelling (Tile cell)) (paths shape leaves) (λ other a e. deep other cell (among_has other a).is is above e)

-- ---- what a generation keeps is what the map has

leaf_count : (leaves : LeafTiles) → length (leaf_map leaves) ≡ length leaves
leaf_count [] = refl
leaf_count (e ∷ es) = ap suc (leaf_count es)

module _ (d : Description) (pyramid : PyramidContent) (coverage : MocCover) (kept_mosaic : Option (List ℕ)) (properties : List ℕ) (is : IsKeptGeneration d pyramid coverage kept_mosaic properties) (differ : SpellingsDiffer) where
  pub file_at : (path : Path) → IsPath path → HasFile d.shape (leaf_map pyramid.leaves) path → get (files d (leaf_map pyramid.leaves)) (spelling path) ≡ Some (file_of d (leaf_map pyramid.leaves) path)
  unfolding files
  file_at path known has = file_there d.shape (leaf_map pyramid.leaves) is.description.shape is.numbers.cells d differ path known has

  pub no_file_at : (path : Path) → IsPath path → (HasFile d.shape (leaf_map pyramid.leaves) path → ⊥) → get (files d (leaf_map pyramid.leaves)) (spelling path) ≡ None
  unfolding files
  no_file_at path known none = file_absent d.shape (leaf_map pyramid.leaves) is.description.shape is.numbers.cells d differ path known none

  pub properties_kept : Some properties ≡ get (files d (leaf_map pyramid.leaves)) (spelling Properties)
  unfolding file_of
  properties_kept = ap Some (is.properties_are ∙ ap (properties_text d) (sym (leaf_count pyramid.leaves))) ∙ sym (file_at Properties tt tt)

  pub moc_kept : Some (moc_file coverage.top coverage.rows) ≡ get (files d (leaf_map pyramid.leaves)) (spelling Moc)
  unfolding file_of
  moc_kept =
      ap (λ (c : MocCover). Some (moc_file c.top c.rows)) is.coverage_is
      ∙ ap (λ ks. Some (moc_file d.shape.top (cover d.shape.top ks))) (sym (keys_of-map_values (λ (t : PixelTile). t.numbers) pyramid.leaves)) ∙ sym (file_at Moc tt tt)

  pub mosaic_kept : (m : Option (List ℕ)) → kept_mosaic ≡ m → m ≡ get (files d (leaf_map pyramid.leaves)) (spelling Allsky)
  unfolding file_of
  mosaic_kept m e = by m (subst (KeepsMosaic d (leaf_map pyramid.leaves)) e is.mosaic_is)
    where
      by : (m : Option (List ℕ)) → KeepsMosaic d (leaf_map pyramid.leaves) m → m ≡ get (files d (leaf_map pyramid.leaves)) (spelling Allsky)
      by None none = sym (no_file_at Allsky tt (λ some. some none))
      by (Some file) here = ap Some (mosaic_is file here) ∙ sym (file_at Allsky tt here.some)
        where
          mosaic_is : (file : List ℕ) → IsMosaicFile d (leaf_map pyramid.leaves) file → file ≡ file_of d (leaf_map pyramid.leaves) Allsky
          mosaic_is file here = here.file_is

  pub tile_kept : (cell : NestedCell) (t : PixelTile) (bytes : List ℕ) → IsCell cell.order cell.npix → HasTile pyramid.shape (leaf_map pyramid.leaves) cell.order cell.npix
      → t ≡ tile_of pyramid.shape (leaf_map pyramid.leaves) cell.order cell.npix → bytes ≡ tile_file d cell.order cell.npix t.numbers → Some bytes ≡ get (files d (leaf_map pyramid.leaves)) (spelling (Tile cell))
  unfolding file_of
  tile_kept cell t bytes known has same made =
      let here : HasTile d.shape (leaf_map pyramid.leaves) cell.order cell.npix = subst (λ s. HasTile s (leaf_map pyramid.leaves) cell.order cell.npix) is.shape has in
      let top : d.shape.top ≤ 11 = is.description.shape.greatest_top in
      let high : cell.order ≤ d.shape.top = here.1 in
      ap Some (made ∙ ap (λ (x : PixelTile). tile_file d cell.order cell.npix x.numbers) (same ∙ ap (λ s. tile_of s (leaf_map pyramid.leaves) cell.order cell.npix) is.shape))
      ∙ sym (file_at (Tile cell) (record { cell = known; order_at_most_11 = omega arith }) here)

  pub tile_absent : DeepTilesAreNoPaths → (cell : NestedCell) → IsCell cell.order cell.npix → (HasTile pyramid.shape (leaf_map pyramid.leaves) cell.order cell.npix → ⊥)
      → None ≡ get (files d (leaf_map pyramid.leaves)) (spelling (Tile cell))
  unfolding files
  tile_absent deep cell known none = elim (cases_lt cell.order 12) [
    | inl low ↦ sym (no_file_at (Tile cell) (record { cell = known; order_at_most_11 = (let l : cell.order < 12 = low in omega arith) }) (λ has. none (subst (λ s. HasTile s (leaf_map pyramid.leaves) cell.order cell.npix) (sym is.shape) has)))
    | inr above ↦ sym (deep_absent d.shape (leaf_map pyramid.leaves) is.description.shape is.numbers.cells d differ deep cell known (let a : 12 ≤ cell.order = above in omega arith))
  ]

-- ---- each path once

abbrev pub NoneTwice : List Path → Type 0
NoneTwice [] = Unit {0}
NoneTwice (p ∷ ps) = (Among p ps → ⊥) × NoneTwice ps

none_twice_append : (ps qs : List Path) → NoneTwice ps → NoneTwice qs → ((p : Path) → Among p ps → Among p qs → ⊥) → NoneTwice (ps ++ qs)
none_twice_append [] qs hp hq apart = hq
none_twice_append (p ∷ ps) qs hp hq apart = (
  λ there. elim (among_cases p ps qs there) [ inl l ↦ hp.0 l | inr r ↦ apart p (inl refl) r ],
  none_twice_append ps qs hp.1 hq (λ q a b. apart q (inr a) b),
)

order_of : Path → ℕ
order_of Properties = 0
order_of Moc = 0
order_of Allsky = 0
order_of (Tile cell) = cell.order

npix_of : Path → ℕ
npix_of Properties = 0
npix_of Moc = 0
npix_of Allsky = 0
npix_of (Tile cell) = cell.npix

-- a path that is selected from a number on has at least that number
selected_from : (order : ℕ) (t : ℕ → Bool) (a n : ℕ) (path : Path) → Among path (map (λ q. Tile (record { order = order; npix = q })) (filter t (range_with_len a n))) → (order_of path ≡ order) × (a ≤ npix_of path)
unfolding order_of npix_of
selected_from order t a zero path h = absurd h
selected_from order t a (suc n) path h =
    elim (t a) as (λ b. Among path (map (λ q. Tile (record { order = order; npix = q })) (cond b (a ∷ filter t (range_with_len (a + 1) n)) (filter t (range_with_len (a + 1) n)))) → (order_of path ≡ order) × (a ≤ npix_of path)) [
      | true ↦ λ k. elim k [
        | inl is ↦ (sym (ap order_of is), (let e : a ≡ npix_of path = ap npix_of is in omega arith))
        | inr later ↦ let s = selected_from order t (a + 1) n path later in (s.0, (let l : a + 1 ≤ npix_of path = s.1 in omega arith))
      ]
      | false ↦ λ k. let s = selected_from order t (a + 1) n path k in (s.0, (let l : a + 1 ≤ npix_of path = s.1 in omega arith))
    ] h

selected_once : (order : ℕ) (t : ℕ → Bool) (a n : ℕ) → NoneTwice (map (λ q. Tile (record { order = order; npix = q })) (filter t (range_with_len a n)))
unfolding npix_of
selected_once order t a zero = tt
selected_once order t a (suc n) =
    let rest = selected_once order t (a + 1) n in
    elim (t a) as (λ b. NoneTwice (map (λ q. Tile (record { order = order; npix = q })) (cond b (a ∷ filter t (range_with_len (a + 1) n)) (filter t (range_with_len (a + 1) n))))) [
      | true ↦ (λ there. (let l : a + 1 ≤ a = (selected_from order t (a + 1) n (Tile (record { order = order; npix = a })) there).1 in absurd (omega arith)), rest)
      | false ↦ rest
    ]

orders_above : (shape : PyramidShape) (leaves : LeafMap) (a n : ℕ) (path : Path) → Among path (flat_map (tile_paths shape leaves) (range_with_len a n)) → a ≤ order_of path
orders_above shape leaves a zero path h = absurd h
orders_above shape leaves a (suc n) path h = elim (among_cases path (tile_paths shape leaves a) (flat_map (tile_paths shape leaves) (range_with_len (a + 1) n)) h) [
  | inl here ↦ let e : order_of path ≡ a = (selected_from a (exists shape leaves a) 0 (cell_count a) path here).0 in omega arith
  | inr later ↦ let l : a + 1 ≤ order_of path = orders_above shape leaves (a + 1) n path later in omega arith
]

orders_once : (shape : PyramidShape) (leaves : LeafMap) (a n : ℕ) → NoneTwice (flat_map (tile_paths shape leaves) (range_with_len a n))
orders_once shape leaves a zero = tt
orders_once shape leaves a (suc n) =
    none_twice_append (tile_paths shape leaves a) (flat_map (tile_paths shape leaves) (range_with_len (a + 1) n)) (selected_once a (exists shape leaves a) 0 (cell_count a)) (orders_once shape leaves (a + 1) n)
    (λ p here later.
    let e : order_of p ≡ a = (selected_from a (exists shape leaves a) 0 (cell_count a) p here).0 in
    let l : a + 1 ≤ order_of p = orders_above shape leaves (a + 1) n p later in
    absurd (omega arith))

tile_or_mosaic : (shape : PyramidShape) (leaves : LeafMap) (path : Path) → Among path (mosaic_paths leaves ++ flat_map (tile_paths shape leaves) (range_with_len shape.low (shape.top + 1 - shape.low)))
    → (path ≡ Allsky) ⊎ OfOrder shape leaves shape.low (shape.low + (shape.top + 1 - shape.low)) path
tile_or_mosaic shape leaves path h = elim (among_cases path (mosaic_paths leaves) (flat_map (tile_paths shape leaves) (range_with_len shape.low (shape.top + 1 - shape.low))) h) [
  | inl here ↦ inl (mosaic_has leaves path here).0
  | inr later ↦ inr (among_orders shape leaves shape.low (shape.top + 1 - shape.low) path later)
]

not_properties : (shape : PyramidShape) (leaves : LeafMap) (low high : ℕ) → OfOrder shape leaves low high Properties → ⊥
not_properties shape leaves low high o = let e = o.selected.is in cc

not_moc : (shape : PyramidShape) (leaves : LeafMap) (low high : ℕ) → OfOrder shape leaves low high Moc → ⊥
not_moc shape leaves low high o = let e = o.selected.is in cc

not_allsky : (shape : PyramidShape) (leaves : LeafMap) (low high : ℕ) → OfOrder shape leaves low high Allsky → ⊥
not_allsky shape leaves low high o = let e = o.selected.is in cc

mosaic_once : (leaves : LeafMap) → NoneTwice (mosaic_paths leaves)
mosaic_once [] = tt
mosaic_once (e ∷ es) = (λ h. h, tt)

pub paths_once : (shape : PyramidShape) (leaves : LeafMap) → NoneTwice (paths shape leaves)
unfolding paths
paths_once shape leaves = (
  λ h. elim h [
    | inl e ↦ (let k : Moc ≡ Properties = e in cc)
    | inr r ↦ elim (tile_or_mosaic shape leaves Properties r) [ inl e ↦ (let k : Properties ≡ Allsky = e in cc) | inr o ↦ not_properties shape leaves _ _ o ]
  ],
  (
    λ h. elim (tile_or_mosaic shape leaves Moc h) [ inl e ↦ (let k : Moc ≡ Allsky = e in cc) | inr o ↦ not_moc shape leaves _ _ o ],
    none_twice_append (mosaic_paths leaves) (flat_map (tile_paths shape leaves) (range_with_len shape.low (shape.top + 1 - shape.low))) (mosaic_once leaves)
        (orders_once shape leaves shape.low (shape.top + 1 - shape.low))
        (λ p here later. not_allsky shape leaves _ _ (subst (OfOrder shape leaves shape.low (shape.low + (shape.top + 1 - shape.low))) (mosaic_has leaves p here).0 (among_orders shape leaves shape.low (shape.top + 1 - shape.low) p later))),
  ),
)

-- so the map has as many files as there are paths
module _ (f : Path → List ℕ) (differ : SpellingsDiffer) where
  pub len_entries : (ps : List Path) → ((p : Path) → Among p ps → IsPath p) → NoneTwice ps → len (from_entries {R = slice_cmp nat_cmp} (map (λ p. (spelling p, f p)) ps)) ≡ length ps
  len_entries [] known once = len-empty (slice_cmp nat_cmp) (List ℕ)
  len_entries (p ∷ ps) known once =
      let m = from_entries {R = slice_cmp nat_cmp} (map (λ q. (spelling q, f q)) ps) in
      let none : get m (spelling p) ≡ None =
      get-from_entries nat_list_cmp_total (map (λ q. (spelling q, f q)) ps) (spelling p)
      ∙ not_found f (spelling p) ps (λ other a e. once.0 (subst (λ q. Among q ps) (differ other p (known other (inr a)) (known p (inl refl)) e) a)) in
      let rest : len m ≡ length ps = len_entries ps (λ q a. known q (inr a)) once.1 in
      len-insert nat_list_cmp_total m (spelling p) (f p) ∙ ap (λ (o : Option (List ℕ)). cond (is_some o) (len m) (len m + 1)) none ∙ omega (arith, rest)

module _ (d : Description) (pyramid : PyramidContent) (coverage : MocCover) (kept_mosaic : Option (List ℕ)) (properties : List ℕ) (is : IsKeptGeneration d pyramid coverage kept_mosaic properties) (differ : SpellingsDiffer) where
  pub file_len_is : len (files d (leaf_map pyramid.leaves)) ≡ length (paths d.shape (leaf_map pyramid.leaves))
  unfolding files
  file_len_is =
      len_entries (file_of d (leaf_map pyramid.leaves)) differ (paths d.shape (leaf_map pyramid.leaves))
      (λ p a. (among_has d.shape (leaf_map pyramid.leaves) is.description.shape is.numbers.cells p a).is) (paths_once d.shape (leaf_map pyramid.leaves))

  pub each_file : (text : List ℕ) → IsSome (get (files d (leaf_map pyramid.leaves)) text)
      → (i : ℕ) × (i < length (paths d.shape (leaf_map pyramid.leaves))) × (option_map spelling (slice_get (paths d.shape (leaf_map pyramid.leaves)) i) ≡ Some text)
  unfolding files
  each_file text there =
      place_found (file_of d (leaf_map pyramid.leaves)) text (paths d.shape (leaf_map pyramid.leaves))
      (subst (λ (o : Option (List ℕ)). IsSome o) (get-from_entries nat_list_cmp_total (map (λ p. (spelling p, file_of d (leaf_map pyramid.leaves) p)) (paths d.shape (leaf_map pyramid.leaves))) text) there)

  pub path_known : (i : ℕ) (r : Option Path) → r ≡ slice_get (paths d.shape (leaf_map pyramid.leaves)) i → IfSome r IsPath × IfSome r (λ path. IsSome (get (files d (leaf_map pyramid.leaves)) (spelling path)))
  path_known i None e = (tt, tt)
  path_known i (Some path) e =
      let a : Among path (paths d.shape (leaf_map pyramid.leaves)) = at_place path (paths d.shape (leaf_map pyramid.leaves)) i (sym e) in
      let here = among_has d.shape (leaf_map pyramid.leaves) is.description.shape is.numbers.cells path a in
      (here.is, subst (λ (o : Option (List ℕ)). IsSome o) (sym (file_at d pyramid coverage kept_mosaic properties is differ path here.is here.has)) refl)
    where
      at_place : (path : Path) (ps : List Path) (i : ℕ) → slice_get ps i ≡ Some path → Among path ps
      at_place path [] i e = cc
      at_place path (p ∷ ps) zero e = inl (let same : p ≡ path = cc in same)
      at_place path (p ∷ ps) (suc i) e = inr (at_place path ps i e)

-- one path of the mosaic where there is one
pub mosaic_number : (d : Description) (leaves : LeafMap) (m : Option (List ℕ)) → KeepsMosaic d leaves m → cond (is_some m) 1 0 ≡ length (mosaic_paths leaves)
mosaic_number d [] None none = refl
mosaic_number d (e ∷ es) None none = cc
mosaic_number d [] (Some file) here = absurd (here.some refl)
mosaic_number d (e ∷ es) (Some file) here = refl

pub some_items : (m : Option (Vec ℕ Global)) → is_some m ≡ is_some (option_map (λ file. file.items) m)
some_items None = refl
some_items (Some file) = refl

pub flag : (b : Bool) → bool_byte b ≡ cond b 1 0
flag true = refl
flag false = refl

pub paths_count : (shape : PyramidShape) (leaves : LeafMap) → length (paths shape leaves) ≡ 2 + length (mosaic_paths leaves) + length (flat_map (tile_paths shape leaves) (range_with_len shape.low (shape.top + 1 - shape.low)))
unfolding paths
paths_count shape leaves =
    let all = length-append (mosaic_paths leaves) (flat_map (tile_paths shape leaves) (range_with_len shape.low (shape.top + 1 - shape.low))) in
    omega (arith, all)

pub path_zero : (shape : PyramidShape) (leaves : LeafMap) → Some Properties ≡ slice_get (paths shape leaves) 0
unfolding paths
path_zero shape leaves = refl

pub path_one : (shape : PyramidShape) (leaves : LeafMap) → Some Moc ≡ slice_get (paths shape leaves) 1
unfolding paths
path_one shape leaves = refl

pub path_two : (shape : PyramidShape) (leaves : LeafMap) → length (mosaic_paths leaves) ≡ 1 → Some Allsky ≡ slice_get (paths shape leaves) 2
unfolding paths
path_two shape [] e = absurd (omega arith)
path_two shape (leaf ∷ leaves) e = refl

pub path_tile : (shape : PyramidShape) (leaves : LeafMap) (i j : ℕ) → i ≡ 2 + length (mosaic_paths leaves) + j → slice_get (flat_map (tile_paths shape leaves) (range_with_len shape.low (shape.top + 1 - shape.low))) j ≡ slice_get (paths shape leaves) i
unfolding paths
path_tile shape leaves i j e =
    let at : i ≡ suc (suc (length (mosaic_paths leaves) + j)) = omega arith in
    sym (ap (slice_get (paths shape leaves)) at ∙ slice_get-back (mosaic_paths leaves) (flat_map (tile_paths shape leaves) (range_with_len shape.low (shape.top + 1 - shape.low))) (length (mosaic_paths leaves) + j) j refl)

pub flag_small : (b : Bool) → bool_byte b ≤ 1
flag_small true = omega arith
flag_small false = omega arith
