-- Where a path is no file's.
use Rattle.std.proofs.Common.{◌≡◌, ◌⊎◌, inl, inr, ℕ, zero, suc, ◌+◌, ◌-◌, ◌≤◌, Bool, true, false, cond, map, filter, flat_map, List, [], ◌∷◌, ◌++◌, None, refl, sym, ◌∙◌, subst, arith}
use Rattle.std.specs.List.{range_with_len}
use Rattle.std.specs.Ordering.{nat_cmp, eq_by_cmp, is_eq}
use Rattle.std.specs.Cmp.Lexicographic.{slice_cmp, nat_list_cmp_total}
use Rattle.std.specs.declared.cmp.Ordering.{Ordering}
use Rattle.std.specs.declared.cmp.Ordering.TheVariants.{Less, Equal, Greater}
use Rattle.std.specs.FinMap.{get, find, get-from_entries, slice_cmp-IsAntisymmetric, nat_cmp-IsAntisymmetric}
use Rattle.tile_path.specs.declared.path.Path.{Path}
use Rattle.tile_path.specs.declared.path.Path.TheVariants.{Tile}
use Rattle.tile_path.specs.Spelling.{IsPath, spelling}
use Rattle.healpix_nested.specs.Cells.{cell_count}
use Rattle.pyramid_model.specs.Shape.{PyramidShape, LeafMap}
use Rattle.pyramid_model.specs.Tile.{exists}
use Rattle.survey_conf.specs.Description.{Description}
use Rattle.generation.specs.Files.{tile_paths, mosaic_paths, paths, file_of, files}

-- a path among others
abbrev pub Among : Path → List Path → Type 0
Among path [] = ⊥
Among path (p ∷ ps) = (p ≡ path) ⊎ Among path ps

pub among_cases : (path : Path) (ps qs : List Path) → Among path (ps ++ qs) → Among path ps ⊎ Among path qs
among_cases path [] qs h = inr h
among_cases path (p ∷ ps) qs (inl e) = inl (inl e)
among_cases path (p ∷ ps) qs (inr h) = elim (among_cases path ps qs h) [ inl l ↦ inl (inr l) | inr r ↦ inr r ]

-- spellings are keys
tied : (r : Ordering) → is_eq r ≡ true → r ≡ Equal
tied Less e = cc
tied Equal e = refl
tied Greater e = cc

pub same_key : (a b : List ℕ) → eq_by_cmp (slice_cmp nat_cmp) a b ≡ true → a ≡ b
same_key a b e = slice_cmp-IsAntisymmetric nat_cmp-IsAntisymmetric a b (tied (slice_cmp nat_cmp a b) e)

pub other_key : (a b : List ℕ) → (a ≡ b → ⊥) → eq_by_cmp (slice_cmp nat_cmp) a b ≡ false
other_key a b apart = elim (eq_by_cmp (slice_cmp nat_cmp) a b) as (λ t. eq_by_cmp (slice_cmp nat_cmp) a b ≡ t → t ≡ false) [
  | true ↦ λ e. absurd (apart (same_key a b e))
  | false ↦ λ e. refl
] refl

pub not_found : (f : Path → List ℕ) (text : List ℕ) (ps : List Path) → ((other : Path) → Among other ps → spelling other ≡ text → ⊥) → find (slice_cmp nat_cmp) text (map (λ p. (spelling p, f p)) ps) ≡ None
not_found f text [] apart = refl
not_found f text (p ∷ ps) apart = rw (other_key text (spelling p) (λ e. apart p (inl refl) (sym e))) (not_found f text ps (λ other a. apart other (inr a)))

-- the paths of tiles of one order, and of several
selected_known : (order : ℕ) (t : ℕ → Bool) (a n : ℕ) (path : Path) → order ≤ 11 → a + n ≤ cell_count order
    → Among path (map (λ q. Tile (record { order = order; npix = q })) (filter t (range_with_len a n))) → IsPath path
selected_known order t a zero path top cells h = absurd h
selected_known order t a (suc n) path top cells h =
    elim (t a) as (λ b. Among path (map (λ q. Tile (record { order = order; npix = q })) (cond b (a ∷ filter t (range_with_len (a + 1) n)) (filter t (range_with_len (a + 1) n)))) → IsPath path) [
      | true ↦ λ h. elim h [
        | inl is ↦ subst IsPath is (record { cell = record { known_order = omega arith; in_order = omega arith }; order_at_most_11 = top })
        | inr rest ↦ selected_known order t (a + 1) n path top (omega arith) rest
      ]
      | false ↦ λ h. selected_known order t (a + 1) n path top (omega arith) h
    ] h

orders_known : (shape : PyramidShape) (leaves : LeafMap) (a n : ℕ) (path : Path) → a + n ≤ 12 → Among path (flat_map (tile_paths shape leaves) (range_with_len a n)) → IsPath path
orders_known shape leaves a zero path top h = absurd h
orders_known shape leaves a (suc n) path top h = elim (among_cases path (tile_paths shape leaves a) (flat_map (tile_paths shape leaves) (range_with_len (a + 1) n)) h) [
  | inl here ↦ selected_known a (exists shape leaves a) 0 (cell_count a) path (omega arith) (omega arith) here
  | inr later ↦ orders_known shape leaves (a + 1) n path (omega arith) later
]

mosaic_known : (leaves : LeafMap) (path : Path) → Among path (mosaic_paths leaves) → IsPath path
mosaic_known [] path h = absurd h
mosaic_known (e ∷ es) path (inl is) = subst IsPath is tt
mosaic_known (e ∷ es) path (inr h) = absurd h

paths_known : (shape : PyramidShape) (leaves : LeafMap) (path : Path) → shape.top ≤ 11 → shape.low ≤ 3 → Among path (paths shape leaves) → IsPath path
unfolding paths
paths_known shape leaves path top low (inl e) = subst IsPath e tt
paths_known shape leaves path top low (inr (inl e)) = subst IsPath e tt
paths_known shape leaves path top low (inr (inr h)) = elim (among_cases path (mosaic_paths leaves) (flat_map (tile_paths shape leaves) (range_with_len shape.low (shape.top + 1 - shape.low))) h) [
  | inl here ↦ mosaic_known leaves path here
  | inr later ↦ orders_known shape leaves shape.low (shape.top + 1 - shape.low) path (omega arith) later
]

-- a text that no path spells is no file's
pub no_file : (d : Description) (leaves : LeafMap) (text : List ℕ) → d.shape.top ≤ 11 → d.shape.low ≤ 3 → ((path : Path) → IsPath path → spelling path ≡ text → ⊥) → get (files d leaves) text ≡ None
unfolding files
no_file d leaves text top low apart =
    get-from_entries nat_list_cmp_total (map (λ p. (spelling p, file_of d leaves p)) (paths d.shape leaves)) text
    ∙ not_found (file_of d leaves) text (paths d.shape leaves) (λ other among. apart other (paths_known d.shape leaves other top low among))
