-- No two paths have one spelling.
use Rattle.std.proofs.Common.{◌≡◌, ◌≢◌, ℕ, ◌<◌, ◌≤◌, List, ◌++◌, get_or, codes, Option, None, Some, MatchOption, refl, sym, ◌∙◌, ap, eqb, eq-eqb, false, arith}
use Rattle.std.proofs.lemmas.Bool.{false≢true}
use Rattle.std.proofs.lemmas.Fmt.{decimal_digit}
use Rattle.healpix_nested.specs.Cells.{NestedCell, IsCell}
use Rattle.tile_path.specs.declared.path.Path.{Path}
use Rattle.tile_path.specs.declared.path.Path.TheVariants.{Properties, Moc, Allsky, Tile}
use Rattle.tile_path.specs.Numbers.{EndsNumber, HasNumber}
use Rattle.tile_path.specs.Spelling.{IsTile, IsPath, tile_spelling, catalogue_spelling, spelling}
use Rattle.tile_path.proofs.NumberLemmas.{same_number}
use Rattle.tile_path.proofs.TileLemmas.{IsNoTile, folder_part, order_number, has_order, same_tile}

abbrev first_byte : List ℕ → ℕ
first_byte bytes = get_or bytes 0 0

abbrev second_byte : List ℕ → ℕ
second_byte bytes = get_or bytes 1 0

differ : (m n : ℕ) → m ≡ n → eqb m n ≡ false → ⊥
differ m n e tested = false≢true (sym tested ∙ eq-eqb m n e)

fits_ends : EndsNumber (codes ".fits")
fits_ends range = omega (arith, range.0)

tsv_ends : EndsNumber (codes ".tsv")
tsv_ends range = omega (arith, range.0)

allsky_has : HasNumber (spelling Allsky) (codes "Norder") 3 (codes "/Allsky.fits")
allsky_has = record {
  is = ap (λ digits. codes "Norder" ++ (digits ++ codes "/Allsky.fits")) (sym (decimal_digit 3 (omega arith)));
  in_range = omega arith;
  ends = λ range. omega (arith, range.0);
}

-- the mosaic's path is no tile's
allsky_no_tile : (order npix : ℕ) (suffix : List ℕ) → IsTile order npix → spelling Allsky ≡ tile_spelling order npix suffix → ⊥
allsky_no_tile order npix suffix tile e =
    let moved : HasNumber (tile_spelling order npix suffix) (codes "Norder") 3 (codes "/Allsky.fits") =
    rw (← e) allsky_has in
    let same = same_number (tile_spelling order npix suffix) (codes "Norder") 3 order (codes "/Allsky.fits") (folder_part npix suffix) moved (has_order order npix suffix tile) in
    differ 65 68 (ap second_byte same.1) refl

same_cell : (a b : NestedCell) → a.order ≡ b.order → a.npix ≡ b.npix → a ≡ b
same_cell a b order npix = λ k. record { order = order k; npix = npix k }

pub same_path : (a b : Path) → IsPath a → IsPath b → spelling a ≡ spelling b → a ≡ b
same_path Properties Properties ia ib e = refl
same_path Properties Moc ia ib e = absurd (differ 112 77 (ap first_byte e) refl)
same_path Properties Allsky ia ib e = absurd (differ 112 78 (ap first_byte e) refl)
same_path Properties (Tile b) ia ib e = absurd (differ 112 78 (ap first_byte e) refl)
same_path Moc Properties ia ib e = absurd (differ 77 112 (ap first_byte e) refl)
same_path Moc Moc ia ib e = refl
same_path Moc Allsky ia ib e = absurd (differ 77 78 (ap first_byte e) refl)
same_path Moc (Tile b) ia ib e = absurd (differ 77 78 (ap first_byte e) refl)
same_path Allsky Properties ia ib e = absurd (differ 78 112 (ap first_byte e) refl)
same_path Allsky Moc ia ib e = absurd (differ 78 77 (ap first_byte e) refl)
same_path Allsky Allsky ia ib e = refl
same_path Allsky (Tile b) ia ib e = absurd (allsky_no_tile b.order b.npix (codes ".fits") ib e)
same_path (Tile a) Properties ia ib e = absurd (differ 78 112 (ap first_byte e) refl)
same_path (Tile a) Moc ia ib e = absurd (differ 78 77 (ap first_byte e) refl)
same_path (Tile a) Allsky ia ib e = absurd (allsky_no_tile a.order a.npix (codes ".fits") ia (sym e))
same_path (Tile a) (Tile b) ia ib e =
    let same = same_tile a.order a.npix (codes ".fits") b.order b.npix (codes ".fits") ia ib fits_ends fits_ends e in
    ap Tile (same_cell a b same.same_order same.same_npix)

pub same_catalogue_tile : (order npix order' npix' : ℕ) → IsTile order npix → IsTile order' npix'
    → catalogue_spelling order npix ≡ catalogue_spelling order' npix' → (order ≡ order') × (npix ≡ npix')
same_catalogue_tile order npix order' npix' tile tile' e =
    let same = same_tile order npix (codes ".tsv") order' npix' (codes ".tsv") tile tile' tsv_ends tsv_ends e in
    (same.same_order, same.same_npix)

pub no_catalogue_tile : (path : Path) (order npix : ℕ) → IsPath path → IsTile order npix → spelling path ≢ catalogue_spelling order npix
no_catalogue_tile Properties order npix is tile e = differ 112 78 (ap first_byte e) refl
no_catalogue_tile Moc order npix is tile e = differ 77 78 (ap first_byte e) refl
no_catalogue_tile Allsky order npix is tile e = allsky_no_tile order npix (codes ".tsv") tile e
no_catalogue_tile (Tile cell) order npix is tile e =
    let same = same_tile cell.order cell.npix (codes ".fits") order npix (codes ".tsv") is tile fits_ends tsv_ends e in
    differ 102 116 (ap second_byte same.same_suffix) refl

-- ---- what reading answers

pub no_path : (text : List ℕ) → text ≢ codes "properties" → text ≢ codes "Moc.fits" → text ≢ codes "Norder3/Allsky.fits"
    → IsNoTile text (codes ".fits") → (path : Path) → IsPath path → spelling path ≢ text
no_path text p m a none Properties is e = p (sym e)
no_path text p m a none Moc is e = m (sym e)
no_path text p m a none Allsky is e = a (sym e)
no_path text p m a none (Tile cell) is e = none cell.order cell.npix is e

-- one answer that is right is the only one
pub only_path : (text : List ℕ) (found : Path) → IsPath found → spelling found ≡ text
    → (path : Path) → IsPath path → spelling path ≡ text → Some found ≡ Some path
only_path text found is_found spelled path is e = ap (λ p. Some p) (same_path found path is_found is (spelled ∙ sym e))

pub only_catalogue_tile : (text : List ℕ) (found : Option NestedCell)
    → MatchOption found (IsNoTile text (codes ".tsv")) (λ cell. IsTile cell.order cell.npix × (catalogue_spelling cell.order cell.npix ≡ text))
    → (order npix : ℕ) → IsTile order npix → catalogue_spelling order npix ≡ text → found ≡ Some (record { order = order; npix = npix })
only_catalogue_tile text None none order npix tile e = absurd (none order npix tile e)
only_catalogue_tile text (Some cell) read order npix tile e =
    let same = same_catalogue_tile cell.order cell.npix order npix read.0 tile (read.1 ∙ sym e) in
    λ k. Some (record { order = same.0 k; npix = same.1 k })

-- ---- orders above those of tiles

-- a text that begins with an order up to 11 is not the spelling of a deeper cell
no_deep : (text : List ℕ) (order : ℕ) (rest : List ℕ) (cell : NestedCell) → order ≤ 11 → HasNumber text (codes "Norder") order rest → cell.order ≤ 20 → 11 < cell.order
    → text ≡ spelling (Tile cell) → ⊥
no_deep text order rest cell low has known deep e =
    let deep_has : HasNumber (spelling (Tile cell)) (codes "Norder") cell.order (folder_part cell.npix (codes ".fits")) = order_number cell.order cell.npix (codes ".fits") (omega arith) in
    let moved : HasNumber (spelling (Tile cell)) (codes "Norder") order rest = rw (← e) has in
    let same = same_number (spelling (Tile cell)) (codes "Norder") order cell.order rest (folder_part cell.npix (codes ".fits")) moved deep_has in
    let is : order ≡ cell.order = same.0 in
    omega arith

pub no_deep_path : (path : Path) (cell : NestedCell) → IsPath path → IsCell cell.order cell.npix → 11 < cell.order → spelling path ≢ spelling (Tile cell)
no_deep_path Properties cell is known deep e = differ 112 78 (ap first_byte e) refl
no_deep_path Moc cell is known deep e = differ 77 78 (ap first_byte e) refl
no_deep_path Allsky cell is known deep e = no_deep (spelling Allsky) 3 (codes "/Allsky.fits") cell (omega arith) allsky_has known.known_order deep e
no_deep_path (Tile a) cell is known deep e =
    no_deep (spelling (Tile a)) a.order (folder_part a.npix (codes ".fits")) cell is.order_at_most_11 (has_order a.order a.npix (codes ".fits") is) known.known_order deep e
