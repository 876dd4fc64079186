-- The parts of a tile's spelling, and that they are the tile's alone.
use Rattle.std.proofs.Common.{◌≡◌, ◌≢◌, ℕ, ◌*◌, ◌^◌, ◌<◌, ◌≤◌, List, ◌++◌, length, codes, decimal, Option, None, Some, IsSome, IfSome, MatchOption, ◌↔◌, refl, sym, ◌∙◌, ap, subst, subst₂, arith, append_assoc}
use Rattle.std.proofs.lemmas.Fmt.{length-decimal-le}
use Rattle.std.proofs.lemmas.Bool.{false≢true}
use Rattle.healpix_nested.specs.CellLaws.{four_pow_mono}
use Rattle.healpix_nested.specs.Cells.{NestedCell, IsCell}
use Rattle.tile_path.specs.Numbers.{EndsNumber, HasNumber, Writes}
use Rattle.tile_path.specs.Spelling.{IsTile, folder_number, tile_spelling}
use Rattle.tile_path.proofs.NumberLemmas.{same_number}
use Rattle.tile_path.proofs.WriteLemmas.{writes_more}

-- the numbers of the cells of orders up to 11
pub npix_small : (order npix : ℕ) → IsTile order npix → npix < 50331648
npix_small order npix tile =
    let power : 4 ^ order ≤ 4 ^ 11 = four_pow_mono order 11 tile.order_at_most_11 in
    let below : npix < 12 * 4 ^ order = tile.cell.in_order in
    omega arith

-- how long the numbers of a tile's spelling are
pub order_digits : (number order : ℕ) → number ≡ order → order ≤ 11 → length (decimal number) ≤ 2
order_digits number order e at_most = length-decimal-le 2 number (omega arith) (omega arith) (omega arith)

pub npix_digits : (number order npix : ℕ) → number ≡ npix → IsTile order npix → length (decimal number) ≤ 8
npix_digits number order npix e tile =
    let small : npix < 50331648 = npix_small order npix tile in
    length-decimal-le 8 number (omega arith) (omega arith) (omega arith)

pub folder_digits : (number order npix of_npix : ℕ) → number ≡ folder_number of_npix → of_npix ≡ npix → IsTile order npix → length (decimal number) ≤ 8
folder_digits number order npix of_npix is e tile =
    let small : npix < 50331648 = npix_small order npix tile in
    length-decimal-le 8 number (omega arith) (omega arith) (omega arith)

-- the pieces of a tile's spelling, written one after another
pub tile_written : {a b c d e f g h : List ℕ} {i j k l m n end order folder npix : ℕ} {suffix : List ℕ} (order' npix' : ℕ)
    → order ≡ order' → folder ≡ folder_number npix → npix ≡ npix'
    → Writes a b 0 i (codes "Norder") → Writes b c i j (decimal order) → Writes c d j k (codes "/Dir")
    → Writes d e k l (decimal folder) → Writes e f l m (codes "/Npix") → Writes f g m n (decimal npix) → Writes g h n end suffix
    → Writes a h 0 end (tile_spelling order' npix' suffix)
tile_written {a = a} {h = h} {end = end} {suffix = suffix} order' npix' same_order of_npix same_npix one two three four five six seven =
    let whole = writes_more (writes_more (writes_more (writes_more (writes_more (writes_more one two) three) four) five) six) seven in
    let same_folder = of_npix ∙ ap folder_number same_npix in
    subst (Writes a h 0 end)
    (λ t. codes "Norder" ++ decimal (same_order t) ++ codes "/Dir" ++ decimal (same_folder t) ++ codes "/Npix" ++ decimal (same_npix t) ++ suffix)
    whole

-- ---- the parts

-- what follows the order's number, and what follows the folder's
abbrev pub npix_part : ℕ → List ℕ → List ℕ
npix_part npix suffix = codes "/Npix" ++ (decimal npix ++ suffix)

abbrev pub folder_part : ℕ → List ℕ → List ℕ
folder_part npix suffix = codes "/Dir" ++ (decimal (folder_number npix) ++ npix_part npix suffix)

regrouped : (a b c d e f g : List ℕ) → a ++ b ++ c ++ d ++ e ++ f ++ g ≡ a ++ (b ++ (c ++ (d ++ (e ++ (f ++ g)))))
regrouped a b c d e f g = simp append_assoc

spelling_parts : (order npix : ℕ) (suffix : List ℕ) → tile_spelling order npix suffix ≡ codes "Norder" ++ (decimal order ++ folder_part npix suffix)
spelling_parts order npix suffix =
    regrouped (codes "Norder") (decimal order) (codes "/Dir") (decimal (folder_number npix)) (codes "/Npix") (decimal npix) suffix

pub order_number : (order npix : ℕ) (suffix : List ℕ) → order < 2 ^ 64 → HasNumber (tile_spelling order npix suffix) (codes "Norder") order (folder_part npix suffix)
order_number order npix suffix small = record {
  is = spelling_parts order npix suffix;
  in_range = small;
  ends = λ range. omega (arith, range.0);
}

pub has_order : (order npix : ℕ) (suffix : List ℕ) → IsTile order npix
    → HasNumber (tile_spelling order npix suffix) (codes "Norder") order (folder_part npix suffix)
has_order order npix suffix tile = order_number order npix suffix (omega (arith, tile.order_at_most_11))

pub has_folder : (order npix : ℕ) (suffix : List ℕ) → IsTile order npix
    → HasNumber (folder_part npix suffix) (codes "/Dir") (folder_number npix) (npix_part npix suffix)
has_folder order npix suffix tile = record {
  is = refl;
  in_range = let small : npix < 50331648 = npix_small order npix tile in omega arith;
  ends = λ range. omega (arith, range.0);
}

pub has_npix : (order npix : ℕ) (suffix : List ℕ) → IsTile order npix → EndsNumber suffix
    → HasNumber (npix_part npix suffix) (codes "/Npix") npix suffix
has_npix order npix suffix tile ends = record {
  is = refl;
  in_range = let small : npix < 50331648 = npix_small order npix tile in omega arith;
  ends = ends;
}

-- ---- what was read

-- three numbers in their places are the parts of a text
pub record Reads (text : List ℕ) (order folder npix : ℕ) (suffix : List ℕ) : Type 0 where
  pub after_order : List ℕ
  pub after_folder : List ℕ
  pub has_order : HasNumber text (codes "Norder") order after_order
  pub has_folder : HasNumber after_order (codes "/Dir") folder after_folder
  pub has_npix : HasNumber after_folder (codes "/Npix") npix suffix

tile_reads : (order npix : ℕ) (suffix : List ℕ) → IsTile order npix → EndsNumber suffix
    → Reads (tile_spelling order npix suffix) order (folder_number npix) npix suffix
tile_reads order npix suffix tile ends = record {
  after_order = folder_part npix suffix;
  after_folder = npix_part npix suffix;
  has_order = has_order order npix suffix tile;
  has_folder = has_folder order npix suffix tile;
  has_npix = has_npix order npix suffix tile ends;
}

-- what a text reads as is determined
pub record AreSame (order folder npix : ℕ) (suffix : List ℕ) (order' folder' npix' : ℕ) (suffix' : List ℕ) : Type 0 where
  pub same_order : order ≡ order'
  pub same_folder : folder ≡ folder'
  pub same_npix : npix ≡ npix'
  pub same_suffix : suffix ≡ suffix'

same_reads : (text : List ℕ) (order folder npix : ℕ) (suffix : List ℕ) (order' folder' npix' : ℕ) (suffix' : List ℕ)
    → Reads text order folder npix suffix → Reads text order' folder' npix' suffix'
    → AreSame order folder npix suffix order' folder' npix' suffix'
same_reads text order folder npix suffix order' folder' npix' suffix' a b =
    let one = same_number text (codes "Norder") order order' a.after_order b.after_order a.has_order b.has_order in
    let folder_a : HasNumber b.after_order (codes "/Dir") folder a.after_folder =
    subst (λ bytes. HasNumber bytes (codes "/Dir") folder a.after_folder) one.1 a.has_folder in
    let two = same_number b.after_order (codes "/Dir") folder folder' a.after_folder b.after_folder folder_a b.has_folder in
    let npix_a : HasNumber b.after_folder (codes "/Npix") npix suffix =
    subst (λ bytes. HasNumber bytes (codes "/Npix") npix suffix) two.1 a.has_npix in
    let three = same_number b.after_folder (codes "/Npix") npix npix' suffix suffix' npix_a b.has_npix in
    record { same_order = one.0; same_folder = two.0; same_npix = three.0; same_suffix = three.1 }

-- the text of three numbers, the second of which is the folder of the third
pub spelled_reads : (text : List ℕ) (order folder npix : ℕ) (rest suffix : List ℕ) → Reads text order folder npix rest
    → folder ≡ folder_number npix → rest ≡ suffix → tile_spelling order npix suffix ≡ text
spelled_reads text order folder npix rest suffix reads of_npix same =
    spelling_parts order npix suffix
    ∙ sym (reads.has_order.is
    ∙ ap (λ bytes. codes "Norder" ++ (decimal order ++ bytes)) (reads.has_folder.is
    ∙ (λ k. codes "/Dir" ++ (decimal (of_npix k) ++ reads.has_npix.is k))
    ∙ ap (λ bytes. codes "/Dir" ++ (decimal (folder_number npix) ++ (codes "/Npix" ++ (decimal npix ++ bytes)))) same))

-- where a text is the spelling of a tile, it reads as that tile
pub reads_of_tile : (text : List ℕ) (order folder npix : ℕ) (rest suffix : List ℕ) → EndsNumber suffix
    → Reads text order folder npix rest
    → (order' npix' : ℕ) → IsTile order' npix' → tile_spelling order' npix' suffix ≡ text
    → AreSame order folder npix rest order' (folder_number npix') npix' suffix
reads_of_tile text order folder npix rest suffix ends reads order' npix' tile e =
    same_reads text order folder npix rest order' (folder_number npix') npix' suffix reads
    (subst (λ bytes. Reads bytes order' (folder_number npix') npix' suffix) e (tile_reads order' npix' suffix tile ends))

-- two tiles with one spelling are one tile with one suffix
pub same_tile : (order npix : ℕ) (suffix : List ℕ) (order' npix' : ℕ) (suffix' : List ℕ) → IsTile order npix → IsTile order' npix'
    → EndsNumber suffix → EndsNumber suffix' → tile_spelling order npix suffix ≡ tile_spelling order' npix' suffix'
    → AreSame order (folder_number npix) npix suffix order' (folder_number npix') npix' suffix'
same_tile order npix suffix order' npix' suffix' tile tile' ends ends' e =
    reads_of_tile (tile_spelling order' npix' suffix') order (folder_number npix) npix suffix suffix' ends'
    (subst (λ bytes. Reads bytes order (folder_number npix) npix suffix) e (tile_reads order npix suffix tile ends))
    order' npix' tile' refl

-- ---- texts of no tile

-- no tile with this suffix has this spelling
abbrev pub IsNoTile : List ℕ → List ℕ → Type 0
IsNoTile text suffix = (order npix : ℕ) → IsTile order npix → tile_spelling order npix suffix ≢ text

pub no_folder : (text suffix : List ℕ) (k : ℕ) (rest : List ℕ) → HasNumber text (codes "Norder") k rest
    → ((n : ℕ) (after : List ℕ) → ¬ HasNumber rest (codes "/Dir") n after) → IsNoTile text suffix
no_folder text suffix k rest has none order npix tile e =
    let given : HasNumber text (codes "Norder") order (folder_part npix suffix) =
    subst (λ bytes. HasNumber bytes (codes "Norder") order (folder_part npix suffix)) e (has_order order npix suffix tile) in
    let same = same_number text (codes "Norder") order k (folder_part npix suffix) rest given has in
    none (folder_number npix) (npix_part npix suffix)
    (subst (λ bytes. HasNumber bytes (codes "/Dir") (folder_number npix) (npix_part npix suffix)) same.1 (has_folder order npix suffix tile))

pub no_npix : (text suffix : List ℕ) (k d : ℕ) (rest after : List ℕ) → EndsNumber suffix
    → HasNumber text (codes "Norder") k rest → HasNumber rest (codes "/Dir") d after
    → ((n : ℕ) (end : List ℕ) → ¬ HasNumber after (codes "/Npix") n end) → IsNoTile text suffix
no_npix text suffix k d rest after ends has has_next none order npix tile e =
    let given : HasNumber text (codes "Norder") order (folder_part npix suffix) =
    subst (λ bytes. HasNumber bytes (codes "Norder") order (folder_part npix suffix)) e (has_order order npix suffix tile) in
    let same = same_number text (codes "Norder") order k (folder_part npix suffix) rest given has in
    let next : HasNumber rest (codes "/Dir") (folder_number npix) (npix_part npix suffix) =
    subst (λ bytes. HasNumber bytes (codes "/Dir") (folder_number npix) (npix_part npix suffix)) same.1 (has_folder order npix suffix tile) in
    let same_next = same_number rest (codes "/Dir") (folder_number npix) d (npix_part npix suffix) after next has_next in
    none npix suffix (subst (λ bytes. HasNumber bytes (codes "/Npix") npix suffix) same_next.1 (has_npix order npix suffix tile ends))

-- ---- the cell that was read

pub reads_as : {text after_order after_folder suffix : List ℕ} {order folder npix : ℕ} → HasNumber text (codes "Norder") order after_order
    → HasNumber after_order (codes "/Dir") folder after_folder → HasNumber after_folder (codes "/Npix") npix suffix
    → Reads text order folder npix suffix
reads_as {after_order = after_order} {after_folder = after_folder} first second third =
    record { after_order = after_order; after_folder = after_folder; has_order = first; has_folder = second; has_npix = third }

pub cell_read : (text : List ℕ) (order folder npix : ℕ) (rest suffix : List ℕ) (found : Option NestedCell) → EndsNumber suffix
    → Reads text order folder npix rest → order ≤ 11 → folder ≡ folder_number npix → rest ≡ suffix
    → (IsSome found ↔ IsCell order npix) → IfSome found (λ cell. (cell.order ≡ order) × (cell.npix ≡ npix))
    → MatchOption found (IsNoTile text suffix) (λ cell. IsTile cell.order cell.npix × (tile_spelling cell.order cell.npix suffix ≡ text))
cell_read text order folder npix rest suffix None ends reads at_most of_npix same known parts =
    λ order' npix' tile e.
    let read_as = reads_of_tile text order folder npix rest suffix ends reads order' npix' tile e in
    let cell : IsCell order npix = subst₂ IsCell (sym read_as.same_order) (sym read_as.same_npix) tile.cell in
    absurd (false≢true (known.1 cell))
cell_read text order folder npix rest suffix (Some cell) ends reads at_most of_npix same known parts =
    let is_cell : IsCell order npix = known.0 refl in
    let tile : IsTile order npix = record { cell = is_cell; order_at_most_11 = at_most } in (
      subst₂ IsTile (sym parts.0) (sym parts.1) tile,
      (λ k. tile_spelling (parts.0 k) (parts.1 k) suffix) ∙ spelled_reads text order folder npix rest suffix reads of_npix same,
    )
