-- What the work on a shelf does to its files.
use Rattle.std.proofs.Common.{◌≡◌, ℕ, zero, suc, ◌+◌, ◌<◌, ◌≤◌, ◌||◌, Bool, true, false, cond, List, [], ◌∷◌, ◌++◌, length, get_or, take, map, Option, Some, None, Decides, refl, sym, ap, ◌∙◌, subst, inl, inr, arith, string_bytes}
use Rattle.std.specs.Prelude.{◌≢◌, ◌⊎◌, nat_lt, is_some, String, slice_get}
use Rattle.std.specs.declared.alloc.Global.{Global}
use Rattle.std.specs.Ordering.{nat_cmp, eq_by_cmp, is_eq}
use Rattle.std.specs.Cmp.Lexicographic.{slice_cmp}
use Rattle.std.specs.List.{list_any}
use Rattle.std.specs.FinMap.{get, insert, remove, keys, contains_key, contains_key-keys, get-insert, get-remove}
use Rattle.std.proofs.lemmas.Bool.Decides.{nat_tests}
use Rattle.std.proofs.lemmas.Cmp.{tied_itself, nat_list_cmp_total}
use Rattle.std.proofs.lemmas.List.{take_more, map-append}
use Rattle.std.proofs.lemmas.List.Sorted.{list_any-IsPermutation}
use Rattle.std.proofs.lemmas.Map.Lookups.{exact_bytes}
use Rattle.std.proofs.lemmas.Map.Views.{tells_apart}
use Rattle.survey_link.specs.Shelf.{ShelfFiles, Lists, OthersStay as OtherPathsStay}
use Rattle.healpix_nested.specs.Cells.{NestedCell}
use Rattle.tile_path.specs.Laws.{CatalogueSpellingsDiffer}
use Rattle.tile_path.specs.Spelling.{IsTile, catalogue_spelling}
use Rattle.hips_catalog.specs.Catalogue.{Catalogue, existing_tiles}
use Rattle.hips_catalog.specs.TileText.{tile_text}
use Rattle.catalog_command.specs.Files.{IsOtherPath, KeepsOthers, at_tile, IsReplaced, HasSome, IsCleared, IsClearing, IsUnfinished, IsFilled, IsFilling, OnFiles}
use Rattle.catalog_command.specs.Steps.{IsTilePath, Clears, ClearsPath, FillsTile}

-- ---- what stands at a text

-- the test on two texts
same_text : (a b : List ℕ) → Decides (eq_by_cmp (slice_cmp nat_cmp) a b) (a ≡ b)
same_text a b = (λ e. tells_apart exact_bytes a b e, λ e. subst (λ c. eq_by_cmp (slice_cmp nat_cmp) a c ≡ true) e (ap is_eq (tied_itself nat_list_cmp_total a)))

-- two texts are the same or not
same_or_not : (a b : List ℕ) → (a ≡ b) ⊎ (a ≢ b)
same_or_not a b = at (eq_by_cmp (slice_cmp nat_cmp) a b) refl
  where
    at : (t : Bool) → eq_by_cmp (slice_cmp nat_cmp) a b ≡ t → (a ≡ b) ⊎ (a ≢ b)
    at true is = inl ((same_text a b).0 is)
    at false is = inr (λ e. let both : true ≡ false = sym ((same_text a b).1 e) ∙ is in cc)

other_text : (a b : List ℕ) → a ≢ b → eq_by_cmp (slice_cmp nat_cmp) a b ≡ false
other_text a b apart = at (eq_by_cmp (slice_cmp nat_cmp) a b) refl
  where
    at : (t : Bool) → eq_by_cmp (slice_cmp nat_cmp) a b ≡ t → t ≡ false
    at true is = absurd (apart ((same_text a b).0 is))
    at false is = refl

get_put_same : (files : ShelfFiles) (text bytes : List ℕ) → get (insert files text bytes) text ≡ Some bytes
get_put_same files text bytes = get-insert nat_list_cmp_total files text bytes text ∙ ap (λ b. cond b (Some bytes) (get files text)) ((same_text text text).1 refl)

get_put_other : (files : ShelfFiles) (text bytes other : List ℕ) → other ≢ text → get (insert files text bytes) other ≡ get files other
get_put_other files text bytes other apart = get-insert nat_list_cmp_total files text bytes other ∙ ap (λ b. cond b (Some bytes) (get files other)) (other_text other text apart)

get_removed_same : (files : ShelfFiles) (text : List ℕ) → get (remove files text) text ≡ None
get_removed_same files text = get-remove nat_list_cmp_total files text text ∙ ap (λ b. cond b None (get files text)) ((same_text text text).1 refl)

get_removed_other : (files : ShelfFiles) (text other : List ℕ) → other ≢ text → get (remove files text) other ≡ get files other
get_removed_other files text other apart = get-remove nat_list_cmp_total files text other ∙ ap (λ b. cond b None (get files other)) (other_text other text apart)

-- ---- the tiles that are wrong are removed, path by path

clears_none : (catalogue : Catalogue) (files : ShelfFiles) → Clears catalogue [] files files
clears_none catalogue files = record { some = λ k p is. inr refl; right = λ k p is e. cc; others = λ text other. refl }

-- of a list with one text more
any_more : (q : List ℕ) (texts : List (List ℕ)) (text : List ℕ) → list_any (eq_by_cmp (slice_cmp nat_cmp) q) (texts ++ text ∷ []) ≡ true →
    (list_any (eq_by_cmp (slice_cmp nat_cmp) q) texts ≡ true) ⊎ (q ≡ text)
any_more q [] text e = at (eq_by_cmp (slice_cmp nat_cmp) q text) refl e
  where
    at : (t : Bool) → eq_by_cmp (slice_cmp nat_cmp) q text ≡ t → (t || false) ≡ true → (false ≡ true) ⊎ (q ≡ text)
    at true is e = inr ((same_text q text).0 is)
    at false is e = cc
any_more q (x ∷ xs) text e = at (eq_by_cmp (slice_cmp nat_cmp) q x) (any_more q xs text) e
  where
    at : (t : Bool) → (list_any (eq_by_cmp (slice_cmp nat_cmp) q) (xs ++ text ∷ []) ≡ true → (list_any (eq_by_cmp (slice_cmp nat_cmp) q) xs ≡ true) ⊎ (q ≡ text)) →
        (t || list_any (eq_by_cmp (slice_cmp nat_cmp) q) (xs ++ text ∷ [])) ≡ true → ((t || list_any (eq_by_cmp (slice_cmp nat_cmp) q) xs) ≡ true) ⊎ (q ≡ text)
    at true more e = inl refl
    at false more e = more e

clears_more : (catalogue : Catalogue) (texts : List (List ℕ)) (text : List ℕ) (old now new : ShelfFiles) →
    Clears catalogue texts old now → ClearsPath catalogue text now new → Clears catalogue (texts ++ text ∷ []) old new
clears_more catalogue texts text old now new before (inl kept) =
    let same : new ≡ now = kept.1 in
    record {
      some = λ k p is. subst (λ files. (at_tile files k p ≡ None) ⊎ (at_tile files k p ≡ at_tile old k p)) (sym same) (before.some k p is);
      right = λ k p is e. subst (λ files. (at_tile files k p ≡ None) ⊎ (at_tile files k p ≡ tile_text catalogue k p)) (sym same) (settled k p is (any_more (catalogue_spelling k p) texts text e));
      others = subst (KeepsOthers old) (sym same) before.others;
    }
  where
    settled : (k p : ℕ) → IsTile k p → (list_any (eq_by_cmp (slice_cmp nat_cmp) (catalogue_spelling k p)) texts ≡ true) ⊎ (catalogue_spelling k p ≡ text) → (at_tile now k p ≡ None) ⊎ (at_tile now k p ≡ tile_text catalogue k p)
    settled k p is (inl listed) = before.right k p is listed
    settled k p is (inr spelled) = inr (ap (get now) spelled ∙ kept.0 k p is spelled)
clears_more catalogue texts text old now new before (inr gone) =
    let same : new ≡ remove now text = gone.1 in
    record {
      some = λ k p is. subst (λ files. (at_tile files k p ≡ None) ⊎ (at_tile files k p ≡ at_tile old k p)) (sym same) (left k p is (same_or_not (catalogue_spelling k p) text));
      right = λ k p is e. subst (λ files. (at_tile files k p ≡ None) ⊎ (at_tile files k p ≡ tile_text catalogue k p)) (sym same) (settled k p is (same_or_not (catalogue_spelling k p) text) (any_more (catalogue_spelling k p) texts text e));
      others = λ other is. ap (λ files. get files other) same ∙ get_removed_other now text other (apart other is) ∙ before.others other is;
    }
  where
    apart : (other : List ℕ) → IsOtherPath other → other ≢ text
    apart other is e = is gone.0.order gone.0.npix gone.0.is (gone.0.spelled ∙ sym e)

    left : (k p : ℕ) → IsTile k p → (catalogue_spelling k p ≡ text) ⊎ (catalogue_spelling k p ≢ text) → (at_tile (remove now text) k p ≡ None) ⊎ (at_tile (remove now text) k p ≡ at_tile old k p)
    left k p is (inl spelled) = inl (ap (get (remove now text)) spelled ∙ get_removed_same now text)
    left k p is (inr away) = subst (λ found. (found ≡ None) ⊎ (found ≡ at_tile old k p)) (sym (get_removed_other now text (catalogue_spelling k p) away)) (before.some k p is)

    settled : (k p : ℕ) → IsTile k p → (catalogue_spelling k p ≡ text) ⊎ (catalogue_spelling k p ≢ text) →
        (list_any (eq_by_cmp (slice_cmp nat_cmp) (catalogue_spelling k p)) texts ≡ true) ⊎ (catalogue_spelling k p ≡ text) → (at_tile (remove now text) k p ≡ None) ⊎ (at_tile (remove now text) k p ≡ tile_text catalogue k p)
    settled k p is (inl spelled) listed = inl (ap (get (remove now text)) spelled ∙ get_removed_same now text)
    settled k p is (inr away) (inl listed) = subst (λ found. (found ≡ None) ⊎ (found ≡ tile_text catalogue k p)) (sym (get_removed_other now text (catalogue_spelling k p) away)) (before.right k p is listed)
    settled k p is (inr away) (inr spelled) = absurd (away spelled)

-- a step that failed: its path may hold anything
clears_failed : (catalogue : Catalogue) (texts : List (List ℕ)) (text : List ℕ) (old now new : ShelfFiles) →
    Clears catalogue texts old now → IsTilePath text → ((other : List ℕ) → other ≢ text → get new other ≡ get now other) → IsClearing old new
clears_failed catalogue texts text old now new before is stay = record {
  but = text;
  some = λ k p tile away. subst (λ found. (found ≡ None) ⊎ (found ≡ at_tile old k p)) (sym (stay (catalogue_spelling k p) away)) (before.some k p tile);
  others = λ other apart. stay other (λ e. apart is.order is.npix is.is (is.spelled ∙ sym e)) ∙ before.others other apart;
}

absent_by : {X : Type 0} (found : Option X) → is_some found ≡ false → found ≡ None
absent_by None e = refl
absent_by (Some x) e = cc

-- after all paths of the shelf
clears_all : (catalogue : Catalogue) (paths : List (String Global)) (old now : ShelfFiles) → Lists (Some old) paths → Clears catalogue (map string_bytes paths) old now → IsCleared catalogue old now
clears_all catalogue paths old now listed clears = record { some = each; others = clears.others }
  where
    by : (k p : ℕ) → IsTile k p → (t : Bool) → list_any (eq_by_cmp (slice_cmp nat_cmp) (catalogue_spelling k p)) (map string_bytes paths) ≡ t → (at_tile now k p ≡ None) ⊎ (at_tile now k p ≡ at_tile old k p) → (at_tile now k p ≡ None) ⊎ (at_tile now k p ≡ tile_text catalogue k p)
    by k p is true e some = clears.right k p is e
    by k p is false e (inl none) = inl none
    by k p is false e (inr kept) =
        let unlisted : contains_key old (catalogue_spelling k p) ≡ false =
        contains_key-keys old (catalogue_spelling k p) ∙ sym (list_any-IsPermutation (eq_by_cmp (slice_cmp nat_cmp) (catalogue_spelling k p)) (map string_bytes paths) (keys old) listed) ∙ e in
        inl (kept ∙ absent_by (get old (catalogue_spelling k p)) unlisted)

    each : (k p : ℕ) → IsTile k p → (at_tile now k p ≡ None) ⊎ (at_tile now k p ≡ tile_text catalogue k p)
    each k p is = by k p is (list_any (eq_by_cmp (slice_cmp nat_cmp) (catalogue_spelling k p)) (map string_bytes paths)) refl (clears.some k p is)

-- ---- where a shelf tells its files

pub clearing_begins : (catalogue : Catalogue) (files : Option ShelfFiles) → OnFiles (Clears catalogue []) files files
clearing_begins catalogue None = tt
clearing_begins catalogue (Some files) = clears_none catalogue files

pub clearing_goes_on : (catalogue : Catalogue) (texts more : List (List ℕ)) (text : List ℕ) (old now new : Option ShelfFiles) → more ≡ texts ++ text ∷ [] →
    OnFiles (Clears catalogue texts) old now → OnFiles (ClearsPath catalogue text) now new → OnFiles (Clears catalogue more) old new
clearing_goes_on catalogue texts more text None now new e before step = tt
clearing_goes_on catalogue texts more text (Some old) None new e before step = absurd before
clearing_goes_on catalogue texts more text (Some old) (Some now) None e before step = absurd step
clearing_goes_on catalogue texts more text (Some old) (Some now) (Some new) e before step = subst (λ ts. Clears catalogue ts old new) (sym e) (clears_more catalogue texts text old now new before step)

pub clearing_fails : (catalogue : Catalogue) (texts : List (List ℕ)) (text : List ℕ) (old now new : Option ShelfFiles) →
    OnFiles (Clears catalogue texts) old now → IsTilePath text × OtherPathsStay text now new → OnFiles IsClearing old new
clearing_fails catalogue texts text None now new before step = tt
clearing_fails catalogue texts text (Some old) None new before step = absurd before
clearing_fails catalogue texts text (Some old) (Some now) None before step = absurd step.1
clearing_fails catalogue texts text (Some old) (Some now) (Some new) before step = clears_failed catalogue texts text old now new before step.0 step.1

pub clearing_ends : (catalogue : Catalogue) (paths : List (String Global)) (texts : List (List ℕ)) (old now : Option ShelfFiles) → texts ≡ map string_bytes paths →
    Lists old paths → OnFiles (Clears catalogue texts) old now → OnFiles (IsCleared catalogue) old now
clearing_ends catalogue paths texts None now e listed clears = tt
clearing_ends catalogue paths texts (Some old) None e listed clears = absurd clears
clearing_ends catalogue paths texts (Some old) (Some now) e listed clears = clears_all catalogue paths old now listed (subst (λ ts. Clears catalogue ts old now) e clears)

-- nothing was done yet
pub clearing_unbegun : (old now : Option ShelfFiles) → now ≡ old → OnFiles IsClearing old now
clearing_unbegun None now e = tt
clearing_unbegun (Some old) None e = cc
clearing_unbegun (Some old) (Some now) e =
    let same : now ≡ old = cc in
    record { but = []; some = λ k p is away. inr (ap (λ files. at_tile files k p) same); others = λ text other. ap (λ files. get files text) same }

-- ---- the tiles are put, one by one

pub record Fills (catalogue : Catalogue) (count : ℕ) (old now : ShelfFiles) : Type 0 where
  pub some : HasSome catalogue old → HasSome catalogue now
  pub there : HasSome catalogue old → (i : ℕ) (cell : NestedCell) → i < count → slice_get (existing_tiles catalogue) i ≡ Some cell → at_tile now cell.order cell.npix ≡ tile_text catalogue cell.order cell.npix
  pub others : KeepsOthers old now

fills_none : (catalogue : Catalogue) (files : ShelfFiles) → Fills catalogue 0 files files
fills_none catalogue files = record { some = λ has. has; there = λ has i cell low e. absurd (omega (arith, low)); others = λ text other. refl }

module _ (law : CatalogueSpellingsDiffer) (catalogue : Catalogue) (cell : NestedCell) (tile : IsTile cell.order cell.npix) (now new : ShelfFiles) where
  -- one tile was put: it is there, and the others stay
  put_there : (before : (at_tile now cell.order cell.npix ≡ None) ⊎ (at_tile now cell.order cell.npix ≡ tile_text catalogue cell.order cell.npix)) → FillsTile catalogue cell now new → at_tile new cell.order cell.npix ≡ tile_text catalogue cell.order cell.npix
  put_there (inl none) (inl absent) = ap (λ files. at_tile files cell.order cell.npix) absent.1 ∙ none ∙ sym absent.0
  put_there (inr right) (inl absent) = ap (λ files. at_tile files cell.order cell.npix) absent.1 ∙ right
  put_there before (inr put) = ap (λ files. at_tile files cell.order cell.npix) put.2 ∙ get_put_same now (catalogue_spelling cell.order cell.npix) put.0 ∙ sym put.1

  put_away : (other : List ℕ) → other ≢ catalogue_spelling cell.order cell.npix → FillsTile catalogue cell now new → get new other ≡ get now other
  put_away other away (inl absent) = ap (λ files. get files other) absent.1
  put_away other away (inr put) = ap (λ files. get files other) put.2 ∙ get_put_other now (catalogue_spelling cell.order cell.npix) put.0 other away

  -- at the path of any tile that had what is right, there is what is right
  put_right : HasSome catalogue now → FillsTile catalogue cell now new → (k p : ℕ) → IsTile k p → at_tile now k p ≡ tile_text catalogue k p → at_tile new k p ≡ tile_text catalogue k p
  put_right has step k p is right = at (same_or_not (catalogue_spelling k p) (catalogue_spelling cell.order cell.npix))
    where
      at : (catalogue_spelling k p ≡ catalogue_spelling cell.order cell.npix) ⊎ (catalogue_spelling k p ≢ catalogue_spelling cell.order cell.npix) → at_tile new k p ≡ tile_text catalogue k p
      at (inl spelled) =
          let one = law k p cell.order cell.npix is tile spelled in
          ap (λ j. at_tile new j p) one.0 ∙ ap (at_tile new cell.order) one.1 ∙ put_there (has cell.order cell.npix tile) step ∙ sym (ap (λ j. tile_text catalogue j p) one.0 ∙ ap (tile_text catalogue cell.order) one.1)
      at (inr away) = put_away (catalogue_spelling k p) away step ∙ right

  put_some : HasSome catalogue now → FillsTile catalogue cell now new → HasSome catalogue new
  put_some has step k p is = at (same_or_not (catalogue_spelling k p) (catalogue_spelling cell.order cell.npix)) (has k p is)
    where
      at : (catalogue_spelling k p ≡ catalogue_spelling cell.order cell.npix) ⊎ (catalogue_spelling k p ≢ catalogue_spelling cell.order cell.npix) →
          (at_tile now k p ≡ None) ⊎ (at_tile now k p ≡ tile_text catalogue k p) → (at_tile new k p ≡ None) ⊎ (at_tile new k p ≡ tile_text catalogue k p)
      at away (inr right) = inr (put_right has step k p is right)
      at (inr away) (inl none) = inl (put_away (catalogue_spelling k p) away step ∙ none)
      at (inl spelled) (inl none) =
          let one = law k p cell.order cell.npix is tile spelled in
          inr (ap (λ j. at_tile new j p) one.0 ∙ ap (at_tile new cell.order) one.1 ∙ put_there (has cell.order cell.npix tile) step ∙ sym (ap (λ j. tile_text catalogue j p) one.0 ∙ ap (tile_text catalogue cell.order) one.1))

abbrev pub AreTiles : Catalogue → Type 0
AreTiles catalogue = (i : ℕ) (cell : NestedCell) → slice_get (existing_tiles catalogue) i ≡ Some cell → IsTile cell.order cell.npix

fills_more : CatalogueSpellingsDiffer → (catalogue : Catalogue) → AreTiles catalogue → (count : ℕ) (cell : NestedCell) (old now new : ShelfFiles) → slice_get (existing_tiles catalogue) count ≡ Some cell →
    Fills catalogue count old now → FillsTile catalogue cell now new → Fills catalogue (count + 1) old new
fills_more law catalogue are count cell old now new here before step =
    let tile = are count cell here in
    record {
      some = λ has. put_some law catalogue cell tile now new (before.some has) step;
      there = λ has i other low e. at has i other e (same_or_below i count low);
      others = λ text is. put_away law catalogue cell tile now new text (λ same. is cell.order cell.npix tile (sym same)) step ∙ before.others text is;
    }
  where
    same_or_below : (i n : ℕ) → i < n + 1 → (i < n) ⊎ (i ≡ n)
    same_or_below i n low = elim (nat_lt i n) as (λ t. nat_lt i n ≡ t → (i < n) ⊎ (i ≡ n)) [ true ↦ λ e. inl (grind (arith, nat_tests)) | false ↦ λ e. inr (grind (arith, nat_tests)) ] refl

    at : HasSome catalogue old → (i : ℕ) (other : NestedCell) → slice_get (existing_tiles catalogue) i ≡ Some other → (i < count) ⊎ (i ≡ count) → at_tile new other.order other.npix ≡ tile_text catalogue other.order other.npix
    at has i other e (inl low) = put_right law catalogue cell (are count cell here) now new (before.some has) step other.order other.npix (are i other e) (before.there has i other low e)
    at has i other e (inr same) =
        let one : cell ≡ other = let both : Some cell ≡ Some other = sym here ∙ ap (slice_get (existing_tiles catalogue)) (sym same) ∙ e in cc in
        subst (λ c. at_tile new c.order c.npix ≡ tile_text catalogue c.order c.npix) one
        (put_there law catalogue cell (are count cell here) now new (before.some has cell.order cell.npix (are count cell here)) step)

fills_failed : (catalogue : Catalogue) (count : ℕ) (cell : NestedCell) (old now new : ShelfFiles) → IsTile cell.order cell.npix → Fills catalogue count old now →
    ((other : List ℕ) → other ≢ catalogue_spelling cell.order cell.npix → get new other ≡ get now other) → IsFilling catalogue old new
fills_failed catalogue count cell old now new tile before stay = record {
  but = catalogue_spelling cell.order cell.npix;
  some = λ has k p is away. subst (λ found. (found ≡ None) ⊎ (found ≡ tile_text catalogue k p)) (sym (stay (catalogue_spelling k p) away)) (before.some has k p is);
  others = λ other apart. stay other (λ e. apart cell.order cell.npix tile (sym e)) ∙ before.others other apart;
}

-- each tile that has a text is among those that exist
abbrev pub AreAll : Catalogue → Type 0
AreAll catalogue = (k p : ℕ) → IsTile k p → (text : List ℕ) → tile_text catalogue k p ≡ Some text → (i : ℕ) × (slice_get (existing_tiles catalogue) i ≡ Some (record { order = k; npix = p }))

-- what stands at a place of a list
pub inside : {T : Type 0} (xs : List T) (i : ℕ) (x : T) → slice_get xs i ≡ Some x → i < length xs
inside [] i x e = cc
inside (y ∷ ys) zero x e = omega arith
inside (y ∷ ys) (suc i) x e = let low = inside ys i x e in omega (arith, low)

pub beyond : {T : Type 0} (xs : List T) (i : ℕ) → slice_get xs i ≡ None → length xs ≤ i
beyond [] i e = omega arith
beyond (y ∷ ys) zero e = cc
beyond (y ∷ ys) (suc i) e = let far = beyond ys i e in omega (arith, far)

-- after all of them
fills_all : (catalogue : Catalogue) → AreAll catalogue → (count : ℕ) → count ≡ length (existing_tiles catalogue) → (old now : ShelfFiles) → Fills catalogue count old now → IsFilled catalogue old now
fills_all catalogue all count whole old now fills = record { holds = λ has k p is. at has k p is (tile_text catalogue k p) refl (fills.some has k p is); others = fills.others }
  where
    at : HasSome catalogue old → (k p : ℕ) → IsTile k p → (found : Option (List ℕ)) → tile_text catalogue k p ≡ found → (at_tile now k p ≡ None) ⊎ (at_tile now k p ≡ tile_text catalogue k p) → at_tile now k p ≡ tile_text catalogue k p
    at has k p is found e (inr right) = right
    at has k p is None e (inl none) = none ∙ sym e
    at has k p is (Some text) e (inl none) =
        let place = all k p is text e in
        let low = inside (existing_tiles catalogue) place.0 (record { order = k; npix = p }) place.1 in
        fills.there has place.0 (record { order = k; npix = p }) (omega (arith, low, whole)) place.1

pub filling_begins : (catalogue : Catalogue) (files : Option ShelfFiles) → OnFiles (Fills catalogue 0) files files
filling_begins catalogue None = tt
filling_begins catalogue (Some files) = fills_none catalogue files

pub filling_goes_on : CatalogueSpellingsDiffer → (catalogue : Catalogue) → AreTiles catalogue → (count : ℕ) (cell : NestedCell) (old now new : Option ShelfFiles) → slice_get (existing_tiles catalogue) count ≡ Some cell →
    OnFiles (Fills catalogue count) old now → OnFiles (FillsTile catalogue cell) now new → OnFiles (Fills catalogue (count + 1)) old new
filling_goes_on law catalogue are count cell None now new here before step = tt
filling_goes_on law catalogue are count cell (Some old) None new here before step = absurd before
filling_goes_on law catalogue are count cell (Some old) (Some now) None here before step = absurd step
filling_goes_on law catalogue are count cell (Some old) (Some now) (Some new) here before step = fills_more law catalogue are count cell old now new here before step

pub filling_fails : (catalogue : Catalogue) (count : ℕ) (cell : NestedCell) (old now new : Option ShelfFiles) → IsTile cell.order cell.npix →
    OnFiles (Fills catalogue count) old now → OtherPathsStay (catalogue_spelling cell.order cell.npix) now new → OnFiles (IsFilling catalogue) old new
filling_fails catalogue count cell None now new tile before stay = tt
filling_fails catalogue count cell (Some old) None new tile before stay = absurd before
filling_fails catalogue count cell (Some old) (Some now) None tile before stay = absurd stay
filling_fails catalogue count cell (Some old) (Some now) (Some new) tile before stay = fills_failed catalogue count cell old now new tile before stay

pub filling_ends : (catalogue : Catalogue) → AreAll catalogue → (count : ℕ) → count ≡ length (existing_tiles catalogue) → (old now : Option ShelfFiles) → OnFiles (Fills catalogue count) old now → OnFiles (IsFilled catalogue) old now
filling_ends catalogue all count whole None now fills = tt
filling_ends catalogue all count whole (Some old) None fills = absurd fills
filling_ends catalogue all count whole (Some old) (Some now) fills = fills_all catalogue all count whole old now fills

-- ---- the whole work

pub replaced : (catalogue : Catalogue) (old mid new : Option ShelfFiles) → OnFiles (IsCleared catalogue) old mid → OnFiles (IsFilled catalogue) mid new → OnFiles (IsReplaced catalogue) old new
replaced catalogue None mid new cleared filled = tt
replaced catalogue (Some old) None new cleared filled = absurd cleared
replaced catalogue (Some old) (Some mid) None cleared filled = absurd filled
replaced catalogue (Some old) (Some mid) (Some new) cleared filled = record { holds = filled.holds cleared.some; others = λ text is. filled.others text is ∙ cleared.others text is }

pub unfinished_clearing : (catalogue : Catalogue) (old new : Option ShelfFiles) → OnFiles IsClearing old new → OnFiles (IsUnfinished catalogue) old new
unfinished_clearing catalogue None new clearing = tt
unfinished_clearing catalogue (Some old) None clearing = absurd clearing
unfinished_clearing catalogue (Some old) (Some new) clearing = record { but = clearing.but; some = inl clearing.some; others = clearing.others }

pub unfinished_filling : (catalogue : Catalogue) (old mid new : Option ShelfFiles) → OnFiles (IsCleared catalogue) old mid → OnFiles (IsFilling catalogue) mid new → OnFiles (IsUnfinished catalogue) old new
unfinished_filling catalogue None mid new cleared filling = tt
unfinished_filling catalogue (Some old) None new cleared filling = absurd cleared
unfinished_filling catalogue (Some old) (Some mid) None cleared filling = absurd filling
unfinished_filling catalogue (Some old) (Some mid) (Some new) cleared filling = record { but = filling.but; some = inr (filling.some cleared.some); others = λ text is. filling.others text is ∙ cleared.others text is }

-- what f makes of the first elements and one more
pub map_more : {X Y : Type 0} (f : X → Y) (xs : List X) (i : ℕ) (x : X) → i < length xs → x ≡ get_or xs i x → map f (take (i + 1) xs) ≡ map f (take i xs) ++ f x ∷ []
map_more f xs i x h e = ap (map f) (take_more xs i x h) ∙ map-append f (take i xs) (get_or xs i x ∷ []) ∙ ap (λ y. map f (take i xs) ++ f y ∷ []) (sym e)
