-- The first path at which a shelf and a survey differ.
use Rattle.std.proofs.Common.{◌≡◌, ℕ, zero, suc, ◌+◌, ◌<◌, ◌≤◌, ◌||◌, Bool, true, false, cond, List, [], ◌∷◌, ◌++◌, Option, Some, None, refl, sym, ap, ◌∙◌, subst, arith, map, take, drop, length, add-one, append_assoc, append-nil, ◌⊎◌, inl, inr, Decides}
use Rattle.std.specs.Prelude.{◌≢◌, not, nat_eq, All, IfSome, IsSome, is_some, MatchOption, slice_get, slice_index_or, option_map, fold, ⊤}
use Rattle.std.specs.declared.cmp.Ordering.TheVariants.{Less, Equal, Greater}
use Rattle.std.specs.declared.cmp.Ordering.{Ordering}
use Rattle.std.specs.Option.{option_eq}
use Rattle.std.specs.Str.{bytes_eq}
use Rattle.std.specs.Ordering.{nat_cmp, eq_by_cmp, is_lt}
use Rattle.std.specs.Cmp.Lexicographic.{slice_cmp, pointwise}
use Rattle.std.specs.Borrow.{Bor}
use Rattle.std.specs.FinMap.{get, keys, contains_key, contains_key-keys}
use Rattle.std.proofs.lemmas.Slice.Eq.{bytes_eq-Decides, strip_prefix_is}
use Rattle.std.proofs.lemmas.Bool.Decides.{nat_tests, same_from_decides}
use Rattle.std.proofs.lemmas.List.Sums.{fold_push}
use Rattle.std.proofs.lemmas.Cmp.{nat_list_cmp_total, tied_itself}
use Rattle.std.proofs.lemmas.List.{map-append}
use Rattle.std.proofs.lemmas.List.Folds.{list_any-append}
use Rattle.std.proofs.lemmas.List.Elements.{All-head, All-tail}
use Rattle.survey_link.specs.Shelf.{ShelfFiles}
use Rattle.tile_path.specs.Spelling.{IsPath, spelling}
use Rattle.tile_path.specs.declared.path.Path.{Path}
use Rattle.shelf_io.specs.Survey.{AgreeAt, HoldsSurvey, ComesBefore, IsFirstDifference}
use Rattle.shelf_io.specs.Listed.{is_among, AreStrays}
use Rattle.shelf_io.specs.Comparing.{agrees_at, earlier_of, earlier, first_path, first_after}
use Rattle.shelf_io.proofs.ListedLemmas.{same_text, among_more}
use Rattle.shelf_io.proofs.StrayLemmas.{among_cases}

-- ---- whether they agree at a path

same_file : (a b : Option (List ℕ)) → Decides (option_eq bytes_eq a b) (a ≡ b)
same_file None None = (λ e. refl, λ e. refl)
same_file None (Some y) = (λ e. cc, λ e. cc)
same_file (Some x) None = (λ e. cc, λ e. cc)
same_file (Some x) (Some y) = (λ e. ap (λ z. Some z) ((bytes_eq-Decides x y).0 e), λ e. (bytes_eq-Decides x y).1 (cc))

pub agrees_true : (survey files : ShelfFiles) (path : Path) → agrees_at survey files path ≡ true → AgreeAt survey files path
agrees_true survey files path e = (same_file (get files (spelling path)) (get survey (spelling path))).0 e

false_true : (b : Bool) → b ≡ false → b ≡ true → ⊥
false_true b e f = cc

pub agrees_false : (survey files : ShelfFiles) (path : Path) → agrees_at survey files path ≡ false → get files (spelling path) ≢ get survey (spelling path)
agrees_false survey files path e same = false_true (agrees_at survey files path) e ((same_file (get files (spelling path)) (get survey (spelling path))).1 same)

-- ---- which comes first

Before : List ℕ → List ℕ → Type 0
Before a b = slice_cmp nat_cmp a b ≡ Less

never_itself : (a : List ℕ) → slice_cmp nat_cmp a a ≡ Less → ⊥
never_itself a e = let own : slice_cmp nat_cmp a a ≡ Equal = tied_itself nat_list_cmp_total a in cc

less_is : (o : Ordering) → is_lt o ≡ true → o ≡ Less
less_is Less e = refl
less_is Equal e = cc
less_is Greater e = cc

not_less : (o : Ordering) → is_lt o ≡ false → o ≡ Less → ⊥
not_less Less e f = cc
not_less Equal e f = cc
not_less Greater e f = cc

-- what comes before the earlier of two comes before the first, and not the second itself
before_earlier : (first path : Path) (text : List ℕ) → slice_cmp nat_cmp text (spelling (earlier_of first path)) ≡ Less → slice_cmp nat_cmp text (spelling first) ≡ Less
before_earlier first path text =
    elim (is_lt (slice_cmp nat_cmp (spelling path) (spelling first))) as (λ b. is_lt (slice_cmp nat_cmp (spelling path) (spelling first)) ≡ b → slice_cmp nat_cmp text (spelling (cond b path first)) ≡ Less → slice_cmp nat_cmp text (spelling first) ≡ Less) [
      | true ↦ λ e before. nat_list_cmp_total.trans text (spelling path) (spelling first) before (less_is (slice_cmp nat_cmp (spelling path) (spelling first)) e)
      | false ↦ λ e before. before
    ] refl

not_before_earlier : (first path : Path) → slice_cmp nat_cmp (spelling path) (spelling (earlier_of first path)) ≡ Less → ⊥
not_before_earlier first path =
    elim (is_lt (slice_cmp nat_cmp (spelling path) (spelling first))) as (λ b. is_lt (slice_cmp nat_cmp (spelling path) (spelling first)) ≡ b → slice_cmp nat_cmp (spelling path) (spelling (cond b path first)) ≡ Less → ⊥) [
      | true ↦ λ e before. never_itself (spelling path) before
      | false ↦ λ e before. not_less (slice_cmp nat_cmp (spelling path) (spelling first)) e before
    ] refl

-- ---- of all paths that were compared

-- at the text they agree, or it doesn't come before the first path at which they differ
abbrev pub Passed : ShelfFiles → ShelfFiles → Option Path → List ℕ → Type 0
Passed survey files first text = MatchOption first (get files text ≡ get survey text) (λ path. slice_cmp nat_cmp text (spelling path) ≡ Less → get files text ≡ get survey text)

pub record IsFirstOf (survey files : ShelfFiles) (compared : List Path) (first : Option Path) : Type 0 where
  pub differs : IfSome first (λ path. get files (spelling path) ≢ get survey (spelling path))
  pub passed : (text : List ℕ) → is_among (map spelling compared) text ≡ true → Passed survey files first text

-- the earlier of a path at which they differ and one more
earlier_differs : (survey files : ShelfFiles) (first : Option Path) (path : Path) → IfSome first (λ p. get files (spelling p) ≢ get survey (spelling p)) → get files (spelling path) ≢ get survey (spelling path)
    → get files (spelling (earlier first path)) ≢ get survey (spelling (earlier first path))
earlier_differs survey files None path before here = here
earlier_differs survey files (Some first) path before here =
    elim (is_lt (slice_cmp nat_cmp (spelling path) (spelling first))) as (λ b. get files (spelling (cond b path first)) ≢ get survey (spelling (cond b path first))) [ true ↦ here | false ↦ before ]

still_passed : (survey files : ShelfFiles) (first : Option Path) (path : Path) (text : List ℕ) → Passed survey files first text → slice_cmp nat_cmp text (spelling (earlier first path)) ≡ Less → get files text ≡ get survey text
still_passed survey files None path text passed before = passed
still_passed survey files (Some first) path text passed before = passed (before_earlier first path text before)

own_passed : (survey files : ShelfFiles) (first : Option Path) (path : Path) (text : List ℕ) → text ≡ spelling path → slice_cmp nat_cmp text (spelling (earlier first path)) ≡ Less → get files text ≡ get survey text
own_passed survey files None path text e before = absurd (never_itself (spelling path) (ap (λ t. slice_cmp nat_cmp t (spelling path)) (sym e) ∙ before))
own_passed survey files (Some first) path text e before = absurd (not_before_earlier first path (ap (λ t. slice_cmp nat_cmp t (spelling (earlier_of first path))) (sym e) ∙ before))

agreed : (survey files : ShelfFiles) (first : Option Path) (text : List ℕ) → get files text ≡ get survey text → Passed survey files first text
agreed survey files None text same = same
agreed survey files (Some first) text same = λ before. same

first_of_more : (survey files : ShelfFiles) (compared : List Path) (first : Option Path) (path : Path) → IsFirstOf survey files compared first → IsFirstOf survey files (compared ++ path ∷ []) (first_after survey files first path)
first_of_more survey files compared first path found =
    elim (agrees_at survey files path) as (λ b. agrees_at survey files path ≡ b → IsFirstOf survey files (compared ++ path ∷ []) (cond b first (Some (earlier first path)))) [
      | true ↦ λ e. record {
        differs = found.differs;
        passed = λ text among. elim (among_cases (map spelling compared) (spelling path) text (sym (ap (λ ts. is_among ts text) (map-append spelling compared (path ∷ []))) ∙ among)) [
          | inl before ↦ found.passed text before
          | inr same ↦ agreed survey files first text (ap (get files) same ∙ agrees_true survey files path e ∙ ap (get survey) (sym same))
        ];
      }
      | false ↦ λ e. record {
        differs = earlier_differs survey files first path found.differs (agrees_false survey files path e);
        passed = λ text among. elim (among_cases (map spelling compared) (spelling path) text (sym (ap (λ ts. is_among ts text) (map-append spelling compared (path ∷ []))) ∙ among)) [
          | inl before ↦ still_passed survey files first path text (found.passed text before)
          | inr same ↦ own_passed survey files first path text same
        ];
      }
    ] refl

first_of_all : (survey files : ShelfFiles) (paths compared : List Path) (first : Option Path) → IsFirstOf survey files compared first → IsFirstOf survey files (compared ++ paths) (fold (first_after survey files) first paths)
first_of_all survey files [] compared first found = subst (λ ps. IsFirstOf survey files ps first) (sym (append-nil compared)) found
first_of_all survey files (p ∷ ps) compared first found =
    subst (λ qs. IsFirstOf survey files qs (fold (first_after survey files) (first_after survey files first p) ps)) (append_assoc compared (p ∷ []) ps)
    (first_of_all survey files ps (compared ++ p ∷ []) (first_after survey files first p) (first_of_more survey files compared first p found))

-- the first of the strays is the first at which they differ
strays_first : (survey files : ShelfFiles) (strays : List Path) (first : Option Path) → All (λ path. agrees_at survey files path ≡ false) strays → fold (λ f path. Some (earlier f path)) first strays ≡ fold (first_after survey files) first strays
strays_first survey files [] first differ = refl
strays_first survey files (p ∷ ps) first differ =
    let here : first_after survey files first p ≡ Some (earlier first p) = ap (λ b. cond b first (Some (earlier first p))) (All-head (λ path. agrees_at survey files path ≡ false) p ps differ) in
    strays_first survey files ps (Some (earlier first p)) (All-tail (λ path. agrees_at survey files path ≡ false) p ps differ)
    ∙ ap (λ f. fold (first_after survey files) f ps) (sym here)

-- where only the shelf has a file they differ
stray_differs : (survey files : ShelfFiles) (path : Path) → is_among (keys files) (spelling path) ≡ true → get survey (spelling path) ≡ None → agrees_at survey files path ≡ false
stray_differs survey files path listed lacking =
    differ (get files (spelling path)) (get survey (spelling path)) (contains_key-keys files (spelling path) ∙ listed) lacking
  where
    differ : (a b : Option (List ℕ)) → is_some a ≡ true → b ≡ None → option_eq bytes_eq a b ≡ false
    differ None b some none = cc
    differ (Some x) b some none = ap (option_eq bytes_eq (Some x)) none

-- a path at a place is among the paths
among_at : (paths : List Path) (i : ℕ) (text : List ℕ) → option_map spelling (slice_get paths i) ≡ Some text → is_among (map spelling paths) text ≡ true
among_at [] i text at = cc
among_at (p ∷ ps) zero text at = let same : text ≡ spelling p = cc in ap (λ b. b || is_among (map spelling ps) text) ((same_text text (spelling p)).1 same)
among_at (p ∷ ps) (suc i) text at = or_later (eq_by_cmp (slice_cmp nat_cmp) text (spelling p)) (is_among (map spelling ps) text) (among_at ps i text at)
  where
    or_later : (a b : Bool) → b ≡ true → (a || b) ≡ true
    or_later a b e = grind arith

among_either : (xs ys : List Path) (text : List ℕ) → (is_among (map spelling xs) text ≡ true) ⊎ (is_among (map spelling ys) text ≡ true) → is_among (map spelling (xs ++ ys)) text ≡ true
among_either xs ys text either =
    ap (λ ts. is_among ts text) (map-append spelling xs ys) ∙ list_any-append (eq_by_cmp (slice_cmp nat_cmp) text) (map spelling xs) (map spelling ys)
    ∙ elim either [
      | inl e ↦ or_first (is_among (map spelling xs) text) (is_among (map spelling ys) text) e
      | inr e ↦ or_second (is_among (map spelling xs) text) (is_among (map spelling ys) text) e
    ]
  where
    or_first : (a b : Bool) → a ≡ true → (a || b) ≡ true
    or_first a b e = grind arith

    or_second : (a b : Bool) → b ≡ true → (a || b) ≡ true
    or_second a b e = grind arith

-- ---- the whole

module _ (survey files : ShelfFiles) (paths strays : List Path) (found : AreStrays survey (keys files) strays)
    (each : (text : List ℕ) → IsSome (get survey text) → (i : ℕ) × (i < length paths) × (option_map spelling (slice_get paths i) ≡ Some text)) where
  compared_first : (first : Option Path) → first ≡ fold (first_after survey files) (first_path strays) paths → IsFirstOf survey files (strays ++ paths) first
  compared_first first is =
      let differ : All (λ path. agrees_at survey files path ≡ false) strays = λ k d h. stray_differs survey files (slice_index_or strays k d) (found.listed k d h) (found.lacking k d h) in
      subst (IsFirstOf survey files (strays ++ paths)) (sym (is ∙ ap (λ f. fold (first_after survey files) f paths) (strays_first survey files strays None differ)))
      (first_of_all survey files paths strays (fold (first_after survey files) None strays)
      (first_of_all survey files strays [] None (record { differs = tt; passed = λ text among. cc })))

  covered : (path : Path) → IsPath path → (is_among (map spelling (strays ++ paths)) (spelling path) ≡ true) ⊎ AgreeAt survey files path
  covered path is = cases (get survey (spelling path)) refl
    where
      absent : (o : Option (List ℕ)) → is_some o ≡ false → o ≡ None
      absent None e = refl
      absent (Some x) e = cc

      cases : (o : Option (List ℕ)) → get survey (spelling path) ≡ o → (is_among (map spelling (strays ++ paths)) (spelling path) ≡ true) ⊎ AgreeAt survey files path
      cases (Some bytes) e = let at = each (spelling path) (ap is_some e) in inl (among_either strays paths (spelling path) (inr (among_at paths at.0 (spelling path) at.2)))
      cases None e =
          elim (is_among (keys files) (spelling path)) as (λ b. is_among (keys files) (spelling path) ≡ b → (is_among (map spelling (strays ++ paths)) (spelling path) ≡ true) ⊎ AgreeAt survey files path) [
            | true ↦ λ listed. inl (among_either strays paths (spelling path) (inl (found.every path is listed e)))
            | false ↦ λ listed. inr (absent (get files (spelling path)) (contains_key-keys files (spelling path) ∙ listed) ∙ sym e)
          ] refl

  pub first_differs : (first : Path) → IsPath first → Some first ≡ fold (first_after survey files) (first_path strays) paths → IsFirstDifference survey files first
  first_differs first is result =
      let of = compared_first (Some first) result in
      record {
        is_path = is;
        differs = of.differs;
        before = λ other is_other earlier. elim (covered other is_other) [
          | inl among ↦ of.passed (spelling other) among earlier
          | inr same ↦ same
        ];
      }

  pub none_differs : None ≡ fold (first_after survey files) (first_path strays) paths → HoldsSurvey survey files
  none_differs result path is =
      let of = compared_first None result in
      elim (covered path is) [
        | inl among ↦ of.passed (spelling path) among
        | inr same ↦ same
      ]

-- ---- one path more

take_found : (paths : List Path) (i : ℕ) (path : Path) → slice_get paths i ≡ Some path → take (i + 1) paths ≡ take i paths ++ path ∷ []
take_found [] i path at = cc
take_found (p ∷ ps) zero path at = let same : p ≡ path = cc in λ i. same i ∷ []
take_found (p ∷ ps) (suc i) path at = ap (λ n. take n (p ∷ ps)) (add-one (suc i)) ∙ ap (λ n. p ∷ take n ps) (sym (add-one i)) ∙ ap (λ qs. p ∷ qs) (take_found ps i path at)

pub compared_more : (survey : ShelfFiles) (here files : Option ShelfFiles) (paths : List Path) (i : ℕ) (path : Path) (start first next : Option Path) (agree : Bool) → here ≡ files → slice_get paths i ≡ Some path
    → next ≡ cond agree first (Some (earlier first path)) → IfSome here (λ fs. agree ≡ agrees_at survey fs path)
    → IfSome files (λ fs. first ≡ fold (first_after survey fs) start (take i paths)) → IfSome files (λ fs. next ≡ fold (first_after survey fs) start (take (i + 1) paths))
compared_more survey here files paths i path start first next agree same at is agrees before =
    go files before (subst (λ o. IfSome o (λ fs. agree ≡ agrees_at survey fs path)) same agrees)
  where
    go : (o : Option ShelfFiles) → IfSome o (λ fs. first ≡ fold (first_after survey fs) start (take i paths)) → IfSome o (λ fs. agree ≡ agrees_at survey fs path) → IfSome o (λ fs. next ≡ fold (first_after survey fs) start (take (i + 1) paths))
    go None before agrees = tt
    go (Some fs) before agrees =
        is ∙ ap (λ b. cond b first (Some (earlier first path))) agrees ∙ ap (λ f. first_after survey fs f path) before
        ∙ sym (fold_push (first_after survey fs) start (take i paths) path) ∙ sym (ap (fold (first_after survey fs) start) (take_found paths i path at))

-- ---- a file in three parts

nat_decides : (a b : ℕ) → Decides (nat_eq a b) (a ≡ b)
nat_decides a b = (λ e. grind (arith, nat_tests), λ e. grind (arith, nat_tests))

-- what is left behind a prefix
abbrev pub Stripped : List ℕ → List ℕ → Bor (List ℕ) → Type 0
Stripped bytes prefix rest = (pointwise nat_eq (take (length prefix) bytes) prefix ≡ true) × (rest.now ≡ drop (length prefix) bytes) × (length rest.now + length prefix ≡ length bytes)

all_parts : (bytes front kept zeros rest last : List ℕ) (r : Bool) → bytes ≡ front ++ rest → rest ≡ kept ++ last → r ≡ bytes_eq last zeros → r ≡ bytes_eq bytes ((front ++ kept) ++ zeros)
all_parts bytes front kept zeros rest last r first second is =
    let whole : bytes ≡ (front ++ kept) ++ last = first ∙ ap (λ xs. front ++ xs) second ∙ sym (append_assoc front kept last) in
    is ∙ same_from_decides (bytes_eq last zeros) (bytes_eq bytes ((front ++ kept) ++ zeros)) (
      λ e. whole ∙ ap (λ xs. (front ++ kept) ++ xs) ((bytes_eq-Decides last zeros).0 e),
      λ e. (bytes_eq-Decides last zeros).1 (cancel (front ++ kept) last zeros (sym whole ∙ e)),
    )
    (bytes_eq-Decides bytes ((front ++ kept) ++ zeros))
  where
    cancel : (xs ys zs : List ℕ) → xs ++ ys ≡ xs ++ zs → ys ≡ zs
    cancel [] ys zs e = e
    cancel (x ∷ xs) ys zs e = let rest : xs ++ ys ≡ xs ++ zs = cc in cancel xs ys zs rest

pub parts_same : (bytes front kept zeros : List ℕ) (rest last : Bor (List ℕ)) (r : Bool) → Stripped bytes front rest → Stripped rest.now kept last → r ≡ bytes_eq last.now zeros → r ≡ bytes_eq bytes ((front ++ kept) ++ zeros)
parts_same bytes front kept zeros rest last r first second is =
    all_parts bytes front kept zeros rest.now last.now r (strip_prefix_is nat_decides bytes front (Some rest) first) (strip_prefix_is nat_decides rest.now kept (Some last) second) is

pub front_apart : (bytes front kept zeros : List ℕ) → pointwise nat_eq (take (length front) bytes) front ≡ false → false ≡ bytes_eq bytes ((front ++ kept) ++ zeros)
front_apart bytes front kept zeros apart =
    same_from_decides false (bytes_eq bytes ((front ++ kept) ++ zeros))
    (λ e. cc, λ e. absurd (strip_prefix_is nat_decides bytes front None apart (kept ++ zeros) (e ∙ append_assoc front kept zeros)))
    (bytes_eq-Decides bytes ((front ++ kept) ++ zeros))

pub kept_apart : (bytes front kept zeros : List ℕ) (rest : Bor (List ℕ)) → Stripped bytes front rest → pointwise nat_eq (take (length kept) rest.now) kept ≡ false → false ≡ bytes_eq bytes ((front ++ kept) ++ zeros)
kept_apart bytes front kept zeros rest first apart =
    let whole : bytes ≡ front ++ rest.now = strip_prefix_is nat_decides bytes front (Some rest) first in
    same_from_decides false (bytes_eq bytes ((front ++ kept) ++ zeros))
    (λ e. cc, λ e. absurd (strip_prefix_is nat_decides rest.now kept None apart zeros (cancel front rest.now (kept ++ zeros) (sym whole ∙ e ∙ append_assoc front kept zeros))))
    (bytes_eq-Decides bytes ((front ++ kept) ++ zeros))
  where
    cancel : (xs ys zs : List ℕ) → xs ++ ys ≡ xs ++ zs → ys ≡ zs
    cancel [] ys zs e = e
    cancel (x ∷ xs) ys zs e = let rest : xs ++ ys ≡ xs ++ zs = cc in cancel xs ys zs rest
