-- What removing and writing a survey's files does to a shelf.
use Rattle.std.proofs.Common.{◌≡◌, ℕ, zero, suc, ◌+◌, ◌<◌, ◌≤◌, ◌||◌, Bool, true, false, cond, List, [], ◌∷◌, ◌++◌, Option, Some, None, Result, Ok, Err, refl, sym, ap, ◌∙◌, subst, arith, map, take, drop, length, get_or, string_bytes, add-one}
use Rattle.std.specs.Prelude.{◌≢◌, All, Contains, IfSome, IsSome, is_some, OnOk, OnErr, String, slice_get, option_map, unwrap_or, ⊤}
use Rattle.std.specs.declared.alloc.Global.{Global}
use Rattle.std.specs.Ordering.{nat_cmp, eq_by_cmp}
use Rattle.std.specs.Cmp.Lexicographic.{slice_cmp}
use Rattle.std.specs.List.{list_any}
use Rattle.std.specs.FinMap.{FinMap, get, insert, remove, keys, contains_key, contains_key-keys, get-insert, get-remove, same_map, slice_cmp-IsAntisymmetric, nat_cmp-IsAntisymmetric}
use Rattle.std.proofs.lemmas.Grind.{common_steps}
use Rattle.std.proofs.lemmas.Cmp.{nat_list_cmp_total}
use Rattle.std.proofs.lemmas.List.Elements.{All-head, All-tail, All-cons}
use Rattle.std.proofs.lemmas.List.Sorted.{list_any-IsPermutation}
use Rattle.survey_link.specs.declared.faults.LinkFault.{LinkFault}
use Rattle.survey_link.specs.Shelf.{ShelfFiles, Lists, with_file, without_file, OthersStay as OtherPathsStay}
use Rattle.tile_path.specs.Spelling.{IsPath, spelling}
use Rattle.tile_path.specs.declared.path.Path.{Path}
use Rattle.shelf_io.specs.Survey.{AgreeAt, IsOtherPath, KeepsOthers, OthersStay, HoldsSurvey, Replaces}
use Rattle.shelf_io.specs.Listed.{is_among, AreStrays}
use Rattle.shelf_io.specs.Writing.{without_paths, with_path, with_paths}
use Rattle.shelf_io.proofs.ListedLemmas.{same_text}

-- ---- what stands at a text

true_or_false : (b : Bool) → (b ≡ true → ⊥) → b ≡ false
true_or_false true never = absurd (never refl)
true_or_false false never = refl

other_text : (a b : List ℕ) → a ≢ b → eq_by_cmp (slice_cmp nat_cmp) a b ≡ false
other_text a b apart = true_or_false (eq_by_cmp (slice_cmp nat_cmp) a b) (λ e. apart ((same_text a b).0 e))

pub get_put_same : (files : ShelfFiles) (text bytes : List ℕ) → get (insert files text bytes) text ≡ Some bytes
get_put_same files text bytes = get-insert nat_list_cmp_total files text bytes text ∙ ap (λ b. cond b (Some bytes) (get files text)) ((same_text text text).1 refl)

pub get_put_other : (files : ShelfFiles) (text bytes other : List ℕ) → other ≢ text → get (insert files text bytes) other ≡ get files other
get_put_other files text bytes other apart = get-insert nat_list_cmp_total files text bytes other ∙ ap (λ b. cond b (Some bytes) (get files other)) (other_text other text apart)

pub get_removed_same : (files : ShelfFiles) (text : List ℕ) → get (remove files text) text ≡ None
get_removed_same files text = get-remove nat_list_cmp_total files text text ∙ ap (λ b. cond b None (get files text)) ((same_text text text).1 refl)

pub get_removed_other : (files : ShelfFiles) (text other : List ℕ) → other ≢ text → get (remove files text) other ≡ get files other
get_removed_other files text other apart = get-remove nat_list_cmp_total files text other ∙ ap (λ b. cond b None (get files other)) (other_text other text apart)

-- ---- all that is no file of a survey stays

pub others_refl : (files : Option ShelfFiles) → OthersStay files files
others_refl None = tt
others_refl (Some files) = λ text other. refl

pub others_trans : (a b c : Option ShelfFiles) → OthersStay a b → OthersStay b c → OthersStay a c
others_trans None b c p q = tt
others_trans (Some a) None c p q = absurd p
others_trans (Some a) (Some b) None p q = absurd q
others_trans (Some a) (Some b) (Some c) p q = λ text other. q text other ∙ p text other

apart : (text : List ℕ) (path : Path) → IsPath path → IsOtherPath text → text ≢ spelling path
apart text path is other e = other path is (sym e)

pub others_removed : (path : Path) (old : Option ShelfFiles) → IsPath path → OthersStay old (without_file (spelling path) old)
others_removed path None is = tt
others_removed path (Some files) is = λ text other. get_removed_other files (spelling path) text (apart text path is other)

pub others_put : (path : Path) (bytes : List ℕ) (old : Option ShelfFiles) → IsPath path → OthersStay old (with_file (spelling path) bytes old)
others_put path bytes None is = tt
others_put path bytes (Some files) is = λ text other. get_put_other files (spelling path) bytes text (apart text path is other)

pub others_refused : (path : Path) (text : List ℕ) (old new : Option ShelfFiles) → IsPath path → text ≡ spelling path → OtherPathsStay text old new → OthersStay old new
others_refused path text None new is e stay = tt
others_refused path text (Some old) None is e stay = absurd stay
others_refused path text (Some old) (Some new) is e stay = λ at other. stay at (λ same. apart at path is other (same ∙ e))

-- after a put, whatever it answered
pub others_after_put : (r : Result (Unit {0}) LinkFault) (path : Path) (text bytes : List ℕ) (old new : Option ShelfFiles) → IsPath path → text ≡ spelling path
    → OnOk r (new ≡ with_file text bytes old) → OnErr r (OtherPathsStay text old new) → OthersStay old new
others_after_put (Ok u) path text bytes old new is e done refused =
    subst (OthersStay old) (sym (done ∙ ap (λ t. with_file t bytes old) e)) (others_put path bytes old is)
others_after_put (Err fault) path text bytes old new is e done refused = others_refused path text old new is e refused

-- ---- removing

pub strays_listed : (survey : ShelfFiles) (files : Option ShelfFiles) (paths : List (String Global)) (strays : List Path) → Lists files paths → AreStrays survey (map string_bytes paths) strays
    → IfSome files (λ fs. AreStrays survey (keys fs) strays)
strays_listed survey None paths strays listed found = tt
strays_listed survey (Some fs) paths strays listed found =
    let same : (text : List ℕ) → is_among (map string_bytes paths) text ≡ is_among (keys fs) text = λ text. list_any-IsPermutation (eq_by_cmp (slice_cmp nat_cmp) text) (map string_bytes paths) (keys fs) listed in
    record {
      paths = found.paths;
      lacking = found.lacking;
      listed = λ k d h. sym (same (spelling (get_or strays k d))) ∙ found.listed k d h;
      every = λ path is among absent. found.every path is (same (spelling path) ∙ among) absent;
    }

-- one path fewer is left
pub left_next : (paths : List Path) (i : ℕ) (path : Path) (start old new : Option ShelfFiles) → i < length paths → path ≡ get_or paths i path
    → without_paths (drop i paths) old ≡ without_paths paths start → new ≡ without_file (spelling path) old → without_paths (drop (i + 1) paths) new ≡ without_paths paths start
left_next paths i path start old new h e left removed =
    ap (without_paths (drop (i + 1) paths)) (removed ∙ ap (λ p. without_file (spelling p) old) e)
    ∙ sym (ap (λ ps. without_paths ps old) (drop_at paths i path h)) ∙ left
  where
    drop_at : (paths : List Path) (i : ℕ) (d : Path) → i < length paths → drop i paths ≡ get_or paths i d ∷ drop (i + 1) paths
    drop_at paths i d h = grind (arith, common_steps)

-- ---- writing

drop_found : {X : Type 0} (xs : List X) (i : ℕ) (x : X) → slice_get xs i ≡ Some x → drop i xs ≡ x ∷ drop (i + 1) xs
drop_found [] i x at = cc
drop_found (y ∷ ys) zero x at = let same : y ≡ x = cc in λ i. same i ∷ ys
drop_found (y ∷ ys) (suc i) x at = drop_found ys i x at ∙ ap (λ n. x ∷ drop n ys) (add-one i) ∙ sym (ap (λ n. x ∷ drop n (y ∷ ys)) (add-one (suc i)))

pub written_next : (survey : ShelfFiles) (paths : List Path) (i : ℕ) (path : Path) (start old new : Option ShelfFiles) → slice_get paths i ≡ Some path
    → old ≡ with_paths survey (drop (i + 1) paths) start → new ≡ with_path survey path old → new ≡ with_paths survey (drop i paths) start
written_next survey paths i path start old new at before written =
    written ∙ ap (with_path survey path) before ∙ sym (ap (λ ps. with_paths survey ps start) (drop_found paths i path at))

pub there_next : (survey : ShelfFiles) (paths : List Path) (i : ℕ) (path : Path) → slice_get paths i ≡ Some path → IsSome (get survey (spelling path))
    → All (λ p. IsSome (get survey (spelling p))) (drop (i + 1) paths) → All (λ p. IsSome (get survey (spelling p))) (drop i paths)
there_next survey paths i path at there rest =
    let P : List Path → Type 0 = All (λ p. IsSome (get survey (spelling p))) in
    subst P (sym (drop_found paths i path at)) (All-cons (λ p. IsSome (get survey (spelling p))) path (drop (i + 1) paths) there rest)

-- a file that is there already
pub there_already : (survey : ShelfFiles) (path : Path) (files : Option ShelfFiles) → IsSome (get survey (spelling path)) → IfSome files (λ fs. AgreeAt survey fs path) → files ≡ with_path survey path files
there_already survey path None there agree = refl
there_already survey path (Some fs) there agree =
    ap (λ m. Some m) (same_map nat_list_cmp_total (slice_cmp-IsAntisymmetric nat_cmp-IsAntisymmetric) fs (insert fs (spelling path) (unwrap_or (get survey (spelling path)) [])) same)
  where
    unwrapped : (o : Option (List ℕ)) → IsSome o → o ≡ Some (unwrap_or o [])
    unwrapped None some = cc
    unwrapped (Some bytes) some = refl

    same : (text : List ℕ) → get fs text ≡ get (insert fs (spelling path) (unwrap_or (get survey (spelling path)) [])) text
    same text =
        elim (eq_by_cmp (slice_cmp nat_cmp) text (spelling path)) as (λ b. eq_by_cmp (slice_cmp nat_cmp) text (spelling path) ≡ b → get fs text ≡ cond b (Some (unwrap_or (get survey (spelling path)) [])) (get fs text)) [
          | true ↦ λ e. ap (get fs) ((same_text text (spelling path)).0 e) ∙ agree ∙ unwrapped (get survey (spelling path)) there
          | false ↦ λ e. refl
        ] refl
        ∙ sym (get-insert nat_list_cmp_total fs (spelling path) (unwrap_or (get survey (spelling path)) []) text)

-- ---- the whole

without_in : List Path → ShelfFiles → ShelfFiles
without_in [] m = m
without_in (p ∷ ps) m = without_in ps (remove m (spelling p))

with_in : ShelfFiles → List Path → ShelfFiles → ShelfFiles
with_in survey [] m = m
with_in survey (p ∷ ps) m = insert (with_in survey ps m) (spelling p) (unwrap_or (get survey (spelling p)) [])

without_is : (ps : List Path) (m : ShelfFiles) → without_paths ps (Some m) ≡ Some (without_in ps m)
unfolding without_in
without_is [] m = refl
without_is (p ∷ ps) m = without_is ps (remove m (spelling p))

with_is : (survey : ShelfFiles) (ps : List Path) (m : ShelfFiles) → with_paths survey ps (Some m) ≡ Some (with_in survey ps m)
unfolding with_in
with_is survey [] m = refl
with_is survey (p ∷ ps) m = ap (with_path survey p) (with_is survey ps m)

-- what is absent stays absent
gone_stays : (ps : List Path) (m : ShelfFiles) (text : List ℕ) → get m text ≡ None → get (without_in ps m) text ≡ None
unfolding without_in
gone_stays [] m text gone = gone
gone_stays (p ∷ ps) m text gone =
    gone_stays ps (remove m (spelling p)) text
    (get-remove nat_list_cmp_total m (spelling p) text
    ∙ elim (eq_by_cmp (slice_cmp nat_cmp) text (spelling p)) as (λ b. cond b None (get m text) ≡ None) [ true ↦ refl | false ↦ gone ])

removed_gone : (ps : List Path) (m : ShelfFiles) (text : List ℕ) → is_among (map spelling ps) text ≡ true → get (without_in ps m) text ≡ None
unfolding without_in
removed_gone [] m text among = cc
removed_gone (p ∷ ps) m text among =
    elim (eq_by_cmp (slice_cmp nat_cmp) text (spelling p)) as (λ b. eq_by_cmp (slice_cmp nat_cmp) text (spelling p) ≡ b → (b || is_among (map spelling ps) text) ≡ true → get (without_in ps (remove m (spelling p))) text ≡ None) [
      | true ↦ λ e rest. gone_stays ps (remove m (spelling p)) text (get-remove nat_list_cmp_total m (spelling p) text ∙ ap (λ b. cond b None (get m text)) e)
      | false ↦ λ e rest. removed_gone ps (remove m (spelling p)) text rest
    ] refl among

-- what the survey has at one of the paths was written
written_there : (survey : ShelfFiles) (ps : List Path) (m : ShelfFiles) (text : List ℕ) (i : ℕ) → option_map spelling (slice_get ps i) ≡ Some text → get (with_in survey ps m) text ≡ Some (unwrap_or (get survey text) [])
unfolding with_in
written_there survey [] m text i at = cc
written_there survey (p ∷ ps) m text zero at =
    let same : spelling p ≡ text = cc in
    ap (get (insert (with_in survey ps m) (spelling p) (unwrap_or (get survey (spelling p)) []))) (sym same) ∙ get_put_same (with_in survey ps m) (spelling p) (unwrap_or (get survey (spelling p)) [])
    ∙ ap (λ t. Some (unwrap_or (get survey t) [])) same
written_there survey (p ∷ ps) m text (suc i) at =
    elim (eq_by_cmp (slice_cmp nat_cmp) text (spelling p)) as (λ b. eq_by_cmp (slice_cmp nat_cmp) text (spelling p) ≡ b → get (insert (with_in survey ps m) (spelling p) (unwrap_or (get survey (spelling p)) [])) text ≡ Some (unwrap_or (get survey text) [])) [
      | true ↦ λ e. let same : text ≡ spelling p = (same_text text (spelling p)).0 e in
          ap (get (insert (with_in survey ps m) (spelling p) (unwrap_or (get survey (spelling p)) []))) same ∙ get_put_same (with_in survey ps m) (spelling p) (unwrap_or (get survey (spelling p)) [])
          ∙ ap (λ t. Some (unwrap_or (get survey t) [])) (sym same)
      | false ↦ λ e. get-insert nat_list_cmp_total (with_in survey ps m) (spelling p) (unwrap_or (get survey (spelling p)) []) text
          ∙ ap (λ b. cond b (Some (unwrap_or (get survey (spelling p)) [])) (get (with_in survey ps m) text)) e ∙ written_there survey ps m text i at
    ] refl

-- what it hasn't was not
kept_there : (survey : ShelfFiles) (ps : List Path) (m : ShelfFiles) (text : List ℕ) → All (λ p. IsSome (get survey (spelling p))) ps → get survey text ≡ None → get (with_in survey ps m) text ≡ get m text
unfolding with_in
kept_there survey [] m text there lacking = refl
kept_there survey (p ∷ ps) m text there lacking =
    let here : IsSome (get survey (spelling p)) = All-head (λ q. IsSome (get survey (spelling q))) p ps there in
    get_put_other (with_in survey ps m) (spelling p) (unwrap_or (get survey (spelling p)) []) text (λ same. lacks (get survey (spelling p)) here (ap (get survey) (sym same) ∙ lacking))
    ∙ kept_there survey ps m text (All-tail (λ q. IsSome (get survey (spelling q))) p ps there) lacking
  where
    lacks : {X : Type 0} (o : Option X) → IsSome o → o ≡ None → ⊥
    lacks None some none = cc
    lacks (Some x) some none = cc

-- the survey's files over what is left without the strays
holds : (survey old : ShelfFiles) (paths strays : List Path) → AreStrays survey (keys old) strays → All (λ p. IsSome (get survey (spelling p))) paths
    → ((text : List ℕ) → IsSome (get survey text) → (i : ℕ) × (i < length paths) × (option_map spelling (slice_get paths i) ≡ Some text))
    → HoldsSurvey survey (with_in survey paths (without_in strays old))
holds survey old paths strays found there each path is = cases (get survey (spelling path)) refl
  where
    absent : (o : Option (List ℕ)) → is_some o ≡ false → o ≡ None
    absent None e = refl
    absent (Some x) e = cc

    gone : get survey (spelling path) ≡ None → get (without_in strays old) (spelling path) ≡ None
    gone lacking =
        elim (is_among (keys old) (spelling path)) as (λ b. is_among (keys old) (spelling path) ≡ b → get (without_in strays old) (spelling path) ≡ None) [
          | true ↦ λ e. removed_gone strays old (spelling path) (found.every path is e lacking)
          | false ↦ λ e. gone_stays strays old (spelling path) (absent (get old (spelling path)) (contains_key-keys old (spelling path) ∙ e))
        ] refl

    cases : (o : Option (List ℕ)) → get survey (spelling path) ≡ o → get (with_in survey paths (without_in strays old)) (spelling path) ≡ get survey (spelling path)
    cases None e = kept_there survey paths (without_in strays old) (spelling path) there e ∙ gone e ∙ sym e
    cases (Some bytes) e =
        let at = each (spelling path) (ap is_some e) in
        written_there survey paths (without_in strays old) (spelling path) at.0 at.2 ∙ ap (λ o. Some (unwrap_or o [])) e ∙ sym e

pub exported : (survey : ShelfFiles) (paths strays : List Path) (old mid new : Option ShelfFiles) → IfSome old (λ fs. AreStrays survey (keys fs) strays) → mid ≡ without_paths strays old → new ≡ with_paths survey paths mid
    → All (λ p. IsSome (get survey (spelling p))) paths → ((text : List ℕ) → IsSome (get survey text) → (i : ℕ) × (i < length paths) × (option_map spelling (slice_get paths i) ≡ Some text))
    → OthersStay old new → Replaces survey old new
exported survey paths strays None mid new found removed written there each others = tt
exported survey paths strays (Some old) mid new found removed written there each others =
    let is : new ≡ Some (with_in survey paths (without_in strays old)) = written ∙ ap (with_paths survey paths) (removed ∙ without_is strays old) ∙ with_is survey paths (without_in strays old) in
    subst (Replaces survey (Some old)) (sym is) (record { holds = holds survey old paths strays found there each; others = subst (OthersStay (Some old)) is others })
