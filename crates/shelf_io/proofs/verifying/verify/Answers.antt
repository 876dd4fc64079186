use Rattle.std.proofs.Common.{◌≡◌, ◌<◌, length, List, ℕ, ◌∙◌, ap, subst, arith, Option, Some, None}
use Rattle.std.specs.Prelude.{IfSome, IsSome, slice_get, option_map, fold}
use Rattle.std.specs.FinMap.{get, keys}
use Rattle.survey_link.specs.Shelf.{ShelfFiles}
use Rattle.tile_path.specs.Spelling.{IsPath, spelling}
use Rattle.tile_path.specs.declared.path.Path.{Path}
use Rattle.generation.specs.Files.{paths_in, files_in}
use Rattle.shelf_io.specs.Survey.{IsFirstDifference, HoldsSurvey}
use Rattle.shelf_io.specs.Listed.{AreStrays}
use Rattle.shelf_io.specs.Comparing.{first_path, first_after}
use Rattle.shelf_io.proofs.CompareLemmas.{first_differs, none_differs}
use Rattle.shelf_io.proofs.verifying.verify.Goals as goal

told_first : (survey : ShelfFiles) (files : Option ShelfFiles) (paths strays : List Path) (first : Path)
    → ((text : List ℕ) → IsSome (get survey text) → (i : ℕ) × (i < length paths) × (option_map spelling (slice_get paths i) ≡ Some text))
    → IsPath first → IfSome files (λ fs. AreStrays survey (keys fs) strays) → IfSome files (λ fs. Some first ≡ fold (first_after survey fs) (first_path strays) paths) → IfSome files (λ fs. IsFirstDifference survey fs first)
told_first survey None paths strays first each is found result = tt
told_first survey (Some fs) paths strays first each is found result = first_differs survey fs paths strays found each first is result

told_none : (survey : ShelfFiles) (files : Option ShelfFiles) (paths strays : List Path)
    → ((text : List ℕ) → IsSome (get survey text) → (i : ℕ) × (i < length paths) × (option_map spelling (slice_get paths i) ≡ Some text))
    → IfSome files (λ fs. AreStrays survey (keys fs) strays) → IfSome files (λ fs. None ≡ fold (first_after survey fs) (first_path strays) paths) → IfSome files (λ fs. HoldsSurvey survey fs)
told_none survey None paths strays each found result = tt
told_none survey (Some fs) paths strays each found result = none_differs survey fs paths strays found each result

pub returns-in-Some-clause-verdict : goal.returns-in-Some-clause-verdict
returns-in-Some-clause-verdict g c =
    let survey = files_in c.args.generation.now in
    let paths = paths_in c.args.generation.now in
    let strays = c.in_ok-strays.strays.items in
    let begun : c.first_path.result ≡ first_path strays = c.first_path.ensures.first ∙ ap first_path c.deref.ensures.value in
    let told : IfSome (g.H.Shelf.files c.args.shelf.now) (λ fs. Some c.in-Some.path ≡ fold (first_after survey fs) (first_path strays) paths) =
    subst (λ o. IfSome o (λ fs. Some c.in-Some.path ≡ fold (first_after survey fs) (first_path strays) paths)) c.shelf_strays.ensures.kept
    (subst (λ f. IfSome (g.H.Shelf.files c.shelf_strays.new.shelf) (λ fs. Some c.in-Some.path ≡ fold (first_after survey fs) f paths)) begun
    (subst (λ r. IfSome (g.H.Shelf.files c.shelf_strays.new.shelf) (λ fs. r ≡ fold (first_after survey fs) c.first_path.result paths)) c.in-Some.is c.in_ok-first.ensures.first)) in
    told_first survey (g.H.Shelf.files c.args.shelf.now) paths strays c.in-Some.path
    (λ text some. let at = c.file_count-count.ensures.each text some in (at.0, omega (arith, at.1, c.file_count-count.ensures.paths), at.2))
    (subst (λ o. IfSome o IsPath) c.in-Some.is c.in_ok-first.ensures.path) c.in_ok-strays.ensures.strays told

pub returns-clause-verdict : goal.returns-clause-verdict
returns-clause-verdict g c =
    let survey = files_in c.args.generation.now in
    let paths = paths_in c.args.generation.now in
    let strays = c.in_ok-strays.strays.items in
    let begun : c.first_path.result ≡ first_path strays = c.first_path.ensures.first ∙ ap first_path c.deref.ensures.value in
    let told : IfSome (g.H.Shelf.files c.args.shelf.now) (λ fs. None ≡ fold (first_after survey fs) (first_path strays) paths) =
    subst (λ o. IfSome o (λ fs. None ≡ fold (first_after survey fs) (first_path strays) paths)) c.shelf_strays.ensures.kept
    (subst (λ f. IfSome (g.H.Shelf.files c.shelf_strays.new.shelf) (λ fs. None ≡ fold (first_after survey fs) f paths)) begun
    (subst (λ r. IfSome (g.H.Shelf.files c.shelf_strays.new.shelf) (λ fs. r ≡ fold (first_after survey fs) c.first_path.result paths)) c.in-None.is c.in_ok-first.ensures.first)) in
    told_none survey (g.H.Shelf.files c.args.shelf.now) paths strays
    (λ text some. let at = c.file_count-count.ensures.each text some in (at.0, omega (arith, at.1, c.file_count-count.ensures.paths), at.2))
    c.in_ok-strays.ensures.strays told
