use Rattle.std.proofs.Common.{◌≡◌, ℕ, ◌+◌, ◌≤◌, List, [], ◌∷◌, ◌++◌, map, take, length, string_bytes, sym, ap, ◌∙◌, subst, arith}
use Rattle.std.specs.Prelude.{String}
use Rattle.std.specs.declared.alloc.Global.{Global}
use Rattle.std.specs.List.{cons_option}
use Rattle.std.proofs.lemmas.Grind.{common_steps}
use Rattle.std.proofs.lemmas.List.{append-nil}
use Rattle.generation.specs.Files.{files_in}
use Rattle.shelf_io.specs.Listed.{AreStrays}
use Rattle.shelf_io.proofs.ListedLemmas.{map_more}
use Rattle.shelf_io.proofs.StrayLemmas.{stray_next}
use Rattle.shelf_io.proofs.strays.strays_among.Goals as goal
use Rattle.shelf_io.proofs.strays.strays_among.Goals.{in-Some+in_ok-push, in_default}

pub loop-text-preserved : goal.loop-text-preserved
loop-text-preserved c =
    let more : map string_bytes (take (c.loop-text.text-index + 1) c.args.paths.now) ≡ map string_bytes (take c.loop-text.text-index c.args.paths.now) ++ c.as_bytes.result.now ∷ [] =
    map_more string_bytes c.args.paths.now c.loop-text.text-index c.text-item.result c.loop-text-test.true c.text-item.is ∙ ap (λ text. map string_bytes (take c.loop-text.text-index c.args.paths.now) ++ text ∷ []) (sym c.as_bytes.ensures.value) in
    let next : c.match-stray_at.strays.items ≡ c.loop-text.strays.items ++ cons_option c.stray_at.result [] =
    elim c.match-stray_at.branch [
      | in-Some+in_ok-push w ↦ ap (λ v. v.items) w.strays-is ∙ w.in_ok-push.ensures.items ∙ ap (λ o. c.loop-text.strays.items ++ cons_option o []) (sym w.in-Some.is)
      | in_default w ↦ ap (λ v. v.items) w.strays-is ∙ sym (append-nil c.loop-text.strays.items) ∙ ap (λ o. c.loop-text.strays.items ++ cons_option o []) (sym w.in_default.is)
    ] in
    stray_next (files_in c.args.generation.now) _ _ c.loop-text.strays.items c.match-stray_at.strays.items c.as_bytes.result.now c.stray_at.result more
    c.stray_at.ensures.path c.stray_at.ensures.spelled c.stray_at.ensures.lacking c.stray_at.ensures.none c.loop-text.invariant next

whole : (paths : List (String Global)) (i : ℕ) → length paths ≤ i → take i paths ≡ paths
whole paths i h = grind (arith, common_steps)

pub returns : goal.returns
returns c =
    subst (λ paths. AreStrays (files_in c.args.generation.now) (map string_bytes paths) c.loop-text.strays.items) (whole c.args.paths.now c.loop-text.text-index c.loop-text-test.false) c.loop-text.invariant
