use Rattle.std.proofs.Common.{◌≡◌, ◌≤◌, ◌<◌, subst, sym, ◌∙◌}
use Rattle.std.specs.Prelude.{All}
use Rattle.healpix_nested.specs.Cells.{cell_count}
use Rattle.dirty_plan.specs.Dirty.{steps_after}
use Rattle.generation.proofs.Pyramids.{fits_shape, kept_none, work_of_all}
use Rattle.generation.specs.Files.{leaf_map}
use Rattle.generation.proofs.Stood.{none_stood}
use Rattle.generation.proofs.pyramid.Pyramid.of.Goals as goal

pub levels_above-requires-clause-numbers : goal.levels_above-requires-clause-numbers
levels_above-requires-clause-numbers g c κs within = fits_shape c.args.shape c.args.leaves c.requires c.in_ok-numbers.ensures.tiles

pub levels_above-requires-clause-cells : goal.levels_above-requires-clause-cells
levels_above-requires-clause-cells g c κs within =
    subst (λ xs. All (λ leaf. leaf < cell_count c.args.shape.top) xs) (sym (c.deref.ensures.value ∙ c.in_ok-numbers.ensures.numbers)) c.requires.cells

pub levels_above-requires-clause-before : goal.levels_above-requires-clause-before
levels_above-requires-clause-before g c κs within =
    kept_none c.args.shape c.args.leaves c.deref.result.now (c.deref.ensures.value ∙ c.in_ok-numbers.ensures.numbers)

pub returns-clause-counted : goal.returns-clause-counted
returns-clause-counted g c =
    subst (λ n. c.levels_above.new.steps ≡ steps_after c.args.steps.now n) (work_of_all c.args.shape c.args.leaves c.deref.result.now (c.deref.ensures.value ∙ c.in_ok-numbers.ensures.numbers)) c.in_ok-levels.ensures.counted

pub returns-clause-steps : goal.returns-clause-steps
returns-clause-steps g c =
    subst (λ n. c.levels_above.new.steps ≤ steps_after c.args.steps.now n) (work_of_all c.args.shape c.args.leaves c.deref.result.now (c.deref.ensures.value ∙ c.in_ok-numbers.ensures.numbers)) c.in_ok-levels.ensures.steps

pub returns-in_err-levels-clause-steps : goal.returns-in_err-levels-clause-steps
returns-in_err-levels-clause-steps g c =
    subst (λ n. c.levels_above.new.steps ≤ steps_after c.args.steps.now n) (work_of_all c.args.shape c.args.leaves c.deref.result.now (c.deref.ensures.value ∙ c.in_ok-numbers.ensures.numbers)) c.levels_above.ensures.steps

pub invariant_of-result : goal.invariant_of-result
invariant_of-result g c = record {
  known = c.levels_above.ensures.known;
  fits = c.requires;
  numbers = fits_shape c.args.shape c.args.leaves c.requires c.in_ok-numbers.ensures.tiles;
  tiles = c.in_ok-numbers.ensures.tiles;
  levels_are = c.in_ok-levels.ensures.levels;
}

pub levels_above-requires-clause-stood : goal.levels_above-requires-clause-stood
levels_above-requires-clause-stood g c κs within = none_stood c.args.shape (leaf_map c.args.leaves) c.deref.result.now
