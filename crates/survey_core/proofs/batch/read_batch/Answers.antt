use Rattle.std.proofs.Common.{◌≡◌, ◌<◌, None, length, map, sym, ap, ◌∙◌, subst, arith}
use Rattle.std.specs.Prelude.{All}
use Rattle.std.proofs.lemmas.Bool.Decides.{nat_tests}
use Rattle.std.proofs.lemmas.List.{length-map}
use Rattle.dirty_plan.specs.Dirty.{steps_after}
use Rattle.edit_journal.specs.Edit.{edit_of}
use Rattle.edit_journal.specs.Leaves.{FitsEdit}
use Rattle.survey_core.specs.BatchBody.{batch_entries, tile_count}
use Rattle.survey_core.proofs.BatchLemmas.{empty_body, begun_body, whole_body, some_entry}
use Rattle.survey_core.proofs.FitsLemmas.{batch_fits}
use Rattle.survey_core.proofs.batch.read_batch.Goals as goal

pub returns-then-is_empty-clause-refused : goal.returns-then-is_empty-clause-refused
returns-then-is_empty-clause-refused c =
    let none : length c.args.body.now ≡ 0 = grind (arith, nat_tests) in
    let ends = empty_body c.args.conf.now c.args.body.now none in
    (ends.place_is, ends.fault_is)

pub loop-left-init : goal.loop-left-init
loop-left-init c =
    let some : 0 < length c.args.body.now = grind (arith, nat_tests) in
    record {
      so_far = begun_body c.args.conf.now c.new-edits.result.items c.args.body.now c.new-edits.ensures.items some;
      most = rw c.new-edits.ensures.items (omega arith);
      exactly = rw c.new-edits.ensures.items (omega arith);
      counted = omega arith;
      never_falls = omega arith;
    }

whole : (c : goal.After-loop-left) → batch_entries c.args.conf.now c.args.body.now ≡ record { edits = map edit_of c.loop-left.edits.items; fault = None }
whole c =
    let none : length c.loop-left.left.now ≡ 0 = grind (arith, nat_tests) in
    whole_body c.args.conf.now (map edit_of c.loop-left.edits.items) c.loop-left.left.now c.args.body.now none c.loop-left.invariant.so_far

pub returns-clause-read : goal.returns-clause-read
returns-clause-read c = whole c

pub returns-clause-some : goal.returns-clause-some
returns-clause-some c =
    let some : 0 < length (map edit_of c.loop-left.edits.items) =
    subst (λ entries. 0 < length entries.edits) (whole c) (some_entry c.args.conf.now c.args.body.now (ap (λ entries. entries.fault) (whole c))) in
    omega (arith, length-map c.loop-left.edits.items edit_of)

pub returns-clause-fits : goal.returns-clause-fits
returns-clause-fits c = subst (λ entries. All (FitsEdit c.args.conf.now.shape) entries.edits) (whole c) (batch_fits c.args.conf.now c.args.body.now)

pub returns-clause-steps : goal.returns-clause-steps
returns-clause-steps c = c.loop-left.invariant.exactly ∙ ap (λ entries. steps_after c.args.steps.now (tile_count entries)) (sym (whole c))
