use Rattle.std.proofs.Common.{◌≡◌, sym, ap, ◌∙◌, arith, get_or, slice_get, Some}
use Rattle.std.proofs.lemmas.Option.{get_or_from_slice_get}
use Rattle.std.proofs.lemmas.List.Sums.{sum_by_more}
use Rattle.generation.specs.Files.{paths_in, leaf_map}
use Rattle.survey_commands.specs.Make.{file_sum}
use Rattle.survey_commands.proofs.MakeLemmas.{few_paths}
use Rattle.survey_commands.proofs.summary.sum_files.Goals as goal

pub overflow_add-sum : goal.overflow_add-sum
overflow_add-sum c =
    let few = few_paths c.args.generation.now.conf.shape (leaf_map c.args.generation.now.leaves) c.conf-conf.ensures.kept.shape in
    omega arith

pub loop-i-preserved : goal.loop-i-preserved
loop-i-preserved c =
    let generation = c.args.generation.now in
    let path = c.unwrap-path.result in
    let there : slice_get (paths_in generation) c.loop-i.i ≡ Some path = cc in
    let read : get_or (paths_in generation) c.loop-i.i path ≡ path = get_or_from_slice_get (paths_in generation) c.loop-i.i path path there in
    let same : file_sum generation (get_or (paths_in generation) c.loop-i.i path) ≡ c.sum_file-sum.result =
    ap (file_sum generation) read ∙ sym c.sum_file-sum.ensures.sum in
    let more = sum_by_more (file_sum generation) (paths_in generation) c.loop-i.i path (omega arith) in
    let so_far = c.loop-i.invariant.so_far in
    record { so_far = cc; small = omega arith }
