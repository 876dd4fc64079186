use Rattle.std.proofs.Common.{◌≡◌, ◌*◌, ◌^◌, ◌≤◌, take}
use Rattle.std.specs.Prelude.{sum_by}
use Rattle.generation.specs.Files.{paths_in}
use Rattle.survey_commands.specs.Make.{file_sum}
use Rattle.survey_commands.proofs.summary.sum_files.Given as goal

abbrev pub invariant-loop-i : goal.invariant-loop-i
invariant-loop-i l = record {
  so_far : l.sum ≡ sum_by (file_sum l.generation) (take l.i (paths_in l.generation));
  small : l.sum ≤ l.i * 2 ^ 72;
}
