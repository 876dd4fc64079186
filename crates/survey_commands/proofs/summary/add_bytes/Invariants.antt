use Rattle.std.proofs.Common.{◌≡◌, ◌+◌, ◌*◌, ◌≤◌, take, sum}
use Rattle.survey_commands.proofs.summary.add_bytes.Given as goal

abbrev pub invariant-loop-byte : goal.invariant-loop-byte
invariant-loop-byte l = record {
  so_far : l.total ≡ l.before + sum (take l.byte-index l.bytes);
  small : l.total ≤ l.before + 255 * l.byte-index;
}
