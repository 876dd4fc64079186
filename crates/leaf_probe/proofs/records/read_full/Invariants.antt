use Rattle.std.proofs.Common.{length, ◌-◌, ◌≡◌, ◌≤◌, take}
use Rattle.std.specs.Io.KnownBytes.{Consumes}
use Rattle.leaf_probe.specs.Reading.{ReadsPieces}
use Rattle.leaf_probe.proofs.records.read_full.Given as goal

abbrev pub invariant-loop-filled : goal.invariant-loop-filled
invariant-loop-filled g l = record {
  same_length : length l.buf ≡ length l.initial.buf;
  within : l.filled ≤ length l.buf;
  taken : Consumes (g.S.Source.left l.initial.source) (g.S.Source.left l.source) (take l.filled l.buf);
  reads : ReadsPieces 0 (g.S.Source.left l.initial.source) (g.S.Source.left l.source) (g.S.Source.readings l.initial.source) (g.S.Source.readings l.source);
  faults : g.S.Source.faults l.source ≡ g.S.Source.faults l.initial.source;
}

-- what is left to fill
abbrev pub decreases-loop-filled : goal.decreases-loop-filled
decreases-loop-filled g l = length l.initial.buf - l.filled
