use Rattle.std.proofs.Common.{◌≡◌, ◌++◌}
use Rattle.std.specs.Vec.{vec_capacity}
use Rattle.percent_encoding.specs.Percent.{percent_decode}
use Rattle.http_frame.proofs.frame.decode.Given as goal

-- what is decoded so far, and what the rest decodes to
abbrev pub invariant-loop-byte : goal.invariant-loop-byte
invariant-loop-byte l = record {
  decoded : l.path.items ++ percent_decode l.byte-iterator.bytes.now ≡ percent_decode l.encoded;
  capacity : vec_capacity l.path ≡ vec_capacity l.initial.path;
}
