use Rattle.std.proofs.Common.{◌≡◌}
use Rattle.tcp_link.proofs.tcp_out.TcpOutSink.write_parts.Given as goal

abbrev pub invariant-loop : goal.invariant-loop
invariant-loop g l = l.self ≡ l.fn.self
