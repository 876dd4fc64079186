use Rattle.std.proofs.Common.{◌≡◌, map, string_bytes}
use Rattle.memory_link.proofs.mem_shelf.paths.Given as goal

abbrev pub invariant-loop-path : goal.invariant-loop-path
invariant-loop-path l = map string_bytes l.paths.items ≡ map (λ path. string_bytes path.now) l.yielded
