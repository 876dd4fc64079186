use Rattle.std.proofs.Common.{arith, rules}
use Rattle.std.specs.Io.KnownBytes.{Keeps}
use Rattle.std.proofs.KnownBytes.{Keeps-trans}
use Rattle.std_link.proofs.Unchanged.{nothing_appended}
use Rattle.std_link.proofs.stream.StdStreamSink.write_parts.Goals as goal

pub returns-in-Ok-eq0-clause-kept : goal.returns-in-Ok-eq0-clause-kept
returns-in-Ok-eq0-clause-kept g c =
    let kept : Keeps (g.W.Write.contents c.args.self.now.stream) (g.W.Write.contents c.fail.new.self.stream) =
    rw c.fail.ensures.kept (Keeps-trans _ _ _ c.loop.invariant.kept (rw (← c.self.view_is) (nothing_appended _ _ _ _ (omega arith) c.in-Ok-eq0.ensures.bytes))) in
    search rules
