use Rattle.std.proofs.Common.{arith}
use Rattle.memory_link.proofs.Copied.{copied_then_left}
use Rattle.memory_link.proofs.mem_source.MemSourceSource.read.Goals as goal

pub returns-clause-taken : goal.returns-clause-taken
returns-clause-taken c =
    let bytes = c.self.inside.bytes.items in
    let fits = rw c.deref.ensures.value at c.min.ensures in
    let copied = rw c.deref.ensures.value at c.copy_from_slice.ensures.after in
    rw (← c.self.view_is) (copied_then_left bytes c.copy_from_slice.new.self c.args.buf.now c.self.inside.at c.min-count.result (omega (arith, fits)) copied)
