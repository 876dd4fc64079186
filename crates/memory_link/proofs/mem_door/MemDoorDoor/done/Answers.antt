use Rattle.std.proofs.Common.{arith}
use Rattle.std.proofs.lemmas.Grind.{common_steps}
use Rattle.memory_link.proofs.Doors.{so_many}
use Rattle.memory_link.proofs.mem_door.MemDoorDoor.done.Goals as goal

pub returns-then-len-self-clause-told : goal.returns-then-len-self-clause-told
returns-then-len-self-clause-told c =
    let taken = so_many c.self.inside.connections.items 0 c.self.inside.next c.self.invariant.0 in
    grind (arith, common_steps)

pub returns-else-len-self-clause-told : goal.returns-else-len-self-clause-told
returns-else-len-self-clause-told c =
    let taken = so_many c.self.inside.connections.items 0 c.self.inside.next c.self.invariant.0 in
    grind (arith, common_steps)
