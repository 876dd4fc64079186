use Rattle.std.proofs.Common.{◌≡◌, Some, None, slice_get, refl, sym}
use Rattle.memory_link.proofs.Doors.{none_waits, takes_next}
use Rattle.memory_link.proofs.mem_door.MemDoorDoor.accept.Goals as goal

pub returns-in-Ok-clause-told : goal.returns-in-Ok-clause-told
returns-in-Ok-clause-told c =
    let found : slice_get c.self.inside.connections.items c.self.inside.next ≡ Some c.in-Some.ends.now = rw (← c.deref.ensures.value) (sym c.in-Some.ensures) in
    rw (← c.self.view_is) (takes_next c.self.inside.connections.items c.self.inside.returned.items c.self.inside.next c.in-Some.ends.now c.in-Ok.numbered c.self.invariant.0 found c.in-Ok.ensures)

pub returns-in-None-clause-told : goal.returns-in-None-clause-told
returns-in-None-clause-told c =
    let none : slice_get c.self.inside.connections.items c.self.inside.next ≡ None = rw (← c.deref.ensures.value) (sym c.in-None.ensures) in
    rw (← c.self.view_is) (none_waits c.self.inside.connections.items c.self.inside.next none, refl)
