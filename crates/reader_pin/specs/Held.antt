-- The state that a board holds: none, the last one that it has seen, or an earlier one.
use Rattle.reader_pin.specs.declared.held.Held.{Held}
use Rattle.reader_pin.specs.declared.held.Held.TheVariants.{Nothing, Last, Earlier}

-- what is held once that state isn't the last any more
abbrev pub held_behind : {S : Type 0} → S → Held S → Held S
held_behind last Nothing = Nothing
held_behind last Last = Earlier last
held_behind last (Earlier state) = Earlier state
