use Rattle.std.proofs.Common.{◌≡◌, ◌≤◌, length, map, take}
use Rattle.http_frame.specs.Fields.{values}
use Rattle.http_frame.proofs.fields.Fields.values.Given as goal

abbrev pub invariant-loop-span : goal.invariant-loop-span
invariant-loop-span l = (map (λ value. value.now) l.values.items ≡ values l.name (take l.span-index l.self)) × (length l.values.items ≤ l.span-index)
