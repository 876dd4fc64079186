use Rattle.std.proofs.Common.{take, map, string_bytes}
use Rattle.generation.specs.Files.{files_in}
use Rattle.shelf_io.specs.Listed.{AreStrays}
use Rattle.shelf_io.proofs.strays.strays_among.Given as goal

abbrev pub invariant-loop-text : goal.invariant-loop-text
invariant-loop-text l = AreStrays (files_in l.generation) (map string_bytes (take l.text-index l.paths)) l.strays.items
