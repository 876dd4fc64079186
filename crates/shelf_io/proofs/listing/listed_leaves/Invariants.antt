use Rattle.std.proofs.Common.{take, map, string_bytes}
use Rattle.shelf_io.proofs.ListedLemmas.{Found}
use Rattle.shelf_io.proofs.listing.listed_leaves.Given as goal

abbrev pub invariant-loop-path : goal.invariant-loop-path
invariant-loop-path l = Found l.top (map string_bytes (take l.path-index l.paths)) l.leaves.items
