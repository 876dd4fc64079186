use Rattle.std.proofs.Common.{◌+◌, ◌-◌, ◌*◌, length}
use Rattle.hips_place.proofs.places.+places.Given as goal

abbrev pub decreases-serve_places : goal.decreases-serve_places
decreases-serve_places g l = 4 * length l.boards.now

abbrev pub decreases-serve_halves : goal.decreases-serve_halves
decreases-serve_halves g l = 4 * length l.boards.now - 1

abbrev pub decreases-serve_halves-join_mut+arg2 : goal.decreases-serve_halves-join_mut+arg2
decreases-serve_halves-join_mut+arg2 g l = 4 * length l.near_boards.now + 1

abbrev pub decreases-serve_halves-join_mut+arg3 : goal.decreases-serve_halves-join_mut+arg3
decreases-serve_halves-join_mut+arg3 g l = 4 * length l.far_boards.now + 1
