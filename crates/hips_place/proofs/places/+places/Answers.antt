use Rattle.std.proofs.Common.{◌≡◌, length, map, get_or, ap, arith, rules}
use Rattle.std.proofs.lemmas.Bool.Decides.{nat_tests}
use Rattle.hips_place.specs.Place.{ArePlaces, door_of}
use Rattle.hips_place.proofs.PlacesLemmas.{empty_places, first_place, both_places, are_joined}
use Rattle.hips_place.proofs.places.+places.Goals as goal

pub serve_halves-returns : goal.serve_halves-returns
serve_halves-returns g t c =
    let content = g.B.Board.content in
    let told = door_of g.D.Door in
    let most = c.args.halves.now.most in
    let boards = c.split_at_mut-near_boards.result in
    let doors = c.split_at_mut-near_doors.result in
    let near : ArePlaces most (map content boards.0.now) (map content c.near_boards-1.given.0) (map told doors.0.now) (map told c.near_doors-1.given.0) c.join_mut-near.result.0 = search rules in
    let far : ArePlaces most (map content boards.1.now) (map content c.far_boards-1.given.0) (map told doors.1.now) (map told c.far_doors-1.given.0) c.join_mut-near.result.1 = search rules in
    rw c.worse.ensures
    (are_joined content told most c.args.boards.now _ _ _ _ c.args.doors.now _ _ _ _ _ c.split_at_mut-near_boards.ensures.value c.split_at_mut-near_doors.ensures.value
    (both_places most _ _ _ _ _ _ _ _ _ _ near far))

pub serve_places-returns-then-is_empty : goal.serve_places-returns-then-is_empty
serve_places-returns-then-is_empty g t c =
    let none : length c.args.boards.now ≡ 0 = grind (arith, nat_tests, c.is_empty.ensures, c.if-is_empty.true) in
    empty_places g.B.Board.content (door_of g.D.Door) c.args.most c.args.boards.now c.args.doors.now none (omega arith)

pub serve_places-returns-then-boards-eq1 : goal.serve_places-returns-then-boards-eq1
serve_places-returns-then-boards-eq1 g t c =
    let one : length c.args.boards.now ≡ 1 = omega arith in
    first_place g.B.Board.content (door_of g.D.Door) c.args.most c.args.boards.now c.args.doors.now
    (get_or c.args.boards.now 0 c.index-boards-0.result) c.serve_place.new.board (get_or c.args.doors.now 0 c.index-doors-0.result) c.serve_place.new.door _ _ c.serve_place.result one (omega arith)
    (ap (get_or c.args.boards.now 0) c.index-boards-0.is) (ap (get_or c.args.doors.now 0) c.index-doors-0.is) c.serve_place.ensures.place
