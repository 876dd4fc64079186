use Rattle.std.proofs.Common.{map, sym, ap, ◌∙◌}
use Rattle.std.proofs.lemmas.Iterator.Consumers.{YieldsList-end}
use Rattle.std.proofs.lemmas.Iterator.Adapters.{YieldsList-from_vec}
use Rattle.reader_pin.specs.Shared.{seated}
use Rattle.hips_place.proofs.DoorsLemmas.{map_same}
use Rattle.hips_place.proofs.doors.boards_at.Goals as goal

pub returns : goal.returns
returns g c =
    let all = YieldsList-end (YieldsList-from_vec c.args.seats.items (cc) (cc)) c.loop-seat.yielded _ c.loop-seat.yielded_by c.next.result c.next.new.self c.in-None.is c.next.ensures.steps in
    c.loop-seat.invariant ∙ ap (map seated) (sym (map_same c.loop-seat.yielded) ∙ all.0)
