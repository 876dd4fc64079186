use Rattle.std.proofs.Common.{◌∙◌, arith}
use Rattle.hips_place.proofs.DoorsLemmas.{as_seated, serves_apart, serves_doors}
use Rattle.hips_place.proofs.doors.serve_seats.Goals as goal

pub returns-in-Ok-meet_first-clause-served : goal.returns-in-Ok-meet_first-clause-served
returns-in-Ok-meet_first-clause-served g c = λ state are.
    let a = as_seated c.args.seats.items c.args.most _ _ _ _ c.serve_places-end.result (c.as_mut_slice-boards.ensures.value ∙ c.in-Ok.ensures) c.serve_places-end.ensures in
    serves_doors state c.args.seats.items are c.args.most _ _ _ c.serve_places-end.result a c.places_are_own.ensures c.each_is_one_seats.ensures (omega (arith, c.requires.same, c.requires.some)) c.in-Ok-meet_first.ensures

pub returns-in-Ok-clause-served : goal.returns-in-Ok-clause-served
returns-in-Ok-clause-served g c = λ state are.
    let a = as_seated c.args.seats.items c.args.most _ _ _ _ c.serve_places-end.result (c.as_mut_slice-boards.ensures.value ∙ c.in-Ok.ensures) c.serve_places-end.ensures in
    serves_apart state c.args.seats.items are c.args.most _ _ _ c.serve_places-end.result a
