use Rattle.std.proofs.Common.{◌≡◌, ℕ, sym, subst}
use Rattle.std.specs.Prelude.{All}
use Rattle.shared_history.specs.Histories.{SeatContent, one_state}
use Rattle.survey_core.specs.State.{StateContent}
use Rattle.hips_place.proofs.doors.serve_named.Goals as goal

pub returns-in-Ok-clause-served : goal.returns-in-Ok-clause-served
returns-in-Ok-clause-served g c =
    let opened = c.in-Ok.ensures in
    c.serve_seats-ended.ensures.served c.args.state (record {
      numbers = rw opened.places opened.numbers;
      seen = subst (λ (n : ℕ). All (λ (seat : SeatContent StateContent). seat.seen ≡ one_state n c.args.state) c.in-Ok.seats.items) (sym opened.places) opened.seen;
      batches = c.requires.first.0;
      tip = c.requires.first.1;
    })
