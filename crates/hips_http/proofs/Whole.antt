-- Whole connections.
use Rattle.std.proofs.Common.{◌≡◌, inr, ℕ, List, [], Option, Some, None, IfSome, refl, ap, subst}
use Rattle.std.specs.Io.KnownBytes.{Appends}
use Rattle.std.proofs.lemmas.Grind.{common_steps}
use Rattle.std.proofs.Common.{arith}
use Rattle.survey_link.specs.Door.{Connection}
use Rattle.survey_core.specs.History.{IsHistory, Begins}
use Rattle.reader_pin.specs.Board.{BoardContent, IsOwned, holding_none}
use Rattle.reader_pin.specs.SeatLaws.{keeps_holding_none}
use Rattle.hips_http.specs.declared.served.SessionEnd.TheVariants.{OutOfMemory}
use Rattle.hips_http.specs.SessionRun.{IsServed, Goes, first_point}

-- nothing was written
pub appends_nothing : (known : Option (List ℕ)) → Appends known known []
appends_nothing None = tt
appends_nothing (Some bytes) = grind (arith, common_steps)

pub begins_same : {X : Type 0} (xs ys : List X) → ys ≡ xs → Begins xs ys
begins_same xs ys same = record { rest = []; is = grind (arith, common_steps) }

-- there was no memory at the beginning
pub no_memory_served : (old new : BoardContent) (unread : Option (List ℕ)) (connection : Connection) (steps : ℕ) → IsHistory new.opening new.history → new ≡ holding_none old
    → connection.unread ≡ unread → IfSome unread (λ input. IsServed old new input connection connection steps steps (record { end = OutOfMemory; memory_faults = 0 }))
no_memory_served old new None connection steps legal is left_is = tt
no_memory_served old new (Some input) connection steps legal is left_is =
    let same : new.history ≡ old.history = ap (λ b. b.history) is in
    let own : new.own ≡ old.own = ap (λ b. b.own) is in
    record {
      read = [];
      rest = input;
      out = [];
      own = [];
      input_is = refl;
      left_is = left_is;
      appended = appends_nothing connection.written;
      passed = [];
      passed_is = inr (refl, refl);
      own_is = grind (arith, common_steps);
      run = record {
        history = legal;
        begins = begins_same _ _ same;
        kept = same;
        requests = [];
        rest = input;
        are_requests = refl;
        last = first_point old.history;
        outputs = [];
        answered = (refl, refl);
        own_is = refl;
        memory_faults_is = refl;
        ended = (refl, refl, refl);
        flushed = refl;
        faults = record { read = refl; write = refl };
      };
      steps_are = λ _. grind arith;
    }

pub no_memory_goes : (old new : BoardContent) → IsHistory new.opening new.history → IsOwned new → new ≡ holding_none old → Goes old new
no_memory_goes old new legal owned is = record {
  conf = ap (λ b. b.conf) is;
  opening = ap (λ b. b.opening) is;
  legal = legal;
  begins = begins_same old.history new.history (ap (λ b. b.history) is);
  seat = keeps_holding_none old new is owned;
  own = [];
  own_is = (let same : new.own ≡ old.own = ap (λ b. b.own) is in grind (arith, common_steps));
  few = omega arith;
}

-- what the board held doesn't matter
pub goes_from : (old released new : BoardContent) → released ≡ holding_none old → Goes released new → Goes old new
goes_from old released new is h =
    let g : Goes (holding_none old) new = subst (λ (b : BoardContent). Goes b new) is h in
    record { conf = g.conf; opening = g.opening; legal = g.legal; begins = g.begins; seat = record { seat = g.seat.seat; owners = g.seat.owners; owned = g.seat.owned }; own = g.own; own_is = g.own_is; few = g.few }
