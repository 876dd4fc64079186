-- Laws of a board's seat.
use Rattle.std.proofs.Common.{◌≡◌, ◌∙◌, ◌∷◌, [], refl, sym, ap, subst}
use Rattle.survey_core.specs.History.{SurveyState, Begins}
use Rattle.survey_core.specs.HistoryLaws.{begins_itself, begins_trans}
use Rattle.reader_pin.specs.Board.{BoardContent, IsOwned, KeepsSeat, holding_last, holding_none}
use Rattle.reader_pin.specs.Solo.{after_event}

pub keeps_itself : (board : BoardContent) → IsOwned board → KeepsSeat board board
keeps_itself board owned = record { seat = refl; owners = begins_itself board.owners; owned = owned }

pub keeps_trans : (old mid new : BoardContent) → KeepsSeat old mid → KeepsSeat mid new → KeepsSeat old new
keeps_trans old mid new one two = record {
  seat = two.seat ∙ one.seat;
  owners = begins_trans old.owners mid.owners new.owners one.owners two.owners;
  owned = two.owned;
}

-- what it holds changes nothing of that
pub owned_holding : (board : BoardContent) → IsOwned board → IsOwned (holding_last board)
owned_holding board owned = record { each = owned.each; seated = owned.seated; own = owned.own }

pub keeps_holding : (old board : BoardContent) → KeepsSeat old board → KeepsSeat old (holding_last board)
keeps_holding old board keeps = record { seat = keeps.seat; owners = keeps.owners; owned = owned_holding board keeps.owned }

pub keeps_holding_none : (old new : BoardContent) → new ≡ holding_none old → IsOwned new → KeepsSeat old new
keeps_holding_none old new is owned = record {
  seat = ap (λ (b : BoardContent). b.seat) is;
  owners = subst (λ (b : BoardContent). Begins old.owners b.owners) (sym is) (begins_itself old.owners);
  owned = owned;
}

-- nor does an event of its own
pub keeps_event : (old new : BoardContent) (state : SurveyState) → new ≡ after_event state old → IsOwned new → KeepsSeat old new
keeps_event old new state is owned = record {
  seat = ap (λ (b : BoardContent). b.seat) is;
  owners = (let begins : Begins old.owners new.owners = record { rest = old.seat.number ∷ []; is = ap (λ (b : BoardContent). b.owners) is } in begins);
  owned = owned;
}
