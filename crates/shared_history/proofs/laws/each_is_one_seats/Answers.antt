use Rattle.shared_history.proofs.Owning as owning
use Rattle.shared_history.proofs.laws.each_is_one_seats.Goals as goal

pub returns : goal.returns
returns c = owning.each_is_one_seats
