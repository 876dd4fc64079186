use Rattle.shared_history.proofs.Owning as owning
use Rattle.shared_history.proofs.laws.places_are_own.Goals as goal

pub returns : goal.returns
returns c = owning.places_are_own
