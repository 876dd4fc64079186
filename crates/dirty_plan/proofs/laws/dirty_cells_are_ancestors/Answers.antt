use Rattle.dirty_plan.proofs.LawLemmas.{dirty_ascend, dirty_contains}
use Rattle.dirty_plan.proofs.laws.dirty_cells_are_ancestors.Goals as goal

pub returns : goal.returns
returns c = record { ascending = dirty_ascend; exactly = dirty_contains }
