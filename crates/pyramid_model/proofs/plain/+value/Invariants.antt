use Rattle.std.proofs.Common.{◌+◌, ◌-◌}
use Rattle.pyramid_model.proofs.plain.+value.Given as goal

abbrev pub decreases-value : goal.decreases-value
decreases-value l = l.shape.now.top + l.shape.now.n - l.order
