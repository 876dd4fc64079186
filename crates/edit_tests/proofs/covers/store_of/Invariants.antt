use Rattle.std.proofs.Common.{◌<◌, All}
use Rattle.std.specs.Map.{keys_of}
use Rattle.healpix_nested.specs.Cells.{cell_count}
use Rattle.edit_tests.proofs.covers.store_of.Given as goal

abbrev pub invariant-loop-leaf : goal.invariant-loop-leaf
invariant-loop-leaf l = All (λ leaf. leaf < cell_count l.fn.top) (keys_of l.store)
