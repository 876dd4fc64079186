use Rattle.std.proofs.Common.{◌≡◌, subst}
use Rattle.std.specs.Prelude.{All, IfOk}
use Rattle.rebuild_worker.specs.Level.{merges_of, ShowsItsCell}
use Rattle.rebuild_worker.specs.Shown.{all_shown}
use Rattle.rebuild_worker.proofs.parallel.level_parallel.Goals as goal

pub returns-clause-merges : goal.returns-clause-merges
returns-clause-merges g c = subst (λ tiles. IfOk c.level_changed.result (λ level. all_shown level.items ≡ merges_of c.args.shape tiles c.args.todo.items)) c.anew-sources.ensures.children c.level_changed.ensures.merges

pub returns-clause-pixels : goal.returns-clause-pixels
returns-clause-pixels g c = subst (λ tiles. IfOk c.level_changed.result (λ level. All (ShowsItsCell c.args.shape tiles) (all_shown level.items))) c.anew-sources.ensures.children c.level_changed.ensures.pixels

pub level_changed-requires-clause-sources : goal.level_changed-requires-clause-sources
level_changed-requires-clause-sources g c κs within = c.anew-sources.ensures.sources c.args.shape c.requires.children
