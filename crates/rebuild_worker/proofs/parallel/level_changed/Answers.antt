use Rattle.std.proofs.Common.{◌≡◌, ◌≤◌, ◌∙◌, ap, arith, Vec, Global}
use Rattle.std.proofs.lemmas.Result.{IfOk-weaker}
use Rattle.rebuild_worker.specs.declared.named.Named.{Named}
use Rattle.rebuild_worker.specs.Level.{merges_of}
use Rattle.rebuild_worker.proofs.Levels.{level_shows}
use Rattle.rebuild_worker.proofs.parallel.level_changed.Goals as goal

pub returns-clause-pixels : goal.returns-clause-pixels
returns-clause-pixels g c =
    let n : c.shape.inside.n ≡ c.args.shape.n = ap (λ s. s.n) c.shape.view_is in
    let small : c.args.shape.n ≤ 9 = omega arith in
    IfOk-weaker _ _ _ (λ (level : Vec Named Global) is. level_shows c.args.shape c.args.sources.children.now c.args.todo.items level.items small c.requires.cells
    (is ∙ ap (merges_of c.args.shape c.args.sources.children.now) c.new.ensures)) c.merge_by.ensures
