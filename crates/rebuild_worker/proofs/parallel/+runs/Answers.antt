use Rattle.std.proofs.Common.{◌≡◌, ◌-◌, ◌/◌, ◌∙◌, ap, length, subst, sym, rules, Vec, Global}
use Rattle.rebuild_worker.specs.declared.named.Named.{Named}
use Rattle.std.specs.Prelude.{All}
use Rattle.std.proofs.lemmas.List.Elements.{All-drop, All-take}
use Rattle.std.proofs.lemmas.Result.{IfOk-at_ok, IfOk-weaker}
use Rattle.rebuild_worker.specs.Level.{merges_of, IsAboveLeaves}
use Rattle.rebuild_worker.specs.Shown.{all_shown}
use Rattle.rebuild_worker.proofs.Levels.{two_runs}
use Rattle.rebuild_worker.specs.Workers.{AreRepaid}
use Rattle.rebuild_worker.proofs.Shares.{front_repays, back_repays}
use Rattle.rebuild_worker.proofs.parallel.+runs.Goals as goal

pub returns : goal.returns
returns g t c =
    let children = c.args.sources.children.now in
    let front = IfOk-at_ok (λ level. all_shown level.items ≡ merges_of c.args.shape children c.split_off.new.self) c.in_ok-first.was c.join-last.ensures.second in
    let back = IfOk-at_ok (λ level. all_shown level.items ≡ merges_of c.args.shape children c.in_ok-rest.rest) c.in_ok-last.was c.join-last.ensures.first in
    IfOk-weaker _ _ _ (λ (all : Vec Named Global) is. two_runs c.args.shape children c.in_ok-first.field-0.items c.in_ok-last.field-0.items all.items c.args.run.todo c.front_of-at.result is
    (front ∙ ap (merges_of c.args.shape children) c.in_ok-rest.ensures.front) (back ∙ ap (merges_of c.args.shape children) c.in_ok-rest.ensures.back)) c.joined.ensures

pub join-last-requires-after_bounds : goal.join-last-requires-after_bounds
join-last-requires-after_bounds g t c κs within =
    let front : AreRepaid (c.args.run.workers / 2) (length c.split_off.new.self) c.args.shape.n =
    front_repays c.args.run.workers c.len.result c.front_of-at.result c.args.shape.n c.args.run.todo c.split_off.new.self c.len.ensures c.requires.repaid c.front_of-at.ensures.within c.front_of-at.ensures.front c.in_ok-rest.ensures.front in
    let back : AreRepaid (c.args.run.workers - c.args.run.workers / 2) (length c.in_ok-rest.rest) c.args.shape.n =
    back_repays c.args.run.workers c.len.result c.front_of-at.result c.args.shape.n c.args.run.todo c.in_ok-rest.rest c.len.ensures c.requires.repaid c.front_of-at.ensures.back c.in_ok-rest.ensures.back in
    let front_cells : All (IsAboveLeaves c.args.shape) c.split_off.new.self = subst (All (IsAboveLeaves c.args.shape)) (sym c.in_ok-rest.ensures.front) (All-take (IsAboveLeaves c.args.shape) c.front_of-at.result c.args.run.todo c.requires.cells) in
    let back_cells : All (IsAboveLeaves c.args.shape) c.in_ok-rest.rest = subst (All (IsAboveLeaves c.args.shape)) (sym c.in_ok-rest.ensures.back) (All-drop (IsAboveLeaves c.args.shape) c.front_of-at.result c.args.run.todo c.requires.cells) in
    search rules
