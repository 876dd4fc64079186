use Rattle.std.proofs.Common.{◌≡◌, ◌∷◌, true, false, sym, ap, ◌∙◌}
use Rattle.std.specs.Prelude.{is_some}
use Rattle.leaf_store.specs.Store.{value_at}
use Rattle.coverage_moc.specs.Cover.{MocCover, cover, leaves_under, without}
use Rattle.generation.specs.Presence.{as_in}
use Rattle.generation.proofs.Presence.{taken_in, taken_out}
use Rattle.generation.proofs.Results.{if_ok_each}
use Rattle.generation.proofs.coverage.step.Goals as goal

pub returns-in-Some-clause-rows : goal.returns-in-Some-clause-rows
returns-in-Some-clause-rows c there is =
    let has_it : is_some (value_at c.args.leaf c.args.leaves.now) ≡ true = ap is_some (sym c.in-Some.ensures.value) in
    if_ok_each c.add.result
    (λ (made : MocCover). made ≡ record { top = c.args.top; rows = cover c.args.top (c.args.leaf ∷ leaves_under c.args.top c.args.before.now.rows) })
    (λ (made : MocCover). made.rows ≡ cover c.args.top (as_in c.args.leaves.now there c.args.leaf))
    c.add.ensures
    (λ (made : MocCover) made_is. ap (λ (m : MocCover). m.rows) made_is ∙ taken_in c.leaves_decide.ensures c.leaves_come_back.ensures c.args.top c.args.leaves.now there c.args.before.now.rows c.args.leaf is has_it)

pub returns-in-None-clause-rows : goal.returns-in-None-clause-rows
returns-in-None-clause-rows c there is =
    let lacks_it : is_some (value_at c.args.leaf c.args.leaves.now) ≡ false = ap is_some (sym c.in-None.ensures.value) in
    if_ok_each c.remove.result
    (λ (made : MocCover). made ≡ record { top = c.args.top; rows = cover c.args.top (without c.args.leaf (leaves_under c.args.top c.args.before.now.rows)) })
    (λ (made : MocCover). made.rows ≡ cover c.args.top (as_in c.args.leaves.now there c.args.leaf))
    c.remove.ensures
    (λ (made : MocCover) made_is. ap (λ (m : MocCover). m.rows) made_is ∙ taken_out c.leaves_decide.ensures c.leaves_come_back.ensures c.args.top c.args.leaves.now there c.args.before.now.rows c.args.leaf is lacks_it)
