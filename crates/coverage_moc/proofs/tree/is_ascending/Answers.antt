use Rattle.std.proofs.Common.{◌∙◌, refl, sym, arith, true≢false}
use Rattle.coverage_moc.proofs.CanonLemmas.{falls, rises}
use Rattle.coverage_moc.proofs.tree.is_ascending.Goals as goal

pub returns-then-at : goal.returns-then-at
returns-then-at c = (λ h. absurd (true≢false (sym h)), λ up. absurd (falls c.args.rows.now c.loop-i.i (omega arith) (omega arith) (let this = c.at.ensures in let before = c.at-in-loop-i.ensures in omega arith) up))

pub returns : goal.returns
returns c = (λ h. rises c.args.rows.now c.loop-i.i (omega arith) c.loop-i.invariant, λ up. refl)
