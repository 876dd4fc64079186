use Rattle.std.proofs.Common.{◌≡◌, ◌+◌, ◌-◌, ◌∷◌, length, take, drop, ◌∙◌, ap, sym, arith}
use Rattle.std.specs.Prelude.{◌==◌}
use Rattle.std.proofs.lemmas.Grind.{common_steps}
use Rattle.hips_catalog.specs.Reading.{tab, fields}
use Rattle.hips_catalog.proofs.Splitting.{uncut, cut_at}
use Rattle.hips_catalog.proofs.read.cut.Goals as goal

pub returns-in_err-at : goal.returns-in_err-at
returns-in_err-at c = rw c.from_residual.ensures (uncut (λ byte. byte == tab) c.args.text.now (sym c.in_err-at.ensures))

pub returns : goal.returns
returns c =
    let some = cut_at (λ byte. byte == tab) c.args.text.now 0 c.in_ok-at.at (sym c.in_ok-at.ensures) in
    let whole : take (length c.args.text.now - (c.in_ok-at.at + 1)) (drop (c.in_ok-at.at + 1) c.args.text.now) ≡ drop (c.in_ok-at.at + 1) c.args.text.now = grind (arith, common_steps) in
    some ∙ ap (λ xs. take c.in_ok-at.at c.args.text.now ∷ fields xs) (sym whole)
