use Rattle.std.proofs.Common.{sym, ◌∙◌}
use Rattle.std.proofs.lemmas.Bool.{false≢true}
use Rattle.mirror_frame.proofs.Heads.{head_fits, nothing_said}
use Rattle.mirror_frame.proofs.reading.judge_head.Goals as goal

pub returns-else-fits_prefix-clause-none : goal.returns-else-fits_prefix-clause-none
returns-else-fits_prefix-clause-none c = λ _ n prefix says fits.
    false≢true (sym c.if-fits_prefix.false ∙ c.fits_prefix.ensures.1 (head_fits c.args.due c.in-Some.head _ (c.in-Some.ensures.exact n prefix says) fits))

pub returns-in-None-clause-none : goal.returns-in-None-clause-none
returns-in-None-clause-none c = λ _ n prefix says fits. nothing_said _ (c.in-None.ensures.exact n prefix says)
