use Rattle.std.specs.Prelude.{Some, None, [], ◌∷◌, codes, decimal, ◌++◌}
use Rattle.std.proofs.lemmas.Slice.Eq.{strip_prefix_is}
use Rattle.std.proofs.lemmas.Bool.{false≢true}
use Rattle.std.proofs.lemmas.Bool.Decides.{Decides-eqb}
use Rattle.mirror_frame.proofs.Lines.{body_is}
use Rattle.mirror_frame.proofs.due.is_pinned_line.Goals as goal

pub returns-in-Some : goal.returns-in-Some
returns-in-Some c =
    body_is c.args.body.now (codes "pinned ") c.in-Some.line.now (decimal c.args.pinned ++ 10 ∷ []) _ (strip_prefix_is Decides-eqb c.args.body.now (codes "pinned ") (Some c.in-Some.line) c.in-Some.ensures.cases) c.is_number_line.ensures

pub returns-in-None : goal.returns-in-None
returns-in-None c = (λ no. absurd (false≢true no), λ e. absurd (strip_prefix_is Decides-eqb c.args.body.now (codes "pinned ") None c.in-None.ensures.cases _ e))
