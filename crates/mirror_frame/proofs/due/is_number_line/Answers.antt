use Rattle.std.proofs.Common.{rules}
use Rattle.std.specs.Prelude.{Some, None, [], ◌∷◌}
use Rattle.std.proofs.lemmas.Slice.Eq.{strip_suffix_is}
use Rattle.std.proofs.lemmas.Bool.{false≢true}
use Rattle.std.proofs.lemmas.Bool.Decides.{Decides-eqb}
use Rattle.mirror_frame.proofs.Lines.{line_is}
use Rattle.mirror_frame.proofs.due.is_number_line.Goals as goal

pub returns-in-Some : goal.returns-in-Some
returns-in-Some c =
    line_is c.args.line.now c.in-Some.digits.now _ _ (strip_suffix_is Decides-eqb c.args.line.now (10 ∷ []) (Some c.in-Some.digits) c.in-Some.ensures.cases) (search rules)

pub returns-in-None : goal.returns-in-None
returns-in-None c = (λ no. absurd (false≢true no), λ e. absurd (strip_suffix_is Decides-eqb c.args.line.now (10 ∷ []) None c.in-None.ensures.cases _ e))
