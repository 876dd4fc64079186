-- What is written is the text of the number.
use Rattle.std.proofs.Common.{rules, List, ℕ, ap, subst}
use mir.Syntax.{w32, w64}
use mir.Val.{SFits, to_z, of_z}
use Rattle.std.specs.Fmt.{HasWritten}
use Rattle.std.proofs.lemmas.Int.{to_z-of_z}
use Rattle.decimal_scale.specs.Real.{DecimalNumber}
use Rattle.decimal_scale.proofs.Writing.{text_of_pieces}
use Rattle.decimal_scale.proofs.decimal.DecimalDisplay.fmt.Goals as goal

pub returns-clause-writes : goal.returns-clause-writes
returns-clause-writes g c = λ plain ok.
    let long : SFits w64 c.self.inside.mantissa = search rules in
    let short : SFits w32 c.self.inside.exp = search rules in
    subst (λ (text : List ℕ). HasWritten {W = g.row.W.Denot} g.W.Write.write_str_gives c.args.f.now text c.write.new.self)
    (text_of_pieces c.args.self.now (to_z w64 (of_z w64 c.self.inside.mantissa)) c.self.inside.mantissa (to_z w32 (of_z w32 c.self.inside.exp)) c.self.inside.exp
    (to_z-of_z w64 c.self.inside.mantissa long) (ap (λ (number : DecimalNumber). number.mantissa) c.self.view_is)
    (to_z-of_z w32 c.self.inside.exp short) (ap (λ (number : DecimalNumber). number.exp) c.self.view_is))
    (c.write.ensures.writes plain ok)
