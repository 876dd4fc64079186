use Rattle.std.proofs.Common.{◌∷◌, ◌+◌, ◌-◌, length, take, drop, sym, ap, ◌∙◌, arith, length-drop}
use Rattle.std.proofs.lemmas.List.{take_all}
use Rattle.survey_conf.specs.Lines.{lines}
use Rattle.survey_conf.proofs.LineLemmas.{lines_first, lines_only}
use Rattle.survey_conf.proofs.line.first_line.Goals as goal

pub returns-in-Some-clause-lines : goal.returns-in-Some-clause-lines
returns-in-Some-clause-lines c =
    let text = c.args.text.now in
    let at = c.in-Some.at in
    lines_first text at (sym c.place_of.ensures ∙ c.in-Some.is)
    ∙ ap (λ rest. take at text ∷ lines rest)
    (sym (take_all (length text - (at + 1)) (drop (at + 1) text) (omega (arith, length-drop (at + 1) text))))

pub returns-in-None-clause-lines : goal.returns-in-None-clause-lines
returns-in-None-clause-lines c = lines_only c.args.text.now c.requires (sym c.place_of.ensures ∙ c.in-None.is)
