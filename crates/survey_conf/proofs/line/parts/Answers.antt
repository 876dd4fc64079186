use Rattle.std.proofs.Common.{◌≡◌, ◌+◌, ◌-◌, Some, length, take, drop, refl, sym, ap, ◌∙◌, arith, length-drop}
use Rattle.std.proofs.lemmas.List.{take_all}
use Rattle.survey_conf.specs.Lines.{is_equals, key_in, value_in, trimmed}
use Rattle.survey_conf.proofs.LineLemmas.{position-some, list_any-none, list_any-some}
use Rattle.survey_conf.proofs.line.parts.Goals as goal

pub returns-in-Some : goal.returns-in-Some
returns-in-Some c =
    let written = c.args.written.now in
    let at = c.in-Some.at in
    let found = sym c.place_of.ensures ∙ c.in-Some.is in
    let place = position-some is_equals written at found in
    let key : c.trimmed.result.now ≡ key_in written = c.trimmed.ensures ∙ ap (λ n. trimmed (take n written)) (sym place.0) in
    let value : c.trimmed-in-Some.result.now ≡ value_in written =
    c.trimmed-in-Some.ensures
    ∙ ap trimmed (take_all (length written - (at + 1)) (drop (at + 1) written) (omega (arith, length-drop (at + 1) written)))
    ∙ ap (λ n. trimmed (drop (n + 1) written)) (sym place.0) in
    rw (list_any-some is_equals written at found) (ap Some (λ i. (key i, value i)))

pub returns-in-None : goal.returns-in-None
returns-in-None c = rw (list_any-none is_equals c.args.written.now (sym c.place_of.ensures ∙ c.in-None.is)) refl
