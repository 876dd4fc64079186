use Rattle.std.proofs.Common.{sym, ◌∙◌, rules}
use Rattle.std.specs.Prelude.{Some, None, [], ◌∷◌, codes}
use Rattle.std.proofs.lemmas.Slice.Eq.{strip_suffix_is}
use Rattle.std.proofs.lemmas.Bool.Decides.{Decides-eqb}
use Rattle.hips_mirror.proofs.LineLemmas.{no_line, no_word, parts_are, tells_by, untold}
use Rattle.hips_mirror.proofs.description.split_properties.Goals as goal

pub returns-in_err-line-clause-none : goal.returns-in_err-line-clause-none
returns-in_err-line-clause-none c = λ _. no_line c.args.body.now (strip_suffix_is Decides-eqb c.args.body.now (10 ∷ []) None c.in_err-line.ensures.cases)

pub returns-in_err-front-clause-none : goal.returns-in_err-front-clause-none
returns-in_err-front-clause-none c = λ _ text digits tells.
    no_word c.args.body.now c.in_ok-line.line.now text digits (strip_suffix_is Decides-eqb c.args.body.now (10 ∷ []) (Some c.in_ok-line.line) c.in_ok-line.ensures.cases) tells (c.in_err-front.ensures.none (search rules))

pub returns-in_err-text-clause-none : goal.returns-in_err-text-clause-none
returns-in_err-text-clause-none c = λ _ text digits tells.
    let is = strip_suffix_is Decides-eqb c.args.body.now (10 ∷ []) (Some c.in_ok-line.line) c.in_ok-line.ensures.cases in
    let space = c.in_ok-front.ensures.space in
    strip_suffix_is Decides-eqb c.in_ok-front.front.now (codes "survey_leaves = ") None c.in_err-text.ensures.cases text
    (parts_are c.args.body.now c.in_ok-line.line.now text digits is tells c.in_ok-front.front.now c.in_ok-front.digits.now space.0 c.in_ok-front.ensures.whole space.1 c.in_ok-front.ensures.word).0

pub returns-then-is_count-clause-told : goal.returns-then-is_count-clause-told
returns-then-is_count-clause-told c =
    tells_by c.args.body.now c.in_ok-line.line.now c.in_ok-front.front.now c.in_ok-front.digits.now c.in_ok-text.text.now
    (strip_suffix_is Decides-eqb c.args.body.now (10 ∷ []) (Some c.in_ok-line.line) c.in_ok-line.ensures.cases) c.in_ok-front.ensures.whole
    (strip_suffix_is Decides-eqb c.in_ok-front.front.now (codes "survey_leaves = ") (Some c.in_ok-text.text) c.in_ok-text.ensures.cases)
    (sym c.is_count.ensures ∙ c.if-is_count.true)

pub returns-else-is_count-clause-none : goal.returns-else-is_count-clause-none
returns-else-is_count-clause-none c = λ _.
    untold c.args.body.now c.in_ok-line.line.now c.in_ok-front.front.now c.in_ok-front.digits.now c.in_ok-front.ensures.space.0 c.in_ok-text.text.now
    (strip_suffix_is Decides-eqb c.args.body.now (10 ∷ []) (Some c.in_ok-line.line) c.in_ok-line.ensures.cases) c.in_ok-front.ensures.whole c.in_ok-front.ensures.space.1 c.in_ok-front.ensures.word
    (strip_suffix_is Decides-eqb c.in_ok-front.front.now (codes "survey_leaves = ") (Some c.in_ok-text.text) c.in_ok-text.ensures.cases)
    (sym c.is_count.ensures ∙ c.if-is_count.false)
