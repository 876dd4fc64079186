use Rattle.std.proofs.Common.{◌≡◌, sym, ◌∙◌, arith}
use Rattle.std.proofs.lemmas.Bool.{false≢true}
use Rattle.std.proofs.lemmas.Slice.Eq.{bytes_eq-Decides}
use Rattle.survey_conf.specs.Properties.{properties_text}
use Rattle.hips_mirror.proofs.LineLemmas.{counted_so, counted_other, counted_none}
use Rattle.hips_mirror.proofs.description.count_told.Goals as goal

pub returns-then-eq : goal.returns-then-eq
returns-then-eq c =
    let file : c.as_slice.result.now ≡ properties_text c.args.conf.now c.in-Some.leaves = c.as_slice.ensures.value ∙ c.in_ok-properties-in-Some.ensures in
    let same : c.as_slice.result.now ≡ c.args.body.now = (bytes_eq-Decides c.as_slice.result.now c.args.body.now).0 (sym c.eq.ensures ∙ c.if-eq.true) in
    counted_so c.args.conf.now c.args.body.now c.requires.0 c.args.digits.now c.requires.1 c.in-Some.leaves (grind arith) c.in-Some.ensures.spelled (sym same ∙ file)

pub returns-in-Some : goal.returns-in-Some
returns-in-Some c =
    let file : c.as_slice.result.now ≡ properties_text c.args.conf.now c.in-Some.leaves = c.as_slice.ensures.value ∙ c.in_ok-properties-in-Some.ensures in
    counted_other c.args.conf.now c.args.body.now c.requires.0 c.args.digits.now c.requires.1 c.in-Some.leaves (grind arith) c.in-Some.ensures.spelled
    (λ is. false≢true (sym c.if-eq.false ∙ c.eq.ensures ∙ (bytes_eq-Decides c.as_slice.result.now c.args.body.now).1 (file ∙ sym is)))

pub returns : goal.returns
returns c = counted_none c.args.conf.now c.args.body.now c.requires.0 c.args.digits.now c.requires.1 c.in-None.ensures.spelled
