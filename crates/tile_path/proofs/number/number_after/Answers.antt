use Rattle.std.proofs.Common.{None, Some, sym, ◌∙◌, arith}
use Rattle.std.proofs.lemmas.Bool.Decides.{Decides-eqb}
use Rattle.std.proofs.lemmas.Slice.Eq.{strip_prefix_is}
use Rattle.tile_path.proofs.NumberLemmas.{no_word, no_number, number_found}
use Rattle.tile_path.proofs.number.number_after.Goals as goal

pub returns-in_err-numbered : goal.returns-in_err-numbered
returns-in_err-numbered c =
    rw c.from_residual.ensures
    (no_word c.args.text.now c.args.word.now (strip_prefix_is Decides-eqb c.args.text.now c.args.word.now None c.in_err-numbered.ensures.cases))

pub returns-in_err-number : goal.returns-in_err-number
returns-in_err-number c =
    rw c.from_residual-in_err-number.ensures
    (no_number c.args.text.now c.args.word.now c.in_ok-numbered.numbered.now c.digits_end.result
    (strip_prefix_is Decides-eqb c.args.text.now c.args.word.now (Some c.in_ok-numbered.numbered) c.in_ok-numbered.ensures.cases)
    c.digits_end.ensures.within c.digits_end.ensures.digits c.digits_end.ensures.ends
    (rw c.split_at.ensures.front at c.in_err-number.ensures.spelled))

pub returns : goal.returns
returns c =
    rw c.split_at.ensures.back
    (number_found c.args.text.now c.args.word.now c.in_ok-numbered.numbered.now c.digits_end.result c.in_ok-number.number
    (strip_prefix_is Decides-eqb c.args.text.now c.args.word.now (Some c.in_ok-numbered.numbered) c.in_ok-numbered.ensures.cases)
    c.digits_end.ensures.within c.digits_end.ensures.ends (omega arith) (sym c.split_at.ensures.front ∙ c.in_ok-number.ensures.spelled))
