use Rattle.std.proofs.Common.{◌≡◌, ℕ, Err, length, refl, sym, ap, subst, ◌∙◌, arith}
use Rattle.std.proofs.lemmas.Result.{err_from_is_err_and}
use Rattle.fits_header.specs.Scan.{no_values}
use Rattle.fits_header.specs.Scanned.{IsScanned}
use Rattle.fits_header.proofs.OutcomeLemmas.{scanned-none, cards-read, cards-twice, cards-bad}
use Rattle.fits_header.proofs.scan.read_cards.Goals as goal

pub loop-place-init : goal.loop-place-init
loop-place-init c = scanned-none c.args.cards.now _ (c.no_values.ensures ∙ ap no_values c.begins_simple.ensures) refl

pub returns-in_err-take_card : goal.returns-in_err-take_card
returns-in_err-take_card c =
    let p = err_from_is_err_and c.from_residual.result c.from_residual.ensures.1 in
    let refused = c.in_err-take_card.ensures.refused in
    let bad = cards-bad c.args.cards.now c.loop-place.place c.loop-place-test.true c.loop-place.invariant.good refused.0 in
    p.1 ∙ ap Err (p.2 ∙ refused.1) ∙ sym bad

pub returns-in-Some : goal.returns-in-Some
returns-in-Some c =
    let all : c.loop-place.place ≡ length c.args.cards.now = omega arith in
    let P : ℕ → Type 0 = λ n. IsScanned c.args.cards.now n c.loop-place.scan in
    sym (cards-twice c.args.cards.now c.loop-place.scan c.in-Some.card (subst P all c.loop-place.invariant) c.in-Some.is)

pub returns-in-None : goal.returns-in-None
returns-in-None c =
    let all : c.loop-place.place ≡ length c.args.cards.now = omega arith in
    let P : ℕ → Type 0 = λ n. IsScanned c.args.cards.now n c.loop-place.scan in
    sym (cards-read c.args.cards.now c.loop-place.scan (subst P all c.loop-place.invariant) c.in-None.is)
