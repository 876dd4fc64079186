use Rattle.std.proofs.Common.{◌≡◌, length, refl, ◌∙◌, arith}
use Rattle.fits_header.proofs.WriteLemmas.{write-next, written-all}
use Rattle.fits_header.proofs.card.put_cards.Goals as goal

pub loop-place-init : goal.loop-place-init
loop-place-init c = record { len = refl; written = refl }

pub loop-place-preserved : goal.loop-place-preserved
loop-place-preserved c =
    write-next c.args.cards.now c.loop-place.place c.index-cards-place.result c.copy_from_slice.new.self c.loop-place.out c.args.out.now
    c.loop-place-test.true c.index-cards-place.is c.bytes.ensures.len (c.copy_from_slice.ensures.after ∙ c.bytes.ensures.bytes) c.loop-place.invariant

pub returns-clause-len : goal.returns-clause-len
returns-clause-len c =
    let all : length c.args.cards.now ≡ c.loop-place.place = omega arith in
    (written-all c.args.cards.now c.loop-place.place c.loop-place.out c.args.out.now all c.loop-place.invariant).0

pub returns-clause-written : goal.returns-clause-written
returns-clause-written c =
    let all : length c.args.cards.now ≡ c.loop-place.place = omega arith in
    (written-all c.args.cards.now c.loop-place.place c.loop-place.out c.args.out.now all c.loop-place.invariant).1
