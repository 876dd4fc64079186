use Rattle.fits_header.proofs.WriteLemmas.{IsWritten}
use Rattle.fits_header.proofs.card.put_cards.Given as goal

abbrev pub invariant-loop-place : goal.invariant-loop-place
invariant-loop-place l = IsWritten l.cards l.place l.out l.fn.out
