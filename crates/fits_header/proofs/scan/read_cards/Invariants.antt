use Rattle.fits_header.specs.Scanned.{IsScanned}
use Rattle.fits_header.proofs.scan.read_cards.Given as goal

abbrev pub invariant-loop-place : goal.invariant-loop-place
invariant-loop-place l = IsScanned l.cards l.place l.scan
