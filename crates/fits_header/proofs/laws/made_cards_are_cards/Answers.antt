use Rattle.fits_header.proofs.MadeLemmas.{made-cards}
use Rattle.fits_header.proofs.laws.made_cards_are_cards.Goals as goal

pub returns : goal.returns
returns c = made-cards
