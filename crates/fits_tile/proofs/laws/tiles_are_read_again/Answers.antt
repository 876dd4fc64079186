use Rattle.fits_tile.proofs.RoundTrip.{read-again}
use Rattle.fits_tile.proofs.laws.tiles_are_read_again.Goals as goal

pub returns : goal.returns
returns c = read-again c.made_cards_are_cards.ensures c.written_values_are_read.ensures c.written_headers_are_read.ensures
