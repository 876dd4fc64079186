use Rattle.hips_mirror.proofs.PeerLemmas.{peer_copied}
use Rattle.hips_mirror.proofs.laws.peers_are_copied.Goals as goal

pub returns : goal.returns
returns c = λ conf opening state bytes can.
    peer_copied c.plain_is_read.ensures c.properties_read_again.ensures c.tiles_are_read_again.ensures c.spellings_differ.ensures conf opening state can bytes c.copies_have_one_outcome.ensures
