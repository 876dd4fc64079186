use Rattle.served_copy.proofs.Copies.{of_seen}
use Rattle.served_copy.proofs.laws.copies_are_of_seen_states.Goals as goal

pub returns : goal.returns
returns c =
    of_seen c.next_is_one.ensures c.spellings_differ.ensures c.completeness.ensures c.peers_are_copied.ensures c.plain_is_read.ensures c.properties_read_again.ensures c.tiles_are_read_again.ensures
    c.one_reply_stands.ensures c.read_is_normal.ensures c.made_cards_are_cards.ensures c.leaves_come_back.ensures
