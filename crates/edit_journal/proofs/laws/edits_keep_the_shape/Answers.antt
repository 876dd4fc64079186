use Rattle.edit_journal.proofs.LeafLemmas.{fits_of}
use Rattle.edit_journal.proofs.laws.edits_keep_the_shape.Goals as goal

pub returns : goal.returns
returns c = λ shape opening edits fits all. fits_of shape opening edits all fits
