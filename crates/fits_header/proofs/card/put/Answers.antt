use Rattle.fits_header.proofs.FillLemmas.{put-mid}
use Rattle.fits_header.proofs.card.put.Goals as goal

pub returns : goal.returns
returns c = λ before short spaces.
    put-mid c.args.start c.args.card.now c.args.text.now c.copy_from_slice.new.self before c.requires c.copy_from_slice.ensures.after short spaces
