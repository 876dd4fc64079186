use Rattle.std.proofs.Common.{take, ap, ◌∙◌}
use Rattle.std.specs.Prelude.{position}
use Rattle.fits_header.specs.Cards.{is_end_card}
use Rattle.fits_header.proofs.CardLemmas.{take-min}
use Rattle.fits_header.proofs.blocks.cards_before_end.Goals as goal

pub returns : goal.returns
returns c =
    c.first_end_card.ensures
    ∙ ap (position is_end_card) (ap (λ n. take n c.args.cards.now) c.min.ensures ∙ take-min 1296 c.args.cards.now)
