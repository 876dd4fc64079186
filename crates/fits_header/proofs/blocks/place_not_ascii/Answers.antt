use Rattle.std.proofs.Common.{sym, ◌∙◌}
use Rattle.fits_header.specs.Reading.{is_text_byte}
use Rattle.fits_header.proofs.CardLemmas.{position-none}
use Rattle.fits_header.proofs.blocks.place_not_ascii.Goals as goal

pub returns-then-are_text_bytes : goal.returns-then-are_text_bytes
returns-then-are_text_bytes c =
    sym (position-none is_text_byte c.args.bytes.now (sym c.are_text_bytes.ensures ∙ c.if-are_text_bytes.true))
