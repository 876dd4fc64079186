use Rattle.std.proofs.Common.{sym, ◌∙◌}
use Rattle.fits_header.proofs.ReadLemmas.{no_end-short, no_end-ascii, no_end-end}
use Rattle.fits_header.proofs.header.fault_without_end.Goals as goal

pub returns-then-bytes-lt-MAX_HEADER_LEN : goal.returns-then-bytes-lt-MAX_HEADER_LEN
returns-then-bytes-lt-MAX_HEADER_LEN c = no_end-short c.args.bytes.now c.requires c.if-bytes-lt-MAX_HEADER_LEN.true

pub returns-in-Some : goal.returns-in-Some
returns-in-Some c =
    no_end-ascii c.args.bytes.now c.in-Some.at c.requires c.if-bytes-lt-MAX_HEADER_LEN.false
    (sym c.place_not_ascii.ensures ∙ c.in-Some.is)

pub returns-in-None : goal.returns-in-None
returns-in-None c =
    no_end-end c.args.bytes.now c.requires c.if-bytes-lt-MAX_HEADER_LEN.false
    (sym c.place_not_ascii.ensures ∙ c.in-None.is)
