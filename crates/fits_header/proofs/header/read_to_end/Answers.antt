use Rattle.std.proofs.Common.{ℕ, Result, ◌*◌, ◌<◌, ◌≤◌, length, Err, Ok, sym, ap, ◌∙◌, arith}
use Rattle.std.proofs.lemmas.Result.{err_from_is_err_and}
use Rattle.fits_header.specs.Cards.{header_length}
use Rattle.fits_header.specs.Scan.{read_cards}
use Rattle.fits_header.specs.declared.fault.HeaderFault.{HeaderFault}
use Rattle.fits_header.specs.declared.header.Header.{Header}
use Rattle.fits_header.proofs.ReadLemmas.{end-within, taken, end-short, end-ascii, end-read, end-refused}
use Rattle.fits_header.proofs.header.read_to_end.Goals as goal

pub returns-then-bytes-len-clause-outcome : goal.returns-then-bytes-len-clause-outcome
returns-then-bytes-len-clause-outcome c =
    let short : length c.args.bytes.now < header_length (length c.args.cards.now) = omega (arith, c.whole_blocks-len.ensures.len) in
    sym (end-short c.args.bytes.now (length c.args.cards.now) c.requires.before short)

pub slice_bounds-place_not_ascii-end : goal.slice_bounds-place_not_ascii-end
slice_bounds-place_not_ascii-end c =
    let within = end-within c.args.bytes.now (length c.args.cards.now) c.requires.before in
    taken (80 * length c.args.cards.now) c.args.bytes.now (omega (arith, within.1))

pub returns-in-Some-clause-outcome : goal.returns-in-Some-clause-outcome
returns-in-Some-clause-outcome c =
    let long : header_length (length c.args.cards.now) ≤ length c.args.bytes.now = omega (arith, c.whole_blocks-len.ensures.len) in
    sym (end-ascii c.args.bytes.now (length c.args.cards.now) c.in-Some.at c.requires.before long
    (sym c.place_not_ascii.ensures ∙ c.in-Some.is))

pub read_cards-requires : goal.read_cards-requires
read_cards-requires c = (end-within c.args.bytes.now (length c.args.cards.now) c.requires.before).0

pub returns-in_err-header-in-None-clause-outcome : goal.returns-in_err-header-in-None-clause-outcome
returns-in_err-header-in-None-clause-outcome c =
    let long : header_length (length c.args.cards.now) ≤ length c.args.bytes.now = omega (arith, c.whole_blocks-len.ensures.len) in
    let p = err_from_is_err_and c.from_residual.result c.from_residual.ensures.1 in
    let e = end-refused c.args.bytes.now (length c.args.cards.now) c.in_err-header-in-None.field-0.0 c.requires.before long
    (sym c.place_not_ascii.ensures ∙ c.in-None.is)
    (ap read_cards (sym c.requires.cards) ∙ sym c.read_cards.ensures ∙ c.in_err-header-in-None.was) in
    p.1 ∙ ap Err p.2 ∙ sym e

pub returns-in_ok-header-in-None-clause-outcome : goal.returns-in_ok-header-in-None-clause-outcome
returns-in_ok-header-in-None-clause-outcome c =
    let long : header_length (length c.args.cards.now) ≤ length c.args.bytes.now = omega (arith, c.whole_blocks-len.ensures.len) in
    let e = end-read c.args.bytes.now (length c.args.cards.now) c.in_ok-header-in-None.header c.requires.before long
    (sym c.place_not_ascii.ensures ∙ c.in-None.is)
    (ap read_cards (sym c.requires.cards) ∙ sym c.read_cards.ensures ∙ c.in_ok-header-in-None.was) in
    let read : ℕ → Result (Header × ℕ) HeaderFault = λ len. Ok (c.in_ok-header-in-None.header, len) in
    ap read c.whole_blocks-len.ensures.len ∙ sym e
