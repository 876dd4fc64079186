use Rattle.std.proofs.Common.{take, Some, sym, ap, ◌∙◌, arith}
use Rattle.fits_header.specs.Cards.{cards}
use Rattle.fits_header.proofs.CardLemmas.{chunks-are_cards}
use Rattle.fits_header.proofs.ReadLemmas.{end-within, end-found, taken}
use Rattle.fits_header.proofs.header.Header.read.Goals as goal

pub slice_bounds-read_to_end-end : goal.slice_bounds-read_to_end-end
slice_bounds-read_to_end-end c =
    let chunks = c.as_chunks.ensures.front ∙ chunks-are_cards c.args.bytes.now in
    let found = sym (end-found c.args.bytes.now c.as_chunks.result.0.now c.cards_before_end.result chunks c.cards_before_end.ensures) ∙ c.in-Some.is in
    let within = end-within c.args.bytes.now c.in-Some.before found in
    taken c.in-Some.before c.as_chunks.result.0.now (omega (arith, within.1, c.as_chunks.ensures.front_len))

pub read_to_end-requires-clause-before : goal.read_to_end-requires-clause-before
read_to_end-requires-clause-before c =
    let chunks = c.as_chunks.ensures.front ∙ chunks-are_cards c.args.bytes.now in
    let found = sym (end-found c.args.bytes.now c.as_chunks.result.0.now c.cards_before_end.result chunks c.cards_before_end.ensures) ∙ c.in-Some.is in
    let within = end-within c.args.bytes.now c.in-Some.before found in
    found ∙ ap Some (taken c.in-Some.before c.as_chunks.result.0.now (omega (arith, within.1, c.as_chunks.ensures.front_len)))

pub read_to_end-requires-clause-cards : goal.read_to_end-requires-clause-cards
read_to_end-requires-clause-cards c =
    let chunks = c.as_chunks.ensures.front ∙ chunks-are_cards c.args.bytes.now in
    let found = sym (end-found c.args.bytes.now c.as_chunks.result.0.now c.cards_before_end.result chunks c.cards_before_end.ensures) ∙ c.in-Some.is in
    let within = end-within c.args.bytes.now c.in-Some.before found in
    let len = taken c.in-Some.before c.as_chunks.result.0.now (omega (arith, within.1, c.as_chunks.ensures.front_len)) in
    ap (take c.in-Some.before) chunks ∙ ap (λ n. take n (cards c.args.bytes.now)) len

pub fault_without_end-requires : goal.fault_without_end-requires
fault_without_end-requires c =
    let chunks = c.as_chunks.ensures.front ∙ chunks-are_cards c.args.bytes.now in
    sym (end-found c.args.bytes.now c.as_chunks.result.0.now c.cards_before_end.result chunks c.cards_before_end.ensures) ∙ c.in-None.is
