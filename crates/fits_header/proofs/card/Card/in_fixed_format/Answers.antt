use Rattle.std.proofs.Common.{◌≡◌, ◌-◌, ◌++◌, max, length, ap, ◌∙◌, arith}
use Rattle.fits_header.specs.WrittenCards.{filled, keyword_columns}
use Rattle.fits_header.proofs.FillLemmas.{length-columns, fixed-format}
use Rattle.fits_header.proofs.card.Card.in_fixed_format.Goals as goal

pub returns : goal.returns
returns c =
    let start : c.max-start.result ≡ max (30 - length c.args.value.now) 10 = c.max-start.ensures ∙ ap (λ m. max m 10) c.saturating_sub.ensures in
    let ten = length-columns c.args.keyword.now c.requires.keyword in
    c.put.ensures (keyword_columns c.args.keyword.now) (omega (arith, ten, start)) c.with_keyword-bytes.ensures
    ∙ ap (λ m. filled 80 (filled m (keyword_columns c.args.keyword.now) ++ c.args.value.now)) start
    ∙ fixed-format c.args.keyword.now c.args.value.now c.requires.keyword
