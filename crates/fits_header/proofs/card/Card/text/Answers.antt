use Rattle.std.proofs.Common.{◌++◌, ◌∙◌, arith}
use Rattle.std.specs.Prelude.{codes}
use Rattle.fits_header.specs.WrittenCards.{filled, keyword_columns}
use Rattle.fits_header.proofs.FillLemmas.{length-columns, length-filled-append, word-short, quoted-text}
use Rattle.fits_header.proofs.card.Card.text.Goals as goal

pub returns : goal.returns
returns c =
    let keyword = c.args.keyword.now in
    let v = c.args.v.now in
    let head = keyword_columns keyword in
    let short = word-short keyword c.requires.keyword in
    let least = word-short v c.requires.text in
    let ten = length-columns keyword short in
    let quote = filled 10 head ++ codes "'" in
    let eleven = length-filled-append 10 head (codes "'") (omega (arith, ten)) in
    let text = filled 11 quote ++ v in
    let nineteen = length-filled-append 11 quote v (omega (arith, eleven)) in
    c.put-3.ensures text (omega (arith, nineteen)) (c.put-2.ensures quote (omega (arith, eleven)) (c.put.ensures head (omega (arith, ten)) c.with_keyword-bytes.ensures))
    ∙ quoted-text keyword v short least
