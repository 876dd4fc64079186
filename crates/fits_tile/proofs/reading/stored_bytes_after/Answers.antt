use Rattle.std.proofs.Common.{◌≤◌, length, sym, ap, ◌∙◌, arith}
use Rattle.std.proofs.lemmas.List.{length-take-le}
use Rattle.fits_tile.specs.TileFile.{data_len}
use Rattle.fits_tile.proofs.ReadingLemmas.{data-within}
use Rattle.fits_tile.proofs.reading.stored_bytes_after.Goals as goal

pub slice_bounds-result-end : goal.slice_bounds-result-end
slice_bounds-result-end c =
    let rest = c.args.rest.now in
    let enough = data-within c.shape-shape.result (length rest) (sym c.data_fault.ensures ∙ c.in-None.is) in
    let within : c.data_len.result ≤ length rest = omega (arith, enough, c.data_len.ensures.len) in
    sym (length-take-le c.data_len.result rest within)

pub returns-in-None-clause-len : goal.returns-in-None-clause-len
returns-in-None-clause-len c =
    let rest = c.args.rest.now in
    let enough = data-within c.shape-shape.result (length rest) (sym c.data_fault.ensures ∙ c.in-None.is) in
    let within : c.data_len.result ≤ length rest = omega (arith, enough, c.data_len.ensures.len) in
    length-take-le c.data_len.result rest within ∙ c.data_len.ensures.len ∙ ap data_len c.shape-shape.ensures.shape
