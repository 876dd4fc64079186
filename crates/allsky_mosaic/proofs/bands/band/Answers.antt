use Rattle.std.proofs.Common.{◌≡◌, ℕ, ◌+◌, ◌*◌, ◌<◌, ◌/◌, List, length, ap, ◌∙◌, arith, rules}
use Rattle.allsky_mosaic.specs.Mosaic.{side_of}
use Rattle.tile_pixels.specs.Stored.{stored_at}
use Rattle.allsky_mosaic.proofs.Squares.{given_back}
use Rattle.allsky_mosaic.proofs.BandLemmas.{in_band, band_shows}
use Rattle.allsky_mosaic.proofs.bands.band.Goals as goal

pub write_cells-requires-clause-blank : goal.write_cells-requires-clause-blank
write_cells-requires-clause-blank c col t column col_in t_in column_in =
    let side : ℕ = side_of c.args.form.now.n in
    let place : ℕ = (t * 27 + col) * side + column in
    let within : place < 27 * side * side = in_band side col t column col_in t_in column_in in
    let is : c.side-side.result ≡ side = c.side-side.ensures.side in
    ap (λ (bytes : List ℕ). stored_at c.args.form.now.depth.bitpix bytes place) c.deref_mut.ensures.value ∙ c.in_ok-band.ensures.blank place (rw is within)

pub returns : goal.returns
returns c =
    let kept : length c.write_cells.new.band ≡ c.in_ok-band.band.len = c.write_cells.auto.band ∙ c.deref_mut.ensures.len in
    let back = given_back c.in_ok-band.band.len c.write_cells.new.band c.in_ok-band.band.items kept in
    let long : c.in_ok-band.band.len ≡ 27 * side_of c.args.form.now.n * side_of c.args.form.now.n * (c.args.form.now.depth.bitpix / 8) = search rules in
    record {
      long = ap length back ∙ kept ∙ long ∙ omega arith;
      shown = λ shape leaves survey show. band_shows shape leaves c.args.form.now.depth c.args.form.now.n c.args.row c.write_cells.new.band _ survey back (c.in_ok-write_cells.ensures shape leaves survey show);
    }
