use Rattle.std.proofs.Common.{◌≢◌, ℕ, ◌+◌, ◌-◌, ◌*◌, ◌∙◌, arith}
use Rattle.allsky_mosaic.specs.Mosaic.{side_of, place_pixel}
use Rattle.allsky_mosaic.specs.Cells.{band_number}
use Rattle.allsky_mosaic.proofs.Places.{cells_more}
use Rattle.allsky_mosaic.proofs.bands.write_cells.Goals as goal

pub loop-col-preserved : goal.loop-col-preserved
loop-col-preserved c =
    let bits = c.args.form.now.depth.bitpix in
    let side : ℕ = side_of c.args.form.now.n in
    let kept = c.in_ok-write_cell.ensures.kept in (
      λ other t column behind other_in t_in column_in.
          let apart : other ≢ c.loop-col.col = omega arith in
          kept t other column t_in other_in apart column_in ∙ c.loop-col.invariant.0 other t column (omega arith) other_in t_in column_in,
      λ shape leaves survey show.
          cells_more side c.loop-col.col (λ other t column. band_number bits side c.loop-col.band other t column) (λ other t column. band_number bits side c.write_cell.new.band other t column)
          (λ other t column. place_pixel shape leaves (c.args.row * 27 + other) column (side - 1 - t)) (omega arith) kept
          (c.in_ok-write_cell.ensures.shown shape leaves survey show (λ t column t_in column_in. c.loop-col.invariant.0 c.loop-col.col t column (omega arith) (omega arith) t_in column_in))
          (c.loop-col.invariant.1 shape leaves survey show),
    )

pub returns : goal.returns
returns c shape leaves survey show col t column col_in t_in column_in = c.loop-col.invariant.1 shape leaves survey show col t column (omega arith) t_in column_in
