use Rattle.std.proofs.Common.{◌+◌, ◌-◌, ◌*◌, Some, ap, ◌∙◌, arith}
use Rattle.allsky_mosaic.proofs.Places.{cell_found, shape_found, tile_shows, none_shown, some_shown}
use Rattle.allsky_mosaic.specs.Mosaic.{side_of}
use Rattle.allsky_mosaic.proofs.bands.write_cell.Goals as goal

pub write_tile-requires-clause-shape : goal.write_tile-requires-clause-shape
write_tile-requires-clause-shape c =
    shape_found c.args.form.now.depth c.args.form.now.n (c.args.row * 27 + c.args.col) c.args.tiles.now c.deref.result.now c.requires.tiles.are (ap Some c.deref.ensures ∙ c.in-Some.ensures.value)

pub returns-in-None-clause-shown : goal.returns-in-None-clause-shown
returns-in-None-clause-shown c shape leaves survey show blank t column t_in column_in =
    blank t column t_in column_in
    ∙ none_shown shape leaves c.args.form.now.depth c.args.form.now.n (c.args.row * 27 + c.args.col) c.args.tiles.now column (side_of c.args.form.now.n - 1 - t) c.requires.tiles.greatest_n survey show c.in-None.ensures.value column_in (omega arith)

pub returns-in_ok-write_tile-in-Some-clause-shown : goal.returns-in_ok-write_tile-in-Some-clause-shown
returns-in_ok-write_tile-in-Some-clause-shown c shape leaves survey show blank t column t_in column_in =
    let cell = c.args.row * 27 + c.args.col in
    let tile = c.deref.result.now in
    let found = ap Some c.deref.ensures ∙ c.in-Some.ensures.value in
    let within = cell_found c.args.form.now.depth c.args.form.now.n cell c.args.tiles.now tile c.requires.tiles.are found in
    some_shown shape leaves c.args.form.now.depth c.args.form.now.n cell c.args.form.now.depth.bitpix c.args.col t column c.write_tile.new.band survey within
    (c.in_ok-write_tile-in-Some.ensures.shown shape leaves cell survey (tile_shows shape leaves c.args.form.now.depth c.args.form.now.n cell c.args.tiles.now tile survey show within found)) t_in column_in
