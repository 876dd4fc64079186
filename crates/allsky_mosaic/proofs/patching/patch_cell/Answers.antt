use Rattle.std.proofs.Common.{ℕ, ◌/◌, ◌∙◌, arith}
use Rattle.allsky_mosaic.specs.Mosaic.{side_of}
use Rattle.allsky_mosaic.proofs.PatchLemmas.{puts_band, put_read, squares_stay}
use Rattle.allsky_mosaic.proofs.patching.patch_cell.Goals as goal

pub returns-clause-shown : goal.returns-clause-shown
returns-clause-shown c shape leaves survey show t column t_in column_in =
    let bits = c.args.form.now.depth.bitpix in
    let cell = c.args.cell in
    let side : ℕ = side_of c.args.form.now.n in
    put_read bits side cell t column c.patch_band.new.band c.args.raw.now _ (puts_band bits side (cell / 27) c.patch_band.new.band c.args.raw.now c.requires.tiles.known c.requires.raw c.patch_band.auto.band (omega arith)) (omega arith) t_in column_in
    ∙ c.in_ok-patch_band.ensures.shown shape leaves survey show t column t_in column_in

pub returns-clause-kept : goal.returns-clause-kept
returns-clause-kept c =
    squares_stay c.args.form.now.depth.bitpix (side_of c.args.form.now.n) c.args.cell c.patch_band.new.band c.args.raw.now c.requires.tiles.known c.requires.raw c.patch_band.auto.band (omega arith) c.patch_band.ensures.kept
