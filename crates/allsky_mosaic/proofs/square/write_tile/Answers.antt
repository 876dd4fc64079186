use Rattle.std.proofs.Common.{◌≡◌, ℕ, ◌*◌, ◌/◌, ◌^◌, ◌<◌, ◌≢◌, List, sym, ap, subst, ◌∙◌, arith}
use Rattle.healpix_nested.specs.PlaceLaws.{square_of_side}
use Rattle.parent_rule.specs.Depth.{PixelDepth}
use Rattle.allsky_mosaic.specs.Mosaic.{cell_levels}
use Rattle.allsky_mosaic.specs.Cells.{band_number, ShowsSquare, square_number}
use Rattle.allsky_mosaic.proofs.Squares.{raw_shown, halved_shown}
use Rattle.allsky_mosaic.proofs.square.write_tile.Goals as goal

pub write_square-requires-clause-square : goal.write_square-requires-clause-square
write_square-requires-clause-square c =
    let levels : cell_levels c.args.n ≡ c.args.n = omega arith in
    let side : 2 ^ c.args.tile.now.n ≡ c.side.result = ap (λ (k : ℕ). 2 ^ k) (c.requires.shape.1 ∙ sym levels) ∙ sym c.side.ensures.side in
    let square : 4 ^ c.args.tile.now.n ≡ c.side.result * c.side.result = sym (square_of_side c.args.tile.now.n) ∙ ap (λ (k : ℕ). k * k) side in
    c.raw.ensures.length ∙ ap (λ (k : ℕ). k * (c.args.tile.now.depth.bitpix / 8)) square ∙ ap (λ (d : PixelDepth). c.side.result * c.side.result * (d.bitpix / 8)) c.requires.shape.0

pub returns-then-n-le6-clause-shown : goal.returns-then-n-le6-clause-shown
returns-then-n-le6-clause-shown c shape leaves cell survey shows =
    raw_shown shape leaves cell c.args.n c.args.col c.side.result c.args.depth c.args.tile.now c.raw.result.now c.write_square.new.band c.requires.shape (omega arith) c.side.ensures.side
    c.raw.ensures.numbers c.write_square.ensures.written shows

pub returns-then-n-le6-clause-kept : goal.returns-then-n-le6-clause-kept
returns-then-n-le6-clause-kept c t other column t_in other_in apart column_in =
    let is = c.side.ensures.side in
    rw (← is) (c.write_square.ensures.kept t other column (rw is t_in) other_in apart (rw is column_in))

pub returns-clause-shown : goal.returns-clause-shown
returns-clause-shown c shape leaves cell survey shows =
    let P : List ℕ → Type 0 = λ bytes. ShowsSquare shape leaves cell 6 (square_number c.args.depth.bitpix 64 bytes) in
    halved_shown shape leaves cell c.args.n c.args.col c.args.depth.bitpix c.deref.result.now c.write_square-2.new.band (omega arith) c.write_square-2.ensures.written
    (subst P (sym c.deref.ensures.value) (c.in_ok-square.ensures.shown shape leaves cell survey shows))

pub returns-clause-kept : goal.returns-clause-kept
returns-clause-kept c t other column t_in other_in apart column_in =
    let six : 6 ≡ cell_levels c.args.n = omega arith in
    let P : ℕ → Type 0 = λ levels. (t other column : ℕ) → t < 2 ^ levels → other < 27 → other ≢ c.args.col → column < 2 ^ levels
    → band_number c.args.depth.bitpix (2 ^ levels) c.write_square-2.new.band other t column ≡ band_number c.args.depth.bitpix (2 ^ levels) c.args.band.now other t column in
    subst P six c.write_square-2.ensures.kept t other column t_in other_in apart column_in
