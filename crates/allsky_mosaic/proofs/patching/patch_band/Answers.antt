use Rattle.std.proofs.Common.{◌≡◌, ℕ, ◌+◌, ◌-◌, ◌*◌, ◌/◌, ◌%◌, ap, ◌∙◌, arith}
use Rattle.std.proofs.lemmas.Nat.{mul-add-lt}
use Rattle.allsky_mosaic.specs.Mosaic.{side_of, place_pixel}
use Rattle.allsky_mosaic.proofs.patching.patch_band.Goals as goal

pub returns-clause-shown : goal.returns-clause-shown
returns-clause-shown c shape leaves survey show t column t_in column_in =
    let is = c.side.ensures.side in
    let side : ℕ = side_of c.args.form.now.n in
    let again : c.args.cell / 27 * 27 + c.args.cell % 27 ≡ c.args.cell = omega arith in
    c.in_ok-write_cell.ensures.shown shape leaves survey show
    (λ t column t_in column_in.
    rw (← is) (c.write_square.ensures.written t column (rw is t_in) (rw is column_in))
    ∙ c.requires.blank.blank (t * side + column) (mul-add-lt t side column side t_in column_in)) t column t_in column_in
    ∙ ap (λ (k : ℕ). place_pixel shape leaves k column (side - 1 - t)) again

pub returns-clause-kept : goal.returns-clause-kept
returns-clause-kept c t other column t_in other_in apart column_in =
    let is = c.side.ensures.side in
    c.write_cell.ensures.kept t other column t_in other_in apart column_in
    ∙ rw (← is) (c.write_square.ensures.kept t other column (rw is t_in) other_in apart (rw is column_in))
