use Rattle.std.proofs.Common.{◌≡◌, ℕ, List, length, ap, ◌∙◌}
use Rattle.allsky_mosaic.specs.Cells.{square_number}
use Rattle.allsky_mosaic.proofs.Squares.{given_back}
use Rattle.allsky_mosaic.proofs.square.half_of.Goals as goal

pub returns-clause-numbers : goal.returns-clause-numbers
returns-clause-numbers c column line column_in line_in =
    let kept : length c.halve_lines.new.half ≡ c.in_ok-half.half.len = c.halve_lines.auto.half ∙ c.deref_mut.ensures.len in
    ap (λ (bytes : List ℕ). square_number c.args.depth.bitpix c.args.side bytes column line) (given_back c.in_ok-half.half.len c.halve_lines.new.half c.in_ok-half.half.items kept)
    ∙ c.halve_lines.ensures column line column_in line_in
