use Rattle.std.proofs.Common.{◌≡◌, length, arith}
use Rattle.tile_pixels.proofs.Lines.{halved_more, behind_more}
use Rattle.tile_pixels.proofs.block.halve_lines.Goals as goal

pub loop-line-preserved : goal.loop-line-preserved
loop-line-preserved c =
    let same : length c.loop-line.row ≡ c.args.side = c.loop-line.invariant.long in
    record {
      written = halved_more c.args.depth.combine c.args.depth.blank c.args.side (length c.loop-line.row) c.loop-line.line c.args.numbers.now c.loop-line.numbers c.halve_line.new.numbers same c.loop-line.invariant.written c.loop-line.invariant.behind c.halve_line.ensures.written c.halve_line.ensures.before;
      long = omega arith;
      behind = behind_more c.args.side (length c.loop-line.row) c.loop-line.line c.args.numbers.now c.loop-line.numbers c.halve_line.new.numbers same c.loop-line.invariant.behind c.halve_line.ensures.behind;
      range = c.halve_line.ensures.range;
    }
