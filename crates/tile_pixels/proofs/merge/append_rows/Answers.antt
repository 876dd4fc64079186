use Rattle.std.proofs.Common.{◌≡◌, ◌-◌, ◌*◌, ◌/◌, ◌^◌, ap, arith}
use Rattle.std.proofs.Math.Nat.{add-mul}
use Rattle.tile_pixels.proofs.Halves.{bytes_of_none, numbers_of_none, bytes_of_more, numbers_of_more}
use Rattle.tile_pixels.proofs.merge.append_rows.Goals as goal

pub loop-line-init : goal.loop-line-init
loop-line-init c = record {
  long = omega arith;
  bytes = λ left right over_left over_right. bytes_of_none c.args.form.now.depth.bitpix c.args.raw.now.items c.args.form.now.depth c.args.form.now.n left right;
  range = λ left right over_left over_right. numbers_of_none c.args.form.now.depth.bitpix c.args.form.now.depth c.args.form.now.n left right;
}

pub loop-line-preserved : goal.loop-line-preserved
loop-line-preserved c =
    let row : c.half_side-half.result - 1 - c.loop-line.line ≡ 2 ^ (c.args.form.now.n - 1) - 1 - c.loop-line.line = ap (λ h. h - 1 - c.loop-line.line) c.half_side-half.ensures.half in
    let more = add-mul c.loop-line.line 1 (2 * (2 ^ (c.args.form.now.n - 1) * (c.args.form.now.depth.bitpix / 8))) in
    record {
      long = omega (arith, more, c.loop-line.invariant.long, c.in_ok-append_row.ensures.length, c.in_ok-append_row-2.ensures.length);
      bytes = λ left right over_left over_right. bytes_of_more c.args.form.now.depth.bitpix c.args.raw.now.items c.loop-line.raw.items _ _ c.args.form.now.depth c.args.form.now.n left right c.loop-line.line _ row
          (c.loop-line.invariant.bytes left right over_left over_right) (c.in_ok-append_row.ensures.bytes left over_left) (c.in_ok-append_row-2.ensures.bytes right over_right);
      range = λ left right over_left over_right. numbers_of_more c.args.form.now.depth.bitpix c.args.form.now.depth c.args.form.now.n left right c.loop-line.line _ row
          (c.loop-line.invariant.range left right over_left over_right) (c.append_row.ensures.range left over_left) (c.append_row-in-loop-line.ensures.range right over_right);
    }
