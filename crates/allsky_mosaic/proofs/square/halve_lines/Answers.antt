use Rattle.std.proofs.Common.{◌≡◌, ℕ, ◌+◌, ◌-◌, ◌*◌, ◌/◌, ◌<◌, ◌≤◌, List, length, take, drop, refl, sym, ap, ◌∙◌, arith, rules}
use Rattle.std.specs.Prelude.{IsTrue}
use Rattle.std.proofs.lemmas.Nat.{row_fits}
use borrow.Rule.Slice.PartMut.{put_mid}
use Rattle.parent_rule.specs.Depth.{is_bitpix}
use Rattle.allsky_mosaic.specs.Cells.{number_over}
use Rattle.allsky_mosaic.proofs.Strips.{WritesStrip, strips_more, strip_start, strip_size, length_of_line, times}
use Rattle.allsky_mosaic.proofs.square.halve_lines.Goals as goal

pub slice_bounds-line-end : goal.slice_bounds-line-end
slice_bounds-line-end c =
    let side = c.args.side in
    let w = c.bytes.result in
    let w_is : w ≡ c.args.depth.bitpix / 8 = omega (arith, c.bytes.ensures.bytes) in
    let long : length c.loop-t.half ≡ side * side * w = c.loop-t.auto.half ∙ c.requires.half ∙ ap (λ (k : ℕ). side * side * k) (sym w_is) in
    let t_in : c.loop-t.t < side = omega arith in
    let fits : (c.loop-t.t * side + side) * w ≤ side * side * w = times (c.loop-t.t * side + side) (side * side) w (row_fits c.loop-t.t side side side t_in (omega arith)) in
    search rules

pub loop-t-preserved : goal.loop-t-preserved
loop-t-preserved c =
    let bits = c.args.depth.bitpix in
    let side = c.args.side in
    let t = c.loop-t.t in
    let w = c.bytes.result in
    let w_is : w ≡ bits / 8 = omega (arith, c.bytes.ensures.bytes) in
    let known : IsTrue (is_bitpix bits) = search rules in
    let t_in : t < side = omega arith in
    let start = t * (side * w) in
    let size = start + side * w - start in
    let start_is : start ≡ t * side * (bits / 8) = strip_start t side w bits w_is in
    let size_is : size ≡ side * (bits / 8) = strip_size start side w bits w_is in
    let old : List ℕ = c.loop-t.half in
    let long : length old ≡ side * side * (bits / 8) = c.loop-t.auto.half ∙ c.requires.half in
    let part : take size (drop start old) ≡ take (side * (bits / 8)) (drop (t * side * (bits / 8)) old) =
    ap (λ (n : ℕ). take n (drop start old)) size_is ∙ ap (λ (n : ℕ). take (side * (bits / 8)) (drop n old)) start_is in
    let wr : WritesStrip bits side (side * side) t c.halve_line.new.line old (put_mid start size old c.halve_line.new.line) = record {
      start = start;
      size = size;
      known = known;
      start_is = start_is;
      size_is = size_is;
      new_is = refl;
      line_long = c.halve_line.auto.line ∙ length_of_line bits side t old (take size (drop start old)) part long t_in;
      long = long;
      room = row_fits t side side side t_in (omega arith);
    } in
    strips_more bits side (side * side) t c.halve_line.new.line old (put_mid start size old c.halve_line.new.line) (λ p column. number_over c.args.depth side c.args.square.now column (side - 1 - p)) wr c.loop-t.invariant
    c.halve_line.ensures

pub returns : goal.returns
returns c column line column_in line_in =
    let side = c.args.side in
    let done : side - 1 - line < c.loop-t.t = omega arith in
    let back : side - 1 - (side - 1 - line) ≡ line = omega arith in
    c.loop-t.invariant (side - 1 - line) column done column_in ∙ ap (number_over c.args.depth side c.args.square.now column) back
