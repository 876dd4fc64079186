use Rattle.std.proofs.Common.{◌≡◌, ℕ, ◌+◌, ◌-◌, ◌*◌, ◌/◌, ◌≤◌, List, length, take, drop, refl, sym, ap, ◌∙◌, arith, rules}
use Rattle.std.proofs.lemmas.Nat.{row_fits}
use borrow.Rule.Slice.PartMut.{put_mid}
use Rattle.allsky_mosaic.proofs.Strips.{WritesLine, lines_more, beside_stay, times, strip_room, strip_start, strip_size}
use Rattle.allsky_mosaic.proofs.square.write_square.Goals as goal

pub slice_bounds-copy_from_slice-end : goal.slice_bounds-copy_from_slice-end
slice_bounds-copy_from_slice-end c =
    let w = c.bytes.result in
    let w_is : w ≡ c.args.depth.bitpix / 8 = omega (arith, c.bytes.ensures.bytes) in
    let long : length c.loop-t.band ≡ 27 * c.args.side * c.args.side * w = c.loop-t.auto.band ∙ c.requires.band ∙ ap (λ (k : ℕ). 27 * c.args.side * c.args.side * k) (sym w_is) in
    let fits : ((c.loop-t.t * 27 + c.args.col) * c.args.side + c.args.side) * w ≤ 27 * c.args.side * c.args.side * w =
    times ((c.loop-t.t * 27 + c.args.col) * c.args.side + c.args.side) (27 * c.args.side * c.args.side) w (strip_room c.args.side c.args.col c.loop-t.t (omega arith) c.requires.col) in
    search rules

pub loop-t-preserved : goal.loop-t-preserved
loop-t-preserved c =
    let bits = c.args.depth.bitpix in
    let side = c.args.side in
    let col = c.args.col in
    let t = c.loop-t.t in
    let w = c.bytes.result in
    let line = side * w in
    let at = (t * 27 + col) * line in
    let new : List ℕ = put_mid at (at + line - at) c.loop-t.band c.copy_from_slice.new.self in
    let w_is : w ≡ bits / 8 = omega (arith, c.bytes.ensures.bytes) in
    let wr : WritesLine bits side col t c.args.square.now c.loop-t.band new = record {
      start = at;
      size = at + line - at;
      line = c.copy_from_slice.new.self;
      known = search rules;
      start_is = strip_start (t * 27 + col) side w bits w_is;
      size_is = strip_size at side w bits w_is;
      line_is = c.copy_from_slice.ensures.after ∙ ap (λ (n : ℕ). take n (drop (t * line) c.args.square.now)) (strip_size (t * line) side w bits w_is)
          ∙ ap (λ (n : ℕ). take (side * (bits / 8)) (drop n c.args.square.now)) (strip_start t side w bits w_is);
      new_is = refl;
      square_long = c.requires.square;
      band_long = c.loop-t.auto.band ∙ c.requires.band;
      row = omega arith;
      column = c.requires.col;
    } in (
      lines_more bits side col t c.args.square.now c.loop-t.band new wr c.loop-t.invariant.0,
      beside_stay bits side col t c.args.square.now c.args.band.now c.loop-t.band new wr c.loop-t.invariant.1,
    )

pub returns-clause-written : goal.returns-clause-written
returns-clause-written c t column row_in column_in = c.loop-t.invariant.0 t column (omega arith) column_in

pub slice_bounds-copy_from_slice-end-in-loop-t : goal.slice_bounds-copy_from_slice-end-in-loop-t
slice_bounds-copy_from_slice-end-in-loop-t c =
    let w = c.bytes.result in
    let w_is : w ≡ c.args.depth.bitpix / 8 = omega (arith, c.bytes.ensures.bytes) in
    let long : length c.args.square.now ≡ c.args.side * c.args.side * w = c.requires.square ∙ ap (λ (k : ℕ). c.args.side * c.args.side * k) (sym w_is) in
    let fits : (c.loop-t.t * c.args.side + c.args.side) * w ≤ c.args.side * c.args.side * w =
    times (c.loop-t.t * c.args.side + c.args.side) (c.args.side * c.args.side) w (row_fits c.loop-t.t c.args.side c.args.side c.args.side (omega arith) (omega arith)) in
    search rules
