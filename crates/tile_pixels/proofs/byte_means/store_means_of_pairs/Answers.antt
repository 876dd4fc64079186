use Rattle.std.proofs.Common.{◌≡◌, ◌*◌, ◌/◌, ◌<◌, length, arith, pos}
use Rattle.parent_rule.specs.declared.combine.Combine.TheVariants.{Mean}
use Rattle.tile_pixels.proofs.RowAbove.{above_none, above_more, above_all, first_of_word, second_of_word}
use Rattle.tile_pixels.proofs.Rows.{are_bytes}
use Rattle.tile_pixels.proofs.byte_means.store_means_of_pairs.Goals as goal

pub loop-i-init : goal.loop-i-init
loop-i-init c = above_none 8 c.args.out.now

pub loop-i-preserved : goal.loop-i-preserved
loop-i-preserved c =
    let i = c.loop-i.i in
    let in_upper : i < length c.args.upper.now = omega arith in
    let in_lower : i < length c.args.lower.now = omega arith in
    let below : i < length c.args.out.now = omega arith in
    let top = are_bytes c.args.top.now c.type_inv.top in
    let bottom = are_bytes c.args.bottom.now c.type_inv.bottom in
    above_more Mean 8 (pos c.args.blank) (length c.args.out.now) i c.args.top.now c.args.bottom.now c.loop-i.out c.write.new.row _ _ _ _ _ below
    c.mean_of_four-mean.ensures
    (first_of_word c.args.top.now i _ top (c.requires.upper_pairs i in_upper)) (first_of_word c.args.bottom.now i _ bottom (c.requires.lower_pairs i in_lower))
    (second_of_word c.args.top.now i _ top (c.requires.upper_pairs i in_upper)) (second_of_word c.args.bottom.now i _ bottom (c.requires.lower_pairs i in_lower))
    c.loop-i.invariant c.write.ensures

pub returns : goal.returns
returns c =
    let end : c.loop-i.i ≡ length c.args.out.now = omega arith in
    let long : length c.loop-i.out ≡ length c.args.out.now * (8 / 8) = omega arith in
    above_all Mean 8 (pos c.args.blank) (length c.args.out.now) c.loop-i.i c.args.top.now c.args.bottom.now c.loop-i.out end long c.loop-i.invariant
