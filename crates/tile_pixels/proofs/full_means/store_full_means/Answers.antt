use Rattle.std.proofs.Common.{◌≡◌, ◌+◌, ◌*◌, ◌/◌, ◌∙◌, sym, arith}
use Rattle.parent_rule.specs.declared.combine.Combine.TheVariants.{Mean}
use Rattle.tile_pixels.proofs.RowAbove.{above_none, above_more, above_all, place_fits, pair_fits}
use Rattle.tile_pixels.proofs.full_means.store_full_means.Goals as goal

pub read_pair-a-requires : goal.read_pair-a-requires
read_pair-a-requires g c = pair_fits c.loop-i.i c.args.count (g.N.PixelNumber.bits / 8) _ (omega arith) c.requires.top

pub read_pair-b-requires : goal.read_pair-b-requires
read_pair-b-requires g c = pair_fits c.loop-i.i c.args.count (g.N.PixelNumber.bits / 8) _ (omega arith) c.requires.bottom

pub write-requires : goal.write-requires
write-requires g c = place_fits c.loop-i.i c.args.count (g.N.PixelNumber.bits / 8) _ (omega arith) (c.loop-i.auto.out ∙ c.requires.out)

pub loop-i-init : goal.loop-i-init
loop-i-init g c = above_none g.N.PixelNumber.bits c.args.out.now

pub loop-i-preserved : goal.loop-i-preserved
loop-i-preserved g c =
    above_more Mean g.N.PixelNumber.bits (g.N.PixelNumber.value c.args.blank) c.args.count c.loop-i.i c.args.top.now c.args.bottom.now c.loop-i.out c.write.new.row _ _ _ _ _ c.loop-i-test.true
    c.mean_of_full.ensures c.read_pair-a.ensures.first c.read_pair-b.ensures.first c.read_pair-a.ensures.second c.read_pair-b.ensures.second c.loop-i.invariant c.write.ensures

pub returns : goal.returns
returns g c =
    let end : c.loop-i.i ≡ c.args.count = omega arith in
    above_all Mean g.N.PixelNumber.bits (g.N.PixelNumber.value c.args.blank) c.args.count c.loop-i.i c.args.top.now c.args.bottom.now c.loop-i.out end (c.loop-i.auto.out ∙ c.requires.out) c.loop-i.invariant

pub mean_of_full-requires-clause-a : goal.mean_of_full-requires-clause-a
mean_of_full-requires-clause-a g c = λ e. c.requires.no_blank_above (2 * c.loop-i.i) (omega arith) (sym c.read_pair-a.ensures.first ∙ e)

pub mean_of_full-requires-clause-b : goal.mean_of_full-requires-clause-b
mean_of_full-requires-clause-b g c = λ e. c.requires.no_blank_below (2 * c.loop-i.i) (omega arith) (sym c.read_pair-b.ensures.first ∙ e)

pub mean_of_full-requires-clause-c : goal.mean_of_full-requires-clause-c
mean_of_full-requires-clause-c g c = λ e. c.requires.no_blank_above (2 * c.loop-i.i + 1) (omega arith) (sym c.read_pair-a.ensures.second ∙ e)

pub mean_of_full-requires-clause-d : goal.mean_of_full-requires-clause-d
mean_of_full-requires-clause-d g c = λ e. c.requires.no_blank_below (2 * c.loop-i.i + 1) (omega arith) (sym c.read_pair-b.ensures.second ∙ e)
