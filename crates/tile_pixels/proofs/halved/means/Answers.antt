use Rattle.std.proofs.Common.{rules, ◌≡◌, ◌<◌, length, w64, ℤ, to_z, of_z, ◌∙◌, arith}
use Rattle.std.proofs.lemmas.Int.{to_z-of_z}
use Rattle.std.proofs.lemmas.List.Elements.{AllWithin-more_set}
use Rattle.parent_rule.specs.Depth.{IsNumber}
use Rattle.parent_rule.specs.Combined.{combined, square_at}
use Rattle.parent_rule.specs.declared.combine.Combine.TheVariants.{Mean}
use Rattle.tile_pixels.proofs.HalvedRow.{filled_more, above-number, mean_of_bits}
use Rattle.tile_pixels.proofs.halved.means.Goals as goal

pub loop-i-preserved : goal.loop-i-preserved
loop-i-preserved g c =
    let top = c.args.top.now in
    let bottom = c.args.bottom.now in
    let i = c.loop-i.i in
    let blank : ℤ = g.N.PixelNumber.value c.args.blank in
    let within : i < length c.loop-i.out = omega arith in
    let back : to_z w64 (of_z w64 c.wide.result) ≡ c.wide.result = to_z-of_z w64 _ (search rules) in
    let is : c.wide.result ≡ combined Mean blank (square_at top bottom i) =
    mean_of_bits Mean blank c.wide.result _ _ _ _ _ _ _ _ (c.wide.ensures.value ∙ c.mean_of_four-mean.ensures) c.of.ensures c.of-in-loop-i.ensures c.of-in-loop-i-2.ensures c.of-in-loop-i-3.ensures (search rules) (search rules) (search rules) (search rules) in
    let count : i < length c.args.out.now = omega arith in
    record {
      combined = filled_more (λ k. combined Mean blank (square_at top bottom k)) c.loop-i.out i (to_z w64 (of_z w64 c.wide.result)) within c.loop-i.invariant.combined (back ∙ is);
      numbers = AllWithin-more_set c.loop-i.out i (to_z w64 (of_z w64 c.wide.result)) within (IsNumber g.N.PixelNumber.bits) c.loop-i.invariant.numbers
          (rw back (above-number Mean g.N.PixelNumber.bits blank top bottom i (length c.args.out.now) c.wide.result c.requires.blank c.requires.top c.requires.bottom c.requires.top_length c.requires.bottom_length count is));
    }
