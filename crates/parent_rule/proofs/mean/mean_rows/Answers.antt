use Rattle.std.proofs.Common.{rules, ◌≡◌, ◌+◌, ◌*◌, ◌<◌, length, w64, ℤ, pos, to_z, of_z, slice_index_or, ◌∙◌, arith}
use Rattle.std.proofs.lemmas.Int.{to_z-of_z}
use Rattle.std.proofs.lemmas.List.Elements.{AllWithin-more_set}
use Rattle.parent_rule.specs.Depth.{IsNumber}
use Rattle.parent_rule.specs.Combined.{combined, square_at}
use Rattle.parent_rule.proofs.Rows.{filled_more, All-four, number_again}
use Rattle.parent_rule.proofs.mean.mean_rows.Goals as goal
use Rattle.parent_rule.proofs.mean.mean_rows.Goals.{After-mean4}

pub mean4-requires : goal.mean4-requires
mean4-requires c =
    let P : ℤ → Type 0 = IsNumber c.args.depth.bitpix in
    All-four P _ _ _ _ (number_again P c.args.top.now _ c.requires.top (omega arith) (search rules))
    (number_again P c.args.bottom.now _ c.requires.bottom (omega arith) (search rules))
    (number_again P c.args.top.now _ c.requires.top (omega arith) (search rules))
    (number_again P c.args.bottom.now _ c.requires.bottom (omega arith) (search rules))

pub loop-i-preserved : goal.loop-i-preserved
loop-i-preserved c =
    let top = c.args.top.now in
    let bottom = c.args.bottom.now in
    let i = c.loop-i.i in
    let within : i < length c.loop-i.out = omega arith in
    let first : to_z w64 (of_z w64 (slice_index_or top (2 * i) (pos 0))) ≡ slice_index_or top (2 * i) (pos 0) = to_z-of_z w64 _ (search rules) in
    let second : to_z w64 (of_z w64 (slice_index_or bottom (2 * i) (pos 0))) ≡ slice_index_or bottom (2 * i) (pos 0) = to_z-of_z w64 _ (search rules) in
    let third : to_z w64 (of_z w64 (slice_index_or top (2 * i + 1) (pos 0))) ≡ slice_index_or top (2 * i + 1) (pos 0) = to_z-of_z w64 _ (search rules) in
    let fourth : to_z w64 (of_z w64 (slice_index_or bottom (2 * i + 1) (pos 0))) ≡ slice_index_or bottom (2 * i + 1) (pos 0) = to_z-of_z w64 _ (search rules) in
    let back : to_z w64 (of_z w64 c.mean4.result) ≡ c.mean4.result = to_z-of_z w64 _ (search rules) in
    let value : c.mean4.result ≡ combined c.args.depth.combine c.args.depth.blank (square_at top bottom i) = cc in
    record {
      combined = filled_more (λ k. combined c.args.depth.combine c.args.depth.blank (square_at top bottom k)) c.loop-i.out i (to_z w64 (of_z w64 c.mean4.result)) within c.loop-i.invariant.combined (back ∙ value);
      numbers = AllWithin-more_set c.loop-i.out i (to_z w64 (of_z w64 c.mean4.result)) within (IsNumber c.args.depth.bitpix) c.loop-i.invariant.numbers (rw back c.mean4.ensures.number);
    }
