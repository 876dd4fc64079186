use Rattle.std.proofs.Common.{◌≡◌, ◌+◌, ◌*◌, ◌≤◌, length, refl, ap, ◌∙◌, arith}
use Rattle.std.proofs.lemmas.Nat.{row_fits}
use Rattle.std.proofs.lemmas.List.Elements.{All-same}
use Rattle.parent_rule.specs.Depth.{IsNumber}
use Rattle.tile_pixels.proofs.Lines.{All-put_mid, drop_behind, halved_line}
use Rattle.tile_pixels.proofs.block.halve_line.Goals as goal

pub returns-clause-written : goal.returns-clause-written
returns-clause-written c =
    let side = length c.args.row.now in
    let fits : c.args.line * side + side ≤ side * side = row_fits c.args.line side side side c.requires.line (omega arith) in
    halved_line c.args.depth.combine c.args.depth.blank side c.args.line _ (4 * side * c.args.line) (4 * side * c.args.line + 2 * side) c.args.numbers.now c.copy_from_slice.new.self c.combine_rows.new.out c.combine_rows.auto.out c.copy_from_slice.ensures.after (omega arith) c.combine_rows.ensures.combined

pub returns-clause-behind : goal.returns-clause-behind
returns-clause-behind c =
    let side = length c.args.row.now in
    let fits : c.args.line * side + side ≤ side * side = row_fits c.args.line side side side c.requires.line (omega arith) in
    let long : length c.copy_from_slice.new.self ≡ side = ap length c.copy_from_slice.ensures.after ∙ c.combine_rows.auto.out in
    drop_behind c.args.line side _ c.args.numbers.now c.copy_from_slice.new.self refl long (omega arith)

pub returns-clause-range : goal.returns-clause-range
returns-clause-range c =
    let news = All-same (IsNumber c.args.depth.bitpix) c.copy_from_slice.new.self c.combine_rows.new.out c.copy_from_slice.ensures.after c.combine_rows.ensures.numbers in
    All-put_mid (IsNumber c.args.depth.bitpix) _ _ c.args.numbers.now c.copy_from_slice.new.self c.requires.numbers news
