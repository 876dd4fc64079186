use Rattle.std.proofs.Common.{rules, ◌≡◌, ◌∙◌, ◌-◌, ◌^◌, ap, subst, arith, length, take, w64, sym, None, Some}
use Rattle.std.specs.Prelude.{All, replicate, option_map}
use Rattle.std.proofs.lemmas.Int.{to_z-of_z}
use Rattle.std.proofs.lemmas.List.{length-take-le}
use Rattle.parent_rule.specs.Depth.{PixelDepth, IsNumber}
use Rattle.tile_pixels.specs.Lines.{half_row}
use Rattle.tile_pixels.specs.Stored.{stored_bytes}
use Rattle.tile_pixels.proofs.TwoRows.{half_row-none, half_row-some, half_row-numbers, number_in-number}
use Rattle.tile_pixels.proofs.merge.store_half_row.Goals as goal
use mir.Val.{SFits}

pub returns-in-None-clause-bytes : goal.returns-in-None-clause-bytes
returns-in-None-clause-bytes c =
    let fits : SFits w64 c.blank-blank.result = search rules in
    let half = c.half_side-half.result in
    let count : length (take half c.args.numbers.now) ≡ 2 ^ (c.args.n - 1) = length-take-le half c.args.numbers.now (omega arith) ∙ c.half_side-half.ensures.half in
    c.write_row.ensures.bytes ∙ ap (stored_bytes c.args.depth.bitpix)
    (c.fill.ensures.after (λ y e. e)
    ∙ ap (λ v. replicate (length (take half c.args.numbers.now)) v) (to_z-of_z w64 c.blank-blank.result fits ∙ c.blank-blank.ensures.blank)
    ∙ half_row-none c.args.depth c.args.n c.args.row (length (take half c.args.numbers.now)) count
    ∙ ap (λ (o : _). half_row c.args.depth c.args.n (option_map (λ t. t.now.numbers) o) c.args.row) (sym c.in-None.is))

pub returns-in-None-clause-range : goal.returns-in-None-clause-range
returns-in-None-clause-range c =
    let blank : IsNumber c.args.depth.bitpix c.args.depth.blank = rw (← c.blank-blank.ensures.blank) c.blank-blank.ensures.number in
    subst (λ (o : _). All (IsNumber c.args.depth.bitpix) (half_row c.args.depth c.args.n (option_map (λ t. t.now.numbers) o) c.args.row)) (sym c.in-None.is)
    (half_row-numbers c.args.depth c.args.n c.args.row None blank (λ column line. blank))

pub returns-in-Some-clause-bytes : goal.returns-in-Some-clause-bytes
returns-in-Some-clause-bytes c =
    let tile = c.in-Some.tile.now in
    let shape = c.requires.child c.in-Some.tile c.in-Some.is in
    c.store_row_above.ensures ∙ ap (stored_bytes c.args.depth.bitpix)
    (half_row-some tile c.args.depth c.args.n c.args.row c.half_side-half.result c.line.result.now c.line-in-Some.result.now shape c.requires.least_n c.half_side-half.ensures.half c.line.ensures.numbers c.line-in-Some.ensures.numbers
    ∙ ap (λ (o : _). half_row c.args.depth c.args.n (option_map (λ t. t.now.numbers) o) c.args.row) (sym c.in-Some.is))

pub returns-in-Some-clause-range : goal.returns-in-Some-clause-range
returns-in-Some-clause-range c =
    let tile = c.in-Some.tile.now in
    let shape = c.requires.child c.in-Some.tile c.in-Some.is in
    let blank : IsNumber c.args.depth.bitpix c.args.depth.blank = rw (← c.blank-blank.ensures.blank) c.blank-blank.ensures.number in
    let numbers : All (IsNumber c.args.depth.bitpix) tile.numbers = subst (λ (d : PixelDepth). All (IsNumber d.bitpix) tile.numbers) shape.0 c.line.ensures.tile.range in
    subst (λ (o : _). All (IsNumber c.args.depth.bitpix) (half_row c.args.depth c.args.n (option_map (λ t. t.now.numbers) o) c.args.row)) (sym c.in-Some.is)
    (half_row-numbers c.args.depth c.args.n c.args.row (Some tile.numbers) blank (λ column line. number_in-number c.args.depth c.args.n tile.numbers column line blank numbers))
