use Rattle.std.proofs.Common.{◌≡◌, ℕ, ◌+◌, ◌*◌, ◌/◌, ◌<◌, List, ℤ, length, ap, ◌∙◌, arith, rules, w64, get_or, length-append}
use Rattle.std.specs.Prelude.{IsTrue, replicate}
use Rattle.std.proofs.lemmas.Int.{to_z-of_z}
use Rattle.std.proofs.lemmas.List.{get_or-replicate}
use Rattle.parent_rule.specs.Depth.{is_bitpix}
use Rattle.tile_pixels.specs.StoredLaws.{length-stored_bytes}
use Rattle.tile_pixels.specs.Stored.{stored_at}
use Rattle.allsky_mosaic.proofs.Appended.{all_appended, stored_at-row}
use Rattle.allsky_mosaic.proofs.Squares.{given_back}
use Rattle.allsky_mosaic.proofs.square.blank_lines.Goals as goal
use mir.Val.{SFits}

pub loop-preserved : goal.loop-preserved
loop-preserved c =
    let bits = c.args.depth.bitpix in
    let side = c.args.side in
    let blank = c.args.depth.blank in
    let known : IsTrue (is_bitpix bits) = search rules in
    let fits : SFits w64 c.blank.result = search rules in
    let row : c.deref.result.now ≡ replicate side blank = c.deref.ensures.value ∙ c.in_ok-numbers.ensures.items_if_clones_equal (λ y e. e)
    ∙ ap (replicate side) (to_z-of_z w64 c.blank.result fits ∙ c.blank.ensures.blank) in
    let row_long : length c.deref.result.now ≡ side = c.deref.ensures.len ∙ c.in_ok-numbers.ensures.len in
    let written : length c.write_row.new.bytes ≡ side * (bits / 8) = ap length c.write_row.ensures.bytes ∙ length-stored_bytes bits c.deref.result.now known ∙ ap (λ (k : ℕ). k * (bits / 8)) row_long in
    let line : List ℕ = c.deref-in-loop.result.now in
    let kept : length c.write_row.new.bytes ≡ c.in_ok-line.line.len = c.write_row.auto.bytes ∙ c.deref_mut.ensures.len in
    let line_is : line ≡ c.write_row.new.bytes = c.deref-in-loop.ensures.value ∙ given_back c.in_ok-line.line.len c.write_row.new.bytes c.in_ok-line.line.items kept in
    let line_long : length line ≡ side * (bits / 8) = ap length line_is ∙ written in
    let more : length c.extend_from_slice.new.self.items ≡ length c.loop.raw.items + length line = ap length c.in_ok-extend_from_slice.ensures.items ∙ length-append c.loop.raw.items line in
    let before : length c.loop.raw.items ≡ c.loop.counter * side * (bits / 8) = c.loop.invariant.0 in (
      omega arith,
      λ place within.
          ap (λ (bytes : List ℕ). stored_at bits bytes place) c.in_ok-extend_from_slice.ensures.items
          ∙ all_appended bits (c.loop.counter * side) side c.loop.raw.items line (λ p. blank) known before c.loop.invariant.1
          (λ u u_in.
          let u_row : u < length c.deref.result.now = omega arith in
          ap (λ (bytes : List ℕ). stored_at bits bytes u) line_is ∙ stored_at-row bits u c.deref.result.now c.write_row.new.bytes blank c.write_row.ensures.numbers u_row
          ∙ ap (λ (vs : List ℤ). get_or vs u blank) row ∙ get_or-replicate side u blank blank u_in)
          place (omega arith),
    )

pub returns-clause-blank : goal.returns-clause-blank
returns-clause-blank c place within =
    let all : c.args.lines ≡ c.loop.counter = omega arith in
    c.loop.invariant.1 place (rw (← all) within)
