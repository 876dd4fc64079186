use Rattle.std.proofs.Common.{◌≡◌, ℕ, ◌+◌, ◌-◌, ◌*◌, ◌/◌, ◌<◌, ◌≤◌, List, length, take, drop, ap, subst, ◌∙◌, arith, rules}
use Rattle.std.specs.Prelude.{IsTrue}
use Rattle.std.proofs.lemmas.Nat.{row_fits}
use Rattle.parent_rule.specs.Depth.{IsNumber, is_bitpix}
use Rattle.tile_pixels.specs.StoredLaws.{AreBytes}
use Rattle.allsky_mosaic.proofs.Strips.{times}
use Rattle.allsky_mosaic.proofs.HalvedLines.{line_halved}
use Rattle.allsky_mosaic.proofs.square.halve_line.Goals as goal

-- line s of the square ends within it, where the line above has so many bytes
line_fits : (s side w long half : ℕ) → s < 2 * side → half ≡ side * w → long ≡ 2 * side * (2 * side) * w → s * (2 * half) + 2 * half ≤ long
line_fits s side w long half s_in half_is long_is =
    let fits : (s * (2 * side) + 2 * side) * w ≤ 2 * side * (2 * side) * w = times (s * (2 * side) + 2 * side) (2 * side * (2 * side)) w (row_fits s (2 * side) (2 * side) (2 * side) s_in (omega arith)) in
    rw (half_is, long_is) (omega (arith, fits))

-- the bytes of line 2t, and behind it of line 2t + 1, as they are cut out
lower_is : (t side w half : ℕ) (square : List ℕ) → half ≡ side * w
    → take (2 * t * (2 * half) + 2 * half - 2 * t * (2 * half)) (drop (2 * t * (2 * half)) square) ≡ take (2 * side * w) (drop (2 * t * (2 * side) * w) square)
lower_is t side w half square half_is =
    let size : 2 * t * (2 * half) + 2 * half - 2 * t * (2 * half) ≡ 2 * side * w = rw half_is (omega arith) in
    let start : 2 * t * (2 * half) ≡ 2 * t * (2 * side) * w = rw half_is (omega arith) in
    ap (λ (n : ℕ). take n (drop (2 * t * (2 * half)) square)) size ∙ ap (λ (n : ℕ). take (2 * side * w) (drop n square)) start

upper_is : (t side w half : ℕ) (square : List ℕ) → half ≡ side * w
    → take (2 * t * (2 * half) + 2 * half + 2 * half - (2 * t * (2 * half) + 2 * half)) (drop (2 * t * (2 * half) + 2 * half) square) ≡ take (2 * side * w) (drop ((2 * t + 1) * (2 * side) * w) square)
upper_is t side w half square half_is =
    let size : 2 * t * (2 * half) + 2 * half + 2 * half - (2 * t * (2 * half) + 2 * half) ≡ 2 * side * w = rw half_is (omega arith) in
    let start : 2 * t * (2 * half) + 2 * half ≡ (2 * t + 1) * (2 * side) * w = rw half_is (omega arith) in
    ap (λ (n : ℕ). take n (drop (2 * t * (2 * half) + 2 * half) square)) size ∙ ap (λ (n : ℕ). take (2 * side * w) (drop n square)) start

pub slice_bounds-bottom-end : goal.slice_bounds-bottom-end
slice_bounds-bottom-end c =
    let half = length c.args.line.now in
    let t_in : 2 * c.args.t < 2 * c.args.side = omega arith in
    let fits : 2 * c.args.t * (2 * half) + 2 * half ≤ length c.args.square.now = line_fits (2 * c.args.t) c.args.side (c.args.depth.bitpix / 8) (length c.args.square.now) half t_in c.requires.line c.requires.square in
    search rules

pub slice_bounds-top-end : goal.slice_bounds-top-end
slice_bounds-top-end c =
    let half = length c.args.line.now in
    let t_in : 2 * c.args.t + 1 < 2 * c.args.side = omega arith in
    let next : (2 * c.args.t + 1) * (2 * half) + 2 * half ≤ length c.args.square.now = line_fits (2 * c.args.t + 1) c.args.side (c.args.depth.bitpix / 8) (length c.args.square.now) half t_in c.requires.line c.requires.square in
    let fits : 2 * c.args.t * (2 * half) + 2 * half + 2 * half ≤ length c.args.square.now = omega (arith, next) in
    search rules

pub returns : goal.returns
returns c column column_in =
    let bits = c.args.depth.bitpix in
    let square : List ℕ = c.args.square.now in
    let half = length c.args.line.now in
    let known : IsTrue (is_bitpix bits) = search rules in
    let blank : IsNumber bits c.args.depth.blank = subst (IsNumber bits) c.blank-blank.ensures.blank c.blank-blank.ensures.number in
    let are : AreBytes square = λ i. let byte = c.type_inv.square i in omega (arith, byte) in
    line_halved c.args.depth c.args.side c.args.t square c.store_row_above.new.out _ _ column known blank are c.requires.square c.requires.t
    (upper_is c.args.t c.args.side (bits / 8) half square c.requires.line) (lower_is c.args.t c.args.side (bits / 8) half square c.requires.line) c.store_row_above.ensures column_in
