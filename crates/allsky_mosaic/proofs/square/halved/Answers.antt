use Rattle.std.proofs.Common.{◌≡◌, ℕ, suc, ◌+◌, ◌-◌, ◌*◌, ◌/◌, ◌^◌, ◌<◌, List, length, sym, ap, subst, ◌∙◌, arith, pow-suc}
use Rattle.healpix_nested.specs.PlaceLaws.{square_of_side}
use Rattle.parent_rule.specs.Depth.{PixelDepth}
use Rattle.tile_pixels.specs.Tile.{pixel_in}
use Rattle.allsky_mosaic.specs.Cells.{ShowsSquare, square_number, number_over}
use Rattle.allsky_mosaic.proofs.Halving.{square_halved}
use Rattle.allsky_mosaic.proofs.Squares.{raw_shows}
use Rattle.allsky_mosaic.proofs.square.halved.Goals as goal

-- twice the columns of one level less
twice : (n : ℕ) → 0 < n → 2 * 2 ^ (n - 1) ≡ 2 ^ n
twice n some = let e : suc (n - 1) ≡ n = omega arith in sym (pow-suc 2 (n - 1) ∙ omega arith) ∙ ap (λ (k : ℕ). 2 ^ k) e

-- a half whose side is that power is a half of so many levels
half_at : (depth : PixelDepth) (side levels : ℕ) (whole half : List ℕ) → side ≡ 2 ^ levels
    → ((column line : ℕ) → column < side → line < side → square_number depth.bitpix side half column line ≡ number_over depth side whole column line)
    → (column line : ℕ) → column < 2 ^ levels → line < 2 ^ levels → square_number depth.bitpix (2 ^ levels) half column line ≡ number_over depth (2 ^ levels) whole column line
half_at depth side levels whole half is numbers =
    subst (λ (k : ℕ). (column line : ℕ) → column < k → line < k → square_number depth.bitpix k half column line ≡ number_over depth k whole column line) is numbers

-- and so long
long_at : (side levels w long : ℕ) → side ≡ 2 ^ levels → long ≡ side * side * w → long ≡ 2 ^ levels * 2 ^ levels * w
long_at side levels w long is long_is = long_is ∙ ap (λ (k : ℕ). k * k * w) is

-- what is halved is twice as wide
whole_at : (side n w long : ℕ) → side ≡ 2 ^ (n - 1) → 0 < n → long ≡ 2 ^ n * 2 ^ n * w → long ≡ 2 * side * (2 * side) * w
whole_at side n w long is some long_is = let wide : 2 ^ n ≡ 2 * side = sym (ap (λ (k : ℕ). 2 * k) is ∙ twice n some) in long_is ∙ ap (λ (k : ℕ). k * k * w) wide

pub half_of-requires-clause-square : goal.half_of-requires-clause-square
half_of-requires-clause-square c =
    let tile = c.args.tile.now in
    whole_at c.power.result c.args.n (c.args.depth.bitpix / 8) (length c.raw.result.now) c.power.ensures.power (omega arith)
    (c.raw.ensures.length ∙ ap (λ (k : ℕ). k * (tile.depth.bitpix / 8)) (sym (square_of_side tile.n) ∙ ap (λ (k : ℕ). 2 ^ k * 2 ^ k) c.requires.shape.1)
    ∙ ap (λ (d : PixelDepth). 2 ^ c.args.n * 2 ^ c.args.n * (d.bitpix / 8)) c.requires.shape.0)

pub loop-levels-init : goal.loop-levels-init
loop-levels-init c =
    let n = c.args.n in
    let raw : List ℕ = c.raw.result.now in
    let next : n ≡ n - 1 + 1 = omega arith in (
      omega arith,
      long_at c.power.result (n - 1) (c.args.depth.bitpix / 8) (length c.in_ok-square.square.items) c.power.ensures.power c.in_ok-square.ensures.length,
      square_halved c.args.depth n (n - 1) raw c.in_ok-square.square.items (pixel_in c.args.tile.now) c.requires.greatest_n (omega arith)
          (half_at c.args.depth c.power.result (n - 1) raw c.in_ok-square.square.items c.power.ensures.power c.in_ok-square.ensures.numbers)
          (λ shape leaves cell survey shows.
          subst (λ (k : ℕ). ShowsSquare shape leaves cell k (square_number c.args.depth.bitpix (2 ^ k) raw)) next (raw_shows c.args.depth n c.args.tile.now raw c.requires.shape c.raw.ensures.numbers shape leaves cell shows)),
    )

pub loop-levels-preserved : goal.loop-levels-preserved
loop-levels-preserved c =
    let levels = c.loop-levels.levels in
    let whole : List ℕ = c.deref.result.now in
    let half : List ℕ = c.in_ok-square-2.square.items in
    let next : levels ≡ levels - 1 + 1 = omega arith in (
      omega arith,
      long_at c.power-in-loop-levels.result (levels - 1) (c.args.depth.bitpix / 8) (length half) c.power-in-loop-levels.ensures.power c.in_ok-square-2.ensures.length,
      square_halved c.args.depth c.args.n (levels - 1) whole half (pixel_in c.args.tile.now) c.requires.greatest_n (omega arith)
          (half_at c.args.depth c.power-in-loop-levels.result (levels - 1) whole half c.power-in-loop-levels.ensures.power c.in_ok-square-2.ensures.numbers)
          (λ shape leaves cell survey shows.
          subst (λ (k : ℕ). ShowsSquare shape leaves cell k (square_number c.args.depth.bitpix (2 ^ k) whole)) next
          (subst (λ (bytes : List ℕ). ShowsSquare shape leaves cell levels (square_number c.args.depth.bitpix (2 ^ levels) bytes)) (sym c.deref.ensures.value) (c.loop-levels.invariant.2 shape leaves cell survey shows))),
    )

pub half_of-requires-in-loop-levels-clause-square : goal.half_of-requires-in-loop-levels-clause-square
half_of-requires-in-loop-levels-clause-square c =
    whole_at c.power-in-loop-levels.result c.loop-levels.levels (c.args.depth.bitpix / 8) (length c.deref.result.now) c.power-in-loop-levels.ensures.power (omega arith)
    (ap length c.deref.ensures.value ∙ c.loop-levels.invariant.1)

pub returns-clause-shown : goal.returns-clause-shown
returns-clause-shown c shape leaves cell survey shows =
    let levels : c.loop-levels.levels ≡ 6 = omega arith in
    subst (λ (k : ℕ). ShowsSquare shape leaves cell k (square_number c.args.depth.bitpix (2 ^ k) c.loop-levels.square.items)) levels (c.loop-levels.invariant.2 shape leaves cell survey shows)
