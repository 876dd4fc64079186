use Rattle.std.proofs.Common.{rules, ◌≡◌, ◌-◌, ◌+◌, ◌*◌, ◌<◌, ◌/◌, ◌%◌, List, ℤ, Option, take, drop, ◌∙◌, ap, sym, arith}
use Rattle.std.specs.Prelude.{IsTrue}
use Rattle.parent_rule.specs.Depth.{PixelDepth, is_bitpix}
use Rattle.tile_pixels.specs.Quadrants.{WasMerged}
use Rattle.tile_pixels.specs.StoredLaws.{AreBytes}
use Rattle.tile_pixels.proofs.Rows.{are_bytes}
use Rattle.tile_pixels.proofs.Kept.{IsLine, quadrant_line, quadrant_length, row_within}
use Rattle.tile_pixels.proofs.tile.Tile.quadrant_line.Goals as goal

pub overflow_add-i : goal.overflow_add-i
overflow_add-i c =
    let within : c.args.i % 2 * (c.side-half.result / 2) + c.args.row < c.side-half.result = row_within c.args.self.now.n c.args.i c.args.row c.side-half.result c.side-half.ensures.side c.requires.row in
    omega arith

pub overflow_cast-i : goal.overflow_cast-i
overflow_cast-i c =
    let within : c.args.i % 2 * (c.side-half.result / 2) + c.args.row < c.side-half.result = row_within c.args.self.now.n c.args.i c.args.row c.side-half.result c.side-half.ensures.side c.requires.row in
    omega arith

pub line-line-requires : goal.line-line-requires
line-line-requires c =
    let within : c.args.i % 2 * (c.side-half.result / 2) + c.args.row < c.side-half.result = row_within c.args.self.now.n c.args.i c.args.row c.side-half.result c.side-half.ensures.side c.requires.row in
    omega (arith, c.side-half.ensures.side)

line : (c : goal.After-result-1) (child : Option (List ℤ)) → WasMerged c.args.self.now.depth c.args.self.now.n c.args.self.now.numbers c.args.i child → IsLine c.args.self.now.depth c.args.self.now.n c.args.row child
    (take (c.args.i / 2 * (c.side-half.result / 2 * c.bytes.result) + c.side-half.result / 2 * c.bytes.result - c.args.i / 2 * (c.side-half.result / 2 * c.bytes.result)) (drop (c.args.i / 2 * (c.side-half.result / 2 * c.bytes.result)) c.line-line.result.now))
line c child was =
    let known : IsTrue (is_bitpix c.args.self.now.depth.bitpix) = ap is_bitpix (ap (λ (d : PixelDepth). d.bitpix) (sym c.depth-depth.ensures.depth) ∙ sym c.bitpix-bitpix.ensures.bitpix) ∙ c.bitpix-bitpix.ensures.known in
    let width : 8 * c.bytes.result ≡ c.args.self.now.depth.bitpix = c.bytes.ensures.bytes ∙ ap (λ (d : PixelDepth). d.bitpix) c.depth-depth.ensures.depth in
    let are : AreBytes c.line-line.result.now = are_bytes c.line-line.result.now (λ k. search rules) in
    quadrant_line c.args.self.now c.args.i c.args.row c.side-half.result c.bytes.result c.line-line.result.now child known c.line-line.ensures.tile.least_n c.line-line.ensures.tile.greatest_n c.requires.i c.requires.row
    c.side-half.ensures.side width are c.line-line.ensures.length c.line-line.ensures.numbers was

pub returns-clause-bytes : goal.returns-clause-bytes
returns-clause-bytes c child was = (line c child was).bytes_are

pub returns-clause-range : goal.returns-clause-range
returns-clause-range c child was = (line c child was).range

pub returns-clause-length : goal.returns-clause-length
returns-clause-length c =
    let width : 8 * c.bytes.result ≡ c.args.self.now.depth.bitpix = c.bytes.ensures.bytes ∙ ap (λ (d : PixelDepth). d.bitpix) c.depth-depth.ensures.depth in
    quadrant_length c.args.self.now.n c.args.i c.side-half.result c.bytes.result c.args.self.now.depth.bitpix c.line-line.result.now c.line-line.ensures.tile.least_n c.requires.i c.side-half.ensures.side width c.line-line.ensures.length
