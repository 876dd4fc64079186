use Rattle.std.proofs.Common.{◌<◌, ◌^◌, ◌∙◌, sym, ap, All, IsTrue, arith}
use Rattle.parent_rule.specs.Depth.{is_bitpix}
use Rattle.tile_pixels.proofs.Tiles.{IsTile-from_bytes, bytes_back}
use Rattle.tile_pixels.proofs.tile.Tile.of_raw.Goals as goal

pub invariant_of-result : goal.invariant_of-result
invariant_of-result c =
    let bytes : All (λ b. b < 256) c.args.raw.items = λ k d h. omega arith in
    let known : IsTrue (is_bitpix c.args.depth.bitpix) = ap is_bitpix (sym c.bitpix-bitpix.ensures.bitpix) ∙ c.bitpix-bitpix.ensures.known in (
      IsTile-from_bytes c.args.depth c.args.n c.args.raw.items c.requires.least_n c.requires.greatest_n known bytes,
      known,
      c.requires.raw,
      bytes_back c.args.depth.bitpix (4 ^ c.args.n) c.args.raw.items known c.requires.raw bytes,
    )

pub returns-clause-bytes : goal.returns-clause-bytes
returns-clause-bytes c =
    let bytes : All (λ b. b < 256) c.args.raw.items = λ k d h. omega arith in
    let known : IsTrue (is_bitpix c.args.depth.bitpix) = ap is_bitpix (sym c.bitpix-bitpix.ensures.bitpix) ∙ c.bitpix-bitpix.ensures.known in
    bytes_back c.args.depth.bitpix (4 ^ c.args.n) c.args.raw.items known c.requires.raw bytes
