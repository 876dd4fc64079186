use Rattle.std.proofs.Common.{arith, ◌≡◌, ◌≤◌, ◌∙◌, ◌^◌, sym, ap, subst, length, ℕ}
use Rattle.std.specs.Prelude.{IsTrue}
use Rattle.parent_rule.specs.Depth.{PixelDepth, is_bitpix}
use Rattle.tile_pixels.specs.Tile.{PixelTile}
use Rattle.wal_frame.proofs.Payloads.{tile_at_most}
use Rattle.wal_frame.proofs.writing.edit_length.Goals as goal

pub returns-in-Some-clause-at_most : goal.returns-in-Some-clause-at_most
returns-in-Some-clause-at_most c =
    let tile : PixelTile = c.deref-in-Some.result.now in
    let bits : c.bitpix-bitpix.result ≡ tile.depth.bitpix =
    c.bitpix-bitpix.ensures.bitpix ∙ ap (λ (d : PixelDepth). d.bitpix) c.depth.ensures.depth ∙ ap (λ (t : PixelTile). t.depth.bitpix) (c.deref.ensures ∙ sym c.deref-in-Some.ensures) in
    let known : IsTrue (is_bitpix tile.depth.bitpix) = subst (λ (b : ℕ). IsTrue (is_bitpix b)) bits c.bitpix-bitpix.ensures.known in
    let most : length c.raw.result.now ≤ 2 ^ 21 = rw c.raw.ensures.length (tile_at_most tile.depth.bitpix tile.n known c.raw.ensures.tile.greatest_n) in
    omega (arith, most)
