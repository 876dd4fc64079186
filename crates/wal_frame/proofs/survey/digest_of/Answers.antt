use Rattle.std.proofs.Common.{◌≡◌, ◌++◌, [], ◌∷◌, List, ℕ, sym, ap, ◌∙◌, append_assoc}
use Rattle.std.specs.Prelude.{flat_map}
use Rattle.std.specs.Int.{w32, to_be_bytes}
use Rattle.std.specs.Arc.{arc_value}
use Rattle.std.proofs.lemmas.List.{append-nil}
use Rattle.std.proofs.lemmas.List.Concat.{flat_map-cons}
use Rattle.tile_pixels.specs.Tile.{PixelTile}
use Rattle.sha2.specs.Sha512.{sha512_256}
use Rattle.wal_frame.specs.Record.{tile_bytes}
use Rattle.wal_frame.specs.Survey.{leaf_bytes}
use Rattle.wal_frame.proofs.survey.digest_of.Goals as goal

pub loop-leaf-init : goal.loop-leaf-init
loop-leaf-init c =
    let same = c.into_iter-leaf-iterator.ensures.into_iter_gives ∙ c.iter-leaf-items.ensures.all in
    (c.args.text.now, c.update.ensures [] c.new-hasher.ensures, ap (λ leaves. c.args.text.now ++ flat_map leaf_bytes leaves) same)

-- the bytes of a leaf go from what is left to what is held
one_more : (held bytes all : List ℕ) (leaf : ℕ) (tile : PixelTile) (others rest : List (ℕ × PixelTile)) → others ≡ (leaf, tile) ∷ rest → bytes ≡ tile_bytes tile
    → held ++ flat_map leaf_bytes others ≡ all → ((held ++ to_be_bytes w32 leaf) ++ bytes) ++ flat_map leaf_bytes rest ≡ all
one_more held bytes all leaf tile others rest is same so_far =
    let first : flat_map leaf_bytes others ≡ leaf_bytes (leaf, tile) ++ flat_map leaf_bytes rest = ap (flat_map leaf_bytes) is ∙ flat_map-cons leaf_bytes (leaf, tile) rest in
    append_assoc (held ++ to_be_bytes w32 leaf) bytes (flat_map leaf_bytes rest)
    ∙ append_assoc held (to_be_bytes w32 leaf) (bytes ++ flat_map leaf_bytes rest)
    ∙ ap (λ (b : List ℕ). held ++ (to_be_bytes w32 leaf ++ (b ++ flat_map leaf_bytes rest))) same
    ∙ ap (λ (t : List ℕ). held ++ t) (sym (append_assoc (to_be_bytes w32 leaf) (tile_bytes tile) (flat_map leaf_bytes rest)))
    ∙ ap (λ (t : List ℕ). held ++ t) (sym first) ∙ so_far

pub loop-leaf-preserved : goal.loop-leaf-preserved
loop-leaf-preserved c =
    let held : List ℕ = c.loop-leaf.invariant.0 in
    let number = c.update-in-loop-leaf.ensures held c.loop-leaf.invariant.1 in
    let stored = c.update-in-loop-leaf-2.ensures _ number in
    let tile : c.raw.result.now ≡ tile_bytes (arc_value c.in-Some.tile.now) = c.raw.ensures.bytes ∙ ap tile_bytes c.deref.ensures in
    (_, stored, rw c.to_be_bytes.ensures (one_more held c.raw.result.now _ c.in-Some.leaf (arc_value c.in-Some.tile.now) c.loop-leaf.leaf-iterator c.next.new.self c.in-Some.ensures.steps tile c.loop-leaf.invariant.2))

pub returns : goal.returns
returns c =
    let held : List ℕ = c.loop-leaf.invariant.0 in
    let end : c.loop-leaf.leaf-iterator ≡ [] = c.in-None.ensures.steps.0 in
    c.finalize.ensures held c.loop-leaf.invariant.1 ∙ ap (λ (t : List ℕ). sha512_256 t) (sym (append-nil held) ∙ ap (λ leaves. held ++ flat_map leaf_bytes leaves) (sym end) ∙ c.loop-leaf.invariant.2)
