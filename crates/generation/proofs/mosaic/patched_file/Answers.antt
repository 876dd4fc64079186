use Rattle.std.proofs.Common.{◌≡◌, List, ℕ, length, drop, sym, ap, subst, ◌∙◌}
use Rattle.std.proofs.lemmas.List.{nil_from_length, take_at}
use Rattle.generation.specs.Kept.{IsMosaicFile}
use Rattle.generation.proofs.Mosaics.{no_file, empty_tiles}
use Rattle.generation.proofs.mosaic.patched_file.Goals as goal

pub returns-then-len-eq0 : goal.returns-then-len-eq0
returns-then-len-eq0 c = no_file c.args.conf.now c.args.tiles.now c.shape-shape.ensures.kept.shape (nil_from_length c.args.tiles.now (sym c.len.ensures.pairs ∙ c.if-len-eq0.true))

pub returns : goal.returns
returns c leaves fits is =
    let new : List ℕ = c.patch_pixels.new.file in
    let kept : length new ≡ c.extend_from_slice.new.self.len = c.patch_pixels.auto.file ∙ c.deref_mut.ensures.len in
    subst (IsMosaicFile c.args.conf.now leaves) (sym (take_at new (drop (length new) c.extend_from_slice.new.self.items) c.extend_from_slice.new.self.len kept))
    (c.in_ok-patch_pixels.ensures leaves
    (λ none. c.if-len-eq0.false (c.len.ensures.pairs ∙ ap length (empty_tiles c.args.conf.now leaves c.args.tiles.now c.shape-shape.ensures.kept.shape fits is none))) fits is)
