use Rattle.std.proofs.Common.{◌∙◌, refl, arith, get_or}
use Rattle.std.specs.Prelude.{IfSome, slice_get}
use Rattle.std.specs.List.{filter_map}
use Rattle.std.specs.Map.{keys_of}
use Rattle.std.proofs.lemmas.List.{get_or_default}
use Rattle.std.proofs.lemmas.Result.{err_from_is_err_and}
use Rattle.shelf_io.specs.Opening.{leaf_refusal, IsRefusedBy}
use Rattle.shelf_io.proofs.LoadLemmas.{if_err_from}
use Rattle.shelf_io.proofs.LeafLemmas.{tiles_more, sound_more, refused_here, lower_next, one_at_most}
use Rattle.shelf_io.proofs.leaves.read_leaves.Goals as goal

pub returns-in_err-tile-clause-refused : goal.returns-in_err-tile-clause-refused
returns-in_err-tile-clause-refused g c =
    if_err_from (λ refusal. IfSome (g.H.Shelf.files c.args.shelf.now) (λ files. IsRefusedBy (slice_get (filter_map (leaf_refusal files c.args.conf.now) c.args.leaves.now) 0) refusal))
    c.from_residual.result c.in_err-tile.field-0.0 (err_from_is_err_and c.from_residual.result c.from_residual.ensures.1)
    (refused_here (g.H.Shelf.files c.loop-leaf.shelf) (g.H.Shelf.files c.args.shelf.now) c.loop-leaf.invariant.kept c.args.conf.now c.args.leaves.now c.loop-leaf.leaf-index (get_or c.args.leaves.now c.loop-leaf.leaf-index 0) c.loop-leaf-test.true
    (get_or_default c.args.leaves.now c.loop-leaf.leaf-index 0 _ c.loop-leaf-test.true) c.in_err-tile.field-0.0 c.loop-leaf.invariant.sound c.in_err-tile.ensures.refused)

pub loop-leaf-preserved : goal.loop-leaf-preserved
loop-leaf-preserved g c =
    let leaf = get_or c.args.leaves.now c.loop-leaf.leaf-index 0 in
    let at = get_or_default c.args.leaves.now c.loop-leaf.leaf-index 0 leaf c.loop-leaf-test.true in
    let one = one_at_most c.in_ok-tile.tile in
    record {
      kept = c.read_leaf.ensures.kept ∙ c.loop-leaf.invariant.kept;
      faults = c.in_ok-tile.ensures.faults ∙ c.loop-leaf.invariant.faults;
      fits = c.in_ok-add_leaf.ensures.fits;
      lower = λ k h below. lower_next c.args.leaves.now c.loop-leaf.leaf-index k leaf (keys_of c.add_leaf.new.tiles) c.requires.ascending refl h below c.in_ok-add_leaf.ensures.higher;
      tiles = tiles_more (g.H.Shelf.files c.loop-leaf.shelf) (g.H.Shelf.files c.args.shelf.now) c.loop-leaf.invariant.kept c.args.conf.now c.args.leaves.now c.loop-leaf.leaf-index leaf c.loop-leaf-test.true at
          c.loop-leaf.tiles c.add_leaf.new.tiles _ c.loop-leaf.invariant.tiles c.in_ok-tile.ensures.tile c.in_ok-add_leaf.ensures.added;
      sound = sound_more (g.H.Shelf.files c.loop-leaf.shelf) (g.H.Shelf.files c.args.shelf.now) c.loop-leaf.invariant.kept c.args.conf.now c.args.leaves.now c.loop-leaf.leaf-index leaf c.loop-leaf-test.true at
          c.loop-leaf.invariant.sound c.in_ok-tile.ensures.sound;
      count = omega (arith, one, c.in_ok-add_leaf.ensures.count, c.loop-leaf.invariant.count);
      counted = omega (arith, c.in_ok-tile.ensures.counted, c.in_ok-add_leaf.ensures.count, c.loop-leaf.invariant.counted);
      steps = omega (arith, c.in_ok-tile.ensures.steps, c.in_ok-add_leaf.ensures.count, c.loop-leaf.invariant.steps);
      rises = omega (arith, c.read_leaf.ensures.steps_never_fall, c.loop-leaf.invariant.rises);
    }
