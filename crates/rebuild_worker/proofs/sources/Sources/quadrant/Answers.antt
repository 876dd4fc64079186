use Rattle.std.proofs.Common.{◌≡◌, Some, option_map, ap, sym, ◌∙◌}
use Rattle.leaf_store.specs.Store.{value_at}
use Rattle.rebuild_worker.proofs.Children.{child_shape, child_numbers}
use Rattle.rebuild_worker.proofs.Stood.{kept}
use Rattle.rebuild_worker.proofs.sources.Sources.quadrant.Goals as goal

pub returns-then-is_touched : goal.returns-then-is_touched
returns-then-is_touched c shape npix sources at before now = (
  child_shape shape c.args.self.children.now c.args.child c.args.now sources.children now,
  child_numbers (value_at c.args.child c.args.self.children.now) c.args.now now,
)

pub returns-in-Some : goal.returns-in-Some
returns-in-Some c shape npix sources at before now =
    let there : Some c.in-Some.tile.now ≡ value_at npix c.args.self.before.now = ap (option_map (λ tile. tile.now)) (sym c.in-Some.is) ∙ before in
    let found = kept shape c.args.self.children.now c.args.self.before.now c.args.self.touched.now c.args.self.height npix c.args.child c.args.i c.in-Some.tile.now
    c.requires.i at sources.stood there (sym c.is_touched.ensures ∙ c.if-is_touched.false) in
    ((found.0, c.requires.i), found.1)

pub returns-in-None : goal.returns-in-None
returns-in-None c shape npix sources at before now = (
  child_shape shape c.args.self.children.now c.args.child c.args.now sources.children now,
  child_numbers (value_at c.args.child c.args.self.children.now) c.args.now now,
)
