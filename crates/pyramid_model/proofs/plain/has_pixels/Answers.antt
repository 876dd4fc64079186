use Rattle.std.proofs.Common.{◌≡◌, ◌-◌, ◌^◌, ◌∙◌, sym, ap, arith}
use Rattle.pyramid_model.specs.Leaves.{leaf_map}
use Rattle.pyramid_model.specs.TileLaws.{no_pixels}
use Rattle.pyramid_model.proofs.ValueLemmas.{no_leaf_pixels}
use Rattle.pyramid_model.proofs.plain.has_pixels.Goals as goal

pub returns-then-order-shape : goal.returns-then-order-shape
returns-then-order-shape c = record {
  none = λ e pixel under.
      let top_is : c.shape.inside.top ≡ c.args.shape.now.top = ap (λ s. s.top) c.shape.view_is in
      no_pixels c.args.shape.now (leaf_map c.args.leaves.now.entries) c.args.order c.args.cell pixel (omega arith) (sym c.exists.ensures ∙ e) under;
}

pub returns : goal.returns
returns c = record {
  none = λ e pixel under.
      let top_is : c.shape.inside.top ≡ c.args.shape.now.top = ap (λ s. s.top) c.shape.view_is in
      let below_is : c.cells_below.result ≡ 4 ^ (c.args.order - c.args.shape.now.top) = c.cells_below.ensures.count ∙ ap (λ t. 4 ^ (c.args.order - t)) top_is in
      no_leaf_pixels c.args.leaves.now.entries c.args.shape.now.top c.args.shape.now.n c.args.order c.args.cell pixel (omega arith) c.requires.order (sym (rw below_is at c.contains_key.ensures) ∙ e) under;
}
