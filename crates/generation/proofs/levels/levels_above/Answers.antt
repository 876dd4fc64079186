use Rattle.std.proofs.Common.{◌≡◌, ◌+◌, [], ◌∷◌, ap, ◌∙◌, sym, subst, arith, length, refl, get_or, slice_get, ◌-◌, ◌≤◌, ◌<◌}
use Rattle.pyramid_model.specs.Shape.{IsShape}
use Rattle.generation.specs.Files.{leaf_map}
use Rattle.generation.specs.Kept.{tiles_of}
use Rattle.generation.specs.Placed.{tiles_in, IsStep}
use Rattle.generation.proofs.Chain.{Partly, partly_none, partly_more, all_made, next_of, permits_above, children_are, children_shape, step_is, found_in}
use Rattle.generation.proofs.Stood.{next_stood}
use Rattle.generation.proofs.levels.levels_above.Goals as goal

pub loop-order-init : goal.loop-order-init
loop-order-init g c =
    subst (λ levels. Partly c.args.shape (leaf_map c.args.edited.leaves.now) c.args.edited.touched.now levels c.in_ok-left.left) (sym c.new-levels.ensures.items)
    (partly_none c.args.shape (leaf_map c.args.edited.leaves.now) c.args.edited.touched.now c.in_ok-left.left (rw (← c.shape.view_is) c.in_ok-left.ensures.planned))

pub level_above-requires-clause-cells : goal.level_above-requires-clause-cells
level_above-requires-clause-cells g c κs lives =
    let shape = c.args.shape in
    let leaves = leaf_map c.args.edited.leaves.now in
    let touched = c.args.edited.touched.now in
    let taken : Partly shape leaves touched c.loop-order.levels.items ((c.in-Some.order, c.in-Some.todo.items) ∷ c.take.new.self) =
    subst (λ left. Partly shape leaves touched c.loop-order.levels.items left) c.in-Some.ensures c.loop-order.invariant in
    let next = next_of shape leaves touched c.loop-order.levels.items c.in-Some.order c.in-Some.todo.items c.take.new.self taken in
    let known : IsShape shape.top shape.low shape.n = rw (← c.shape.view_is) c.shape.invariant in
    let top : shape.top ≤ 11 = known.greatest_top in
    let order_is : c.in-Some.order ≡ shape.top - 1 - length c.loop-order.levels.items = next.order_is in
    let more : length c.loop-order.levels.items < shape.top - shape.low = next.more in
    permits_above shape c.in-Some.order touched c.in-Some.todo.items (omega arith) (omega arith) c.requires.cells next.todo_is

pub level_above-requires-clause-sources : goal.level_above-requires-clause-sources
level_above-requires-clause-sources g c κs lives =
    let shape = c.args.shape in
    let leaves = c.args.edited.leaves.now in
    let touched = c.args.edited.touched.now in
    let levels = c.loop-order.levels.items in
    let taken : Partly shape (leaf_map leaves) touched levels ((c.in-Some.order, c.in-Some.todo.items) ∷ c.take.new.self) =
    subst (λ left. Partly shape (leaf_map leaves) touched levels left) c.in-Some.ensures c.loop-order.invariant in
    let known : IsShape shape.top shape.low shape.n = rw (← c.shape.view_is) c.shape.invariant in
    let top : shape.top ≤ 11 = known.greatest_top in
    let top_is : c.shape.inside.top ≡ shape.top = ap (λ s. s.top) c.shape.view_is in
    let last = c.last.ensures.value ∙ ap (λ levels. slice_get levels (length levels - 1)) c.deref.ensures.value in
    let is : c.unwrap_or-children.result.now ≡ tiles_of shape (leaf_map leaves) (c.in-Some.order + 1) =
    ap (λ r. r.now) c.unwrap_or-children.ensures
    ∙ children_are shape leaves touched known c.requires.fits c.requires.numbers levels c.in-Some.order c.in-Some.todo.items c.take.new.self c.last.result c.args.edited.leaves taken refl last in
    let old : tiles_in c.get-was.result ≡ get_or c.args.edited.before.now (length levels) [] =
    found_in (get_or c.args.edited.before.now (length levels) []) c.get-was.result (c.get-was.ensures.lookup.4 (omega arith) [] ∙ ap (λ n. get_or c.args.edited.before.now n []) (c.len.ensures ∙ sym c.deref.ensures.len ∙ ap length c.deref.ensures.value)) in
    record {
      children = children_shape shape leaves touched known c.requires.fits c.requires.numbers c.unwrap_or-children.result.now c.in-Some.order is;
      ascending = c.requires.ascending;
      height = omega arith;
      stood = next_stood shape (leaf_map leaves) touched levels c.args.edited.before.now c.in-Some.order (c.shape.inside.top - 1 - c.in-Some.order) c.in-Some.todo.items c.take.new.self
          c.unwrap_or-children.result.now c.or_empty.result.now c.requires.stood taken is (c.or_empty.ensures ∙ old) (ap (λ t. t - 1 - c.in-Some.order) top_is);
    }

pub overflow_sub-sources-in-Some : goal.overflow_sub-sources-in-Some
overflow_sub-sources-in-Some g c =
    let shape = c.args.shape in
    let leaves = leaf_map c.args.edited.leaves.now in
    let touched = c.args.edited.touched.now in
    let taken : Partly shape leaves touched c.loop-order.levels.items ((c.in-Some.order, c.in-Some.todo.items) ∷ c.take.new.self) =
    subst (λ left. Partly shape leaves touched c.loop-order.levels.items left) c.in-Some.ensures c.loop-order.invariant in
    let next = next_of shape leaves touched c.loop-order.levels.items c.in-Some.order c.in-Some.todo.items c.take.new.self taken in
    let top_is : c.shape.inside.top ≡ shape.top = ap (λ s. s.top) c.shape.view_is in
    let order_is : c.in-Some.order ≡ shape.top - 1 - length c.loop-order.levels.items = next.order_is in
    omega arith

pub loop-order-smaller : goal.loop-order-smaller
loop-order-smaller g c = let h = ap length c.in-Some.ensures in omega (arith, h)

pub loop-order-preserved : goal.loop-order-preserved
loop-order-preserved g c =
    let shape = c.args.shape in
    let leaves = c.args.edited.leaves.now in
    let touched = c.args.edited.touched.now in
    let levels = c.loop-order.levels.items in
    let taken : Partly shape (leaf_map leaves) touched levels ((c.in-Some.order, c.in-Some.todo.items) ∷ c.take.new.self) =
    subst (λ left. Partly shape (leaf_map leaves) touched levels left) c.in-Some.ensures c.loop-order.invariant in
    let known : IsShape shape.top shape.low shape.n = rw (← c.shape.view_is) c.shape.invariant in
    let last = c.last.ensures.value ∙ ap (λ levels. slice_get levels (length levels - 1)) c.deref.ensures.value in
    let is : c.unwrap_or-children.result.now ≡ tiles_of shape (leaf_map leaves) (c.in-Some.order + 1) =
    ap (λ r. r.now) c.unwrap_or-children.ensures
    ∙ children_are shape leaves touched known c.requires.fits c.requires.numbers levels c.in-Some.order c.in-Some.todo.items c.take.new.self c.last.result c.args.edited.leaves taken refl last in
    let old : tiles_in c.get-was.result ≡ get_or c.args.edited.before.now (length levels) [] =
    found_in (get_or c.args.edited.before.now (length levels) []) c.get-was.result (c.get-was.ensures.lookup.4 (omega arith) [] ∙ ap (λ n. get_or c.args.edited.before.now n []) (c.len.ensures ∙ sym c.deref.ensures.len ∙ ap length c.deref.ensures.value)) in
    let step : IsStep shape (leaf_map leaves) c.in-Some.order touched c.unwrap_or-children.result.now c.or_empty.result.now c.in-Some.todo.items =
    step_is shape leaves touched known c.requires.fits c.requires.numbers levels c.args.edited.before.now c.in-Some.order c.in-Some.todo.items c.take.new.self
    c.unwrap_or-children.result.now c.or_empty.result.now c.requires.cells c.requires.before taken is (c.or_empty.ensures ∙ old) in
    let made : c.in_ok-level.level ≡ tiles_of shape (leaf_map leaves) c.in-Some.order = c.in_ok-level.ensures (leaf_map leaves) c.in-Some.order touched step in
    partly_more shape (leaf_map leaves) touched levels c.in-Some.order c.in-Some.todo.items c.take.new.self c.in_ok-level.level c.push.new.self.items taken made c.in_ok-push.ensures.items

pub returns-clause-levels : goal.returns-clause-levels
returns-clause-levels g c =
    all_made c.args.shape (leaf_map c.args.edited.leaves.now) c.args.edited.touched.now c.loop-order.levels.items
    (subst (λ left. Partly c.args.shape (leaf_map c.args.edited.leaves.now) c.args.edited.touched.now c.loop-order.levels.items left) c.in_default.ensures.0 c.loop-order.invariant)
