use Rattle.std.proofs.Common.{◌≡◌, ◌++◌, [], ◌∷◌, List, ℕ, subst, sym, ap, ◌∙◌, append_assoc}
use Rattle.std.specs.Arc.{arc_value}
use Rattle.tile_pixels.specs.Tile.{PixelTile, IsTile}
use Rattle.std.specs.List.Sorted.{IsStrictlyIncreasing}
use Rattle.std.specs.Map.{keys_of}
use Rattle.std.proofs.lemmas.List.{append-nil}
use Rattle.std.proofs.lemmas.Map.Keys.{IsStrictlyIncreasing-from_sorted}
use Rattle.generation.specs.Changes.{AreTiles}
use Rattle.generation.proofs.Pyramids.{tiles_cons, tiles_nil}
use Rattle.generation.proofs.pyramid.leaf_numbers.Goals as goal

pub loop-leaf-init : goal.loop-leaf-init
loop-leaf-init c =
    let same = c.into_iter-leaf-iterator.ensures.into_iter_gives ∙ c.iter-leaf-items.ensures.all in
    record {
      numbers = ap (λ xs. xs ++ keys_of c.into_iter-leaf-iterator.result) c.in_ok-numbers.ensures.items ∙ ap keys_of same;
      tiles = λ all. subst AreTiles same all;
    }

pub loop-leaf-preserved : goal.loop-leaf-preserved
loop-leaf-preserved c =
    let step : c.loop-leaf.leaf-iterator ≡ (c.in-Some.leaf, arc_value c.in-Some.tile.now) ∷ c.next.new.self = c.in-Some.ensures.steps in
    let one : IsTile (arc_value c.in-Some.tile.now).depth (arc_value c.in-Some.tile.now).n (arc_value c.in-Some.tile.now).numbers =
    subst (λ (t : PixelTile). IsTile t.depth t.n t.numbers) c.deref.ensures c.n-n.ensures.tile in
    record {
      numbers = ap (λ xs. xs ++ keys_of c.next.new.self) c.in_ok-push.ensures.items ∙ append_assoc c.loop-leaf.numbers.items (c.in-Some.leaf ∷ []) (keys_of c.next.new.self)
          ∙ ap (λ es. c.loop-leaf.numbers.items ++ keys_of es) (sym step) ∙ c.loop-leaf.invariant.numbers;
      tiles = λ all. c.loop-leaf.invariant.tiles (subst AreTiles (sym step) (tiles_cons c.in-Some.leaf (arc_value c.in-Some.tile.now) c.next.new.self one all));
    }

pub returns-clause-numbers : goal.returns-clause-numbers
returns-clause-numbers c =
    sym (append-nil c.loop-leaf.numbers.items) ∙ ap (λ es. c.loop-leaf.numbers.items ++ keys_of es) (sym c.in-None.ensures.steps.0) ∙ c.loop-leaf.invariant.numbers

pub returns-clause-ascending : goal.returns-clause-ascending
returns-clause-ascending c =
    let all = sym (append-nil c.loop-leaf.numbers.items) ∙ ap (λ es. c.loop-leaf.numbers.items ++ keys_of es) (sym c.in-None.ensures.steps.0) ∙ c.loop-leaf.invariant.numbers in
    let P : List ℕ → Type 0 = λ xs. IsStrictlyIncreasing xs in
    subst P (sym all) (IsStrictlyIncreasing-from_sorted (keys_of c.args.leaves.now) c.iter-leaf-items.ensures.ascending)

pub returns-clause-tiles : goal.returns-clause-tiles
returns-clause-tiles c = c.loop-leaf.invariant.tiles (subst AreTiles (sym c.in-None.ensures.steps.0) tiles_nil)
