use Rattle.std.proofs.Common.{◌≡◌, ℕ, suc, ◌+◌, ◌/◌, length, ap, false, ◌∙◌, map, sym, arith, rules, List, [], ◌∷◌, true, subst}
use Rattle.std.specs.Prelude.{IsSome, is_some}
use Rattle.std.specs.Map.{keys_of}
use Rattle.std.specs.Map.Iter.{deref}
use Rattle.std.specs.BTreeMap as tree
use Rattle.std.specs.Ordering.{nat_cmp}
use Rattle.std.proofs.lemmas.List.{map-append}
use Rattle.std.proofs.lemmas.Map.Iter.{iter_end}
use Rattle.std.proofs.lemmas.Map.Views.{All-turn, All-values-insert_entry}
use Rattle.healpix_nested.specs.Cells.{lies_under}
use Rattle.parent_rule.specs.Permit.{one_more}
use Rattle.tile_pixels.specs.Tile.{HasShape}
use Rattle.leaf_probe.specs.Merging.{steps_after}
use Rattle.leaf_probe.proofs.MergingLemmas.{MadeOf, made_new, made_before, level_made, under_asked}
use Rattle.leaf_probe.proofs.merging.merge_level.Goals as goal

pub loop-child-preserved : goal.loop-child-preserved
loop-child-preserved c =
    record {
      can_next = tt;
      is_finite = tt;
      shapes = rw c.in_ok-insert.ensures.entries (All-values-insert_entry nat_cmp (c.in-Some.child.now / 4) c.in_ok-tile.tile (λ tile. HasShape tile c.args.shape.now.depth c.args.shape.now.n) c.loop-child.made.entries c.loop-child.invariant.shapes c.in_ok-tile.ensures.shape);
      above = λ leaves order npix deep level.
          let there : IsSome (tree.get nat_cmp c.args.children.now c.in-Some.child.now) = All-turn deref (λ k. IsSome (tree.get nat_cmp c.args.children.now k)) _ _ _ _ _ _ _ c.keys-child-items.ensures.found
          (c.into_iter-child-iterator.ensures.into_iter_gives ∙ c.keys-child-items.ensures.rest) c.loop-child.yielded_by c.in-Some.is c.next.ensures.steps in
          let under : lies_under c.args.level (c.in-Some.child.now / 4) order npix ≡ true = under_asked c.args.shape.now leaves order npix c.args.level c.in-Some.child.now c.args.children.now.entries deep level there in
          subst (λ (keys : List ℕ). MadeOf c.args.shape.now leaves c.args.level keys c.insert.new.self.entries) (sym (map-append deref c.loop-child.yielded (c.in-Some.child ∷ [])))
          (made_new c.args.shape.now leaves c.args.level c.in-Some.child.now (map deref c.loop-child.yielded) c.loop-child.made.entries c.insert.new.self.entries c.in_ok-tile.tile
          (c.loop-child.invariant.above leaves order npix deep level) (c.in_ok-tile.ensures.tile leaves order npix deep level under) c.in_ok-insert.ensures.updates.0);
      ordered = c.insert.ensures.ordered;
      counted =
          let fresh : is_some c.in_ok-insert.field-0 ≡ false = ap is_some c.in_ok-insert.ensures.old ∙ sym c.contains_key.ensures ∙ c.if-contains_key.false in
          let longer : length c.insert.new.self.entries ≡ length c.loop-child.made.entries + 1 = rw fresh at c.in_ok-insert.ensures.len in
          let more : suc (length c.loop-child.made.entries) ≡ length c.insert.new.self.entries = omega arith in
          c.merge_cell.ensures.counted ∙ ap one_more c.loop-child.invariant.counted ∙ ap (λ m. steps_after m c.args.steps.now) more;
      steps = omega arith;
    }

pub loop-child-preserved-then-contains_key : goal.loop-child-preserved-then-contains_key
loop-child-preserved-then-contains_key c =
    record {
      can_next = tt;
      is_finite = tt;
      shapes = c.loop-child.invariant.shapes;
      above = λ leaves order npix deep level.
          subst (λ (keys : List ℕ). MadeOf c.args.shape.now leaves c.args.level keys c.loop-child.made.entries) (sym (map-append deref c.loop-child.yielded (c.in-Some.child ∷ [])))
          (made_before c.args.shape.now leaves c.args.level c.in-Some.child.now (map deref c.loop-child.yielded) c.loop-child.made.entries
          (c.loop-child.invariant.above leaves order npix deep level) (sym c.contains_key.ensures ∙ c.if-contains_key.true));
      ordered = c.loop-child.invariant.ordered;
      counted = c.loop-child.invariant.counted;
      steps = c.loop-child.invariant.steps;
    }

pub returns-clause-level : goal.returns-clause-level
returns-clause-level c = λ leaves order npix deep level.
    let all : map deref c.loop-child.yielded ≡ keys_of c.args.children.now.entries = search (rules, iter_end) in
    level_made c.args.shape.now leaves order npix c.args.level c.args.children.now.entries c.loop-child.made.entries deep c.requires.level level
    (subst (λ (keys : List ℕ). MadeOf c.args.shape.now leaves c.args.level keys c.loop-child.made.entries) all (c.loop-child.invariant.above leaves order npix deep level))
