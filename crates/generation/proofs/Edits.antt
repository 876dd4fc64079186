-- One edit after another.
use Rattle.std.proofs.Common.{◌≡◌, ℕ, ◌+◌, ◌-◌, ◌<◌, ◌≤◌, List, [], ◌∷◌, ◌++◌, map, take, drop, length, get_or, Some, refl, sym, ap, ◌∙◌, subst, arith, slice_get, fold}
use Rattle.std.specs.BTreeMap.{is_at}
use Rattle.std.specs.Ordering.{nat_cmp}
use Rattle.std.proofs.lemmas.List.{take_more, map-append, get_or-drop, length-drop}
use Rattle.std.proofs.lemmas.Option.{slice_get_within, get_or_from_slice_get}
use Rattle.std.proofs.lemmas.Map.Views.{All-values-insert_entry, All-map-remove_entry}
use Rattle.tile_pixels.specs.Tile.{PixelTile, IsTile}
use Rattle.edit_journal.specs.Edit.{LeafEdit, put, add, replace, remove, leaf_of, edit_tile}
use Rattle.edit_journal.specs.Leaves.{LeafTiles, leaves_after, leaves_of}
use Rattle.generation.specs.Changes.{AreTiles, IsTileOf, TakesEdit}
use Rattle.generation.specs.Steps.{edits_between, touched}

fold_more : {X A : Type 0} (f : A → X → A) (a : A) (xs : List X) (x : X) → fold f a (xs ++ x ∷ []) ≡ f (fold f a xs) x
fold_more f a [] x = refl
fold_more f a (y ∷ xs) x = fold_more f (f a y) xs x

pub between_none : (edits : List LeafEdit) (i : ℕ) → edits_between edits i i ≡ []
between_none edits i = let none : i - i ≡ 0 = omega arith in ap (λ n. take n (drop i edits)) none

pub between_more : (edits : List LeafEdit) (i n : ℕ) (e : LeafEdit) → i ≤ n → slice_get edits n ≡ Some e → edits_between edits i (n + 1) ≡ edits_between edits i n ++ e ∷ []
between_more edits i n e le there =
    let within : n < length edits = slice_get_within edits n e there in
    let count : n + 1 - i ≡ n - i + 1 = omega arith in
    let place : i + (n - i) ≡ n = omega arith in
    let long : length (drop i edits) ≡ length edits - i = length-drop i edits in
    ap (λ k. take k (drop i edits)) count
    ∙ take_more (drop i edits) (n - i) e (omega arith)
    ∙ ap (λ x. take (n - i) (drop i edits) ++ x ∷ []) (get_or-drop i edits (n - i) e ∙ ap (λ k. get_or edits k e) place ∙ get_or_from_slice_get edits n e e there)

pub leaves_none : (leaves : LeafTiles) → leaves_of leaves [] ≡ leaves
unfolding leaves_of
leaves_none leaves = refl

leaves_more : (leaves : LeafTiles) (edits : List LeafEdit) (e : LeafEdit) → leaves_of leaves (edits ++ e ∷ []) ≡ leaves_after (leaves_of leaves edits) e
unfolding leaves_of
leaves_more leaves edits e = fold_more leaves_after leaves edits e

tiles_with : (leaf : ℕ) (tile : PixelTile) (leaves : LeafTiles) → IsTile tile.depth tile.n tile.numbers → AreTiles leaves → AreTiles (leaves_after leaves (put leaf tile))
tiles_with leaf tile leaves is all = All-values-insert_entry nat_cmp leaf tile (λ (t : PixelTile). IsTile t.depth t.n t.numbers) leaves all is

pub tiles_after : (leaves : LeafTiles) (e : LeafEdit) → IsTileOf (edit_tile e) → AreTiles leaves → AreTiles (leaves_after leaves e)
tiles_after leaves (put leaf tile) is all = tiles_with leaf tile leaves is all
tiles_after leaves (add leaf tile) is all = tiles_with leaf tile leaves is all
tiles_after leaves (replace leaf tile) is all = tiles_with leaf tile leaves is all
tiles_after leaves (remove leaf) is all = All-map-remove_entry (is_at (nat_cmp leaf)) (λ e. e.1) (λ (t : PixelTile). IsTile t.depth t.n t.numbers) leaves all

-- what is kept while edits are taken
pub record Taken (edits : List LeafEdit) (first i : ℕ) (leaves after : LeafTiles) (noted : List ℕ) : Type 0 where
  pub leaves_are : after ≡ leaves_of leaves (edits_between edits first i)
  pub tiles : AreTiles leaves → AreTiles after
  pub noted_is : noted ≡ touched edits first i

pub taken_none : (edits : List LeafEdit) (first : ℕ) (leaves after : LeafTiles) (noted : List ℕ) → after ≡ leaves → noted ≡ [] → Taken edits first first leaves after noted
taken_none edits first leaves after noted same none = record {
  leaves_are = same ∙ sym (leaves_none leaves) ∙ ap (leaves_of leaves) (sym (between_none edits first));
  tiles = λ all. subst AreTiles (sym same) all;
  noted_is = none ∙ ap (map leaf_of) (sym (between_none edits first));
}

pub taken_more : (edits : List LeafEdit) (first i : ℕ) (leaves before after : LeafTiles) (noted noted' : List ℕ) → first ≤ i → Taken edits first i leaves before noted → TakesEdit edits i before after noted noted'
    → Taken edits first (i + 1) leaves after noted'
taken_more edits first i leaves before after noted noted' le taken takes =
    let grown : edits_between edits first (i + 1) ≡ edits_between edits first i ++ takes.edit ∷ [] = between_more edits first i takes.edit le takes.is in
    record {
      leaves_are = takes.done ∙ ap (λ l. leaves_after l takes.edit) taken.leaves_are ∙ sym (leaves_more leaves (edits_between edits first i) takes.edit) ∙ ap (leaves_of leaves) (sym grown);
      tiles = λ all. subst AreTiles (sym takes.done) (tiles_after before takes.edit takes.tile (taken.tiles all));
      noted_is = takes.leaf ∙ ap (λ l. l ++ leaf_of takes.edit ∷ []) taken.noted_is ∙ sym (map-append leaf_of (edits_between edits first i) (takes.edit ∷ [])) ∙ ap (map leaf_of) (sym grown);
    }
