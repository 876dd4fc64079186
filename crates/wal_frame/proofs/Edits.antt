-- An edit that is read is the one that was written, and what was written is read again.
use Rattle.std.proofs.Common.{◌≡◌, ℕ, zero, suc, ◌^◌, ◌<◌, ◌≤◌, Bool, true, false, cond, ltb, eqb, List, [], ◌∷◌, ◌++◌, length, Option, Some, None, All, refl, sym, ap, subst, ◌∙◌, append_assoc, arith, inl, inr, ◌⊎◌}
use Rattle.std.specs.Prelude.{option_and_then, flat_map}
use Rattle.std.specs.Int.{w32, to_be_bytes}
use Rattle.std.proofs.lemmas.Bool.{ltb-true, lt-ltb, eqb-true}
use Rattle.std.proofs.lemmas.List.Elements.{All-head, All-tail, All-nil, All-cons}
use Rattle.std.proofs.lemmas.List.Concat.{flat_map-cons}
use Rattle.healpix_nested.specs.Cells.{cell_count}
use Rattle.healpix_nested.specs.CellLaws.{four_pow_mono}
use Rattle.pyramid_model.specs.Shape.{PyramidShape}
use Rattle.tile_pixels.specs.StoredLaws.{AreBytes}
use Rattle.tile_pixels.specs.Tile.{PixelTile}
use Rattle.edit_journal.specs.Edit.{LeafEdit, put, add, replace, remove, leaf_of}
use Rattle.wal_frame.specs.Record.{form_of, stored_of, tile_bytes, edit_bytes, FitsWal}
use Rattle.wal_frame.specs.Payload.{number_at, tile_at, edit_by, edit_at, edits_at}
use Rattle.wal_frame.specs.Laws.{IsKnown}
use Rattle.wal_frame.proofs.Fields.{bind_some, one_of, Takes, takes_then, number_takes, number_again, IsOfShape, tile_takes, tile_again}

-- a test that chose the first
pub chosen : {A : Type 0} (b : Bool) (o : Option A) (y : A) → cond b o None ≡ Some y → (b ≡ true) × (o ≡ Some y)
chosen true o y e = (refl, e)
chosen false o y e = absurd cc

pub AreBytes-rest : (b : ℕ) (bytes : List ℕ) → AreBytes (b ∷ bytes) → AreBytes bytes
AreBytes-rest b bytes fits i = fits (suc i)

-- an edit with this form and leaf, whose stored numbers stand first in the bytes
record ReadsEdit (shape : PyramidShape) (form leaf : ℕ) (bytes : List ℕ) (x : LeafEdit × List ℕ) : Type 0 where
  pub same_form : form_of x.0 ≡ form
  pub same_leaf : leaf_of x.0 ≡ leaf
  pub takes : Takes bytes (stored_of x.0) x.1
  pub fits : FitsWal shape x.0

-- one of the three that have a tile
record HasTile (shape : PyramidShape) (form leaf : ℕ) (make : PixelTile → LeafEdit) : Type 0 where
  pub same_form : (tile : PixelTile) → form_of (make tile) ≡ form
  pub same_leaf : (tile : PixelTile) → leaf_of (make tile) ≡ leaf
  pub stored : (tile : PixelTile) → stored_of (make tile) ≡ tile_bytes tile
  pub fits : (tile : PixelTile) → IsOfShape shape tile → FitsWal shape (make tile)

with_tile : (shape : PyramidShape) (form leaf : ℕ) (make : PixelTile → LeafEdit) (bytes : List ℕ) (x : LeafEdit × List ℕ) → IsKnown shape → AreBytes bytes → HasTile shape form leaf make
    → option_and_then (λ tile. Some (make tile.0, tile.1)) (tile_at shape bytes) ≡ Some x → ReadsEdit shape form leaf bytes x
with_tile shape form leaf make bytes x known fits has e =
    let b = bind_some (λ tile. Some (make tile.0, tile.1)) (tile_at shape bytes) x e in
    let t = tile_takes shape bytes b.0 known fits b.1 in
    let made : LeafEdit × List ℕ = (make b.0.0, b.0.1) in
    let is : made ≡ x = cc in
    subst (ReadsEdit shape form leaf bytes) is (record {
      same_form = has.same_form b.0.0;
      same_leaf = has.same_leaf b.0.0;
      takes = subst (λ (s : List ℕ). Takes bytes s b.0.1) (sym (has.stored b.0.0)) t.0;
      fits = has.fits b.0.0 t.1;
    })

puts : (shape : PyramidShape) (leaf : ℕ) → leaf < cell_count shape.top → HasTile shape 1 leaf (put leaf)
puts shape leaf below = record { same_form = λ t. refl; same_leaf = λ t. refl; stored = λ t. refl; fits = λ t fits. record { fits = (below, fits.has_shape); tile = fits.is_tile } }

adds : (shape : PyramidShape) (leaf : ℕ) → leaf < cell_count shape.top → HasTile shape 2 leaf (add leaf)
adds shape leaf below = record { same_form = λ t. refl; same_leaf = λ t. refl; stored = λ t. refl; fits = λ t fits. record { fits = (below, fits.has_shape); tile = fits.is_tile } }

replaces : (shape : PyramidShape) (leaf : ℕ) → leaf < cell_count shape.top → HasTile shape 3 leaf (replace leaf)
replaces shape leaf below = record { same_form = λ t. refl; same_leaf = λ t. refl; stored = λ t. refl; fits = λ t fits. record { fits = (below, fits.has_shape); tile = fits.is_tile } }

removes : (shape : PyramidShape) (leaf : ℕ) (bytes : List ℕ) (x : LeafEdit × List ℕ) → AreBytes bytes → leaf < cell_count shape.top → one_of (LeafEdit × List ℕ) (remove leaf, bytes) ≡ Some x → ReadsEdit shape 4 leaf bytes x
removes shape leaf bytes x fits below e =
    let made : LeafEdit × List ℕ = (remove leaf, bytes) in
    let is : made ≡ x = cc in
    subst (ReadsEdit shape 4 leaf bytes) is (record { same_form = refl; same_leaf = refl; takes = record { parts = refl; rest_fits = fits }; fits = record { fits = below; tile = tt } })

-- the first of two, by a number, or the second
pub either : {A : Type 0} (a c : ℕ) (o p : Option A) (y : A) → cond (eqb a c) o p ≡ Some y → ((a ≡ c) × (o ≡ Some y)) ⊎ (p ≡ Some y)
either a c o p y =
    elim (eqb a c) as (λ b. eqb a c ≡ b → cond b o p ≡ Some y → ((a ≡ c) × (o ≡ Some y)) ⊎ (p ≡ Some y)) [
      | true ↦ λ is e. inl (eqb-true a c is, e)
      | false ↦ λ is e. inr e
    ] refl

edit_by_takes : (shape : PyramidShape) (form leaf : ℕ) (bytes : List ℕ) (x : LeafEdit × List ℕ) → IsKnown shape → AreBytes bytes → leaf < cell_count shape.top
    → edit_by shape form leaf bytes ≡ Some x → ReadsEdit shape form leaf bytes x
unfolding edit_by
edit_by_takes shape form leaf bytes x known fits below e =
    let as_is = λ (f : ℕ) (is : form ≡ f) (reads : ReadsEdit shape f leaf bytes x). subst (λ (f : ℕ). ReadsEdit shape f leaf bytes x) (sym is) reads in
    elim (either form 1 _ _ x e) [
      | inl h ↦ as_is 1 h.0 (with_tile shape 1 leaf (put leaf) bytes x known fits (puts shape leaf below) h.1)
      | inr e ↦ elim (either form 2 _ _ x e) [
        | inl h ↦ as_is 2 h.0 (with_tile shape 2 leaf (add leaf) bytes x known fits (adds shape leaf below) h.1)
        | inr e ↦ elim (either form 3 _ _ x e) [
          | inl h ↦ as_is 3 h.0 (with_tile shape 3 leaf (replace leaf) bytes x known fits (replaces shape leaf below) h.1)
          | inr e ↦ elim (either form 4 _ _ x e) [
            | inl h ↦ as_is 4 h.0 (removes shape leaf bytes x fits below h.1)
            | inr e ↦ absurd cc
          ]
        ]
      ]
    ]

edit_takes : (shape : PyramidShape) (bytes : List ℕ) (x : LeafEdit × List ℕ) → IsKnown shape → AreBytes bytes → edit_at shape bytes ≡ Some x → Takes bytes (edit_bytes x.0) x.1 × FitsWal shape x.0
unfolding edit_at edit_bytes
edit_takes shape [] x known fits e = absurd cc
edit_takes shape (form ∷ bytes) x known fits e =
    let b = bind_some (λ leaf. cond (ltb leaf.0 (cell_count shape.top)) (edit_by shape form leaf.0 leaf.1) None) (number_at bytes) x e in
    let n = number_takes bytes b.0 (AreBytes-rest form bytes fits) b.1 in
    let c = chosen (ltb b.0.0 (cell_count shape.top)) (edit_by shape form b.0.0 b.0.1) x b.2 in
    let r = edit_by_takes shape form b.0.0 b.0.1 x known n.0.rest_fits (ltb-true _ _ c.0) c.1 in
    let both = takes_then bytes (to_be_bytes w32 b.0.0) b.0.1 (stored_of x.0) x.1 n.0 r.takes in
    let whole : form ∷ bytes ≡ (form ∷ (to_be_bytes w32 b.0.0 ++ stored_of x.0)) ++ x.1 = ap (λ (t : List ℕ). form ∷ t) both.parts in
    (record { parts = whole ∙ ap (λ (f : ℕ). (f ∷ (to_be_bytes w32 b.0.0 ++ stored_of x.0)) ++ x.1) (sym r.same_form) ∙ ap (λ (l : ℕ). (form_of x.0 ∷ (to_be_bytes w32 l ++ stored_of x.0)) ++ x.1) (sym r.same_leaf); rest_fits = both.rest_fits }, r.fits)

-- ---- again

pub leaf_below : (shape : PyramidShape) (leaf : ℕ) → IsKnown shape → leaf < cell_count shape.top → leaf < 2 ^ 32
leaf_below shape leaf known below = let few : 4 ^ shape.top ≤ 4 ^ 11 = four_pow_mono shape.top 11 known.known.greatest_top in omega arith

behind_leaf : (shape : PyramidShape) (form leaf : ℕ) (rest : List ℕ) (answer : Option (LeafEdit × List ℕ)) → IsKnown shape → leaf < cell_count shape.top → edit_by shape form leaf rest ≡ answer
    → edit_at shape (form ∷ (to_be_bytes w32 leaf ++ rest)) ≡ answer
unfolding edit_at
behind_leaf shape form leaf rest answer known below is =
    let n = number_again leaf rest (leaf_below shape leaf known below) in
    let found : ltb leaf (cell_count shape.top) ≡ true = lt-ltb _ _ below in
    ap (option_and_then (λ leaf. cond (ltb leaf.0 (cell_count shape.top)) (edit_by shape form leaf.0 leaf.1) None)) n ∙ rw found is

with_tile_again : (shape : PyramidShape) (make : PixelTile → LeafEdit) (tile : PixelTile) (rest : List ℕ) → IsKnown shape → IsOfShape shape tile
    → option_and_then {U = LeafEdit × List ℕ} (λ tile. Some (make tile.0, tile.1)) (tile_at shape (tile_bytes tile ++ rest)) ≡ Some (make tile, rest)
with_tile_again shape make tile rest known fits = ap (option_and_then {U = LeafEdit × List ℕ} (λ tile. Some (make tile.0, tile.1))) (tile_again shape tile rest known fits)

edit_again : (shape : PyramidShape) (edit : LeafEdit) (rest : List ℕ) → IsKnown shape → FitsWal shape edit → edit_at shape (edit_bytes edit ++ rest) ≡ Some (edit, rest)
unfolding edit_by edit_bytes
edit_again shape (put leaf tile) rest known fits =
    behind_leaf shape 1 leaf (tile_bytes tile ++ rest) _ known fits.fits.0 (with_tile_again shape (put leaf) tile rest known (record { has_shape = fits.fits.1; is_tile = fits.tile }))
edit_again shape (add leaf tile) rest known fits =
    behind_leaf shape 2 leaf (tile_bytes tile ++ rest) _ known fits.fits.0 (with_tile_again shape (add leaf) tile rest known (record { has_shape = fits.fits.1; is_tile = fits.tile }))
edit_again shape (replace leaf tile) rest known fits =
    behind_leaf shape 3 leaf (tile_bytes tile ++ rest) _ known fits.fits.0 (with_tile_again shape (replace leaf) tile rest known (record { has_shape = fits.fits.1; is_tile = fits.tile }))
edit_again shape (remove leaf) rest known fits = behind_leaf shape 4 leaf rest _ known fits.fits refl

-- ---- edits one after another

pub edits_take : (shape : PyramidShape) (count : ℕ) (bytes : List ℕ) (x : List LeafEdit × List ℕ) → IsKnown shape → AreBytes bytes → edits_at shape count bytes ≡ Some x
    → Takes bytes (flat_map edit_bytes x.0) x.1 × (length x.0 ≡ count) × All (FitsWal shape) x.0
unfolding edits_at
edits_take shape zero bytes x known fits e =
    let made : List LeafEdit × List ℕ = ([], bytes) in
    let is : made ≡ x = cc in
    subst (λ (x : List LeafEdit × List ℕ). Takes bytes (flat_map edit_bytes x.0) x.1 × (length x.0 ≡ 0) × All (FitsWal shape) x.0) is
    (record { parts = refl; rest_fits = fits }, refl, All-nil (FitsWal shape))
edits_take shape (suc count) bytes x known fits e =
    let a = bind_some (λ first. option_and_then (λ others. Some (first.0 ∷ others.0, others.1)) (edits_at shape count first.1)) (edit_at shape bytes) x e in
    let b = bind_some (λ others. Some (a.0.0 ∷ others.0, others.1)) (edits_at shape count a.0.1) x a.2 in
    let first = edit_takes shape bytes a.0 known fits a.1 in
    let others = edits_take shape count a.0.1 b.0 known first.0.rest_fits b.1 in
    let both = takes_then bytes (edit_bytes a.0.0) a.0.1 (flat_map edit_bytes b.0.0) b.0.1 first.0 others.0 in
    let made : List LeafEdit × List ℕ = (a.0.0 ∷ b.0.0, b.0.1) in
    let is : made ≡ x = cc in
    subst (λ (x : List LeafEdit × List ℕ). Takes bytes (flat_map edit_bytes x.0) x.1 × (length x.0 ≡ suc count) × All (FitsWal shape) x.0) is
    (rw flat_map-cons both, ap suc others.1, All-cons (FitsWal shape) a.0.0 b.0.0 first.1 others.2)

pub edits_again : (shape : PyramidShape) (edits : List LeafEdit) (rest : List ℕ) → IsKnown shape → All (FitsWal shape) edits → edits_at shape (length edits) (flat_map edit_bytes edits ++ rest) ≡ Some (edits, rest)
unfolding edits_at
edits_again shape [] rest known all = refl
edits_again shape (edit ∷ edits) rest known all =
    let parts : flat_map edit_bytes (edit ∷ edits) ++ rest ≡ edit_bytes edit ++ (flat_map edit_bytes edits ++ rest) =
    ap (λ (t : List ℕ). t ++ rest) (flat_map-cons edit_bytes edit edits) ∙ append_assoc (edit_bytes edit) (flat_map edit_bytes edits) rest in
    let first = edit_again shape edit (flat_map edit_bytes edits ++ rest) known (All-head (FitsWal shape) edit edits all) in
    let others = edits_again shape edits rest known (All-tail (FitsWal shape) edit edits all) in
    ap (edits_at shape (suc (length edits))) parts
    ∙ ap (option_and_then (λ first. option_and_then (λ others. Some (first.0 ∷ others.0, others.1)) (edits_at shape (length edits) first.1))) first
    ∙ ap (option_and_then (λ others. Some (edit ∷ others.0, others.1))) others
