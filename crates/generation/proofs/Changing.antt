-- What a generation's changes are, by the laws of edits.
use Rattle.std.proofs.Common.{◌≡◌, ◌≢◌, ℕ, zero, suc, ◌-◌, ◌<◌, ◌≤◌, map, take, drop, List, [], ◌∷◌, ◌++◌, refl, sym, ap, ◌∙◌, subst, arith}
use Rattle.std.specs.Prelude.{All, Contains}
use Rattle.std.proofs.lemmas.List.Elements.{All-take, All-drop, All-contains, All-nil, All-cons, All-head, All-tail}
use Rattle.healpix_nested.specs.Cells.{cell_count}
use Rattle.pyramid_model.specs.Shape.{PyramidShape}
use Rattle.leaf_store.specs.Store.{value_at}
use Rattle.dirty_plan.specs.Dirty.{work}
use Rattle.dirty_plan.specs.Laws.{MoreTouchedIsMoreWork}
use Rattle.edit_journal.specs.Edit.{LeafEdit, put, add, replace, remove, leaf_of}
use Rattle.edit_journal.specs.Journal.{JournalContent, IsJournal, journal_edits}
use Rattle.edit_journal.specs.Laws.{EditsGoOn, EditsKeepTheShape, EditsTouchTheirLeaves}
use Rattle.edit_journal.specs.Leaves.{LeafTiles, leaves_of, FitsLeaves, FitsEdit}
use Rattle.generation.specs.Changes.{AreLeavesOf}
use Rattle.generation.specs.Kept.{SameBut}
use Rattle.generation.specs.Steps.{edits_between, touched}

-- the empty list of a type
abbrev no : (X : Type 0) → List X
no X = []

take_nil : (X : Type 0) (n : ℕ) → take n (no X) ≡ no X
take_nil X zero = refl
take_nil X (suc n) = refl

take_apart : {X : Type 0} (i k : ℕ) (xs : List X) → i ≤ k → take k xs ≡ take i xs ++ take (k - i) (drop i xs)
take_apart zero k xs h = ap (λ n. take n xs) (omega arith)
take_apart (suc i) zero xs h = absurd (omega arith)
take_apart {X} (suc i) (suc k) [] h = sym (take_nil X (suc k - suc i))
take_apart {X} (suc i) (suc k) (x ∷ xs) h =
    let same : k - i ≡ suc k - suc i = omega arith in
    ap (λ ys. x ∷ ys) (take_apart i k xs (omega arith)) ∙ ap (λ n. x ∷ (take i xs ++ take n (drop i xs))) same

pub new_leaves : EditsGoOn → (opening old new : LeafTiles) (edits : List LeafEdit) (i k : ℕ) → i ≤ k → leaves_of opening (take i edits) ≡ old → new ≡ leaves_of old (edits_between edits i k)
    → new ≡ leaves_of opening (take k edits)
new_leaves law opening old new edits i k h holds is =
    is ∙ ap (λ l. leaves_of l (edits_between edits i k)) (sym holds) ∙ sym (law.leaves opening (take i edits) (edits_between edits i k)) ∙ ap (leaves_of opening) (sym (take_apart i k edits h))

pub new_fits : EditsKeepTheShape → (journal : JournalContent) (shape : PyramidShape) (new : LeafTiles) (k : ℕ) → IsJournal journal → journal.shape ≡ shape → new ≡ leaves_of journal.opening (take k (journal_edits journal))
    → FitsLeaves shape new
new_fits law journal shape new k is same made =
    let kept : FitsLeaves journal.shape (leaves_of journal.opening (take k (journal_edits journal))) =
    law journal.shape journal.opening (take k (journal_edits journal)) is.opening (All-take (FitsEdit journal.shape) k (journal_edits journal) is.edits) in
    subst (λ s. FitsLeaves s new) same (subst (λ l. FitsLeaves journal.shape l) (sym made) kept)

leaf_in : (shape : PyramidShape) (e : LeafEdit) → FitsEdit shape e → leaf_of e < cell_count shape.top
leaf_in shape (put leaf tile) fits = fits.0
leaf_in shape (add leaf tile) fits = fits.0
leaf_in shape (replace leaf tile) fits = fits.0
leaf_in shape (remove leaf) fits = fits

leaves_in : (shape : PyramidShape) (es : List LeafEdit) → All (FitsEdit shape) es → All (λ leaf. leaf < cell_count shape.top) (map leaf_of es)
leaves_in shape [] all = All-nil (λ leaf. leaf < cell_count shape.top)
leaves_in shape (e ∷ es) all = All-cons (λ leaf. leaf < cell_count shape.top) (leaf_of e) (map leaf_of es) (leaf_in shape e (All-head (FitsEdit shape) e es all)) (leaves_in shape es (All-tail (FitsEdit shape) e es all))

pub new_cells : (journal : JournalContent) (shape : PyramidShape) (i k : ℕ) (kept : List ℕ) → IsJournal journal → journal.shape ≡ shape → AreLeavesOf (touched (journal_edits journal) i k) kept
    → All (λ leaf. leaf < cell_count shape.top) kept
new_cells journal shape i k kept is same leaves =
    let edits = journal_edits journal in
    let all : All (λ leaf. leaf < cell_count journal.shape.top) (touched edits i k) =
    leaves_in journal.shape (edits_between edits i k) (All-take (FitsEdit journal.shape) (k - i) (drop i edits) (All-drop (FitsEdit journal.shape) i edits is.edits)) in
    let here : All (λ leaf. leaf < cell_count shape.top) (touched edits i k) = subst (λ (s : PyramidShape). All (λ leaf. leaf < cell_count s.top) (touched edits i k)) same all in
    λ n d h. All-contains (λ leaf. leaf < cell_count shape.top) (touched edits i k) _ here (leaves.only n d h)

other_edits : (leaf : ℕ) (es : List LeafEdit) → (Contains (map leaf_of es) leaf → ⊥) → All (λ e. leaf_of e ≢ leaf) es
other_edits leaf [] apart = All-nil (λ e. leaf_of e ≢ leaf)
other_edits leaf (e ∷ es) apart =
    All-cons (λ e. leaf_of e ≢ leaf) e es (λ is. apart (0, omega arith, is)) (other_edits leaf es (λ there. apart (suc there.0, omega (arith, there.1), there.2)))

pub new_same : EditsTouchTheirLeaves → (old new : LeafTiles) (edits : List LeafEdit) (i k : ℕ) (kept : List ℕ) → new ≡ leaves_of old (edits_between edits i k) → AreLeavesOf (touched edits i k) kept → SameBut kept old new
new_same law old new edits i k kept is leaves leaf apart =
    ap (value_at leaf) is ∙ law leaf old (edits_between edits i k) (other_edits leaf (edits_between edits i k) (λ there. apart (All-contains (Contains kept) (touched edits i k) leaf leaves.each there)))

pub new_work : MoreTouchedIsMoreWork → (top low : ℕ) (all kept : List ℕ) → AreLeavesOf all kept → work top low kept ≡ work top low all
new_work law top low all kept leaves =
    let less : work top low kept ≤ work top low all = law top low kept all leaves.only in
    let more : work top low all ≤ work top low kept = law top low all kept leaves.each in
    omega arith
