-- Batches, as the notes keep them.
use Rattle.std.proofs.Common.{◌≡◌, ℕ, zero, suc, ◌+◌, ◌<◌, ◌≤◌, Bool, true, false, cond, List, [], ◌∷◌, ◌++◌, map, length, get_or, refl, sym, ap, ◌∙◌, subst, arith}
use Rattle.std.specs.Prelude.{flat_map, All, ◌==◌}
use Rattle.std.proofs.lemmas.List.Elements.{All-cons, All-tail}
use Rattle.std.proofs.lemmas.Bool.Decides.{nat_tests}
use Rattle.edit_journal.specs.Edit.{LeafEdit}
use Rattle.edit_journal.specs.Batches.{edits_of}
use Rattle.edit_journal.specs.Kept.{Note, noted_edits, noted_batches, onto_first, IsClosed, noted}

edits_onto : (edit : LeafEdit) (batches : List (List LeafEdit)) → flat_map (λ batch. batch) (onto_first edit batches) ≡ edit ∷ flat_map (λ batch. batch) batches
edits_onto edit [] = refl
edits_onto edit (batch ∷ batches) = refl

all_noted : (notes : List Note) → flat_map (λ batch. batch) (noted_batches notes) ≡ noted_edits notes
all_noted [] = refl
all_noted (note ∷ notes) =
    elim (note.closes) as (λ b. flat_map (λ batch. batch) (cond b ((note.edit ∷ []) ∷ noted_batches notes) (onto_first note.edit (noted_batches notes))) ≡ note.edit ∷ noted_edits notes) [
      | true ↦ ap (λ edits. note.edit ∷ edits) (all_noted notes)
      | false ↦ edits_onto note.edit (noted_batches notes) ∙ ap (λ edits. note.edit ∷ edits) (all_noted notes)
    ]

-- the edits of the batches are those of the notes
pub edits_of-noted_batches : (notes : List Note) → edits_of (noted_batches notes) ≡ noted_edits notes
unfolding edits_of
edits_of-noted_batches notes = all_noted notes

-- the first batch of some notes
pub record HasFirst (batches : List (List LeafEdit)) : Type 0 where
  pub first : List LeafEdit
  pub others : List (List LeafEdit)
  pub are : batches ≡ first ∷ others

onto_has_first : (edit : LeafEdit) (batches : List (List LeafEdit)) → HasFirst (onto_first edit batches)
onto_has_first edit [] = record { first = edit ∷ []; others = []; are = refl }
onto_has_first edit (batch ∷ batches) = record { first = edit ∷ batch; others = batches; are = refl }

pub noted_has_first : (note : Note) (notes : List Note) → HasFirst (noted_batches (note ∷ notes))
noted_has_first note notes =
    elim (note.closes) as (λ b. HasFirst (cond b ((note.edit ∷ []) ∷ noted_batches notes) (onto_first note.edit (noted_batches notes)))) [
      | true ↦ record { first = note.edit ∷ []; others = noted_batches notes; are = refl }
      | false ↦ onto_has_first note.edit (noted_batches notes)
    ]

onto_append : (edit : LeafEdit) (batches more : List (List LeafEdit)) → HasFirst batches → onto_first edit (batches ++ more) ≡ onto_first edit batches ++ more
onto_append edit batches more has = rw has.are refl

-- notes after closed ones make batches of their own
pub noted_batches-append : (notes more : List Note) → IsClosed notes → noted_batches (notes ++ more) ≡ noted_batches notes ++ noted_batches more
noted_batches-append [] more closed = refl
noted_batches-append (note ∷ []) more closed = rw closed refl
noted_batches-append (note ∷ next ∷ notes) more closed =
    let rest : noted_batches ((next ∷ notes) ++ more) ≡ noted_batches (next ∷ notes) ++ noted_batches more = noted_batches-append (next ∷ notes) more closed in
    elim (note.closes) as (λ b. cond b ((note.edit ∷ []) ∷ noted_batches ((next ∷ notes) ++ more)) (onto_first note.edit (noted_batches ((next ∷ notes) ++ more)))
    ≡ cond b ((note.edit ∷ []) ∷ noted_batches (next ∷ notes)) (onto_first note.edit (noted_batches (next ∷ notes))) ++ noted_batches more) [
      | true ↦ ap (λ batches. (note.edit ∷ []) ∷ batches) rest
      | false ↦ ap (onto_first note.edit) rest ∙ onto_append note.edit (noted_batches (next ∷ notes)) (noted_batches more) (noted_has_first next notes)
    ]

-- the notes of a batch make that batch
pub noted_batches-noted : (edit : LeafEdit) (edits : List LeafEdit) → noted_batches (noted (edit ∷ edits)) ≡ (edit ∷ edits) ∷ []
noted_batches-noted edit [] = refl
noted_batches-noted edit (next ∷ edits) = ap (onto_first edit) (noted_batches-noted next edits)

pub noted_edits-noted : (edits : List LeafEdit) → noted_edits (noted edits) ≡ edits
noted_edits-noted [] = refl
noted_edits-noted (edit ∷ []) = refl
noted_edits-noted (edit ∷ next ∷ edits) = ap (λ more. edit ∷ more) (noted_edits-noted (next ∷ edits))

pub length-noted : (edits : List LeafEdit) → length (noted edits) ≡ length edits
length-noted [] = refl
length-noted (edit ∷ []) = refl
length-noted (edit ∷ next ∷ edits) = ap suc (length-noted (next ∷ edits))

-- and leave nothing open
noted_closed : (edit : LeafEdit) (edits : List LeafEdit) → IsClosed (noted (edit ∷ edits))
noted_closed edit [] = refl
noted_closed edit (next ∷ []) = refl
noted_closed edit (next ∷ third ∷ edits) = noted_closed next (third ∷ edits)

closed_cons : (note next : Note) (notes : List Note) → IsClosed (next ∷ notes) → IsClosed (note ∷ next ∷ notes)
closed_cons note next notes closed = closed

pub closed_append : (notes : List Note) (edit : LeafEdit) (edits : List LeafEdit) → IsClosed (notes ++ noted (edit ∷ edits))
closed_append [] edit edits = noted_closed edit edits
closed_append (note ∷ []) edit [] = refl
closed_append (note ∷ []) edit (next ∷ edits) = noted_closed edit (next ∷ edits)
closed_append (note ∷ next ∷ notes) edit edits = closed_append (next ∷ notes) edit edits

-- note i of a batch
pub get_or-noted : (edits : List LeafEdit) (i : ℕ) (d : Note) (e : LeafEdit) → i < length edits → get_or (noted edits) i d ≡ record { edit = get_or edits i e; closes = i + 1 == length edits }
get_or-noted [] i d e h = absurd (omega arith)
get_or-noted (edit ∷ []) zero d e h = refl
get_or-noted (edit ∷ []) (suc i) d e h = absurd (omega arith)
get_or-noted (edit ∷ next ∷ edits) zero d e h =
    let more : (0 + 1 == length (edit ∷ next ∷ edits)) ≡ false = grind (arith, nat_tests) in
    ap (λ b. record { edit = edit; closes = b }) (sym more)
get_or-noted (edit ∷ next ∷ edits) (suc i) d e h =
    let same : (i + 1 == length (next ∷ edits)) ≡ (suc i + 1 == length (edit ∷ next ∷ edits)) = grind (arith, nat_tests) in
    get_or-noted (next ∷ edits) i d e (omega arith) ∙ ap (λ b. record { edit = get_or (next ∷ edits) i e; closes = b }) same

-- each batch has an edit
some_onto : (edit : LeafEdit) (batches : List (List LeafEdit)) → All (λ batch. 0 < length batch) batches → All (λ batch. 0 < length batch) (onto_first edit batches)
some_onto edit [] all = All-cons (λ batch. 0 < length batch) (edit ∷ []) [] (omega arith) all
some_onto edit (batch ∷ batches) all = All-cons (λ batch. 0 < length batch) (edit ∷ batch) batches (omega arith) (All-tail (λ batch. 0 < length batch) batch batches all)

pub batches_have_edits : (notes : List Note) → All (λ batch. 0 < length batch) (noted_batches notes)
batches_have_edits [] = λ k d h. absurd (omega arith)
batches_have_edits (note ∷ notes) =
    elim (note.closes) as (λ b. All (λ batch. 0 < length batch) (cond b ((note.edit ∷ []) ∷ noted_batches notes) (onto_first note.edit (noted_batches notes)))) [
      | true ↦ All-cons (λ batch. 0 < length batch) (note.edit ∷ []) (noted_batches notes) (omega arith) (batches_have_edits notes)
      | false ↦ some_onto note.edit (noted_batches notes) (batches_have_edits notes)
    ]
