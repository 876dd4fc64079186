-- What is kept, as contracts see it.
use Rattle.std.proofs.Common.{◌≡◌, ℕ, zero, suc, ◌+◌, ◌*◌, ◌^◌, ◌<◌, ◌≤◌, Bor, Bool, true, false, List, [], ◌∷◌, ◌++◌, map, length, get_or, Option, Some, None, option_map, refl, sym, ap, ◌∙◌, subst, arith, length-append}
use Rattle.std.specs.Prelude.{slice_get, All, fold, sum_by}
use Rattle.std.specs.Slice.{IsItemAt}
use Rattle.std.proofs.lemmas.Option.{slice_get-map, slice_get-get_or, slice_get_past}
use Rattle.std.proofs.lemmas.List.{length-map, map-append}
use Rattle.std.proofs.lemmas.List.Elements.{All-append}
use Rattle.pyramid_model.specs.Shape.{PyramidShape}
use Rattle.edit_journal.specs.Edit.{LeafEdit}
use Rattle.edit_journal.specs.Leaves.{LeafTiles, leaves_after, leaves_of, charge_of, edit_charge, FitsLeaves, FitsEdit}
use Rattle.edit_journal.specs.Faults.{most_edits, most_charge, batch_fault}
use Rattle.edit_journal.specs.Batches.{edits_of}
use Rattle.edit_journal.specs.Journal.{JournalContent, IsJournal, journal_edits}
use Rattle.edit_journal.specs.Kept.{Note, noted_edits, noted_batches, IsClosed, kept_content, IsKeptJournal, noted}
use Rattle.edit_journal.specs.Chunks.{Chunk, chunk_notes, notes_in, IsChunked}
use Rattle.edit_journal.proofs.BatchLemmas.{edits_of-noted_batches, noted_batches-append, noted_batches-noted, noted_edits-noted, closed_append, batches_have_edits}
use Rattle.edit_journal.proofs.ChunkLemmas.{length-notes_in}
use Rattle.edit_journal.proofs.FaultLemmas.{batch_has_room, charge_of-append}
use Rattle.edit_journal.proofs.LeafLemmas.{fits_of, leaves_of-append}

-- what a look-up by place lends
pub item_get : {X : Type 0} (xs : List X) (i : ℕ) (r : Option (Bor X)) → IsItemAt xs i r → option_map (λ x. x.now) r ≡ slice_get xs i
item_get xs i None gives = sym (slice_get_past xs i gives.3)
item_get xs i (Some x) gives = ap Some gives.1 ∙ sym (slice_get-get_or xs i x.now gives.3.0)

-- no batch
pub kept_none : (shape : PyramidShape) (opening : LeafTiles) (charge : ℕ) → FitsLeaves shape opening → charge ≡ charge_of opening [] → charge ≤ most_charge → IsKeptJournal shape opening [] opening charge
unfolding leaves_of edits_of
kept_none shape opening charge fits is_charge small = record {
  journal = record {
    opening = fits;
    edits = λ k d h. absurd (omega arith);
    batches = λ k d h. absurd (omega arith);
    count = omega arith;
    charge = subst (λ n. n ≤ most_charge) is_charge small;
  };
  closed = tt;
  leaves_are = refl;
  charge_is = is_charge;
}

-- where nothing was put in yet
pub kept_start : (shape : PyramidShape) (leaves opening' : LeafTiles) (notes' : List Note) (leaves' : LeafTiles) (charge : ℕ) → opening' ≡ leaves → notes' ≡ [] → leaves' ≡ leaves →
    FitsLeaves shape leaves → charge ≡ charge_of leaves [] → charge ≤ most_charge → IsKeptJournal shape opening' notes' leaves' charge
kept_start shape leaves opening' notes' leaves' charge is_opening is_notes is_leaves fits is_charge small =
    subst (λ o. IsKeptJournal shape o notes' leaves' charge) (sym is_opening)
    (subst (λ n. IsKeptJournal shape leaves n leaves' charge) (sym is_notes)
    (subst (λ l. IsKeptJournal shape leaves [] l charge) (sym is_leaves) (kept_none shape leaves charge fits is_charge small)))

-- how many notes there are
pub length-chunked : (chunks : List Chunk) (last : List Note) → IsChunked chunks last → length (notes_in chunks ++ last) ≡ length chunks * 64 + length last
length-chunked chunks last is =
    let both : length (notes_in chunks ++ last) ≡ length (notes_in chunks) + length last = length-append (notes_in chunks) last in
    let full : length (notes_in chunks) ≡ 64 * length chunks = length-notes_in chunks is.full in
    omega arith

module _ (shape : PyramidShape) (opening : LeafTiles) (notes : List Note) (journal : JournalContent) where
  pub edits_seen : kept_content shape opening notes ≡ journal → noted_edits notes ≡ journal_edits journal
  edits_seen is = sym (edits_of-noted_batches notes) ∙ ap journal_edits is

  pub charge_seen : (leaves : LeafTiles) (charge : ℕ) → kept_content shape opening notes ≡ journal → IsKeptJournal shape opening notes leaves charge → charge ≡ charge_of journal.opening (journal_edits journal)
  charge_seen leaves charge is kept = kept.charge_is ∙ ap (charge_of opening) (edits_seen is) ∙ ap (λ j. charge_of j.opening (journal_edits journal)) is

  pub leaves_seen : (leaves : LeafTiles) (charge : ℕ) → kept_content shape opening notes ≡ journal → IsKeptJournal shape opening notes leaves charge → leaves ≡ leaves_of journal.opening (journal_edits journal)
  leaves_seen leaves charge is kept = kept.leaves_are ∙ ap (leaves_of opening) (edits_seen is) ∙ ap (λ j. leaves_of j.opening (journal_edits journal)) is

  pub fits_seen : (leaves : LeafTiles) (charge : ℕ) → kept_content shape opening notes ≡ journal → IsKeptJournal shape opening notes leaves charge → FitsLeaves journal.shape leaves
  fits_seen leaves charge is kept =
      let all : All (FitsEdit shape) (noted_edits notes) = subst (All (FitsEdit shape)) (edits_of-noted_batches notes) kept.journal.edits in
      let fits : FitsLeaves shape leaves = subst (FitsLeaves shape) (sym kept.leaves_are) (fits_of shape opening (noted_edits notes) all kept.journal.opening) in
      subst (λ j. FitsLeaves j.shape leaves) is fits

  pub count_seen : kept_content shape opening notes ≡ journal → length notes ≡ length (journal_edits journal)
  count_seen is = sym (length-map notes (λ note. note.edit)) ∙ ap length (edits_seen is)

  pub edit_seen : (i : ℕ) → kept_content shape opening notes ≡ journal → option_map (λ note. note.edit) (slice_get notes i) ≡ slice_get (journal_edits journal) i
  edit_seen i is = sym (slice_get-map (λ note. note.edit) notes i) ∙ ap (λ edits. slice_get edits i) (edits_seen is)

-- how many there are at most
pub few_notes : (shape : PyramidShape) (opening : LeafTiles) (notes : List Note) (leaves : LeafTiles) (charge : ℕ) → IsKeptJournal shape opening notes leaves charge → length notes ≤ most_edits
few_notes shape opening notes leaves charge kept =
    let all : length (edits_of (noted_batches notes)) ≡ length (noted_edits notes) = ap length (edits_of-noted_batches notes) in
    let same : length (noted_edits notes) ≡ length notes = length-map notes (λ note. note.edit) in
    let few : length (edits_of (noted_batches notes)) ≤ most_edits = kept.journal.count in
    omega arith

-- a batch more
pub kept_more : (shape : PyramidShape) (opening : LeafTiles) (notes notes' : List Note) (edit : LeafEdit) (edits : List LeafEdit) (leaves leaves' : LeafTiles) (charge charge' : ℕ) → IsKeptJournal shape opening notes leaves charge →
    All (FitsEdit shape) (edit ∷ edits) → batch_fault opening (noted_edits notes) (edit ∷ edits) ≡ None → notes' ≡ notes ++ noted (edit ∷ edits) →
    leaves' ≡ leaves_of opening (noted_edits notes ++ edit ∷ edits) → charge' ≡ charge_of opening (noted_edits notes ++ edit ∷ edits) →
    IsKeptJournal shape opening notes' leaves' charge' × (noted_batches notes' ≡ noted_batches notes ++ (edit ∷ edits) ∷ [])
kept_more shape opening notes notes' edit edits leaves leaves' charge charge' kept fits accepted is_notes is_leaves is_charge =
    let batch : List LeafEdit = edit ∷ edits in
    let all : noted_edits (notes ++ noted (edit ∷ edits)) ≡ noted_edits notes ++ edit ∷ edits = map-append (λ note. note.edit) notes (noted (edit ∷ edits)) ∙ ap (λ xs. noted_edits notes ++ xs) (noted_edits-noted (edit ∷ edits)) in
    let all' : noted_edits notes' ≡ noted_edits notes ++ edit ∷ edits = ap noted_edits is_notes ∙ all in
    let seen : edits_of (noted_batches notes') ≡ noted_edits notes ++ edit ∷ edits = edits_of-noted_batches notes' ∙ all' in
    let room : (length (noted_edits notes ++ edit ∷ edits) ≤ most_edits) × (charge_of opening (noted_edits notes ++ edit ∷ edits) ≤ most_charge) = batch_has_room opening (noted_edits notes) (edit ∷ edits) edit (omega arith) accepted in
    let before : All (FitsEdit shape) (noted_edits notes) = subst (All (FitsEdit shape)) (edits_of-noted_batches notes) kept.journal.edits in (
      record {
        journal = record {
          opening = kept.journal.opening;
          edits = subst (All (FitsEdit shape)) (sym seen) (All-append (FitsEdit shape) (noted_edits notes) (edit ∷ edits) before fits);
          batches = batches_have_edits notes';
          count = subst (λ xs. length xs ≤ most_edits) (sym seen) room.0;
          charge = subst (λ xs. charge_of opening xs ≤ most_charge) (sym seen) room.1;
        };
        closed = subst IsClosed (sym is_notes) (closed_append notes edit edits);
        leaves_are = is_leaves ∙ ap (leaves_of opening) (sym all');
        charge_is = is_charge ∙ ap (charge_of opening) (sym all');
      },
      ap noted_batches is_notes ∙ noted_batches-append notes (noted (edit ∷ edits)) kept.closed ∙ ap (λ xs. noted_batches notes ++ xs) (noted_batches-noted edit edits),
    )

kept_batch : (shape : PyramidShape) (opening : LeafTiles) (notes notes' : List Note) (batch : List LeafEdit) (leaves leaves' : LeafTiles) (charge charge' : ℕ) → IsKeptJournal shape opening notes leaves charge → 0 < length batch →
    All (FitsEdit shape) batch → batch_fault opening (noted_edits notes) batch ≡ None → notes' ≡ notes ++ noted batch →
    leaves' ≡ leaves_of opening (noted_edits notes ++ batch) → charge' ≡ charge_of opening (noted_edits notes ++ batch) →
    IsKeptJournal shape opening notes' leaves' charge' × (noted_batches notes' ≡ noted_batches notes ++ batch ∷ [])
kept_batch shape opening notes notes' [] leaves leaves' charge charge' kept some = absurd (omega arith)
kept_batch shape opening notes notes' (edit ∷ edits) leaves leaves' charge charge' kept some = kept_more shape opening notes notes' edit edits leaves leaves' charge charge' kept

room_of : (opening : LeafTiles) (edits batch : List LeafEdit) → 0 < length batch → batch_fault opening edits batch ≡ None → (length (edits ++ batch) ≤ most_edits) × (charge_of opening (edits ++ batch) ≤ most_charge)
room_of opening edits [] some e = absurd (omega arith)
room_of opening edits (edit ∷ more) some e = batch_has_room opening edits (edit ∷ more) edit some e

-- the same, for a batch that a journal accepts
module _ (shape : PyramidShape) (opening : LeafTiles) (notes : List Note) (journal : JournalContent) (is : kept_content shape opening notes ≡ journal)
    (leaves : LeafTiles) (charge : ℕ) (kept : IsKeptJournal shape opening notes leaves charge) (batch : List LeafEdit) (some : 0 < length batch)
    (fits : All (FitsEdit journal.shape) batch) (accepted : batch_fault journal.opening (journal_edits journal) batch ≡ None) where
  accepted_notes : batch_fault opening (noted_edits notes) batch ≡ None
  accepted_notes =
      ap (λ xs. batch_fault opening xs batch) (edits_seen shape opening notes journal is) ∙ ap (λ j. batch_fault j.opening (journal_edits journal) batch) is ∙ accepted

  fits_notes : All (FitsEdit shape) batch
  fits_notes = subst (λ j. All (FitsEdit j.shape) batch) (sym is) fits

  pub grown_count : length notes + length batch ≤ most_edits
  grown_count =
      let room = room_of opening (noted_edits notes) batch some accepted_notes in
      let both : length (noted_edits notes ++ batch) ≡ length (noted_edits notes) + length batch = length-append (noted_edits notes) batch in
      let same : length (noted_edits notes) ≡ length notes = length-map notes (λ note. note.edit) in
      omega arith

  pub grown_charge : charge + sum_by edit_charge batch < 2 ^ 64
  grown_charge =
      let room = room_of opening (noted_edits notes) batch some accepted_notes in
      let both : charge_of opening (noted_edits notes ++ batch) ≡ charge_of opening (noted_edits notes) + sum_by edit_charge batch = charge_of-append opening (noted_edits notes) batch in
      let now : charge ≡ charge_of opening (noted_edits notes) = kept.charge_is in
      omega arith

  module _ (notes' : List Note) (leaves' : LeafTiles) (charge' : ℕ) (is_notes : notes' ≡ notes ++ noted batch) (is_leaves : leaves' ≡ fold leaves_after leaves batch) (is_charge : charge' ≡ charge + sum_by edit_charge batch) where
    grown_both : IsKeptJournal shape opening notes' leaves' charge' × (noted_batches notes' ≡ noted_batches notes ++ batch ∷ [])
    grown_both =
        kept_batch shape opening notes notes' batch leaves leaves' charge charge' kept some fits_notes accepted_notes is_notes
        (is_leaves ∙ ap (λ ls. fold leaves_after ls batch) kept.leaves_are ∙ sym (leaves_of-append opening (noted_edits notes) batch))
        (is_charge ∙ ap (λ n. n + sum_by edit_charge batch) kept.charge_is ∙ sym (charge_of-append opening (noted_edits notes) batch))

    pub grown_kept : IsKeptJournal shape opening notes' leaves' charge'
    grown_kept = grown_both.0

    pub grown_seen : kept_content shape opening notes' ≡ record journal { batches = journal.batches ++ batch ∷ [] }
    grown_seen =
        let P : JournalContent → Type 0 = λ j. kept_content shape opening notes' ≡ record j { batches = j.batches ++ batch ∷ [] } in
        subst P is (ap (λ bs. record { shape = shape; opening = opening; batches = bs }) grown_both.1)
