-- A batch is put in edit by edit.
use Rattle.std.proofs.Common.{◌≡◌, ℕ, ◌+◌, ◌^◌, ◌<◌, ◌≤◌, Bool, List, [], ◌∷◌, ◌++◌, map, length, take, get_or, Some, refl, sym, ap, ◌∙◌, arith, append_assoc, length-append, length-take-le}
use Rattle.std.specs.Prelude.{slice_get, fold, sum_by, ◌==◌, option_map}
use Rattle.std.proofs.lemmas.Option.{slice_get-map, slice_get_read, get_or_from_slice_get}
use Rattle.std.proofs.lemmas.List.{take_more, length-map}
use Rattle.std.proofs.lemmas.List.Sums.{fold-append, sum_by_push, sum_by-take-le}
use Rattle.edit_journal.specs.declared.edit.Edit.{Edit}
use Rattle.edit_journal.specs.Edit.{LeafEdit, edit_of}
use Rattle.edit_journal.specs.Leaves.{LeafTiles, leaves_after, edit_charge}
use Rattle.edit_journal.specs.Faults.{most_edits}
use Rattle.edit_journal.specs.Kept.{Note, noted}
use Rattle.edit_journal.proofs.BatchLemmas.{get_or-noted, length-noted}

module _ (items : List Edit) (i : ℕ) (e clone : Edit) (lt : i < length items) (is : e ≡ get_or items i e) (same : edit_of clone ≡ edit_of e) where
  longer : i < length (map edit_of items)
  longer = let all : length (map edit_of items) ≡ length items = length-map items edit_of in omega arith

  read : get_or (map edit_of items) i (edit_of e) ≡ edit_of e
  read = get_or_from_slice_get (map edit_of items) i (edit_of e) (edit_of e)
      (slice_get-map edit_of items i ∙ ap (option_map edit_of) (slice_get_read items (length items) i e refl lt is))

  edits_more : take (i + 1) (map edit_of items) ≡ take i (map edit_of items) ++ edit_of clone ∷ []
  edits_more = take_more (map edit_of items) i (edit_of e) longer ∙ ap (λ x. take i (map edit_of items) ++ x ∷ []) (read ∙ sym same)

  notes_more : (closes : Bool) → closes ≡ (i + 1 == length items) → take (i + 1) (noted (map edit_of items)) ≡ take i (noted (map edit_of items)) ++ record { edit = edit_of clone; closes = closes } ∷ []
  notes_more closes is_closes =
      let note : Note = record { edit = edit_of clone; closes = closes } in
      let all : length (map edit_of items) ≡ length items = length-map items edit_of in
      let long : length (noted (map edit_of items)) ≡ length (map edit_of items) = length-noted (map edit_of items) in
      let here : get_or (noted (map edit_of items)) i (record { edit = edit_of clone; closes = closes }) ≡ record { edit = edit_of clone; closes = closes } =
      get_or-noted (map edit_of items) i (record { edit = edit_of clone; closes = closes }) (edit_of e) longer
      ∙ ap (λ n. record { edit = get_or (map edit_of items) i (edit_of e); closes = i + 1 == n }) all
      ∙ ap (λ b. record { edit = get_or (map edit_of items) i (edit_of e); closes = b }) (sym is_closes)
      ∙ ap (λ x. record { edit = x; closes = closes }) (read ∙ sym same) in
      take_more (noted (map edit_of items)) i (record { edit = edit_of clone; closes = closes }) (omega arith)
      ∙ ap (λ x. take i (noted (map edit_of items)) ++ x ∷ []) here

  pub next_notes : (first now now' : List Note) (closes : Bool) → now ≡ first ++ take i (noted (map edit_of items)) → closes ≡ (i + 1 == length items) →
      now' ≡ now ++ record { edit = edit_of clone; closes = closes } ∷ [] → now' ≡ first ++ take (i + 1) (noted (map edit_of items))
  next_notes first now now' closes is_now is_closes is_now' =
      is_now' ∙ ap (λ xs. xs ++ record { edit = edit_of clone; closes = closes } ∷ []) is_now
      ∙ append_assoc first (take i (noted (map edit_of items))) (record { edit = edit_of clone; closes = closes } ∷ [])
      ∙ ap (λ xs. first ++ xs) (sym (notes_more closes is_closes))

  pub next_leaves : (first now now' : LeafTiles) → now ≡ fold leaves_after first (take i (map edit_of items)) → now' ≡ leaves_after now (edit_of clone) → now' ≡ fold leaves_after first (take (i + 1) (map edit_of items))
  next_leaves first now now' is_now is_now' =
      is_now' ∙ ap (λ ls. leaves_after ls (edit_of clone)) is_now
      ∙ sym (fold-append leaves_after first (take i (map edit_of items)) (edit_of clone ∷ []))
      ∙ ap (fold leaves_after first) (sym edits_more)

  pub next_charge : (first now now' : ℕ) → now ≡ first + sum_by edit_charge (take i (map edit_of items)) → now' ≡ now + edit_charge (edit_of clone) → now' ≡ first + sum_by edit_charge (take (i + 1) (map edit_of items))
  next_charge first now now' is_now is_now' =
      let more : sum_by edit_charge (take (i + 1) (map edit_of items)) ≡ sum_by edit_charge (take i (map edit_of items)) + edit_charge (edit_of clone) =
      ap (sum_by edit_charge) edits_more ∙ sum_by_push edit_charge (take i (map edit_of items)) (edit_of clone) in
      omega arith

  -- there is room
  pub room_for_note : (first now : List Note) → now ≡ first ++ take i (noted (map edit_of items)) → length first + length items ≤ most_edits → length now < most_edits
  room_for_note first now is_now room =
      let all : length (map edit_of items) ≡ length items = length-map items edit_of in
      let long : length (noted (map edit_of items)) ≡ length (map edit_of items) = length-noted (map edit_of items) in
      let so_far : length (take i (noted (map edit_of items))) ≡ i = length-take-le i (noted (map edit_of items)) (omega arith) in
      let both : length (first ++ take i (noted (map edit_of items))) ≡ length first + length (take i (noted (map edit_of items))) = length-append first (take i (noted (map edit_of items))) in
      let seen : length now ≡ length (first ++ take i (noted (map edit_of items))) = ap length is_now in
      omega arith

  pub room_for_charge : (first now : ℕ) → now ≡ first + sum_by edit_charge (take i (map edit_of items)) → first + sum_by edit_charge (map edit_of items) < 2 ^ 64 → now + edit_charge (edit_of clone) < 2 ^ 64
  room_for_charge first now is_now room =
      let next : now + edit_charge (edit_of clone) ≡ first + sum_by edit_charge (take (i + 1) (map edit_of items)) = next_charge first now (now + edit_charge (edit_of clone)) is_now refl in
      let part : sum_by edit_charge (take (i + 1) (map edit_of items)) ≤ sum_by edit_charge (map edit_of items) = sum_by-take-le edit_charge (map edit_of items) (i + 1) in
      omega arith
