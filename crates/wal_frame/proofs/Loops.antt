-- Reading edits one after another, as a loop does.
use Rattle.std.proofs.Common.{◌≡◌, ℕ, suc, ◌-◌, ◌+◌, ◌≤◌, ◌<◌, List, [], ◌∷◌, ◌++◌, Option, Some, None, refl, sym, ap, ◌∙◌, append_assoc, arith}
use Rattle.std.specs.Prelude.{option_map, option_and_then}
use Rattle.std.proofs.lemmas.List.{append-nil}
use Rattle.pyramid_model.specs.Shape.{PyramidShape}
use Rattle.edit_journal.specs.Edit.{LeafEdit}
use Rattle.wal_frame.specs.declared.reading.Unread.{Unread}
use Rattle.wal_frame.specs.declared.reading.Unread.TheVariants.{Malformed, OutOfMemory}
use Rattle.wal_frame.specs.Payload.{Fails, edit_at, edits_at}

-- what was read before, and what is still read
abbrev pub with_front : List LeafEdit → Option (List LeafEdit × List ℕ) → Option (List LeafEdit × List ℕ)
with_front front read = option_map {U = List LeafEdit × List ℕ} (λ x. (front ++ x.0, x.1)) read

regroup : (front : List LeafEdit) (edit : LeafEdit) (read : Option (List LeafEdit × List ℕ))
    → with_front front (option_and_then (λ others. Some (edit ∷ others.0, others.1)) read) ≡ with_front (front ++ edit ∷ []) read
regroup front edit (Some x) = ap (λ (edits : List LeafEdit). Some (edits, x.1)) (simp append_assoc)
regroup front edit None = refl

module _ (shape : PyramidShape) where
  pub goes_on : (front : List LeafEdit) (count i : ℕ) (bytes : List ℕ) (edit : LeafEdit) (after : List ℕ) (total : Option (List LeafEdit × List ℕ)) → i < count → edit_at shape bytes ≡ Some (edit, after)
      → with_front front (edits_at shape (count - i) bytes) ≡ total → with_front (front ++ edit ∷ []) (edits_at shape (count - (i + 1)) after) ≡ total
  unfolding edits_at
  goes_on front count i bytes edit after total below is so_far =
      let k : count - i ≡ suc (count - (i + 1)) = omega arith in
      let one : with_front front (edits_at shape (count - i) bytes) ≡ with_front (front ++ edit ∷ []) (edits_at shape (count - (i + 1)) after) = rw (k, is) (regroup front edit (edits_at shape (count - (i + 1)) after)) in
      sym one ∙ so_far

  pub ends : (unread : Unread) (front : List LeafEdit) (count i : ℕ) (bytes : List ℕ) (total : Option (List LeafEdit × List ℕ)) → i < count → Fails unread (edit_at shape bytes)
      → with_front front (edits_at shape (count - i) bytes) ≡ total → Fails unread total
  unfolding edits_at
  ends OutOfMemory front count i bytes total below is so_far = tt
  ends Malformed front count i bytes total below is so_far =
      let k : count - i ≡ suc (count - (i + 1)) = omega arith in
      let one : with_front front (edits_at shape (count - i) bytes) ≡ None = rw (k, is) refl in
      sym so_far ∙ one

  pub is_done : (front : List LeafEdit) (count i : ℕ) (bytes : List ℕ) (total : Option (List LeafEdit × List ℕ)) → count ≤ i → with_front front (edits_at shape (count - i) bytes) ≡ total → total ≡ Some (front, bytes)
  unfolding edits_at
  is_done front count i bytes total past so_far =
      let k : count - i ≡ 0 = omega arith in
      let one : with_front front (edits_at shape (count - i) bytes) ≡ Some (front, bytes) = rw k (ap (λ (edits : List LeafEdit). Some (edits, bytes)) (append-nil front)) in
      sym so_far ∙ one
