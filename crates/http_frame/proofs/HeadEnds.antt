-- Where the end of a head stands in bytes of which the first were searched before.
use Rattle.std.proofs.Common.{◌≡◌, ℕ, ◌+◌, ◌-◌, ◌≤◌, inl, inr, List, length, drop, slice_index, sym, ap, subst, ◌∙◌, arith}
use Rattle.std.proofs.lemmas.Bool.{cases_lt}
use Rattle.std.proofs.lemmas.List.{length-drop, get_or-drop}
use Rattle.memchr.specs.Find.{OccursAt, Nowhere}
use Rattle.http_frame.specs.Next.{head_end, most_head, IsHeadLength, HasNoHead}

-- a place behind the first bytes, and the same place in the whole
module _ (hay needle : List ℕ) (from k : ℕ) (within : from ≤ length hay) where
  occurs_in_whole : OccursAt (drop from hay) needle k → OccursAt hay needle (from + k)
  occurs_in_whole o = record {
    fits = let f : k + length needle ≤ length (drop from hay) = o.fits in omega (arith, f, length-drop from hay);
    reads = λ j h.
        let same : from + k + j ≡ from + (k + j) = omega arith in
        ap (slice_index hay) same ∙ sym (get_or-drop from hay (k + j) 0) ∙ o.reads j h;
  }

  occurs_in_rest : OccursAt hay needle (from + k) → OccursAt (drop from hay) needle k
  occurs_in_rest o = record {
    fits = let f : from + k + length needle ≤ length hay = o.fits in omega (arith, f, length-drop from hay);
    reads = λ j h.
        let same : from + k + j ≡ from + (k + j) = omega arith in
        get_or-drop from hay (k + j) 0 ∙ sym (ap (slice_index hay) same) ∙ o.reads j h;
  }

module _ (held : List ℕ) (from : ℕ) (within : from ≤ length held) (none : Nowhere (OccursAt held head_end) 0 from) where
  -- nowhere up to a place of the rest that has none before it
  nowhere_before : (k : ℕ) → Nowhere (OccursAt (drop from held) head_end) 0 k → Nowhere (OccursAt held head_end) 0 (from + k)
  nowhere_before k rest j low high there = elim (cases_lt j from) [
    | inl before ↦ none j low before there
    | inr behind ↦
        let same : j ≡ from + (j - from) = omega arith in
        rest (j - from) (omega arith) (omega arith) (occurs_in_rest held head_end from (j - from) within (subst (OccursAt held head_end) same there))
  ]

  pub head_found : (k : ℕ) → length held ≤ most_head → OccursAt (drop from held) head_end k → Nowhere (OccursAt (drop from held) head_end) 0 k → IsHeadLength held (from + k + 4)
  head_found k most there before =
      let end : from + k + 4 - 4 ≡ from + k = omega arith in
      let at : OccursAt held head_end (from + k) = occurs_in_whole held head_end from k within there in
      let fits : from + k + 4 ≤ length held = at.fits in
      record {
        least = omega arith;
        most = omega (arith, fits, most);
        ends = rw end at;
        first = rw end (nowhere_before k before);
      }

  pub head_missing : Nowhere (OccursAt (drop from held) head_end) 0 (length (drop from held) + 1) → HasNoHead held
  head_missing rest j low high there =
      let fits : j + 4 ≤ length held = there.fits in
      nowhere_before (length (drop from held) + 1) rest j low (omega (arith, fits, length-drop from held)) there
