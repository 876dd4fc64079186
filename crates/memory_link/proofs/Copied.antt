-- What a read does to the bytes of a source in memory.
use Rattle.std.proofs.Common.{◌≡◌, ℕ, ◌+◌, ◌-◌, ◌≤◌, List, ◌++◌, length, take, drop, sym, ap, ◌∙◌, subst, take-append-drop}
use Rattle.std.proofs.lemmas.List.{length-take-le, drop-drop}
use Rattle.survey_link.proofs.Writes.{from_there}
use Rattle.std.proofs.Math.Seq.{take-append_seam}

-- the front of a buffer of which the first part was copied is that part
front : (copied rest : List ℕ) (m : ℕ) → length copied ≡ m → take m (copied ++ rest) ≡ copied
front copied rest m is = subst (λ n. take n (copied ++ rest) ≡ copied) is (take-append_seam copied rest)

-- the bytes that a read copied to the front of the buffer, and then those left, are the bytes that were left
pub copied_then_left : (bytes copied buffer : List ℕ) (at m : ℕ) → m ≤ length (take (length bytes - at) (drop at bytes)) → copied ≡ take m (take (length bytes - at) (drop at bytes))
    → drop at bytes ≡ take m (copied ++ drop m buffer) ++ drop (at + m) bytes
copied_then_left bytes copied buffer at m fits is =
    let same : copied ≡ take m (drop at bytes) = is ∙ ap (take m) (from_there bytes at) in
    let many : length copied ≡ m = ap length same ∙ length-take-le m (drop at bytes) (subst (λ l. m ≤ length l) (from_there bytes at) fits) in
    rw (front copied (drop m buffer) m many) (sym (ap (λ l. l ++ drop (at + m) bytes) same ∙ ap (λ l. take m (drop at bytes) ++ l) (sym (drop-drop m at bytes)) ∙ take-append-drop m (drop at bytes)))
