-- The first line of a text, and the first place of CR LF in it.
use Rattle.std.proofs.Common.{◌≡◌, ℕ, zero, suc, ◌+◌, ◌<◌, ◌≤◌, true, false, ◌&&◌, List, [], ◌∷◌, length, take, slice_index, refl, ap, subst, arith}
use Rattle.std.specs.Prelude.{◌==◌}
use Rattle.std.proofs.lemmas.Bool.{false_from_ne_true}
use Rattle.std.proofs.lemmas.Grind.{common_steps}
use Rattle.std.proofs.lemmas.Bool.Decides.{nat_tests}
use Rattle.memchr.specs.Find.{OccursAt, Nowhere}
use Rattle.httparse.specs.Ascii.{carriage_return, line_feed, crlf_bytes}
use Rattle.http_frame.specs.Refusal.{first_line}

-- CR LF stands at the front
at_front : (b c : ℕ) (rest : List ℕ) → (b == carriage_return && c == line_feed) ≡ true → OccursAt (b ∷ c ∷ rest) crlf_bytes 0
at_front b c rest e = record {
  fits = omega arith;
  reads = λ j h. grind (arith, nat_tests);
}

-- one place further in a text with a byte before it
occurs_behind : (b : ℕ) (text needle : List ℕ) (k : ℕ) → OccursAt text needle k → OccursAt (b ∷ text) needle (k + 1)
occurs_behind b text needle k o = record {
  fits = let f : k + length needle ≤ length text = o.fits in omega arith;
  reads = λ j h. let r : slice_index text (k + j) ≡ slice_index needle j = o.reads j h in grind (arith, common_steps);
}

occurs_before : (b : ℕ) (text needle : List ℕ) (k : ℕ) → OccursAt (b ∷ text) needle (k + 1) → OccursAt text needle k
occurs_before b text needle k o = record {
  fits = let f : k + 1 + length needle ≤ length (b ∷ text) = o.fits in omega arith;
  reads = λ j h. let r : slice_index (b ∷ text) (k + 1 + j) ≡ slice_index needle j = o.reads j h in grind (arith, common_steps);
}

-- CR LF stands nowhere in a text that is too short for it
too_short : (text : List ℕ) (k : ℕ) → length text < 2 → OccursAt text crlf_bytes k → ⊥
too_short text k short o = let f : k + 2 ≤ length text = o.fits in absurd (omega (arith, f))

front_is : (b c : ℕ) (rest : List ℕ) → OccursAt (b ∷ c ∷ rest) crlf_bytes 0 → (b == carriage_return && c == line_feed) ≡ true
front_is b c rest o =
    let first : b ≡ carriage_return = o.reads 0 (omega arith) in
    let second : c ≡ line_feed = o.reads 1 (omega arith) in
    grind (arith, nat_tests)

-- what stands before the first CR LF
pub line_at : (text : List ℕ) (k : ℕ) → OccursAt text crlf_bytes k → Nowhere (OccursAt text crlf_bytes) 0 k → take k text ≡ first_line text
line_at [] k o none = absurd (too_short [] k (omega arith) o)
line_at (b ∷ []) k o none = absurd (too_short (b ∷ []) k (omega arith) o)
line_at (b ∷ c ∷ rest) zero o none = rw (front_is b c rest o) refl
line_at (b ∷ c ∷ rest) (suc k) o none =
    let next : suc k ≡ k + 1 = omega arith in
    let behind : OccursAt (b ∷ c ∷ rest) crlf_bytes (k + 1) = subst (OccursAt (b ∷ c ∷ rest) crlf_bytes) next o in
    let no : (b == carriage_return && c == line_feed) ≡ false =
    false_from_ne_true (b == carriage_return && c == line_feed) (λ yes. none 0 (omega arith) (omega arith) (at_front b c rest yes)) in
    let later : take k (c ∷ rest) ≡ first_line (c ∷ rest) =
    line_at (c ∷ rest) k (occurs_before b (c ∷ rest) crlf_bytes k behind)
    (λ j low high there. none (j + 1) (omega arith) (omega arith) (occurs_behind b (c ∷ rest) crlf_bytes j there)) in
    rw no (ap (λ line. b ∷ line) later)

-- where there is none the whole text is one line
pub line_whole : (text : List ℕ) → Nowhere (OccursAt text crlf_bytes) 0 (length text + 1) → text ≡ first_line text
line_whole [] none = refl
line_whole (b ∷ []) none = refl
line_whole (b ∷ c ∷ rest) none =
    let no : (b == carriage_return && c == line_feed) ≡ false =
    false_from_ne_true (b == carriage_return && c == line_feed) (λ yes. none 0 (omega arith) (omega arith) (at_front b c rest yes)) in
    let later : c ∷ rest ≡ first_line (c ∷ rest) =
    line_whole (c ∷ rest) (λ j low high there. none (j + 1) (omega arith) (omega arith) (occurs_behind b (c ∷ rest) crlf_bytes j there)) in
    rw no (ap (λ line. b ∷ line) later)
