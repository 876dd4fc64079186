-- The first place of a byte, as a search finds it.
use Rattle.std.proofs.Common.{◌≡◌, ℕ, ◌<◌, Bool, true, false, cond, List, length, get_or, Option, Some, None, refl, sym, ap, arith}
use Rattle.std.specs.Prelude.{position, nat_lt}
use Rattle.std.specs.List.{position_or_len}
use Rattle.std.proofs.lemmas.List.Sums.{position_or_len_is}
use Rattle.std.proofs.lemmas.Bool.Decides.{nat_tests}
use Rattle.memchr.specs.Find.{IsFirstByte}

not_true : (b : Bool) → (b ≡ true → ⊥) → b ≡ false
not_true true never = absurd (never refl)
not_true false _ = refl

at_length : (n len : ℕ) → n ≡ len → cond (nat_lt n len) (Some n) None ≡ None
at_length n len e = let no : nat_lt n len ≡ false = grind (arith, nat_tests) in rw no refl

below_length : (n i len : ℕ) → n ≡ i → i < len → cond (nat_lt n len) (Some n) None ≡ Some i
below_length n i len e below = let yes : nat_lt n len ≡ true = grind (arith, nat_tests) in rw yes (ap Some e)

-- the first place that a search of the bytes found
pub position-from_search : (test : ℕ → Bool) (bytes : List ℕ) (r : Option ℕ) → IsFirstByte test bytes r → r ≡ position test bytes
position-from_search test bytes None none =
    sym (at_length (position_or_len test bytes) (length bytes)
    (position_or_len_is test bytes (length bytes) 0 (omega arith)
    (λ k below. not_true (test (get_or bytes k 0)) (λ yes. none k (omega arith) below yes))
    (λ beyond. absurd (omega arith))))
position-from_search test bytes (Some i) found =
    sym (below_length (position_or_len test bytes) i (length bytes)
    (position_or_len_is test bytes i 0 (omega (arith, found.0.high))
    (λ k below. not_true (test (get_or bytes k 0)) (λ yes. found.0.before k (omega arith) below yes))
    (λ within. found.1))
    found.0.high)
