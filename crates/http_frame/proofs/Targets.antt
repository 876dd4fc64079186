-- Where a byte stands first in a target, and what stands before it and from it on.
use Rattle.std.proofs.Common.{◌≡◌, ℕ, ◌<◌, ◌≤◌, ◌-◌, Bool, true, cond, List, [], ◌∷◌, length, take, drop, Option, Some, None, refl, sym, ap, ◌∙◌, arith}
use Rattle.std.specs.List.{position_or_len, before_first}
use Rattle.std.specs.Prelude.{nat_lt, ◌==◌}
use Rattle.std.proofs.lemmas.Bool.Decides.{Decides-ltb}
use Rattle.std.proofs.lemmas.Option.{cond_some}
use Rattle.std.proofs.lemmas.List.{length-drop, take_all, drop_all}
use Rattle.std.proofs.lemmas.Grind.{common_steps}
use Rattle.http_frame.specs.Target.{slash, or_slash, after_host}

-- the first place n of a list of that length, where it lies in the list
abbrev first_place : ℕ → ℕ → Option ℕ
first_place n len = cond (nat_lt n len) (Some n) None

pub place_found : (n len i : ℕ) → first_place n len ≡ Some i → (n ≡ i) × (i < len)
place_found n len i e =
    let found : (nat_lt n len ≡ true) × (n ≡ i) = cond_some (nat_lt n len) n i e in
    let within : n < len = (Decides-ltb n len).0 found.0 in
    (found.1, omega (arith, found.1))

pub place_missing : (n len : ℕ) → first_place n len ≡ None → len ≤ n
place_missing n len e = grind (arith, common_steps, Decides-ltb)

or_slash_some : (text : List ℕ) → 0 < length text → or_slash text ≡ text
or_slash_some [] some = absurd (omega arith)
or_slash_some (b ∷ bs) some = refl

-- the text from its first slash on
pub from_slash : (rest : List ℕ) (start : ℕ) → first_place (position_or_len (λ byte. byte == slash) rest) (length rest) ≡ Some start
    → take (length rest - start) (drop start rest) ≡ after_host rest
from_slash rest start e =
    let found : (position_or_len (λ byte. byte == slash) rest ≡ start) × (start < length rest) = place_found _ (length rest) start e in
    let size : length (drop start rest) ≡ length rest - start = length-drop start rest in
    let whole : take (length rest - start) (drop start rest) ≡ drop start rest = take_all (length rest - start) (drop start rest) (omega (arith, size)) in
    whole ∙ sym (or_slash_some (drop start rest) (omega (arith, size, found.1))) ∙ ap (λ n. or_slash (drop n rest)) (sym found.0)

pub no_slash : (rest : List ℕ) → first_place (position_or_len (λ byte. byte == slash) rest) (length rest) ≡ None → slash ∷ [] ≡ after_host rest
no_slash rest e = sym (ap or_slash (drop_all (position_or_len (λ byte. byte == slash) rest) rest (place_missing _ (length rest) e)))

-- what stands before the first byte that passes a test
pub before_place : (test : ℕ → Bool) (text : List ℕ) (end : ℕ) → first_place (position_or_len test text) (length text) ≡ Some end → take end text ≡ before_first test text
before_place test text end e = ap (λ n. take n text) (sym (place_found (position_or_len test text) (length text) end e).0)

pub before_none : (test : ℕ → Bool) (text : List ℕ) → first_place (position_or_len test text) (length text) ≡ None → text ≡ before_first test text
before_none test text e = sym (take_all (position_or_len test text) text (place_missing (position_or_len test text) (length text) e))
