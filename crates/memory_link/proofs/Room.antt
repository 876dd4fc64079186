-- What fits of parts into the room that is left.
use Rattle.std.proofs.Common.{◌≡◌, ℕ, suc, zero, ◌-◌, ◌≤◌, min, List, [], ◌∷◌, ◌++◌, length, take, ap, ◌∙◌, refl, sym, arith, append_assoc, length-append}
use Rattle.std.proofs.lemmas.List.{length-take, take_min, take_all}
use Rattle.std.proofs.lemmas.Grind.{common_steps}

-- the first bytes come from the first part, and what is over from the next
take_both : (n : ℕ) (part rest : List ℕ) → take n (part ++ rest) ≡ take n part ++ take (n - length part) rest
take_both n [] rest = grind (arith, common_steps)
take_both zero (x ∷ part) rest = let none : 0 - suc (length part) ≡ 0 = omega arith in rw none refl
take_both (suc n) (x ∷ part) rest = let less : suc n - suc (length part) ≡ n - length part = omega arith in rw less (ap (λ l. x ∷ l) (take_both n part rest))

-- so many of the part fit behind what is held
fits_more : (room : ℕ) (held part : List ℕ) → take room held ++ take (min (length part) (room - length (take room held))) part ≡ take room (held ++ part)
fits_more room held part =
    let left : room - length (take room held) ≡ room - length held = omega (arith, length-take room held) in
    let order : min (length part) (room - length held) ≡ min (room - length held) (length part) = omega arith in
    rw (left, order, take_min (room - length held) part) (sym (take_both room held part))

pub fits_step : (room : ℕ) (old before part held held' : List ℕ) (len count : ℕ) → held ≡ take room (old ++ before) → len ≡ length held → count ≡ min (length part) (room - len)
    → held' ≡ held ++ take count part → held' ≡ take room (old ++ (before ++ part))
fits_step room old before part held held' len count is len_is count_is grown =
    let more = fits_more room (old ++ before) part in
    rw (grown, count_is, len_is, is) (more ∙ ap (take room) (append_assoc old before part))

-- what was taken of the parts is as much of them as the bytes grew
pub taken_is : (room : ℕ) (old new parts : List ℕ) → length old ≤ room → new ≡ take room (old ++ parts) → new ≡ old ++ take (length new - length old) parts
taken_is room old new parts fits is =
    let all : take room old ≡ old = take_all room old fits in
    let count : length new - length old ≡ min (room - length old) (length parts) = omega (arith, ap length is, length-take room (old ++ parts), length-append old parts) in
    rw (count, take_min (room - length old) parts) (is ∙ take_both room old parts ∙ ap (λ l. l ++ take (room - length old) parts) all)
