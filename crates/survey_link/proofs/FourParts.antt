-- What is left of parts whose first bytes were written.
use Rattle.std.proofs.Common.{◌≡◌, ℕ, suc, zero, ◌-◌, get_or, List, [], ◌∷◌, ◌++◌, length, drop, refl, sym, ap, ◌∙◌, arith}
use Rattle.std.proofs.lemmas.Grind.{common_steps}
use Rattle.std.specs.Borrow.{Bor}
use Rattle.survey_link.specs.Link.{parts_bytes}

-- the first bytes go from the first part, and what is over from the next
drop_both : (n : ℕ) (part rest : List ℕ) → drop n (part ++ rest) ≡ drop n part ++ drop (n - length part) rest
drop_both n [] rest = grind (arith, common_steps)
drop_both zero (x ∷ part) rest = let none : 0 - suc (length part) ≡ 0 = omega arith in rw none refl
drop_both (suc n) (x ∷ part) rest = let less : suc n - suc (length part) ≡ n - length part = omega arith in rw less (drop_both n part rest)

drop_none : (n : ℕ) → drop {A = ℕ} n [] ≡ []
drop_none zero = refl
drop_none (suc n) = refl

-- the rest of four parts
pub drop_four : (n : ℕ) (a b c d : List ℕ)
    → drop n a ++ (drop (n - length a) b ++ (drop (n - length a - length b) c ++ (drop (n - length a - length b - length c) d ++ []))) ≡ drop n (a ++ (b ++ (c ++ (d ++ []))))
drop_four n a b c d = sym (
    drop_both n a (b ++ (c ++ (d ++ [])))
    ∙ ap (λ l. drop n a ++ l) (drop_both (n - length a) b (c ++ (d ++ []))
    ∙ ap (λ l. drop (n - length a) b ++ l) (drop_both (n - length a - length b) c (d ++ [])
    ∙ ap (λ l. drop (n - length a - length b) c ++ l) (drop_both (n - length a - length b - length c) d []
    ∙ ap (λ l. drop (n - length a - length b - length c) d ++ l) (drop_none (n - length a - length b - length c - length d)))))
    )

-- the bytes of four parts
pub bytes_of_four : (parts : List (Bor (List ℕ))) (d : Bor (List ℕ)) → length parts ≡ 4
    → parts_bytes parts ≡ (get_or parts 0 d).now ++ ((get_or parts 1 d).now ++ ((get_or parts 2 d).now ++ ((get_or parts 3 d).now ++ [])))
bytes_of_four [] d e = absurd (omega arith)
bytes_of_four (p ∷ []) d e = absurd (omega arith)
bytes_of_four (p ∷ q ∷ []) d e = absurd (omega arith)
bytes_of_four (p ∷ q ∷ r ∷ []) d e = absurd (omega arith)
bytes_of_four (p ∷ q ∷ r ∷ s ∷ []) d e = refl
bytes_of_four (p ∷ q ∷ r ∷ s ∷ t ∷ parts) d e = absurd (omega arith)
