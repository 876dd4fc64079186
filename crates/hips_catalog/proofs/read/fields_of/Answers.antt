use Rattle.std.proofs.Common.{◌≡◌, ℕ, ◌+◌, List, ◌∷◌, length, arith, ◌∙◌, ap}
use Rattle.std.specs.Prelude.{◌==◌, count_by}
use Rattle.std.proofs.lemmas.List.Splits.{length-slice_split}
use Rattle.hips_catalog.specs.Reading.{tab, fields}
use Rattle.hips_catalog.proofs.read.fields_of.Goals as goal

five : (line a b c d m n o p : List ℕ) → fields line ≡ a ∷ fields m → fields m ≡ b ∷ fields n → fields n ≡ c ∷ fields o → fields o ≡ d ∷ fields p →
    length (fields line) ≡ 4 → ⊥
five line a b c d m n o p first second third fourth four =
    let some : length (fields p) ≡ count_by (λ byte. byte == tab) p + 1 = length-slice_split (λ byte. byte == tab) p in
    let all : fields line ≡ a ∷ (b ∷ (c ∷ (d ∷ fields p))) = first ∙ ap (λ xs. a ∷ xs) (second ∙ ap (λ xs. b ∷ xs) (third ∙ ap (λ xs. c ∷ xs) fourth)) in
    let count : length (fields line) ≡ length (fields p) + 4 = ap length all ∙ omega arith in
    omega arith

pub returns-in-Some : goal.returns-in-Some
returns-in-Some c = five c.args.line.now c.in_ok-rank.rank.now c.in_ok-npix.npix.now c.in_ok-id.id.now c.in-Some.field-0.0.now c.in_ok-rank.more.now c.in_ok-npix.more.now c.in_ok-id.rest.now c.in-Some.field-0.1.now c.in_ok-rank.ensures c.in_ok-npix.ensures c.in_ok-id.ensures c.in-Some.ensures
