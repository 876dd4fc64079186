-- The merges of one order are shared out alike, so the merges of each half repay its workers where all of them repay all.
use Rattle.std.proofs.Common.{◌≡◌, inl, inr, ℕ, ◌+◌, ◌-◌, ◌*◌, ◌/◌, ◌%◌, ◌<◌, ◌≤◌, min, List, length, take, drop, sym, ap, subst, subst₂, ◌∙◌, arith, length-drop}
use Rattle.std.proofs.Math.Nat.{div-add-mod', div-le_self, le-div_iff_mul-le, mul-add, mul_comm, mul-le-mul_right}
use Rattle.std.proofs.lemmas.Bool.{cases_lt}
use Rattle.std.proofs.lemmas.List.{length-take-le}
use Rattle.parent_rule.specs.Permit.{PermittedCell}
use Rattle.rebuild_worker.specs.Workers.{AreRepaid, merges_of_a_worker}

-- what the two halves have
pub halves : (permits near far : ℕ) → 0 < near + far → (permits / (near + far) * near + min (permits % (near + far)) near ≤ permits)
    × (permits / (near + far) * far ≤ permits - (permits / (near + far) * near + min (permits % (near + far)) near))
halves permits near far some =
    let whole : permits ≡ permits / (near + far) * (near + far) + permits % (near + far) = sym (div-add-mod' permits (near + far)) in
    let parts : permits / (near + far) * (near + far) ≡ permits / (near + far) * near + permits / (near + far) * far = mul-add (permits / (near + far)) near far in
    (omega arith, omega arith)

-- three workers and more are repaid by this many merges each
each_has : (workers merges n : ℕ) → 2 < workers → AreRepaid workers merges n → merges_of_a_worker n ≤ merges / workers
each_has workers merges n three repaid =
    let some : 0 < merges_of_a_worker n = omega arith in
    let few : workers ≤ merges / merges_of_a_worker n = omega arith in
    let all : workers * merges_of_a_worker n ≤ merges = (le-div_iff_mul-le some).0 few in
    (le-div_iff_mul-le {x = merges_of_a_worker n} (omega arith)).1 (omega (arith, mul_comm workers (merges_of_a_worker n)))

-- so many of them are repaid by a share of as many times that
share_repays : (part share each n : ℕ) → (1 < part → merges_of_a_worker n ≤ each) → each * part ≤ share → AreRepaid part share n
share_repays part share each n enough has = elim (cases_lt 1 part) [
  | inl lt ↦
      let some : 0 < merges_of_a_worker n = omega arith in
      let least : merges_of_a_worker n * part ≤ each * part = mul-le-mul_right part (enough lt) in
      let repaid : part ≤ share / merges_of_a_worker n = (le-div_iff_mul-le some).1 (omega (arith, mul_comm part (merges_of_a_worker n))) in
      let within : share / merges_of_a_worker n ≤ share = div-le_self share (merges_of_a_worker n) in
      omega arith
  | inr le ↦ omega arith
]

pub half_repays : (workers merges part share n : ℕ) → AreRepaid workers merges n → (1 < part → 2 < workers) → merges / workers * part ≤ share → AreRepaid part share n
half_repays workers merges part share n repaid more has = share_repays part share (merges / workers) n (λ lt. each_has workers merges n (more lt) repaid) has

-- the two halves of the workers
pub front_repays : (workers merges at n : ℕ) (todo front : List PermittedCell) → merges ≡ length todo → AreRepaid workers (length todo) n → at ≤ merges
    → merges / (workers / 2 + (workers - workers / 2)) * (workers / 2) ≤ at → front ≡ take at todo → AreRepaid (workers / 2) (length front) n
front_repays workers merges at n todo front all repaid within has is =
    let whole : workers / 2 + (workers - workers / 2) ≡ workers = omega arith in
    let share : length front ≡ at = ap length is ∙ length-take-le at todo (omega arith) in
    half_repays workers merges (workers / 2) (length front) n (subst (λ m. AreRepaid workers m n) (sym all) repaid) (λ lt. omega arith)
    (subst₂ (λ w s. merges / w * (workers / 2) ≤ s) whole (sym share) has)

pub back_repays : (workers merges at n : ℕ) (todo back : List PermittedCell) → merges ≡ length todo → AreRepaid workers (length todo) n
    → merges / (workers / 2 + (workers - workers / 2)) * (workers - workers / 2) ≤ merges - at → back ≡ drop at todo → AreRepaid (workers - workers / 2) (length back) n
back_repays workers merges at n todo back all repaid has is =
    let whole : workers / 2 + (workers - workers / 2) ≡ workers = omega arith in
    let share : length back ≡ merges - at = ap length is ∙ length-drop at todo ∙ ap (λ m. m - at) (sym all) in
    half_repays workers merges (workers - workers / 2) (length back) n (subst (λ m. AreRepaid workers m n) (sym all) repaid) (λ lt. omega arith)
    (subst₂ (λ w s. merges / w * (workers - workers / 2) ≤ s) whole (sym share) has)
