-- Where a test that the first items of a list meet, and no others, stops to hold.
use Rattle.std.specs.Prelude.{◌≡◌, ℕ, ◌+◌, Bool, true, false, cond, List, [], ◌∷◌}
use Rattle.std.specs.List.{AllByRecursion}

module _ {T : Type 0} where
  -- how many items at the beginning of the list meet the test
  abbrev pub leading : (T → Bool) → List T → ℕ
  leading test [] = 0
  leading test (x ∷ xs) = cond (test x) (leading test xs + 1) 0

  -- after an item that doesn't meet the test none does
  abbrev pub HoldsAtFirst : (T → Bool) → List T → Type 0
  HoldsAtFirst test [] = Unit {0}
  HoldsAtFirst test (x ∷ xs) = (test x ≡ true → HoldsAtFirst test xs) × (test x ≡ false → AllByRecursion (λ y. test y ≡ false) xs)
