-- A test of values that lie in memory is the test of the values.
use Rattle.std.proofs.Common.{◌≡◌, ℕ, Bool, true, false, ◌||◌, ◌&&◌, List, [], ◌∷◌, map, length, ◌<◌, Bor, refl, ap, arith}
use Rattle.std.specs.List.{list_any, list_all}
use Rattle.http_frame.specs.Request.{is_star, tags_of}
use Rattle.http_frame.specs.declared.request.Tags.TheVariants.{Any, Listed}

pub any_shown : (test : List ℕ → Bool) (values : List (Bor (List ℕ))) → list_any (λ value. test value.now) values ≡ list_any test (map (λ value. value.now) values)
any_shown test [] = refl
any_shown test (value ∷ values) = ap (λ b. test value.now || b) (any_shown test values)

pub all_shown : (test : List ℕ → Bool) (values : List (Bor (List ℕ))) → list_all (λ value. test value.now) values ≡ list_all test (map (λ value. value.now) values)
all_shown test [] = refl
all_shown test (value ∷ values) = ap (λ b. test value.now && b) (all_shown test values)

-- which tags some values list
pub tags_any : (values : List (List ℕ)) → 0 < length values → list_all is_star values ≡ true → tags_of values ≡ Any
tags_any [] some all = absurd (omega arith)
tags_any (value ∷ values) some all = rw all refl

pub tags_listed : (values : List (List ℕ)) → 0 < length values → list_all is_star values ≡ false → tags_of values ≡ Listed
tags_listed [] some all = absurd (omega arith)
tags_listed (value ∷ values) some all = rw all refl
