-- What the masks and shifts of `place` compute.
use Rattle.std.proofs.Common.{◌≡◌, ℕ, zero, suc, ◌+◌, ◌*◌, ◌/◌, ◌%◌, ◌^◌, ◌<◌, Bool, true, ◌&&◌, eqb, eqb-true, bit_and, bit_or, refl, sym, ap, ◌∙◌, subst, arith, pow-suc, ◌⊎◌, inl, inr, ap₂, add_comm, mod-eq_of_lt}
use Rattle.std.proofs.lemmas.Bool.{and_parts, cases_lt}
use Rattle.std.proofs.lemmas.Nat.{and_block, or_block, and_mask, div-add-mod', or_shifted, or_comm}
use Rattle.healpix_nested.specs.Place.{spread, gathered, z_order}
use Rattle.healpix_nested.specs.PlaceLaws.{spread_below_third, gathered_below}

-- ---- tables

abbrev holds_below : ℕ → (ℕ → Bool) → Bool
holds_below zero p = true
holds_below (suc n) p = p n && holds_below n p

last_or_below : (n x : ℕ) → x < suc n → (x ≡ n) ⊎ (x < n)
last_or_below n x l = elim (cases_lt x n) [ inl b ↦ inr b | inr e ↦ inl (omega arith) ]

at_each_below : (n : ℕ) (p : ℕ → Bool) → holds_below n p ≡ true → (x : ℕ) → x < n → p x ≡ true
at_each_below zero p h x l = absurd (omega arith)
at_each_below (suc n) p h x l =
    let both : (p n ≡ true) × (holds_below n p ≡ true) = and_parts (p n) (holds_below n p) h in
    elim (last_or_below n x l) [
      | inl e ↦ subst (λ (y : ℕ). p y ≡ true) (sym e) both.0
      | inr b ↦ at_each_below n p both.1 x b
    ]

-- ---- spread

abbrev spread_step : ℕ → ℕ → ℕ → ℕ
spread_step shift mask x = bit_and (bit_or x (x * shift % 4294967296)) mask

abbrev spread_steps : ℕ → ℕ
spread_steps x = spread_step 2 0x5555_5555 (spread_step 4 0x3333_3333 (spread_step 16 0x0f0f_0f0f (spread_step 256 0x00ff_00ff x)))

spread_table : holds_below 512 (λ x. eqb (spread_steps x) (spread 9 x)) ≡ true
unfolding spread
spread_table = refl

pub spread_steps-spread : (x : ℕ) → x < 512 → spread_steps x ≡ spread 9 x
spread_steps-spread x h = eqb-true (spread_steps x) (spread 9 x) (at_each_below 512 (λ y. eqb (spread_steps y) (spread 9 y)) spread_table x h)

-- ---- gather

abbrev gather_step : ℕ → ℕ → ℕ → ℕ
gather_step shift mask x = bit_and (bit_or x (x / shift)) mask

abbrev gather_steps : ℕ → ℕ
gather_steps x = gather_step 256 0x0000_ffff (gather_step 16 0x00ff_00ff (gather_step 4 0x0f0f_0f0f (gather_step 2 0x3333_3333 x)))

gather_table : holds_below 512 (λ y. eqb (gather_steps (spread 9 y)) y) ≡ true
unfolding spread
gather_table = refl

gather_steps-spread : (y : ℕ) → y < 512 → gather_steps (spread 9 y) ≡ y
gather_steps-spread y h = eqb-true (gather_steps (spread 9 y)) y (at_each_below 512 (λ x. eqb (gather_steps (spread 9 x)) x) gather_table y h)

-- k pairs 01 below the number m
abbrev ones_and_zeros : ℕ → ℕ → ℕ
ones_and_zeros zero m = m
ones_and_zeros (suc k) m = ones_and_zeros k m * 4 + 1

spread_one_more : (k z g : ℕ) → (z % 2 + 2 * g) % 2 + 4 * spread k ((z % 2 + 2 * g) / 2) ≡ spread k g * 4 + z % 4 % 2
spread_one_more k z g =
    let low : (z % 2 + 2 * g) % 2 ≡ z % 2 = omega arith in
    let rest : (z % 2 + 2 * g) / 2 ≡ g = omega arith in
    rw (low, rest) (omega arith)

-- the mask 0101..01 keeps the bits at places 0, 2, 4 and so on
masked : (k m z : ℕ) → z < 4 ^ k → bit_and z (ones_and_zeros k m) ≡ spread k (gathered k z)
unfolding spread gathered
masked zero m z h =
    let e : z ≡ 0 = omega arith in
    ap (λ (y : ℕ). bit_and y m) e
masked (suc k) m z h =
    let h2 : z < 4 ^ k * 4 = rw (pow-suc 4 k) at h in
    let inner : bit_and (z / 4) (ones_and_zeros k m) ≡ spread k (gathered k (z / 4)) = masked k m (z / 4) (omega arith) in
    ap (λ (y : ℕ). bit_and y (ones_and_zeros k m * 4 + 1)) (sym (div-add-mod' z 4))
    ∙ and_block 2 (z / 4) (ones_and_zeros k m) (z % 4) 1 (omega arith) (omega arith)
    ∙ ap (λ (y : ℕ). y * 4 + bit_and (z % 4) 1) inner
    ∙ ap (λ (y : ℕ). spread k (gathered k (z / 4)) * 4 + y) (and_mask (z % 4) 1)
    ∙ sym (spread_one_more k z (gathered k (z / 4)))

pub gather_steps-gathered : (z : ℕ) → z < 4 ^ 9 → gather_steps (bit_and z 0x5555_5555) ≡ gathered 9 z
gather_steps-gathered z h =
    let m : bit_and z 0x5555_5555 ≡ spread 9 (gathered 9 z) = masked 9 0x1555 z h in
    ap (λ (x : ℕ). gather_steps x) m ∙ gather_steps-spread (gathered 9 z) (gathered_below 9 9 z h)

-- ---- interleave

two_bits : (a b : ℕ) → a < 2 → bit_or a (b * 2) ≡ a + b * 2
two_bits a b h = or_comm a (b * 2) ∙ or_shifted b 1 a h ∙ add_comm (b * 2) a

-- spread bits, and spread bits one place higher, have none in common
pub woven_by_or : (k x y : ℕ) → bit_or (spread k x) (spread k y * 2) ≡ spread k x + 2 * spread k y
unfolding spread
woven_by_or zero x y = refl
woven_by_or (suc k) x y =
    let s : ℕ = spread k (x / 2) in
    let t : ℕ = spread k (y / 2) in
    let inner : bit_or s (t * 2) ≡ s + 2 * t = woven_by_or k (x / 2) (y / 2) in
    let first : x % 2 + 4 * s ≡ s * 4 + x % 2 = omega arith in
    let second : (y % 2 + 4 * t) * 2 ≡ t * 2 * 4 + y % 2 * 2 = omega arith in
    ap₂ (λ (a : ℕ) (b : ℕ). bit_or a b) first second
    ∙ or_block 2 s (t * 2) (x % 2) (y % 2 * 2) (omega arith) (omega arith)
    ∙ ap₂ (λ (a : ℕ) (b : ℕ). a * 4 + b) inner (two_bits (x % 2) (y % 2) (omega arith))
    ∙ weave_again x y s t
  where
    weave_again : (x y s t : ℕ) → (s + 2 * t) * 4 + (x % 2 + y % 2 * 2) ≡ x % 2 + 4 * s + 2 * (y % 2 + 4 * t)
    weave_again x y s t = omega arith

-- the body of `interleave`
pub woven_in_32_bits : (column line : ℕ) → column < 512 → bit_or (spread 9 line) (spread 9 column * 2 % 4294967296) ≡ spread 9 line + 2 * spread 9 column
woven_in_32_bits column line h =
    let small : 3 * spread 9 column < 4 ^ 9 = spread_below_third 9 9 column h in
    let fits : spread 9 column * 2 % 4294967296 ≡ spread 9 column * 2 = mod-eq_of_lt (omega arith) in
    ap (λ (n : ℕ). bit_or (spread 9 line) n) fits ∙ woven_by_or 9 line column

pub interleaved : (column line a b z : ℕ) → column < 512 → a ≡ spread 9 line → b ≡ spread 9 column → z ≡ bit_or a (b * 2 % 4294967296) → z ≡ z_order column line
interleaved column line a b z h ea eb ez =
    ez ∙ ap₂ (λ (m : ℕ) (n : ℕ). bit_or m (n * 2 % 4294967296)) ea eb ∙ woven_in_32_bits column line h
