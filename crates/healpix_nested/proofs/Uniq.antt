-- How `from_uniq` finds the order of a number, and what it knows of the cell that it makes.
use Rattle.std.proofs.Common.{◌≡◌, ◌↔◌, ℕ, suc, ◌+◌, ◌-◌, ◌*◌, ◌/◌, ◌%◌, ◌^◌, ◌<◌, ◌≤◌, Option, Some, None, IsSome, IsNone, IfSome, is_some, Fits, w64, true≢false, subst₂, sym, ap, ap₂, ◌∙◌, arith, pow-suc, pow-add, mod-eq_of_lt, inl, inr}
use Rattle.std.proofs.Math.Nat.{pow-le-pow_right}
use Rattle.std.proofs.lemmas.Bool.{cases_lt}
use Rattle.healpix_nested.specs.Cells.{NestedCell, IsCell, uniq_number}
use Rattle.healpix_nested.specs.CellLaws.{four_pow, cell_of_number}

two_pow_mono : (i j : ℕ) → i ≤ j → 2 ^ i ≤ 2 ^ j
two_pow_mono i j h = pow-le-pow_right {n = 2} (omega arith) {i = i} {j = j} h

-- a number from 4 up has a logarithm from 2 up
pub log_of_number : (u l : ℕ) → 4 ≤ u → u < 2 * 2 ^ l → 2 ≤ l
log_of_number u l four above = elim (cases_lt l 2) [
  | inl small ↦ let m : 2 ^ l ≤ 2 ^ 1 = two_pow_mono l 1 (omega arith) in absurd (omega arith)
  | inr large ↦ large
]

four_times : (a : ℕ) → 2 ^ (2 + 2 * a) ≡ 4 * 4 ^ a
four_times a = pow-add 2 2 (2 * a) ∙ ap (λ (n : ℕ). 4 * n) (four_pow a)

-- the order's numbers begin at or below u, and end above it
pub order_begins : (u l : ℕ) → 2 ≤ l → 2 ^ l ≤ u → 4 * 4 ^ ((l - 2) / 2) ≤ u
order_begins u l two below =
    let m : 2 ^ (2 + 2 * ((l - 2) / 2)) ≤ 2 ^ l = two_pow_mono (2 + 2 * ((l - 2) / 2)) l (omega arith) in
    let e : 2 ^ (2 + 2 * ((l - 2) / 2)) ≡ 4 * 4 ^ ((l - 2) / 2) = four_times ((l - 2) / 2) in
    omega arith

pub order_ends : (u l : ℕ) → 2 ≤ l → u < 2 * 2 ^ l → u < 16 * 4 ^ ((l - 2) / 2)
order_ends u l two above =
    let m : 2 ^ l ≤ 2 ^ suc (2 + 2 * ((l - 2) / 2)) = two_pow_mono l (suc (2 + 2 * ((l - 2) / 2))) (omega arith) in
    let m2 : 2 ^ l ≤ 2 ^ (2 + 2 * ((l - 2) / 2)) * 2 = rw (pow-suc 2 (2 + 2 * ((l - 2) / 2))) at m in
    let e : 2 ^ (2 + 2 * ((l - 2) / 2)) ≡ 4 * 4 ^ ((l - 2) / 2) = four_times ((l - 2) / 2) in
    omega arith

-- `4 << 2·a` loses no bit where it is at most a number of 64 bits
pub shift_of_order : (u a : ℕ) → 4 * 4 ^ a ≤ u → Fits w64 u → 4 * 2 ^ (2 * a) % 18446744073709551616 ≡ 4 * 4 ^ a
shift_of_order u a below fits =
    let f : u < 2 ^ 64 = fits.fits in
    rw (four_pow a) (mod-eq_of_lt (omega arith))

-- the cell that `new` makes of an order and a number, if there is one
made_cell : (made : Option NestedCell) (order npix : ℕ) → (IsSome made ↔ IsCell order npix)
    → IfSome made (λ cell. (cell.order ≡ order) × (cell.npix ≡ npix)) → IsCell order npix → made ≡ Some (record { order = order; npix = npix })
made_cell None order npix known is cell = absurd (true≢false (sym (known.1 cell)))
made_cell (Some v) order npix known is cell =
    ap₂ (λ (m : ℕ) (n : ℕ). Some (record { order = m; npix = n })) is.0 is.1

pub number_finds_cell : (made : Option NestedCell) (u a r : ℕ) → 4 * 4 ^ a ≤ u → u < 16 * 4 ^ a → r ≡ u - 4 * 4 ^ a
    → (IsSome made ↔ IsCell a r) → IfSome made (λ cell. (cell.order ≡ a) × (cell.npix ≡ r))
    → (order npix : ℕ) → IsCell order npix → uniq_number order npix ≡ u → made ≡ Some (record { order = order; npix = npix })
number_finds_cell made u a r begins ends er known is order npix cell e =
    let found : (a ≡ order) × (u - 4 * 4 ^ a ≡ npix) = cell_of_number a order npix u begins ends cell e in
    let number : r ≡ npix = er ∙ found.1 in
    let here : IsCell a r = subst₂ (λ (m : ℕ) (n : ℕ). IsCell m n) (sym found.0) (sym number) cell in
    made_cell made a r known is here ∙ ap₂ (λ (m : ℕ) (n : ℕ). Some (record { order = m; npix = n })) found.0 number

pub number_comes_back : (u a r order npix : ℕ) → 4 * 4 ^ a ≤ u → r ≡ u - 4 * 4 ^ a → (order ≡ a) × (npix ≡ r) → uniq_number order npix ≡ u
number_comes_back u a r order npix begins er is =
    let power : 4 ^ order ≡ 4 ^ a = ap (λ (k : ℕ). 4 ^ k) is.0 in
    omega arith

pub some_is_not_none : {X : Type 0} (o : Option X) (x : X) → o ≡ Some x → IsNone o → ⊥
some_is_not_none {X = X} o x some none = true≢false (sym (ap (λ (q : Option X). is_some q) some) ∙ none)
