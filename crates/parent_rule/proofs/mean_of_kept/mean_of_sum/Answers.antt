use Rattle.std.proofs.Common.{◌≡◌, ◌≢◌, ℕ, ◌*◌, ◌^◌, ◌<◌, ◌≤◌, ◌-◌, ◌∙◌, Bool, true, false, refl, sym, ap, arith, ℤ, pos, ◌+ℤ◌, ◌≤ℤ◌, ◌<ℤ◌, ◌*ℤ◌}
use Rattle.std.proofs.lemmas.Int.{ints}
use Rattle.std.proofs.lemmas.Nat.{pow_pos}
use Rattle.std.specs.Prelude.{int_div}
use Rattle.parent_rule.proofs.SumsOfFour.{natural_sum, lt-le, few_fit, differs, below_four, mean_of_four, mean_of_three, mean_of_two, mean_of_rest}
use Rattle.parent_rule.proofs.mean_of_kept.mean_of_sum.Given.{Over}
use Rattle.parent_rule.proofs.mean_of_kept.mean_of_sum.Goals as goal

-- there is room for sums of up to four numbers of the width
fits : (g : Over) (k : ℤ) → pos 0 ≤ℤ k → k ≤ℤ pos (4 * 2 ^ g.N.PixelNumber.bits) → g.N.Sum.Number.fits k
fits g k low high =
    let exact = g.met.N.Sum.Integral.exact_law in
    g.N.Sum.Number.between_law (pos 0) k (pos (4 * 2 ^ g.N.PixelNumber.bits)) exact (g.met.N.Sum.Zero.zero_fits_law exact) g.met.N.PixelNumber.sums_fit low high

fits_sum : (g : Over) (a b : g.row.N-Sum.Denot) → (g.N.Sum.Number.value a +ℤ g.N.Sum.Number.value b) ≤ℤ pos (4 * 2 ^ g.N.PixelNumber.bits) → g.N.Sum.Number.fits (g.N.Sum.Number.value a +ℤ g.N.Sum.Number.value b)
fits_sum g a b room = fits g (g.N.Sum.Number.value a +ℤ g.N.Sum.Number.value b) (natural_sum (g.met.N.Sum.Unsigned.unsigned_law a) (g.met.N.Sum.Unsigned.unsigned_law b)) room

can_add : (g : Over) (a b : g.row.N-Sum.Denot) → (g.N.Sum.Number.value a +ℤ g.N.Sum.Number.value b) ≤ℤ pos (4 * 2 ^ g.N.PixelNumber.bits) → g.N.Sum.Add.can_add a b
can_add g a b room = g.met.N.Sum.Zero.can_add_law a b (λ _. fits_sum g a b room)

added : (g : Over) (a b r : g.row.N-Sum.Denot) → g.N.Sum.Add.add_gives a b r → (g.N.Sum.Number.value a +ℤ g.N.Sum.Number.value b) ≤ℤ pos (4 * 2 ^ g.N.PixelNumber.bits) → g.N.Sum.Number.value r ≡ g.N.Sum.Number.value a +ℤ g.N.Sum.Number.value b
added g a b r gives room = g.met.N.Sum.Zero.add_law a b r gives g.met.N.Sum.Integral.exact_law (fits_sum g a b room)

-- also with up to 3 more
room : (g : Over) (sum count more : g.row.N-Sum.Denot) (k : ℕ) → k ≤ 3 → g.N.Sum.Number.value count ≤ℤ pos 4 → g.N.Sum.Number.value sum ≤ℤ (pos (2 ^ g.N.PixelNumber.bits - 1) *ℤ g.N.Sum.Number.value count) → g.N.Sum.From.from_gives k more → (g.N.Sum.Number.value sum +ℤ g.N.Sum.Number.value more) <ℤ pos (4 * 2 ^ g.N.PixelNumber.bits)
room g sum count more k few four most gives =
    rw (g.met.N.PixelNumber.byte_is k more gives) (below_four (2 ^ g.N.PixelNumber.bits) (g.N.Sum.Number.value sum) (g.N.Sum.Number.value count) k few (pow_pos g.N.PixelNumber.bits) (g.met.N.Sum.Unsigned.unsigned_law count) four most)

-- a number beside a byte
equals : (g : Over) (count byte : g.row.N-Sum.Denot) (k : ℕ) (is : Bool) → is ≡ g.N.Sum.PartialEq.eq count byte → is ≡ true → g.N.Sum.From.from_gives k byte → g.N.Sum.Number.value count ≡ pos k
equals g count byte k is gives holds from =
    (g.met.N.Sum.Number.eq_law count byte g.met.N.Sum.Integral.exact_law).0 (sym gives ∙ holds) ∙ g.met.N.PixelNumber.byte_is k byte from

other : (g : Over) (count byte : g.row.N-Sum.Denot) (k : ℕ) (is : Bool) → is ≡ g.N.Sum.PartialEq.eq count byte → is ≡ false → g.N.Sum.From.from_gives k byte → g.N.Sum.Number.value count ≢ pos k
other g count byte k is gives fails from = λ equal.
    differs (g.N.Sum.PartialEq.eq count byte) (g.met.N.Sum.Number.eq_law count byte g.met.N.Sum.Integral.exact_law) (sym gives ∙ fails) (equal ∙ sym (g.met.N.PixelNumber.byte_is k byte from))

-- and divided by one
can_div : (g : Over) (a byte : g.row.N-Sum.Denot) (k : ℕ) → 0 < k → k ≤ 4 → g.N.Sum.Number.value a <ℤ pos (4 * 2 ^ g.N.PixelNumber.bits) → g.N.Sum.From.from_gives k byte → g.N.Sum.Div.can_div a byte
can_div g a byte k some four high from =
    let is : g.N.Sum.Number.value byte ≡ pos k = g.met.N.PixelNumber.byte_is k byte from in
    let at_a = fits g (g.N.Sum.Number.value a) (g.met.N.Sum.Unsigned.unsigned_law a) (lt-le high) in
    let at_k = fits g (pos k) (omega (arith, ints)) (few_fit k (2 ^ g.N.PixelNumber.bits) four (pow_pos g.N.PixelNumber.bits)) in
    g.met.N.Sum.Num.can_div_law a byte (λ exact. rw is (g.met.N.Sum.Num.positive_divisor_law (g.N.Sum.Number.value a) (pos k) exact at_a at_k (omega (arith, ints))))

-- a sum, some more, and the quotient
quotient : (g : Over) (sum more byte dividend mean : g.row.N-Sum.Denot) (k : ℕ) → g.N.Sum.From.from_gives k byte → g.N.Sum.Number.value dividend ≡ g.N.Sum.Number.value sum +ℤ g.N.Sum.Number.value more → g.N.Sum.Div.div_gives dividend byte mean → g.N.Sum.Number.value mean ≡ int_div (g.N.Sum.Number.value sum +ℤ g.N.Sum.Number.value more) (pos k)
quotient g sum more byte dividend mean k from is gives =
    g.met.N.Sum.Num.div_law dividend byte mean gives g.met.N.Sum.Integral.exact_law ∙ rw (is, g.met.N.PixelNumber.byte_is k byte from) refl

pub add-requires : goal.add-requires
add-requires g c = can_add g c.args.sum c.from-then-eq.result (lt-le (room g c.args.sum c.args.count c.from-then-eq.result 2 (omega arith) c.requires.four c.requires.room c.from-then-eq.ensures))

pub div-requires : goal.div-requires
div-requires g c = can_div g c.add.result c.from-then-eq-2.result 4 (omega arith) (omega arith) (rw (added g c.args.sum c.from-then-eq.result c.add.result c.add.ensures (lt-le (room g c.args.sum c.args.count c.from-then-eq.result 2 (omega arith) c.requires.four c.requires.room c.from-then-eq.ensures))) (room g c.args.sum c.args.count c.from-then-eq.result 2 (omega arith) c.requires.four c.requires.room c.from-then-eq.ensures)) c.from-then-eq-2.ensures

pub returns-then-eq : goal.returns-then-eq
returns-then-eq g c =
    let natural = g.met.N.Sum.Unsigned.unsigned_law c.args.sum in
    let is = equals g c.args.count c.from.result 4 c.eq.result c.eq.ensures c.if-eq.true c.from.ensures in
    let more = g.met.N.PixelNumber.byte_is 2 c.from-then-eq.result c.from-then-eq.ensures in
    let at = quotient g c.args.sum c.from-then-eq.result c.from-then-eq-2.result c.add.result c.div.result 4 c.from-then-eq-2.ensures (added g c.args.sum c.from-then-eq.result c.add.result c.add.ensures (lt-le (room g c.args.sum c.args.count c.from-then-eq.result 2 (omega arith) c.requires.four c.requires.room c.from-then-eq.ensures))) c.div.ensures in
    mean_of_four (2 ^ g.N.PixelNumber.bits) (g.N.Sum.Number.value c.args.sum) (g.N.Sum.Number.value c.args.count) (g.N.Sum.Number.value c.div.result) natural is c.requires.room (pow_pos g.N.PixelNumber.bits) (at ∙ ap (λ m. int_div (g.N.Sum.Number.value c.args.sum +ℤ m) (pos 4)) more)

pub add-requires-then-eq-2 : goal.add-requires-then-eq-2
add-requires-then-eq-2 g c = can_add g c.args.sum c.from-then-eq-2-2.result (lt-le (room g c.args.sum c.args.count c.from-then-eq-2-2.result 1 (omega arith) c.requires.four c.requires.room c.from-then-eq-2-2.ensures))

pub third-requires : goal.third-requires
third-requires g c = rw (added g c.args.sum c.from-then-eq-2-2.result c.add-then-eq-2.result c.add-then-eq-2.ensures (lt-le (room g c.args.sum c.args.count c.from-then-eq-2-2.result 1 (omega arith) c.requires.four c.requires.room c.from-then-eq-2-2.ensures))) (room g c.args.sum c.args.count c.from-then-eq-2-2.result 1 (omega arith) c.requires.four c.requires.room c.from-then-eq-2-2.ensures)

pub returns-then-eq-2 : goal.returns-then-eq-2
returns-then-eq-2 g c =
    let natural = g.met.N.Sum.Unsigned.unsigned_law c.args.sum in
    let is = equals g c.args.count c.from-else-eq.result 3 c.eq-else-eq.result c.eq-else-eq.ensures c.if-eq-2.true c.from-else-eq.ensures in
    let more = g.met.N.PixelNumber.byte_is 1 c.from-then-eq-2-2.result c.from-then-eq-2-2.ensures in
    let at = c.third.ensures ∙ ap (λ s. int_div s (pos 3)) (added g c.args.sum c.from-then-eq-2-2.result c.add-then-eq-2.result c.add-then-eq-2.ensures (lt-le (room g c.args.sum c.args.count c.from-then-eq-2-2.result 1 (omega arith) c.requires.four c.requires.room c.from-then-eq-2-2.ensures))) in
    mean_of_three (2 ^ g.N.PixelNumber.bits) (g.N.Sum.Number.value c.args.sum) (g.N.Sum.Number.value c.args.count) (g.N.Sum.Number.value c.third.result) natural is c.requires.room (pow_pos g.N.PixelNumber.bits) (at ∙ ap (λ m. int_div (g.N.Sum.Number.value c.args.sum +ℤ m) (pos 3)) more)

pub add-requires-then-eq-3 : goal.add-requires-then-eq-3
add-requires-then-eq-3 g c = can_add g c.args.sum c.from-then-eq-3.result (lt-le (room g c.args.sum c.args.count c.from-then-eq-3.result 1 (omega arith) c.requires.four c.requires.room c.from-then-eq-3.ensures))

pub div-requires-then-eq-3 : goal.div-requires-then-eq-3
div-requires-then-eq-3 g c = can_div g c.add-then-eq-3.result c.from-then-eq-3-2.result 2 (omega arith) (omega arith) (rw (added g c.args.sum c.from-then-eq-3.result c.add-then-eq-3.result c.add-then-eq-3.ensures (lt-le (room g c.args.sum c.args.count c.from-then-eq-3.result 1 (omega arith) c.requires.four c.requires.room c.from-then-eq-3.ensures))) (room g c.args.sum c.args.count c.from-then-eq-3.result 1 (omega arith) c.requires.four c.requires.room c.from-then-eq-3.ensures)) c.from-then-eq-3-2.ensures

pub returns-then-eq-3 : goal.returns-then-eq-3
returns-then-eq-3 g c =
    let natural = g.met.N.Sum.Unsigned.unsigned_law c.args.sum in
    let is = equals g c.args.count c.from-else-eq-2.result 2 c.eq-else-eq-2.result c.eq-else-eq-2.ensures c.if-eq-3.true c.from-else-eq-2.ensures in
    let more = g.met.N.PixelNumber.byte_is 1 c.from-then-eq-3.result c.from-then-eq-3.ensures in
    let at = quotient g c.args.sum c.from-then-eq-3.result c.from-then-eq-3-2.result c.add-then-eq-3.result c.div-then-eq-3.result 2 c.from-then-eq-3-2.ensures (added g c.args.sum c.from-then-eq-3.result c.add-then-eq-3.result c.add-then-eq-3.ensures (lt-le (room g c.args.sum c.args.count c.from-then-eq-3.result 1 (omega arith) c.requires.four c.requires.room c.from-then-eq-3.ensures))) c.div-then-eq-3.ensures in
    mean_of_two (2 ^ g.N.PixelNumber.bits) (g.N.Sum.Number.value c.args.sum) (g.N.Sum.Number.value c.args.count) (g.N.Sum.Number.value c.div-then-eq-3.result) natural is c.requires.room (pow_pos g.N.PixelNumber.bits) (at ∙ ap (λ m. int_div (g.N.Sum.Number.value c.args.sum +ℤ m) (pos 2)) more)

pub returns-else-eq-3 : goal.returns-else-eq-3
returns-else-eq-3 g c =
    mean_of_rest (2 ^ g.N.PixelNumber.bits) (g.N.Sum.Number.value c.args.sum) (g.N.Sum.Number.value c.args.count) (g.met.N.Sum.Unsigned.unsigned_law c.args.sum) (g.met.N.Sum.Unsigned.unsigned_law c.args.count) c.requires.four
    (other g c.args.count c.from.result 4 c.eq.result c.eq.ensures c.if-eq.false c.from.ensures)
    (other g c.args.count c.from-else-eq.result 3 c.eq-else-eq.result c.eq-else-eq.ensures c.if-eq-2.false c.from-else-eq.ensures)
    (other g c.args.count c.from-else-eq-2.result 2 c.eq-else-eq-2.result c.eq-else-eq-2.ensures c.if-eq-3.false c.from-else-eq-2.ensures)
    c.requires.room (pow_pos g.N.PixelNumber.bits)
