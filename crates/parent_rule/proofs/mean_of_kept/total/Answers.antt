use Rattle.std.proofs.Common.{◌≡◌, ◌*◌, ◌^◌, refl, arith, ℤ, pos, ◌+ℤ◌, ◌≤ℤ◌}
use Rattle.std.proofs.lemmas.Int.{ints}
use Rattle.parent_rule.proofs.SumsOfFour.{natural_sum}
use Rattle.parent_rule.proofs.mean_of_kept.total.Given.{Over}
use Rattle.parent_rule.proofs.mean_of_kept.total.Goals as goal

-- there is room for sums of up to four numbers of the width
fits : (g : Over) (k : ℤ) → pos 0 ≤ℤ k → k ≤ℤ pos (4 * 2 ^ g.N.PixelNumber.bits) → g.N.Sum.Number.fits k
fits g k low high =
    let exact = g.met.N.Sum.Integral.exact_law in
    g.N.Sum.Number.between_law (pos 0) k (pos (4 * 2 ^ g.N.PixelNumber.bits)) exact (g.met.N.Sum.Zero.zero_fits_law exact) g.met.N.PixelNumber.sums_fit low high

fits_sum : (g : Over) (a b : g.row.N-Sum.Denot) → (g.N.Sum.Number.value a +ℤ g.N.Sum.Number.value b) ≤ℤ pos (4 * 2 ^ g.N.PixelNumber.bits) → g.N.Sum.Number.fits (g.N.Sum.Number.value a +ℤ g.N.Sum.Number.value b)
fits_sum g a b room = fits g (g.N.Sum.Number.value a +ℤ g.N.Sum.Number.value b) (natural_sum (g.met.N.Sum.Unsigned.unsigned_law a) (g.met.N.Sum.Unsigned.unsigned_law b)) room

can_add : (g : Over) (a b : g.row.N-Sum.Denot) → (g.N.Sum.Number.value a +ℤ g.N.Sum.Number.value b) ≤ℤ pos (4 * 2 ^ g.N.PixelNumber.bits) → g.N.Sum.Add.can_add a b
can_add g a b room = g.met.N.Sum.Zero.can_add_law a b (λ _. fits_sum g a b room)

added : (g : Over) (a b r : g.row.N-Sum.Denot) → g.N.Sum.Add.add_gives a b r → (g.N.Sum.Number.value a +ℤ g.N.Sum.Number.value b) ≤ℤ pos (4 * 2 ^ g.N.PixelNumber.bits) → g.N.Sum.Number.value r ≡ g.N.Sum.Number.value a +ℤ g.N.Sum.Number.value b
added g a b r gives room = g.met.N.Sum.Zero.add_law a b r gives g.met.N.Sum.Integral.exact_law (fits_sum g a b room)

pub add-requires : goal.add-requires
add-requires g c = can_add g c.args.a c.args.b (omega (arith, ints, c.requires.a, c.requires.b))

pub add-requires-2 : goal.add-requires-2
add-requires-2 g c =
    let two = added g c.args.a c.args.b c.add.result c.add.ensures (omega (arith, ints, c.requires.a, c.requires.b)) in
    can_add g c.add.result c.args.c (omega (arith, ints, two, c.requires.a, c.requires.b, c.requires.c))

pub add-requires-3 : goal.add-requires-3
add-requires-3 g c =
    let two = added g c.args.a c.args.b c.add.result c.add.ensures (omega (arith, ints, c.requires.a, c.requires.b)) in
    let three = added g c.add.result c.args.c c.add-2.result c.add-2.ensures (omega (arith, ints, two, c.requires.a, c.requires.b, c.requires.c)) in
    can_add g c.add-2.result c.args.d (omega (arith, ints, two, three, c.requires.a, c.requires.b, c.requires.c, c.requires.d))

pub returns : goal.returns
returns g c =
    let two = added g c.args.a c.args.b c.add.result c.add.ensures (omega (arith, ints, c.requires.a, c.requires.b)) in
    let three = added g c.add.result c.args.c c.add-2.result c.add-2.ensures (omega (arith, ints, two, c.requires.a, c.requires.b, c.requires.c)) in
    let four = added g c.add-2.result c.args.d c.add-3.result c.add-3.ensures (omega (arith, ints, two, three, c.requires.a, c.requires.b, c.requires.c, c.requires.d)) in
    rw (four, three, two) refl
