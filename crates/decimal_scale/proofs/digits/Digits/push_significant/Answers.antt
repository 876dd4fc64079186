-- A number of at most 18 digits fits.
use Rattle.std.proofs.Common.{ℕ, ◌+◌, ◌*◌, ◌^◌, ◌<◌, ◌≤◌, arith, ap}
use Rattle.decimal_scale.proofs.Powers.{more_digits, at_most_18}
use Rattle.decimal_scale.proofs.digits.Digits.push_significant.Goals as goal

pub overflow_mul-self : goal.overflow_mul-self
overflow_mul-self c =
    let few : c.args.self.now.significant + (c.args.self.now.trailing_zeros + 1) ≤ 18 = c.if-self-le-MAX_DIGITS.true in
    let small : c.args.self.now.significand < 10 ^ c.args.self.now.significant = c.requires.small (omega (arith, few)) in
    let below = more_digits c.args.self.now.significand c.args.self.now.significant c.args.self.now.trailing_zeros c.args.digit small c.requires.digit in
    let most = at_most_18 (c.args.self.now.significant + (c.args.self.now.trailing_zeros + 1)) few in
    let power = ap (λ (n : ℕ). c.args.self.now.significand * n) c.pow.ensures in
    omega (arith, below, most, power)

pub overflow_add-self-then-self-le-MAX_DIGITS : goal.overflow_add-self-then-self-le-MAX_DIGITS
overflow_add-self-then-self-le-MAX_DIGITS c =
    let few : c.args.self.now.significant + (c.args.self.now.trailing_zeros + 1) ≤ 18 = c.if-self-le-MAX_DIGITS.true in
    let small : c.args.self.now.significand < 10 ^ c.args.self.now.significant = c.requires.small (omega (arith, few)) in
    let below = more_digits c.args.self.now.significand c.args.self.now.significant c.args.self.now.trailing_zeros c.args.digit small c.requires.digit in
    let most = at_most_18 (c.args.self.now.significant + (c.args.self.now.trailing_zeros + 1)) few in
    let power = ap (λ (n : ℕ). c.args.self.now.significand * n) c.pow.ensures in
    omega (arith, below, most, power, c.from.ensures)
