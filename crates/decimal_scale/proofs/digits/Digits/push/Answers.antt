-- Each kind of digit, by its lemma.
use Rattle.std.proofs.Common.{ℕ, ◌+◌, ◌∷◌, [], ◌++◌, true, arith, subst, sym, ap, ◌∙◌}
use Rattle.decimal_scale.specs.Scan.{Scanned}
use Rattle.decimal_scale.proofs.ScanSteps.{test_number, scanned_next, scanned_zero, scanned_leading_zero}
use Rattle.decimal_scale.proofs.digits.Digits.push.Goals as goal

pub returns-then-digit-ne0 : goal.returns-then-digit-ne0
returns-then-digit-ne0 c = λ text h.
    scanned_next text c.args.self.now c.push_significant.new.self c.args.digit c.requires.digit c.if-digit-ne0.true
    c.push_significant.ensures.significant c.push_significant.ensures.zeros c.push_significant.ensures.value
    (c.push_significant.ensures.after_point ∙ ap (λ (n : ℕ). c.args.self.now.after_point + n) (c.from.ensures ∙ test_number c.args.self.now.has_point))
    c.push_significant.ensures.has_point c.push_significant.ensures.has_digit h

pub returns-then-self-ne0 : goal.returns-then-self-ne0
returns-then-self-ne0 c = λ text h.
    subst (λ (d : ℕ). Scanned (text ++ (48 + d) ∷ []) (record c.args.self.now { has_digit = true; after_point = c.args.self.now.after_point + c.from.result; trailing_zeros = c.args.self.now.trailing_zeros + 1 }))
    (sym c.if-digit-ne0.false) (scanned_zero text c.args.self.now c.from.result (c.from.ensures ∙ test_number c.args.self.now.has_point) (omega (arith, c.if-self-ne0.true)) h)

pub returns-else-self-ne0 : goal.returns-else-self-ne0
returns-else-self-ne0 c = λ text h.
    subst (λ (d : ℕ). Scanned (text ++ (48 + d) ∷ []) (record c.args.self.now { has_digit = true; after_point = c.args.self.now.after_point + c.from.result }))
    (sym c.if-digit-ne0.false) (scanned_leading_zero text c.args.self.now c.from.result (c.from.ensures ∙ test_number c.args.self.now.has_point) c.if-self-ne0.false h)
