-- Each byte by its lemma, and then the whole text.
use Rattle.std.proofs.Common.{◌≡◌, ℕ, ◌+◌, ◌-◌, ◌<◌, ◌≤◌, ◌∷◌, [], ◌++◌, List, Bool, cond, length, take, get_or, refl, sym, ap, ◌∙◌, subst, arith, inl, inr}
use Rattle.std.proofs.lemmas.List.{take_more, take_all}
use Rattle.decimal_scale.specs.declared.digits.Digits.{Digits}
use Rattle.decimal_scale.specs.Scan.{Scanned}
use Rattle.decimal_scale.proofs.ShapeSteps.{shape_none}
use Rattle.decimal_scale.proofs.DigitSteps.{digits_none}
use Rattle.decimal_scale.proofs.ScanSteps.{scanned_point, all_scanned, no_digit, other_byte, second_point, other_bytes, scanned_small}
use Rattle.decimal_scale.proofs.digits.Digits.read.Goals as goal
use Rattle.decimal_scale.proofs.digits.Digits.read.Goals.{in-46, in-48-to-57}

whole : (text : List ℕ) (i : ℕ) (digits : Digits) → length text ≤ i → Scanned (take i text) digits → Scanned text digits
whole text i digits past h = subst (λ (front : List ℕ). Scanned front digits) (take_all i text past) h

pub loop-byte-init : goal.loop-byte-init
loop-byte-init c = record { shape = shape_none; number = digits_none }

pub push-requires-clause-small : goal.push-requires-clause-small
push-requires-clause-small c = scanned_small (take c.loop-byte.byte-index c.args.text.now) c.loop-byte.digits c.loop-byte.invariant

pub returns-in_default : goal.returns-in_default
returns-in_default c = record {
  is = second_point c.args.text.now c.loop-byte.byte-index c.loop-byte-test.true c.in-46.is
      (c.loop-byte.invariant.shape.points ∙ ap (λ (b : Bool). cond b 1 0) c.if-not-digits.false);
  cause = refl;
}

pub returns-in_default-2 : goal.returns-in_default-2
returns-in_default-2 c =
    let other = other_bytes (get_or c.args.text.now c.loop-byte.byte-index 0) (omega arith) (inl (omega arith)) in
    record { is = other_byte c.args.text.now c.loop-byte.byte-index c.loop-byte-test.true other.0 other.1; cause = refl }

pub returns-in_default-3 : goal.returns-in_default-3
returns-in_default-3 c =
    let other = other_bytes (get_or c.args.text.now c.loop-byte.byte-index 0) (omega arith) (inr (omega arith)) in
    record { is = other_byte c.args.text.now c.loop-byte.byte-index c.loop-byte-test.true other.0 other.1; cause = refl }

-- the front with one more byte
next_front : (text : List ℕ) (i b : ℕ) (digits : Digits) → i < length text → get_or text i 0 ≡ b → Scanned (take i text ++ b ∷ []) digits → Scanned (take (i + 1) text) digits
next_front text i b digits within e h =
    let more : take (i + 1) text ≡ take i text ++ get_or text i 0 ∷ [] = take_more text i 0 within in
    subst (λ (front : List ℕ). Scanned front digits) (sym more) (subst (λ (x : ℕ). Scanned (take i text ++ x ∷ []) digits) (sym e) h)

pub loop-byte-preserved : goal.loop-byte-preserved
loop-byte-preserved c = elim c.match-byte.branch [
  | in-46 w ↦ subst (λ (digits : Digits). Scanned (take (c.loop-byte.byte-index + 1) c.args.text.now) digits) (sym w.digits-is)
      (next_front c.args.text.now c.loop-byte.byte-index 46 _ c.loop-byte-test.true w.in-46.is
      (scanned_point (take c.loop-byte.byte-index c.args.text.now) c.loop-byte.digits w.if-not-digits.true c.loop-byte.invariant))
  | in-48-to-57 w ↦ subst (λ (digits : Digits). Scanned (take (c.loop-byte.byte-index + 1) c.args.text.now) digits) (sym w.digits-is)
      (next_front c.args.text.now c.loop-byte.byte-index (48 + (get_or c.args.text.now c.loop-byte.byte-index 0 - 48)) _ c.loop-byte-test.true (omega arith)
      (w.push.ensures (take c.loop-byte.byte-index c.args.text.now) c.loop-byte.invariant))
]

pub returns-then-digits : goal.returns-then-digits
returns-then-digits c = all_scanned c.args.text.now c.loop-byte.digits c.if-digits.true (whole c.args.text.now c.loop-byte.byte-index c.loop-byte.digits c.loop-byte-test.false c.loop-byte.invariant)

pub returns-else-digits : goal.returns-else-digits
returns-else-digits c = record {
  is = no_digit c.args.text.now c.loop-byte.digits c.if-digits.false (whole c.args.text.now c.loop-byte.byte-index c.loop-byte.digits c.loop-byte-test.false c.loop-byte.invariant);
  cause = refl;
}
