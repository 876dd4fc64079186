-- The three pieces of the text stand one after another, and are short enough.
use Rattle.std.proofs.Common.{rules, ◌≡◌, length, ap, subst, arith}
use mir.Syntax.{w32, w64}
use mir.Val.{SFits, to_z, of_z}
use Rattle.std.specs.Fmt.{signed_decimal}
use Rattle.std.proofs.lemmas.Int.{to_z-of_z}
use Rattle.decimal_scale.specs.Real.{DecimalNumber, IsNormal}
use Rattle.decimal_scale.proofs.Writing.{room_for_exp, IsWritten, text_written, part_text}
use Rattle.decimal_scale.proofs.decimal.Decimal.text_into.Goals as goal

pub write_at-requires : goal.write_at-requires
write_at-requires c =
    let normal : IsNormal c.args.self.now = subst (λ (number : DecimalNumber). IsNormal number) c.self.view_is c.self.invariant in
    let long : SFits w64 c.self.inside.mantissa = search rules in
    let short : SFits w32 c.self.inside.exp = search rules in
    let mantissa : c.as_bytes.result.now ≡ signed_decimal c.args.self.now.mantissa = part_text c.as_bytes.result.now c.format.result.now (to_z w64 (of_z w64 c.self.inside.mantissa)) c.self.inside.mantissa c.args.self.now.mantissa
    c.as_bytes.ensures.value c.format.ensures.text (to_z-of_z w64 c.self.inside.mantissa long) (ap (λ (number : DecimalNumber). number.mantissa) c.self.view_is) in
    let exp : c.as_bytes-2.result.now ≡ signed_decimal c.args.self.now.exp = part_text c.as_bytes-2.result.now c.format-2.result.now (to_z w32 (of_z w32 c.self.inside.exp)) c.self.inside.exp c.args.self.now.exp
    c.as_bytes-2.ensures.value c.format-2.ensures.text (to_z-of_z w32 c.self.inside.exp short) (ap (λ (number : DecimalNumber). number.exp) c.self.view_is) in
    room_for_exp c.args.self.now c.as_bytes.result.now c.as_bytes-2.result.now c.write_at-len.result c.write_at-len-2.result (length c.write_at-len-2.new.out) normal
    mantissa exp c.write_at-len.ensures.end c.write_at-len-2.ensures.end (omega (arith, c.requires))

pub returns : goal.returns
returns c =
    let normal : IsNormal c.args.self.now = subst (λ (number : DecimalNumber). IsNormal number) c.self.view_is c.self.invariant in
    let long : SFits w64 c.self.inside.mantissa = search rules in
    let short : SFits w32 c.self.inside.exp = search rules in
    let mantissa : c.as_bytes.result.now ≡ signed_decimal c.args.self.now.mantissa = part_text c.as_bytes.result.now c.format.result.now (to_z w64 (of_z w64 c.self.inside.mantissa)) c.self.inside.mantissa c.args.self.now.mantissa
    c.as_bytes.ensures.value c.format.ensures.text (to_z-of_z w64 c.self.inside.mantissa long) (ap (λ (number : DecimalNumber). number.mantissa) c.self.view_is) in
    let exp : c.as_bytes-2.result.now ≡ signed_decimal c.args.self.now.exp = part_text c.as_bytes-2.result.now c.format-2.result.now (to_z w32 (of_z w32 c.self.inside.exp)) c.self.inside.exp c.args.self.now.exp
    c.as_bytes-2.ensures.value c.format-2.ensures.text (to_z-of_z w32 c.self.inside.exp short) (ap (λ (number : DecimalNumber). number.exp) c.self.view_is) in
    let written : IsWritten c.args.self.now c.args.out.now c.write_at.new.out c.write_at.result =
    text_written c.args.self.now c.args.out.now c.write_at-len.new.out c.write_at-len-2.new.out c.write_at.new.out c.as_bytes.result.now c.as_bytes-2.result.now
    c.write_at-len.result c.write_at-len-2.result c.write_at.result normal mantissa exp
    c.write_at-len.ensures.end c.write_at-len.ensures.written c.write_at-len-2.ensures.end c.write_at-len-2.ensures.written c.write_at.ensures.end c.write_at.ensures.written in
    record { len = written.length_is; short = written.short; written = written.text }
