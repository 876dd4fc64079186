use Rattle.std.proofs.Common.{arith, refl}
use Rattle.std.proofs.lemmas.Bool.{false≢true}
use Rattle.std.proofs.lemmas.Grind.{common_steps}
use Rattle.http_frame.proofs.FieldSteps.{span_named, span_other}
use Rattle.http_frame.proofs.fields.Fields.values.Goals as goal
use Rattle.http_frame.proofs.fields.Fields.values.Goals.{then-eq_ignore_ascii_case, else-eq_ignore_ascii_case}

pub loop-span-preserved : goal.loop-span-preserved
loop-span-preserved c = elim c.if-eq_ignore_ascii_case.branch [
  | then-eq_ignore_ascii_case w ↦
      let same = rw (c.of.ensures, w.if-eq_ignore_ascii_case.true) at c.eq_ignore_ascii_case.ensures.test in
      let more = span_named c.args.name.now c.self.inside.head.now c.self.inside.spans.now c.loop-span.span-index _ c.loop-span-test.true (same.0 refl) in
      grind (arith, common_steps, more)
  | else-eq_ignore_ascii_case w ↦
      let same = rw (c.of.ensures, w.if-eq_ignore_ascii_case.false) at c.eq_ignore_ascii_case.ensures.test in
      let more = span_other c.args.name.now c.self.inside.head.now c.self.inside.spans.now c.loop-span.span-index _ c.loop-span-test.true (λ e. false≢true (same.1 e)) in
      grind (arith, common_steps, more)
]
