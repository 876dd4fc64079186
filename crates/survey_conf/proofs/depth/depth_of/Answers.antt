use Rattle.std.proofs.Common.{sym, ap, ◌∙◌, Some}
use Rattle.survey_conf.specs.EntriesView.{entries_view}
use Rattle.survey_conf.proofs.DepthLemmas.{together-missing, together-blank, together-rule, together-none, depth-described}
use Rattle.survey_conf.specs.declared.fault.ConfKind.TheVariants.{Range, Unknown}
use Rattle.survey_conf.proofs.depth.depth_of.Goals as goal

pub returns-then-not-is_complete-clause-refused : goal.returns-then-not-is_complete-clause-refused
returns-then-not-is_complete-clause-refused c = together-missing (entries_view c.args.entries.now.entries) (sym c.is_complete.ensures ∙ c.if-not-is_complete.true)

pub returns-in-None-clause-refused : goal.returns-in-None-clause-refused
returns-in-None-clause-refused c =
    together-blank (entries_view c.args.entries.now.entries) (sym c.is_complete.ensures ∙ c.if-not-is_complete.false) c.in-None.ensures
    ∙ ap (λ n. Some (record { line = n; kind = Range })) (sym c.line_of.ensures)

pub returns-in-Some-clause-refused : goal.returns-in-Some-clause-refused
returns-in-Some-clause-refused c =
    together-rule (entries_view c.args.entries.now.entries) (sym c.is_complete.ensures ∙ c.if-not-is_complete.false) c.in-Some.ensures.0
    (sym c.has_stray_rule.ensures ∙ c.if-has_stray_rule.true)
    ∙ ap (λ n. Some (record { line = n; kind = Unknown })) (sym c.line_of-in-Some.ensures)

pub returns-in-Some-2-clause-depth : goal.returns-in-Some-2-clause-depth
returns-in-Some-2-clause-depth c =
    c.with.ensures
    ∙ depth-described (entries_view c.args.entries.now.entries) c.in-Some.field-0.bitpix c.in-Some.field-0.blank c.combine.result
    c.in-Some.ensures.1 c.in-Some.ensures.2 c.combine.ensures

pub returns-in-Some-2-clause-accepted : goal.returns-in-Some-2-clause-accepted
returns-in-Some-2-clause-accepted c =
    together-none (entries_view c.args.entries.now.entries) (sym c.is_complete.ensures ∙ c.if-not-is_complete.false) c.in-Some.ensures.0
    (sym c.has_stray_rule.ensures ∙ c.if-has_stray_rule.false)
