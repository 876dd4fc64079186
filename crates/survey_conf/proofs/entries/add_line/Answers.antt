use Rattle.std.proofs.Common.{Some, sym, ap, ◌∙◌}
use Rattle.survey_conf.specs.Lines.{has_form, key_in, value_in}
use Rattle.survey_conf.specs.Faults.{at_line}
use Rattle.survey_conf.specs.EntriesView.{entries_view}
use Rattle.survey_conf.proofs.EntryLemmas.{kind_after-skipped, kind_after-syntax, kind_after-pair, kind-none_absent, entries_view-added, refused-by, chosen, not_chosen}
use Rattle.indexmap.proofs.CallerLemmas.{insert_entry-new}
use Rattle.survey_conf.proofs.entries.add_line.Goals as goal

pub returns-then-is_skipped-clause-accepted : goal.returns-then-is_skipped-clause-accepted
returns-then-is_skipped-clause-accepted c =
    kind_after-skipped (entries_view c.args.entries.now.entries) c.args.written.now (sym c.is_skipped.ensures ∙ c.if-is_skipped.true)

pub returns-in_default-clause-refused : goal.returns-in_default-clause-refused
returns-in_default-clause-refused c =
    let written = c.args.written.now in
    refused-by _ _ _ c.at.ensures (ap (at_line c.args.line) (kind_after-syntax (entries_view c.args.entries.now.entries) written
    (sym c.is_skipped.ensures ∙ c.if-is_skipped.false) (not_chosen (has_form written) (key_in written, value_in written) c.in_default.ensures)))

pub returns-in-Some-kind_of_pair-clause-refused : goal.returns-in-Some-kind_of_pair-clause-refused
returns-in-Some-kind_of_pair-clause-refused c =
    let written = c.args.written.now in
    let parts = chosen (has_form written) (c.in-Some.key.now, c.in-Some.value.now) (key_in written, value_in written) c.in-Some.ensures in
    refused-by _ _ _ c.at-in-Some-kind_of_pair.ensures (ap (at_line c.args.line) (kind_after-pair (entries_view c.args.entries.now.entries) written c.in-Some.key.now c.in-Some.value.now
    (Some c.in-Some-kind_of_pair.kind)
    (sym c.is_skipped.ensures ∙ c.if-is_skipped.false) parts.0 (ap (λ p. p.0) parts.1) (ap (λ p. p.1) parts.1)
    (sym c.kind_of_pair.ensures ∙ c.in-Some-kind_of_pair.is)))

pub returns-in-Ok-clause-added : goal.returns-in-Ok-clause-added
returns-in-Ok-clause-added c =
    let written = c.args.written.now in
    let parts = chosen (has_form written) (c.in-Some.key.now, c.in-Some.value.now) (key_in written, value_in written) c.in-Some.ensures in
    entries_view-added c.args.entries.now.entries c.insert.new.self.entries c.in-Some.key c.in-Some.value c.args.line written
    (sym c.is_skipped.ensures ∙ c.if-is_skipped.false) (ap (λ p. p.0) parts.1) (ap (λ p. p.1) parts.1)
    (c.in-Ok.ensures.entries ∙ insert_entry-new _ c.args.entries.now c.in-Some.key _
    (kind-none_absent c.args.entries.now.entries c.in-Some.key.now c.in-Some.value.now (sym c.kind_of_pair.ensures ∙ c.in_default-kind_of_pair.is)))

pub returns-in-Ok-clause-accepted : goal.returns-in-Ok-clause-accepted
returns-in-Ok-clause-accepted c =
    let written = c.args.written.now in
    let parts = chosen (has_form written) (c.in-Some.key.now, c.in-Some.value.now) (key_in written, value_in written) c.in-Some.ensures in
    kind_after-pair (entries_view c.args.entries.now.entries) written c.in-Some.key.now c.in-Some.value.now _
    (sym c.is_skipped.ensures ∙ c.if-is_skipped.false) parts.0 (ap (λ p. p.0) parts.1) (ap (λ p. p.1) parts.1)
    (sym c.kind_of_pair.ensures ∙ c.in_default-kind_of_pair.is)
