use Rattle.std.proofs.Common.{◌≡◌, ◌<◌, length, arith}
use Rattle.std.proofs.lemmas.Bool.Decides.{nat_tests}
use Rattle.survey_conf.specs.Lines.{contents}
use Rattle.survey_conf.specs.EntriesView.{entries_view}
use Rattle.survey_conf.proofs.EntryLemmas.{entries_view-empty}
use Rattle.survey_conf.proofs.ScanLemmas.{scanned-start, scanned-more, scanned-all, first_fault-none, refused-first, at_end, first_content}
use Rattle.survey_conf.proofs.entries.read_lines.Goals as goal

pub loop-rest-init : goal.loop-rest-init
loop-rest-init c = record {
  scanned = scanned-start (contents c.args.text.now) (entries_view c.new-entries.result.entries) (entries_view-empty c.new-entries.result.entries c.new-entries.ensures.len);
  count = omega arith;
}

pub overflow_add-line : goal.overflow_add-line
overflow_add-line c =
    let some : 0 < length c.loop-rest.rest.now = grind (arith, nat_tests, c.loop-rest-test.true, c.is_empty.ensures) in
    omega (arith, c.loop-rest.invariant.count)

pub loop-rest-smaller : goal.loop-rest-smaller
loop-rest-smaller c = c.first_line.ensures.shorter

pub loop-rest-preserved : goal.loop-rest-preserved
loop-rest-preserved c = record {
  scanned = scanned-more (contents c.args.text.now) (contents c.first_line.result.1.now) c.content.result.now (entries_view c.loop-rest.entries.entries) (entries_view c.add_line.new.entries.entries) c.loop-rest.line
      (first_content (contents c.args.text.now) c.loop-rest.rest.now c.first_line.result.0.now c.first_line.result.1.now c.content.result.now (entries_view c.loop-rest.entries.entries) c.loop-rest.line
      c.first_line.ensures.lines c.content.ensures c.loop-rest.invariant.scanned)
      c.in-Ok.ensures.accepted c.in-Ok.ensures.added;
  count = omega (arith, c.loop-rest.invariant.count, c.first_line.ensures.shorter);
}

pub returns-in-Err-clause-refused : goal.returns-in-Err-clause-refused
returns-in-Err-clause-refused c =
    refused-first (contents c.args.text.now) (contents c.first_line.result.1.now) c.content.result.now (entries_view c.loop-rest.entries.entries) c.loop-rest.line
    (first_content (contents c.args.text.now) c.loop-rest.rest.now c.first_line.result.0.now c.first_line.result.1.now c.content.result.now (entries_view c.loop-rest.entries.entries) c.loop-rest.line
    c.first_line.ensures.lines c.content.ensures c.loop-rest.invariant.scanned)
    c.in-Err.refusal c.in-Err.ensures.refused

pub returns-clause-read : goal.returns-clause-read
returns-clause-read c =
    let none : length c.loop-rest.rest.now ≡ 0 = grind (arith, nat_tests, c.loop-rest-test.false, c.is_empty.ensures) in
    scanned-all (contents c.args.text.now) (entries_view c.loop-rest.entries.entries) c.loop-rest.line
    (at_end (contents c.args.text.now) c.loop-rest.rest.now (entries_view c.loop-rest.entries.entries) c.loop-rest.line none c.loop-rest.invariant.scanned)

pub returns-clause-accepted : goal.returns-clause-accepted
returns-clause-accepted c =
    let none : length c.loop-rest.rest.now ≡ 0 = grind (arith, nat_tests, c.loop-rest-test.false, c.is_empty.ensures) in
    first_fault-none (contents c.args.text.now) (entries_view c.loop-rest.entries.entries) c.loop-rest.line
    (at_end (contents c.args.text.now) c.loop-rest.rest.now (entries_view c.loop-rest.entries.entries) c.loop-rest.line none c.loop-rest.invariant.scanned)
