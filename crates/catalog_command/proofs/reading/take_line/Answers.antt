use Rattle.std.proofs.Common.{◌≡◌, ◌+◌, ◌++◌, take, drop, Ok, sym, ap, ◌∙◌, subst, append_assoc}
use Rattle.std.proofs.lemmas.Result.{err_from_is_err_and}
use Rattle.hips_catalog.specs.Catalogue.{Catalogue}
use Rattle.catalog_command.specs.Lines.{after_line, after_input, then_lines}
use Rattle.survey_link.specs.Inbox.{held}
use Rattle.catalog_command.specs.Stops.{TellsStop}
use Rattle.catalog_command.specs.Answers.{IsAnswered}
use Rattle.catalog_command.proofs.Inputs.{of_received}
use Rattle.catalog_command.proofs.Judged.{ends, stops, is_next, used_stop, used_ok}
use Rattle.catalog_command.proofs.reading.take_line.Goals as goal

pub returns-in-None-clause-last : goal.returns-in-None-clause-last
returns-in-None-clause-last g c = λ _.
    let bytes = held c.find.new.inbox in
    of_received (λ input. after_input c.args.catalog.now c.args.number input ≡ Ok c.args.catalog.now) (held c.args.inbox.now) bytes (g.S.Source.left c.args.source.now) (g.S.Source.left c.find.new.source) c.in_ok-found.ensures.received
    (λ more. ends c.args.catalog.now c.args.number c.in_ok-found.found bytes (g.S.Source.left c.find.new.source) more (sym c.in_ok-judged.ensures.judged ∙ ap Ok c.in-None.is) c.in_ok-found.ensures.found)

pub returns-in_err-judged-clause-stopped : goal.returns-in_err-judged-clause-stopped
returns-in_err-judged-clause-stopped g c =
    let p = err_from_is_err_and c.from_residual-in_err-judged.result c.from_residual-in_err-judged.ensures.1 in
    let bytes = held c.find.new.inbox in
    let tells = of_received (λ input. TellsStop (after_input c.args.catalog.now c.args.number input) c.in_err-judged.field-0.0) (held c.args.inbox.now) bytes
    (g.S.Source.left c.args.source.now) (g.S.Source.left c.find.new.source) c.in_ok-found.ensures.received
    (λ more. stops c.args.catalog.now c.args.number c.in_ok-found.found bytes (g.S.Source.left c.find.new.source) more c.in_err-judged.field-0.0 (sym c.in_err-judged.ensures.judged) c.in_ok-found.ensures.found) in
    rw (p.1, p.2) tells

pub returns-in_err-used-in-Some-clause-stopped : goal.returns-in_err-used-in-Some-clause-stopped
returns-in_err-used-in-Some-clause-stopped g c =
    let p = err_from_is_err_and c.from_residual-in_err-used-in-Some.result c.from_residual-in_err-used-in-Some.ensures.1 in
    let bytes = held c.find.new.inbox in
    let count = c.in-Some.count in
    let line : take count c.held.result.now ≡ take count bytes = ap (take count) c.held.ensures in
    let answered = subst (λ text. IsAnswered (after_line c.args.catalog.now text) c.args.catalog.now c.use_line.result c.use_line.new.catalog) line c.use_line.ensures.answered in
    let tells = of_received (λ input. TellsStop (after_input c.args.catalog.now c.args.number input) c.in_err-used-in-Some.field-0.0) (held c.args.inbox.now) bytes
    (g.S.Source.left c.args.source.now) (g.S.Source.left c.find.new.source) c.in_ok-found.ensures.received
    (λ more _. used_stop c.args.number (after_line c.args.catalog.now (take count bytes)) (λ d. after_input d (c.args.number + 1) (drop (count + 1) bytes ++ more)) c.args.catalog.now
    c.use_line.new.catalog c.use_line.result c.in_err-used-in-Some.field-0.0 (after_input c.args.catalog.now c.args.number (bytes ++ more))
    (is_next c.args.catalog.now c.args.number c.in_ok-found.found bytes (g.S.Source.left c.find.new.source) count (sym c.in_ok-judged.ensures.judged ∙ ap Ok c.in-Some.is) c.in_ok-found.ensures.found more)
    answered (sym c.in_err-used-in-Some.ensures.numbered)) in
    rw (p.1, p.2) tells

pub returns-in_ok-used-in-Some-clause-taken : goal.returns-in_ok-used-in-Some-clause-taken
returns-in_ok-used-in-Some-clause-taken g c = λ _.
    let bytes = held c.find.new.inbox in
    let count = c.in-Some.count in
    let got = c.in_ok-found.ensures.received in
    let line : take count bytes ≡ take count c.held.result.now = sym (ap (take count) c.held.ensures) in
    let made = used_ok c.args.number (after_line c.args.catalog.now (take count c.held.result.now)) c.args.catalog.now c.use_line.new.catalog c.use_line.result c.in_ok-used-in-Some.field-0
    c.use_line.ensures.answered (sym c.in_ok-used-in-Some.ensures.numbered) in
    record {
      came = got.came;
      consumed = got.consumed;
      on = λ more.
          let after = λ (d : Catalogue). after_input d (c.args.number + 1) (drop (count + 1) bytes ++ more) in
          ap (after_input c.args.catalog.now c.args.number) (sym (ap (λ all. all ++ more) got.grown ∙ append_assoc (held c.args.inbox.now) got.came more))
          ∙ is_next c.args.catalog.now c.args.number c.in_ok-found.found bytes (g.S.Source.left c.find.new.source) count (sym c.in_ok-judged.ensures.judged ∙ ap Ok c.in-Some.is) c.in_ok-found.ensures.found more
          ∙ ap (λ m. then_lines c.args.number m after) (ap (after_line c.args.catalog.now) line ∙ made)
          ∙ ap (λ kept. after_input c.use_line.new.catalog (c.args.number + 1) (kept ++ more)) (sym c.give.ensures.rest);
    }
