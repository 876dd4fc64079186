use Rattle.std.proofs.Common.{◌≡◌, refl, Bool, true, Result, Ok, ap, ◌∙◌, arith}
use Rattle.std.proofs.lemmas.Result.{err_from_is_err_and}
use Rattle.hips_catalog.specs.Catalogue.{Catalogue}
use Rattle.catalog_command.specs.declared.refusal.CatalogRefusal.{CatalogRefusal}
use Rattle.catalog_command.specs.Lines.{catalogue_of}
use Rattle.survey_link.specs.Inbox.{held}
use Rattle.catalog_command.specs.Stops.{TellsStop}
use Rattle.catalog_command.proofs.Inputs.{begun, gone_on, ended}
use Rattle.catalog_command.proofs.reading.read_catalog.Goals as goal

pub returns-in_err-take_line-clause-stopped : goal.returns-in_err-take_line-clause-stopped
returns-in_err-take_line-clause-stopped g c =
    let p = err_from_is_err_and c.from_residual-in_err-take_line.result c.from_residual-in_err-take_line.ensures.1 in
    let tells = ended (catalogue_of c.args.top c.args.per_tile) c.lines.catalog c.lines.number (held c.lines.inbox) (g.S.Source.left c.args.source.now) (g.S.Source.left c.lines.source)
    (λ made. TellsStop made c.in_err-take_line.field-0.0) (g.S.Source.left c.take_line.new.source) c.lines.invariant.reads c.in_err-take_line.ensures.stopped in
    rw (p.1, p.2) tells

pub returns-then-not-branch-clause-read : goal.returns-then-not-branch-clause-read
returns-then-not-branch-clause-read g c =
    ended (catalogue_of c.args.top c.args.per_tile) c.lines.catalog c.lines.number (held c.lines.inbox) (g.S.Source.left c.args.source.now) (g.S.Source.left c.lines.source)
    (λ made. made ≡ Ok c.take_line.new.catalog) (g.S.Source.left c.take_line.new.source) c.lines.invariant.reads (c.in_ok-take_line.ensures.last (ap (λ (more : Bool). Ok more) c.if-not-branch.true))

pub lines-init : goal.lines-init
lines-init g c = record {
  reads = begun c.args.top c.args.per_tile c.new-catalog.result (held c.in_ok-inbox.inbox) (g.S.Source.left c.args.source.now) c.new-catalog.ensures c.in_ok-inbox.ensures.empty;
  few = omega arith;
  top = ap (λ (d : Catalogue). d.top) c.new-catalog.ensures;
  size = c.in_ok-inbox.ensures.size;
  faults = refl;
}

pub lines-preserved : goal.lines-preserved
lines-preserved g c =
    let more : ◌≡◌ {A = Result Bool CatalogRefusal} (Ok c.in_ok-take_line.field-0) (Ok true) = ap (λ (b : Bool). Ok b) c.if-not-branch.false in
    record {
      reads = gone_on (catalogue_of c.args.top c.args.per_tile) c.lines.catalog c.lines.number (held c.lines.inbox) (g.S.Source.left c.args.source.now) (g.S.Source.left c.lines.source)
          c.take_line.new.catalog (held c.take_line.new.inbox) (g.S.Source.left c.take_line.new.source) c.lines.invariant.reads (c.in_ok-take_line.ensures.taken more);
      few = omega (arith, c.in_ok-take_line.ensures.more more);
      top = c.in_ok-take_line.ensures.top ∙ c.lines.invariant.top;
      size = c.in_ok-take_line.ensures.size ∙ c.lines.invariant.size;
      faults = c.in_ok-take_line.ensures.faults ∙ c.lines.invariant.faults;
    }
