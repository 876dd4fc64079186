use Rattle.std.proofs.Common.{sym, ap, ◌∙◌, subst}
use Rattle.std.specs.Prelude.{IfSome}
use Rattle.std.specs.Result.{result_err}
use Rattle.std.proofs.lemmas.Result.{err_from_is_err_and}
use Rattle.survey_link.specs.Shelf.{Finds}
use Rattle.survey_conf.specs.Description.{description_of}
use Rattle.survey_conf.specs.Faults.{fault_of, IsRefusedBy as IsConfRefusal}
use Rattle.shelf_io.specs.Opening.{conf_path, conf_on, IsRefusedBy}
use Rattle.shelf_io.specs.Refusals.{of_conf}
use Rattle.shelf_io.proofs.LoadLemmas.{if_err_from, conf_read, conf_refused, conf_absent}
use Rattle.shelf_io.proofs.description.read_conf.Goals as goal

pub returns-in_err-described-in-Some-clause-refused : goal.returns-in_err-described-in-Some-clause-refused
returns-in_err-described-in-Some-clause-refused g c =
    if_err_from (λ refusal. IfSome (g.H.Shelf.files c.args.shelf.now) (λ files. IsRefusedBy (result_err (conf_on files)) refusal))
    c.from_residual-in_err-described-in-Some.result (of_conf c.in_err-described-in-Some.field-0.0) (err_from_is_err_and c.from_residual-in_err-described-in-Some.result c.from_residual-in_err-described-in-Some.ensures.1)
    (conf_refused (g.H.Shelf.files c.args.shelf.now) c.in-Some.text c.in_err-described-in-Some.field-0.0
    (subst (Finds (g.H.Shelf.files c.args.shelf.now) conf_path) c.in-Some.is c.in_ok-text.ensures.found)
    (subst (λ text. IsConfRefusal (fault_of text) c.in_err-described-in-Some.field-0.0) c.deref.ensures.value c.in_err-described-in-Some.ensures.refused))

pub returns-in_ok-described-in-Some-clause-conf : goal.returns-in_ok-described-in-Some-clause-conf
returns-in_ok-described-in-Some-clause-conf g c =
    conf_read (g.H.Shelf.files c.args.shelf.now) c.in-Some.text c.in_ok-described-in-Some.field-0
    (subst (Finds (g.H.Shelf.files c.args.shelf.now) conf_path) c.in-Some.is c.in_ok-text.ensures.found)
    (ap fault_of (sym c.deref.ensures.value) ∙ c.in_ok-described-in-Some.ensures.accepted)
    (c.in_ok-described-in-Some.ensures.described ∙ ap description_of c.deref.ensures.value)

pub returns-in-None-clause-refused : goal.returns-in-None-clause-refused
returns-in-None-clause-refused g c =
    conf_absent (g.H.Shelf.files c.args.shelf.now) (subst (Finds (g.H.Shelf.files c.args.shelf.now) conf_path) c.in-None.is c.in_ok-text.ensures.found)
