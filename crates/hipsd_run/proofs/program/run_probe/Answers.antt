use Rattle.std.proofs.Common.{inl, refl, sym, ap, Err}
use Rattle.leaf_probe.specs.Status.{status_of}
use Rattle.hipsd_run.proofs.ProbeLemmas.{among, ends_by, never_0, is_write}
use Rattle.hipsd_run.proofs.program.run_probe.Goals as goal

pub returns-in-Ok-clause-run : goal.returns-in-Ok-clause-run
returns-in-Ok-clause-run g c =
    let said = c.in-Ok.ensures in
    record {
      answers = λ input is. record {
        ended = inl (sym (said.answered input is));
        written = λ _. said.written input is;
        part = λ e. absurd cc;
        counted = λ _. said.counted input is;
      };
      end = λ _. said.end;
      flushed = λ _. said.flushed;
      untouched = λ some _. absurd (some refl);
      kept = λ some _. absurd (some refl);
    }

pub returns-in-Err-clause-run : goal.returns-in-Err-clause-run
returns-in-Err-clause-run g c =
    let fault = c.in-Err.fault in
    let said = c.in-Err.ensures in
    rw c.status.ensures.status
    (record {
      answers = λ input is. record {
        ended = ends_by fault _ (said.refused input is);
        written = λ e. absurd (never_0 fault e);
        part = λ e. said.part input is (ap (λ f. Err f) (is_write fault e));
        counted = λ e. absurd (never_0 fault e);
      };
      end = λ e. absurd (never_0 fault e);
      flushed = λ e. absurd (never_0 fault e);
      untouched = λ _ other. said.untouched (λ is. other (ap status_of is));
      kept = λ _ other. said.kept (λ is. other (ap status_of is));
    })

pub returns-in-Err-clause-read_fault : goal.returns-in-Err-clause-read_fault
returns-in-Err-clause-read_fault g c = rw c.status.ensures.read c.in-Err.ensures.read

pub returns-in-Err-clause-write_fault : goal.returns-in-Err-clause-write_fault
returns-in-Err-clause-write_fault g c = rw c.status.ensures.write c.in-Err.ensures.write

pub returns-in-Err-clause-ends : goal.returns-in-Err-clause-ends
returns-in-Err-clause-ends g c = rw c.status.ensures.status (among c.in-Err.fault)
