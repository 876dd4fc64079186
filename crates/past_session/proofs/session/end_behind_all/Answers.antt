use Rattle.std.proofs.Common.{refl}
use Rattle.http_frame.specs.Frame.{IsShort}
use Rattle.http_frame.proofs.ReadLemmas.{reads_for}
use Rattle.past_frame.specs.Reading.{NeedsMore}
use Rattle.past_session.specs.Records.{room_of}
use Rattle.past_session.proofs.Next.{needs_first}
use Rattle.past_session.proofs.session.end_behind_all.Goals as goal

pub returns-in-Ok-true-clause-ends : goal.returns-in-Ok-true-clause-ends
returns-in-Ok-true-clause-ends g c = λ session steps.
    let looks = c.in-Ok-true.ensures.looks in
    record {
      came = looks.0;
      read = record { session = refl; sink = refl; steps = refl; reads = reads_for _ _ (IsShort 1) (NeedsMore (room_of session.conf)) _ _ looks.0 (λ more short. needs_first _ _ short) _ _ looks.1 };
      is = rw c.in-Ok-true.field-0-test at looks.2;
    }

pub returns-in-Ok-false-clause-ends : goal.returns-in-Ok-false-clause-ends
returns-in-Ok-false-clause-ends g c = λ session steps.
    let looks = c.in-Ok-false.ensures.looks in
    record {
      came = looks.0;
      read = record { session = refl; sink = refl; steps = refl; reads = reads_for _ _ (IsShort 1) (NeedsMore (room_of session.conf)) _ _ looks.0 (λ more short. needs_first _ _ short) _ _ looks.1 };
      is = rw c.in-Ok-false.field-0-test at looks.2;
    }

pub returns-in-Err-clause-ends : goal.returns-in-Err-clause-ends
returns-in-Err-clause-ends g c = λ session steps.
    let looks = c.in-Err.ensures.looks in
    record {
      came = looks.0;
      read = record { session = refl; sink = refl; steps = refl; reads = reads_for _ _ (IsShort 1) (NeedsMore (room_of session.conf)) _ _ looks.0 (λ more short. needs_first _ _ short) _ _ looks.1 };
      is = looks.2;
    }
