use Rattle.std.proofs.Common.{arith, rules, refl, sym}
use Rattle.wal_frame.proofs.Records.{whole_takes, whole_malformed}
use Rattle.wal_frame.proofs.reading.read_record.Goals as goal

pub returns-in-Ok-clause-record : goal.returns-in-Ok-clause-record
returns-in-Ok-clause-record c =
    whole_takes c.args.shape c.args.bytes.now _ (record { known = search rules; bitpix = search rules }) (λ i. omega (arith, c.type_inv.bytes i)) (sym (c.if-ends_here.ensures.end c.args.bytes.now refl refl)) c.in-Ok.ensures

pub returns-in-Err-Malformed-clause-stop : goal.returns-in-Err-Malformed-clause-stop
returns-in-Err-Malformed-clause-stop c =
    (c.malformed_at.ensures, whole_malformed c.args.shape c.args.bytes.now (record { known = search rules; bitpix = search rules }) (sym (c.if-ends_here.ensures.end c.args.bytes.now refl refl)) (rw c.in-Err-Malformed.field-0-is at c.in-Err-Malformed.ensures))
