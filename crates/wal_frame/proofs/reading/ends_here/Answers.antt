use Rattle.std.proofs.Common.{arith}
use Rattle.wal_frame.proofs.Alone.{ends_short, ends_shut, ends_cut, goes_on_differ}
use Rattle.wal_frame.proofs.reading.ends_here.Goals.{then-head-lt-RECORD_HEAD_LEN-via-then-head-lt-RECORD_HEAD_LEN, then-head-lt-RECORD_HEAD_LEN-via-else-head-lt-RECORD_HEAD_LEN+then-head-ne1}
use Rattle.wal_frame.proofs.reading.ends_here.Goals as goal

pub returns-then-head-lt-RECORD_HEAD_LEN-clause-end :
    goal.returns-then-head-lt-RECORD_HEAD_LEN-clause-end
returns-then-head-lt-RECORD_HEAD_LEN-clause-end c = λ bytes same size. elim c.then-head-lt-RECORD_HEAD_LEN.branch [
  | then-head-lt-RECORD_HEAD_LEN-via-then-head-lt-RECORD_HEAD_LEN w ↦ ends_short bytes c.args.head.now same w.if-head-lt-RECORD_HEAD_LEN.true
  | then-head-lt-RECORD_HEAD_LEN-via-else-head-lt-RECORD_HEAD_LEN+then-head-ne1 w ↦ ends_shut bytes c.args.head.now same w.if-head-ne1.true
]

pub returns-then-length-length_at-clause-end : goal.returns-then-length-length_at-clause-end
returns-then-length-length_at-clause-end c = λ bytes same size.
    ends_cut bytes c.args.head.now c.args.left _ _ same size (omega (arith, c.requires, c.if-head-lt-RECORD_HEAD_LEN.false)) c.if-head-ne1.false c.length_at-length.ensures c.length_at.ensures c.if-length-length_at.true

pub returns-else-length-length_at-clause-end : goal.returns-else-length-length_at-clause-end
returns-else-length-length_at-clause-end c = λ bytes same size.
    goes_on_differ bytes c.args.head.now c.args.left _ _ same size (omega (arith, c.requires, c.if-head-lt-RECORD_HEAD_LEN.false)) c.if-head-ne1.false c.length_at-length.ensures c.length_at.ensures c.if-length-length_at.false
