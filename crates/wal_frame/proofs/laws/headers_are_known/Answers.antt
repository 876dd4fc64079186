use Rattle.wal_frame.proofs.Headers.{headers_are_known}
use Rattle.wal_frame.proofs.laws.headers_are_known.Goals as goal

pub returns : goal.returns
returns c = headers_are_known
