use Rattle.std.proofs.Common.{refl}
use Rattle.wal_frame.specs.Header.{header_bytes}
use Rattle.wal_frame.proofs.header.header_of.Goals as goal

pub returns : goal.returns
unfolding header_bytes
returns c = rw (c.copy_from_slice.ensures.after, c.copy_from_slice-2.ensures.after, c.copy_from_slice-3.ensures.after, c.copy_from_slice-4.ensures.after, c.to_be_bytes.ensures, c.to_be_bytes-2.ensures) refl
