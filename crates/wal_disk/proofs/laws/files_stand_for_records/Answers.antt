use Rattle.wal_disk.proofs.Files.{files_stand_for_records}
use Rattle.wal_disk.proofs.laws.files_stand_for_records.Goals as goal

pub returns : goal.returns
returns c = files_stand_for_records
