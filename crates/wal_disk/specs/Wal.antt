-- A write-ahead log (WAL) as contracts see it: by the bytes of its header and records, which stay in the file.
use Rattle.std.specs.Prelude.{◌≡◌, ℕ, ◌+◌, List, length}
use Rattle.sqlite_disk.specs.Disk.{Only}
use Rattle.wal_disk.specs.declared.stop.CommitStop.{CommitStop}
use Rattle.wal_disk.specs.declared.stop.CommitStop.TheVariants.{NotKept, Unsure}
use Rattle.wal_disk.specs.declared.wal.Wal.{Wal}
use Rattle.wal_disk.specs.Shut.{Shut, HasStaged, WithOrWithout, IsReady}

-- its device, how many bytes the header and the records have, and where the next byte of a record would be staged
abbrev pub device_of : {D : Type 0} → Wal D → D
device_of wal = wal.device

abbrev pub end_of : {D : Type 0} → Wal D → ℕ
end_of wal = wal.end

abbrev pub next_of : {D : Type 0} → Wal D → ℕ
next_of wal = wal.next

module _ {D : Type 0} (seen : D → List ℕ) (may_leave : D → List ℕ → Type 0) where
  -- each crash leaves these bytes up to a gate that isn't open, behind which those others are staged
  pub record IsStaged (front body : List ℕ) (wal : Wal D) : Type 0 where
    pub end : wal.end ≡ length front
    pub next : wal.next ≡ length front + 1 + length body
    pub each : (c : List ℕ) → may_leave wal.device c → Shut front c
    pub there : HasStaged front body (seen wal.device)

  -- each crash leaves the record or not
  abbrev pub IsUnsure : List ℕ → List ℕ → Wal D → Type 0
  IsUnsure front body wal = (c : List ℕ) → may_leave wal.device c → WithOrWithout front body c

  -- what is so after a commit that failed
  abbrev pub Stopped : List ℕ → List ℕ → Wal D → CommitStop → Type 0
  Stopped front body wal NotKept = IsStaged front body wal
  Stopped front body wal Unsure = IsUnsure front body wal

  -- the record is on the disk, but for its gate
  pub record IsClosed (front body : List ℕ) (wal : Wal D) : Type 0 where
    pub staged : IsStaged front body wal
    pub only : Only (seen wal.device) (may_leave wal.device)
    pub ready : IsReady front body (seen wal.device)

  -- only the gate of the record decides whether a crash leaves it
  pub record IsGated (front body : List ℕ) (wal : Wal D) : Type 0 where
    pub end : wal.end ≡ length front
    pub each : (c : List ℕ) → may_leave wal.device c → IsReady front body c
    pub there : IsReady front body (seen wal.device)

  -- no crash leaves it
  pub record IsShutAgain (front body : List ℕ) (wal : Wal D) : Type 0 where
    pub each : (c : List ℕ) → may_leave wal.device c → Shut front c
    pub shut : Shut front (seen wal.device)
    pub ready : IsReady front body (seen wal.device)
