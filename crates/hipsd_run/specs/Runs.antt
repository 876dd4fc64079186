-- What `run` does to the ends of the program: by cases over the words, and over the command that they ask for.
use Rattle.std.specs.Prelude.{◌≡◌, ◌≢◌, ◌⊎◌, ℕ, ◌≤◌, false, List, [], ◌∷◌, ◌++◌, Option, IfSome, length, map, take, drop, codes, nat_eq, Vec}
use Rattle.std.specs.declared.alloc.Global.{Global}
use Rattle.std.specs.Io.KnownBytes.{Appends, IsAtEnd}
use Rattle.healpix_nested.specs.Cells.{cell_count}
use Rattle.survey_link.specs.Link.{CountsFault, AppendsPrefix}
use Rattle.survey_link.specs.Door.{Connection}
use Rattle.survey_link.specs.Shelf.{ShelfFiles}
use Rattle.survey_link.specs.declared.source.Source.{Ghosts as SourceGhosts}
use Rattle.survey_link.specs.declared.sink.Sink.{Ghosts as SinkGhosts}
use Rattle.survey_link.specs.declared.shelf.Shelf.{Ghosts as ShelfGhosts}
use Rattle.command_output.specs.Status.{IsAmong}
use Rattle.leaf_probe.specs.Reading.{ReadsToTheEnd}
use Rattle.leaf_probe.specs.declared.asked.Probe.{Probe}
use Rattle.hips_http.specs.Moment.{connection_of}
use Rattle.hips_place.specs.Place.{DoorContent, SomeRises}
use Rattle.survey_commands.specs.Survey.{sink_of, RunsExport, RunsVerify}
use Rattle.survey_commands.specs.Session.{RunsSession}
use Rattle.survey_commands.specs.Make.{RunsMake}
use Rattle.survey_commands.specs.Serve.{RunsServe}
use Rattle.survey_commands.specs.Past.{RunsPast, RunsPastOver, FlushesPast}
use Rattle.survey_commands.specs.Mirror.{RunsMirror, copying_of}
use Rattle.catalog_command.specs.Input.{OfInput}
use Rattle.catalog_command.specs.Run.{RunsCatalog}
use Rattle.hipsd_run.specs.Command.{Asks, IsCommandFor, doors_of, reads_source, opens_shelf, writes_files, opens_doors, statuses_of}
use Rattle.hipsd_run.specs.Probe.{RunsProbe}
use Rattle.hipsd_run.specs.declared.command.Command.{Command}
use Rattle.hipsd_run.specs.declared.command.Command.TheVariants.{Probe as ProbeCommand, Session, Export, Verify, Make, Serve, Past, Catalog, Mirror}

-- ---- the ends

-- the ends at one moment: the source, the shelf and the doors; what the proof can see of them, with the source and the sink as
-- one connection; and how many steps were taken by then
pub record Ends (S H D : Type 0) : Type 0 where
  pub source : S
  pub shelf : H
  pub doors : Vec D Global
  pub connection : Connection
  pub readings : Option ℕ
  pub files : Option ShelfFiles
  pub shelf_faults : ℕ
  pub door : D → DoorContent
  pub steps : ℕ

abbrev pub ends_of : {S K H D : Type 0} → SourceGhosts S → SinkGhosts K → ShelfGhosts H → (D → DoorContent) → S → K → H → Vec D Global → ℕ → Ends S H D
ends_of of_source of_sink of_shelf door source sink shelf doors steps = record {
  source = source;
  shelf = shelf;
  doors = doors;
  connection = connection_of of_source of_sink source sink;
  readings = of_source.readings source;
  files = of_shelf.files shelf;
  shelf_faults = of_shelf.faults shelf;
  door = door;
  steps = steps;
}

-- what the proof can see of the first doors
abbrev pub first_doors : {S H D : Type 0} → ℕ → Ends S H D → List DoorContent
first_doors places at = map at.door (take places at.doors.items)

-- ---- what a command does

-- `probe`; nothing is read if the tile is no cell of its order
pub record DoesProbe {S H D : Type 0} (asked : Probe) (old new : Ends S H D) (status : ℕ) : Type 0 where
  pub run : RunsProbe asked old.connection new.connection old.steps new.steps status
  pub range : cell_count asked.order ≤ asked.npix → (status ≡ 13) × (new.source ≡ old.source)
  pub reads : ReadsToTheEnd old.connection.unread new.connection.unread old.readings new.readings

-- `past`, where the proof can see the input, and whatever it sees
pub record DoesPast {S H D : Type 0} (old new : Ends S H D) (status : ℕ) : Type 0 where
  pub run : IfSome old.connection.unread (λ input. RunsPast old.files input old.connection new.connection old.steps new.steps status)
  pub over : RunsPastOver old.files old.connection new.connection old.steps new.steps status
  pub flushed : FlushesPast status old.connection new.connection

-- `catalog`, whatever the proof sees of the source
pub record DoesCatalog {S H D : Type 0} (top per_tile : ℕ) (old new : Ends S H D) (status : ℕ) : Type 0 where
  pub run : OfInput (λ input. RunsCatalog top per_tile input old.files new.files status (sink_of old.connection) (sink_of new.connection))
      old.connection.unread new.connection.unread
  pub end : status ≡ 0 → IsAtEnd new.connection.unread

-- by the command; `session` where the proof can see the input
abbrev pub Does : {S H D : Type 0} → Command → Ends S H D → Ends S H D → ℕ → Type 0
Does (ProbeCommand asked) old new status = DoesProbe asked old new status
Does Session old new status = IfSome old.connection.unread (λ input. RunsSession old.files input old.connection new.connection status)
Does Export old new status = RunsExport old.files new.files status (sink_of old.connection) (sink_of new.connection)
Does Verify old new status = RunsVerify old.files status (sink_of old.connection) (sink_of new.connection)
Does (Make number edits) old new status = RunsMake number edits status (sink_of old.connection) (sink_of new.connection)
Does (Serve asked) old new status =
    RunsServe old.files asked.connections (first_doors asked.places old) (first_doors asked.places new) status (sink_of old.connection) (sink_of new.connection)
Does (Past cache) old new status = DoesPast old new status
Does (Catalog top per_tile) old new status = DoesCatalog top per_tile old new status
Does Mirror old new status = RunsMirror (copying_of old.connection new.connection old.files new.files old.steps new.steps) status

-- what a command doesn't use stays, as do the doors beyond those that it needs
pub record KeepsUnused {S H D : Type 0} (command : Command) (old new : Ends S H D) : Type 0 where
  pub source : reads_source command ≡ false → new.source ≡ old.source
  pub shelf : opens_shelf command ≡ false → new.shelf ≡ old.shelf
  pub files : writes_files command ≡ false → new.files ≡ old.files
  pub doors : opens_doors command ≡ false → new.doors ≡ old.doors
  pub beyond : drop (doors_of command) new.doors.items ≡ drop (doors_of command) old.doors.items

-- a command: what its own function promises, and a status that it can end by
pub record Runs {S H D : Type 0} (command : Command) (old new : Ends S H D) (status : ℕ) : Type 0 where
  pub does : Does command old new status
  pub unused : KeepsUnused command old new
  pub ends : IsAmong (statuses_of command) status

-- ---- what an invalid command line does

-- the line that is printed, with its LF
abbrev pub usage_text : List ℕ
usage_text = codes "usage: hipsd COMMAND" ++ 10 ∷ []

-- the usage was printed, or the sink failed at it
pub record PrintsUsage (written written' flushed' : Option (List ℕ)) (status : ℕ) : Type 0 where
  pub ended : (status ≡ 1) ⊎ (status ≡ 6)
  pub printed : status ≡ 1 → Appends written written' usage_text
  pub part : AppendsPrefix written written' usage_text
  pub flushed : status ≡ 1 → flushed' ≡ written'

-- it was, and all but the sink stays
pub record RunsUsage {S H D : Type 0} (old new : Ends S H D) (status : ℕ) : Type 0 where
  pub prints : PrintsUsage old.connection.written new.connection.written new.connection.flushed status
  pub source : new.source ≡ old.source
  pub shelf : new.shelf ≡ old.shelf
  pub doors : new.doors ≡ old.doors

-- ---- what any command line does

-- the source's, the sink's, the shelf's count of faults rises if and only if the status is 5, 6, 7; status 8 comes only if a
-- door's count rose; nothing is read and no connection is taken if the shelf isn't opened; steps never fall
pub record ReportsFaults {S H D : Type 0} (old new : Ends S H D) (status : ℕ) : Type 0 where
  pub read_fault : CountsFault (nat_eq status 5) old.connection.source_faults new.connection.source_faults
  pub write_fault : CountsFault (nat_eq status 6) old.connection.sink_faults new.connection.sink_faults
  pub shelf_fault : CountsFault (nat_eq status 7) old.shelf_faults new.shelf_faults
  pub door_fault : status ≡ 8 → SomeRises (map (λ door. (old.door door).faults) old.doors.items) (map (λ door. (new.door door).faults) new.doors.items)
  pub unread : (status ≡ 2) ⊎ (status ≡ 3) → new.source ≡ old.source
  pub closed : (status ≡ 2) ⊎ ((status ≡ 3) ⊎ (status ≡ 7)) → new.doors.items ≡ old.doors.items
  pub steps_never_fall : old.steps ≤ new.steps

-- `run`: the command is run for which there are words and doors; or there is none, and the usage is printed
pub record RunsWords {S H D : Type 0} (words : List (List ℕ)) (old new : Ends S H D) (status : ℕ) : Type 0 where
  pub run : (command : Command) → Asks words command → doors_of command ≤ length old.doors.items → Runs command old new status
  pub usage : ¬ IsCommandFor (length old.doors.items) words → RunsUsage old new status
  pub faults : ReportsFaults old new status
