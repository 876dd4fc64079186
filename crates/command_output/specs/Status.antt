-- The statuses that a command can end with, by their numbers.
use Rattle.std.specs.Prelude.{ℕ, ◌==◌, List, IsTrue}
use Rattle.std.specs.List.{list_any}
use Rattle.command_output.specs.declared.status.Status.{Status}
use Rattle.command_output.specs.declared.status.Status.TheVariants.{Done, Usage, BadConf, BadLeaves, Cut, ReadFault, WriteFault, ShelfFault, DoorFault, Differs, NoLeaf, OutOfMemory, Spent, OutOfRange, Refused, BadRow, BadRecord, BadReply, BadProperties, BadCover, TooLarge, BadLeaf, OtherFiles}

abbrev pub number_of : Status → ℕ
number_of Done = 0
number_of Usage = 1
number_of BadConf = 2
number_of BadLeaves = 3
number_of Cut = 4
number_of ReadFault = 5
number_of WriteFault = 6
number_of ShelfFault = 7
number_of DoorFault = 8
number_of Differs = 9
number_of NoLeaf = 10
number_of OutOfMemory = 11
number_of Spent = 12
number_of OutOfRange = 13
number_of Refused = 14
number_of BadRow = 16
number_of BadRecord = 17
number_of BadReply = 21
number_of BadProperties = 22
number_of BadCover = 23
number_of TooLarge = 24
number_of BadLeaf = 25
number_of OtherFiles = 26

-- the status is one of these
abbrev pub IsAmong : List ℕ → ℕ → Type 0
IsAmong statuses status = IsTrue (list_any (λ one. one == status) statuses)
