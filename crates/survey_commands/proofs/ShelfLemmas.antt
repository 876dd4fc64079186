-- Lemmas on a call of the shelf that fails once the survey is open.
use Rattle.std.proofs.Common.{Option, Some, None, Err}
use Rattle.survey_link.specs.Shelf.{ShelfFiles}
use Rattle.survey_link.specs.declared.faults.LinkFault.{LinkFault}
use Rattle.survey_link.specs.declared.faults.LinkFault.TheVariants.{Failed, OutOfMemory}
use Rattle.shelf_io.specs.Refusals.{of_link}
use Rattle.shelf_io.specs.Survey.{OthersStay}
use Rattle.survey_commands.specs.Survey.{IsExport, IsComparison}

-- an export that stopped midway
pub stopped : (old new : Option ShelfFiles) (fault : LinkFault) → OthersStay old new → IsExport old new (Err (of_link fault))
stopped None new fault stays = tt
stopped (Some old) new Failed stays = stays
stopped (Some old) new OutOfMemory stays = stays

-- a comparison that stopped
pub not_compared : (found : Option ShelfFiles) (fault : LinkFault) → IsComparison found (Err (of_link fault))
not_compared None fault = tt
not_compared (Some found) Failed = tt
not_compared (Some found) OutOfMemory = tt
