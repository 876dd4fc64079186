-- What `run` says of words by their status, where no command needs more doors than there are.
use Rattle.std.proofs.Common.{◌≡◌, ℕ, ◌≤◌, List, length, subst, arith}
use Rattle.std.proofs.lemmas.Bool.{false≢true}
use Rattle.command_output.specs.Status.{IsAmong}
use Rattle.hipsd_run.specs.Command.{Asks, IsCommand, IsCommandFor, doors_of, statuses_of}
use Rattle.hipsd_run.specs.Runs.{Ends, RunsWords}
use Rattle.survey_commands.specs.Serve.{IsServe}
use Rattle.hipsd_run.specs.declared.command.Command.{Command}
use Rattle.hipsd_run.specs.declared.command.Command.TheVariants.{Probe as ProbeCommand, Session, Export, Verify, Make, Serve, Past, Catalog, Mirror}

-- words that ask for nothing ask for nothing, however many doors there are
pub none_for : (words : List (List ℕ)) (doors : ℕ) → ¬ IsCommand words → ¬ IsCommandFor doors words
none_for words doors none (command, asks, fits) = none (command, asks)

few_doors : (words : List (List ℕ)) (command : Command) → Asks words command → doors_of command ≤ 64
few_doors words (ProbeCommand asked) asks = omega arith
few_doors words Session asks = omega arith
few_doors words Export asks = omega arith
few_doors words Verify asks = omega arith
few_doors words (Make n m) asks = omega arith
few_doors words (Past n) asks = omega arith
few_doors words (Catalog k n) asks = omega arith
few_doors words Mirror asks = omega arith
few_doors words (Serve asked) asks = let range : IsServe asked.connections asked.places = asks.in_range in omega arith

-- words that ask for nothing that so many doors are enough for, where no command needs as many
pub none_of_many : (words : List (List ℕ)) (doors : ℕ) → 64 ≤ doors → ¬ IsCommandFor doors words → ¬ IsCommand words
none_of_many words doors many none (command, asks) =
    let few = few_doors words command asks in none (command, asks, omega arith)

-- no command ends by the status of the usage
never_1 : (command : Command) → ¬ IsAmong (statuses_of command) 1
never_1 (ProbeCommand asked) ends = false≢true ends
never_1 Session ends = false≢true ends
never_1 Export ends = false≢true ends
never_1 Verify ends = false≢true ends
never_1 (Make n m) ends = false≢true ends
never_1 (Past n) ends = false≢true ends
never_1 (Catalog k n) ends = false≢true ends
never_1 Mirror ends = false≢true ends
never_1 (Serve asked) ends = false≢true ends

-- so it is that of words that ask for nothing
pub usage_only : {S H D : Type 0} (words : List (List ℕ)) (old new : Ends S H D) (status : ℕ)
    → RunsWords words old new status → status ≡ 1 → ¬ IsCommandFor (length old.doors.items) words
usage_only words old new status ran one (command, asks, fits) =
    never_1 command (subst (λ (n : ℕ). IsAmong (statuses_of command) n) one (ran.run command asks fits).ends)
