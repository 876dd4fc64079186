-- From what was run to what the words ask for.
use Rattle.std.proofs.Common.{◌≡◌, ◌≢◌, ◌⊎◌, ℕ, ◌≤◌, List, true, false, Option, Some, None, IfSome, inl, inr, length, refl, sym, ◌∙◌, subst, arith}
use Rattle.std.specs.Prelude.{◌==◌, nat_eq}
use Rattle.std.specs.List.{list_any}
use Rattle.std.proofs.lemmas.Bool.{false≢true}
use Rattle.std.proofs.lemmas.Bool.Decides.{nat_tests}
use Rattle.survey_link.specs.Link.{CountsFault}
use Rattle.command_output.specs.Status.{IsAmong}
use Rattle.hipsd_run.specs.Command.{Asks, IsCommandFor, doors_of}
use Rattle.hipsd_run.specs.Runs.{Ends, Runs, RunsUsage, ReportsFaults, RunsWords}
use Rattle.hipsd_run.specs.declared.command.Command.{Command}
use Rattle.hipsd_run.proofs.CommandLemmas.{same_command}

-- words ask for one command only, so what was run is the one that they ask for
pub runs_command : {S H D : Type 0} (words : List (List ℕ)) (old new : Ends S H D) (result status doors : ℕ) (command it : Command)
    → result ≡ status → command ≡ it → Asks words command → doors_of command ≤ doors → doors ≡ length old.doors.items
    → Runs it old new status → ReportsFaults old new status → RunsWords words old new result
runs_command words old new result status doors command it answered is asks fits len runs faults =
    let asks_it : Asks words it = subst (λ any. Asks words any) is asks in
    let fits_it : doors_of it ≤ length old.doors.items = subst (λ (n : ℕ). doors_of it ≤ n) len (subst (λ any. doors_of any ≤ doors) is fits) in
    subst (λ (n : ℕ). RunsWords words old new n) (sym answered) (record {
      run = λ other asks_other _. subst (λ any. Runs any old new status) (same_command words it other asks_it asks_other) runs;
      usage = λ none. absurd (none (it, asks_it, fits_it));
      faults = faults;
    })

-- words that ask for none have only the usage printed
pub runs_none : {S H D : Type 0} (words : List (List ℕ)) (old new : Ends S H D) (result status doors : ℕ)
    → result ≡ status → ¬ IsCommandFor doors words → doors ≡ length old.doors.items
    → RunsUsage old new status → ReportsFaults old new status → RunsWords words old new result
runs_none words old new result status doors answered none len usage faults =
    let none_here : ¬ IsCommandFor (length old.doors.items) words = subst (λ (n : ℕ). ¬ IsCommandFor n words) len none in
    subst (λ (n : ℕ). RunsWords words old new n) (sym answered) (record {
      run = λ command asks fits. absurd (none_here (command, asks, fits));
      usage = λ _. usage;
      faults = faults;
    })

-- the status of the usage reports no fault but the sink's
pub not_blamed : (status : ℕ) → (status ≡ 1) ⊎ (status ≡ 6) → (status ≢ 5) × (status ≢ 7) × (status ≢ 8) × ¬ ((status ≡ 2) ⊎ (status ≡ 3))
not_blamed status ends = (λ e. absurd (omega arith), λ e. absurd (omega arith), λ e. absurd (omega arith), λ e. absurd (omega arith))

-- an end that stays has failed no more
pub no_fault : (status own count : ℕ) → status ≢ own → CountsFault (nat_eq status own) count count
no_fault status own count other = let e : nat_eq status own ≡ false = grind (arith, nat_tests) in rw e refl

-- a command doesn't end by a status that isn't among its own
pub never : (statuses : List ℕ) (status own : ℕ) → IsAmong statuses status → list_any (λ one. one == own) statuses ≡ false → status ≢ own
never statuses status own ends not_own e =
    let own_is : IsAmong statuses own = subst (λ (n : ℕ). IsAmong statuses n) e ends in false≢true (sym not_own ∙ own_is)

-- it opens no shelf
pub never_opened : {P : Type 0} {status : ℕ} → status ≢ 2 → status ≢ 3 → (status ≡ 2) ⊎ (status ≡ 3) → P
never_opened not_conf not_leaves (inl e) = absurd (not_conf e)
never_opened not_conf not_leaves (inr e) = absurd (not_leaves e)

-- what is used isn't unused
pub is_used : {P : Type 0} → true ≡ false → P
is_used same = absurd (false≢true (sym same))

-- what is so of the bytes that an option shows
pub if_shown : (shown : Option (List ℕ)) (P : List ℕ → Type 0) → ((input : List ℕ) → shown ≡ Some input → P input) → IfSome shown P
if_shown None P so = tt
if_shown (Some input) P so = so input refl
