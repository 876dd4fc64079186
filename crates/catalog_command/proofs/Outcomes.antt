-- How the work ends.
use Rattle.std.proofs.Common.{◌≡◌, ℕ, List, Option, Result, Ok, Err, refl, sym, subst, inl, inr}
use Rattle.std.specs.Prelude.{IsOkAnd}
use Rattle.survey_link.specs.Link.{CountsFault}
use Rattle.survey_link.specs.Shelf.{ShelfFiles, shelf_failed}
use Rattle.survey_link.specs.declared.faults.LinkFault.{LinkFault}
use Rattle.survey_link.specs.declared.faults.LinkFault.TheVariants.{Failed, OutOfMemory as NoMemory}
use Rattle.command_output.specs.Output.{SinkBytes}
use Rattle.hips_catalog.specs.Catalogue.{Catalogue}
use Rattle.catalog_command.specs.declared.refusal.CatalogRefusal.{CatalogRefusal}
use Rattle.catalog_command.specs.declared.refusal.CatalogRefusal.TheVariants.{Cut, Line, ReadFault, ShelfFault, OutOfMemory}
use Rattle.catalog_command.specs.declared.counts.Counts.{Counts}
use Rattle.catalog_command.specs.Files.{OnFiles, IsReplaced, IsUnfinished}
use Rattle.catalog_command.specs.Stops.{of_link, TellsStop, IsReading, stopped_at_shelf}
use Rattle.catalog_command.specs.Input.{OfInput}
use Rattle.catalog_command.specs.Lines.{catalogue_of}
use Rattle.catalog_command.specs.Run.{IsOutcome, SaysOutcome, RunsCatalog, counts_of}
use Rattle.catalog_command.proofs.Inputs.{of_each}

nothing : (given : Result Catalogue CatalogRefusal) (files : Option ShelfFiles) (stop : CatalogRefusal) → TellsStop given stop → IsOutcome given files files (Err stop)
nothing given files Cut tells = (tells, refl)
nothing given files (Line bad) tells = (tells, refl)
nothing given files ReadFault tells = refl
nothing given files ShelfFault tells = absurd tells
nothing given files OutOfMemory tells = inl refl

ok_and : (given : Result Catalogue CatalogRefusal) (catalogue : Catalogue) (P : Catalogue → Type 0) → given ≡ Ok catalogue → P catalogue → IsOkAnd given P
ok_and given catalogue P e holds = subst (λ (r : Result Catalogue CatalogRefusal). IsOkAnd r P) (sym e) holds

midway : (given : Result Catalogue CatalogRefusal) (catalogue : Catalogue) (old new : Option ShelfFiles) (fault : LinkFault) → given ≡ Ok catalogue →
    OnFiles (IsUnfinished catalogue) old new → IsOutcome given old new (Err (of_link fault))
midway given catalogue old new Failed e begun = ok_and given catalogue (λ c. OnFiles (IsUnfinished c) old new) e begun
midway given catalogue old new NoMemory e begun = inr (ok_and given catalogue (λ c. OnFiles (IsUnfinished c) old new) e begun)

module _ (top per_tile : ℕ) (left left' : Option (List ℕ)) (old new : Option ShelfFiles) where
  abbrev Outcome : Option ShelfFiles → Result Counts CatalogRefusal → Type 0
  Outcome files outcome = OfInput (λ input. IsOutcome (catalogue_of top per_tile input) old files outcome) left left'

  abbrev Gives : Catalogue → Type 0
  Gives catalogue = OfInput (λ input. catalogue_of top per_tile input ≡ Ok catalogue) left left'

  -- the input gave no catalogue, and the shelf stays
  pub nothing_read : (stop : CatalogRefusal) → OfInput (λ input. TellsStop (catalogue_of top per_tile input) stop) left left' → Outcome old (Err stop)
  nothing_read stop tells = of_each _ _ left left' (λ input told. nothing (catalogue_of top per_tile input) old stop told) tells

  -- the work stopped midway
  pub unfinished : (catalogue : Catalogue) (fault : LinkFault) → Gives catalogue → OnFiles (IsUnfinished catalogue) old new → Outcome new (Err (of_link fault))
  unfinished catalogue fault gives begun = of_each _ _ left left' (λ input given. midway (catalogue_of top per_tile input) catalogue old new fault given begun) gives

  -- the work is done
  pub finished : (catalogue : Catalogue) (counts : Counts) → Gives catalogue → counts ≡ counts_of catalogue → OnFiles (IsReplaced catalogue) old new → Outcome new (Ok counts)
  finished catalogue counts gives counted done =
      of_each _ _ left left' (λ input given. ok_and (catalogue_of top per_tile input) catalogue (λ c. (counts ≡ counts_of c) × OnFiles (IsReplaced c) old new) given (counted, done)) gives

  -- and what came of it was said
  pub runs : (outcome : Result Counts CatalogRefusal) (status : ℕ) (sink sink' : SinkBytes) → Outcome new outcome → SaysOutcome outcome status sink sink'
      → OfInput (λ input. RunsCatalog top per_tile input old new status sink sink') left left'
  runs outcome status sink sink' is said = of_each _ _ left left' (λ input given. (outcome, (given, said))) is

-- ---- counts of the shelf's faults

-- reading touches no shelf
pub reading_counts : (A : Type 0) (stop : CatalogRefusal) (count : ℕ) → IsReading stop → CountsFault (stopped_at_shelf {A = A} (Err stop)) count count
reading_counts A Cut count reading = refl
reading_counts A (Line bad) count reading = refl
reading_counts A ReadFault count reading = refl
reading_counts A ShelfFault count reading = absurd reading
reading_counts A OutOfMemory count reading = refl

pub link_counts : (A B : Type 0) (fault : LinkFault) (old new : ℕ) → CountsFault (shelf_failed {A = A} (Err fault)) old new → CountsFault (stopped_at_shelf {A = B} (Err (of_link fault))) old new
link_counts A B Failed old new counts = counts
link_counts A B NoMemory old new counts = counts
