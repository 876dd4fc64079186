-- What a whole copy does, once its files are on the shelf.
use Rattle.std.proofs.Common.{◌≡◌, ◌⊎◌, inl, inr, ℕ, ◌+◌, ◌≤◌, false, List, Option, Result, Ok, Err, refl, sym, ap, subst, length}
use Rattle.std.specs.Prelude.{◌≢◌, IfOk, IfErr, OnOk, OnErr}
use Rattle.std.specs.Map.{keys_of}
use Rattle.std.specs.FinMap.{len}
use Rattle.std.specs.Io.KnownBytes.{Appends}
use Rattle.survey_link.specs.Shelf.{ShelfFiles}
use Rattle.generation.specs.Generation.{GenerationContent}
use Rattle.generation.specs.Files.{leaf_map, files_in}
use Rattle.generation.specs.Steps.{tiles_above}
use Rattle.shelf_io.specs.Survey.{Replaces, OthersStay}
use Rattle.mirror_frame.specs.Requests.{mirror_requests}
use Rattle.hips_mirror.specs.declared.refusal.MirrorRefusal.{MirrorRefusal}
use Rattle.hips_mirror.specs.declared.refusal.MirrorRefusal.TheVariants.{ShelfFault, OutOfMemory}
use Rattle.hips_mirror.specs.Mirror.{IsCopy, Refuses, at_pin, TrueOf, Talks, Copies, StepsFit, is_read_fault, is_write_fault, is_err_and}
use Rattle.hips_mirror.proofs.ToldLemmas.{true_of_all}
use Rattle.hips_mirror.proofs.LeavesLemmas.{map_keys, map_length}
use Rattle.hips_mirror.proofs.StepsLemmas.{copy_fits}

refuses_shelf : (refusal : MirrorRefusal) → (refusal ≡ ShelfFault) ⊎ (refusal ≡ OutOfMemory) → (bytes : List ℕ) → Refuses bytes refusal
refuses_shelf refusal (inl fault) bytes = at_pin (rw fault tt)
refuses_shelf refusal (inr none) bytes = at_pin (rw none tt)

module _ (made : GenerationContent) (left held held' : Option (List ℕ)) (copied : TrueOf left (λ bytes. IsCopy bytes made.conf (leaf_map made.leaves)))
    (sent : Appends held held' (mirror_requests made.conf.shape.top (keys_of made.leaves))) where
  pub talk : Talks left held held'
  talk = record {
    conf = made.conf;
    leaves = leaf_map made.leaves;
    read = copied;
    sent = subst (λ ks. Appends held held' (mirror_requests made.conf.shape.top ks)) (sym (map_keys made.leaves)) sent;
  }

  pub mirror_copied : {E : Type 0} (r : Result ℕ E) (old new : Option ShelfFiles) (steps steps' : ℕ) → IfOk r (λ count. count ≡ len (files_in made)) → OnOk r (Replaces (files_in made) old new)
      → steps' ≤ steps + (length made.leaves + tiles_above made.conf.shape (leaf_map made.leaves)) → IfOk r (Copies left held held' old new steps steps')
  unfolding talk
  mirror_copied (Ok count) old new steps steps' counted replaced few = record {
    talk = talk;
    replaced = replaced;
    counted = counted;
    few = subst (λ n. steps' ≤ steps + (n + tiles_above made.conf.shape (leaf_map made.leaves))) (sym (map_length made.leaves)) few;
  }
  mirror_copied (Err e) old new steps steps' counted replaced few = tt

  pub mirror_steps : {T E : Type 0} (r : Result T E) (steps steps' : ℕ) → steps' ≤ steps + (length made.leaves + tiles_above made.conf.shape (leaf_map made.leaves))
      → OnErr r ((steps' ≡ steps) ⊎ StepsFit left steps steps')
  mirror_steps (Ok t) steps steps' few = tt
  mirror_steps (Err e) steps steps' few = inr (copy_fits made.conf made.leaves left steps steps' copied few)

  pub mirror_last : {T E : Type 0} (r : Result T E) (old new : Option ShelfFiles) → OnErr r (OthersStay old new) → OnErr r ((new ≡ old) ⊎ (Talks left held held' × OthersStay old new))
  mirror_last (Ok t) old new others = tt
  mirror_last (Err e) old new others = inr (talk, others)

pub shelf_refused : {T : Type 0} (left : Option (List ℕ)) (r : Result T MirrorRefusal) → IfErr r (λ refusal. (refusal ≡ ShelfFault) ⊎ (refusal ≡ OutOfMemory)) → IfErr r (λ refusal. TrueOf left (λ bytes. Refuses bytes refusal))
shelf_refused left (Ok t) why = tt
shelf_refused left (Err e) why = true_of_all left (λ bytes. Refuses bytes e) (refuses_shelf e why)

pub shelf_touched : {T : Type 0} (old new : Option ShelfFiles) (r : Result T MirrorRefusal) → IfErr r (λ refusal. (refusal ≡ ShelfFault) ⊎ (refusal ≡ OutOfMemory))
    → IfErr r (λ refusal. refusal ≢ ShelfFault → refusal ≢ OutOfMemory → new ≡ old)
shelf_touched old new (Ok t) why = tt
shelf_touched old new (Err e) (inl fault) = λ no_fault memory. absurd (no_fault fault)
shelf_touched old new (Err e) (inr none) = λ no_fault memory. absurd (memory none)

-- putting files on the shelf is no fault of the ends
pub shelf_alone : {T : Type 0} (r : Result T MirrorRefusal) → IfErr r (λ refusal. (refusal ≡ ShelfFault) ⊎ (refusal ≡ OutOfMemory)) → (is_err_and is_read_fault r ≡ false) × (is_err_and is_write_fault r ≡ false)
shelf_alone (Ok t) why = (refl, refl)
shelf_alone (Err e) (inl fault) = (ap is_read_fault fault, ap is_write_fault fault)
shelf_alone (Err e) (inr none) = (ap is_read_fault none, ap is_write_fault none)
