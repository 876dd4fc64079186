-- What a file that is shut behind some bytes stands for.
use Rattle.std.proofs.Common.{◌≡◌, ◌≢◌, ℕ, ◌+◌, ◌<◌, Bool, true, not, ◌||◌, eqb, List, ◌++◌, length, take, drop, get_or, refl, sym, ap, ◌∙◌, append_assoc, arith}
use Rattle.std.specs.Prelude.{flat_map, slice_index}
use Rattle.std.proofs.lemmas.Bool.Decides.{nat_tests}
use Rattle.std.proofs.lemmas.List.{same_lists, take-append-drop, length-take-le, get_or-take, get_or-drop, get_or_default, take_at, drop_at}
use Rattle.wal_frame.specs.Record.{record_bytes}
use Rattle.wal_frame.specs.Reading.{is_cut, ends_here}
use Rattle.wal_disk.specs.Shut.{Shut}
use Rattle.wal_disk.specs.Laws.{FilesStandForRecords}

begins : (front file : List ℕ) → Shut front file → take (length front) file ≡ front
begins front file shut =
    let long : length (take (length front) file) ≡ length front = length-take-le (length front) file (omega (arith, shut.longer)) in
    same_lists (take (length front) file) front long (λ k d below.
    let within : k < length front = omega (arith, long, below) in
    get_or-take (length front) file k d within
    ∙ get_or_default file k d 0 (omega (arith, shut.longer, within)) ∙ shut.same k within ∙ sym (get_or_default front k d 0 within))

ends : (front file : List ℕ) → Shut front file → ends_here (drop (length front) file) ≡ true
unfolding ends_here
ends front file shut =
    let place : length front + 0 ≡ length front = omega arith in
    let gate : slice_index (drop (length front) file) 0 ≡ slice_index file (length front) = get_or-drop (length front) file 0 0 ∙ ap (λ (k : ℕ). get_or file k 0) place in
    no_gate (slice_index (drop (length front) file) 0) (is_cut (drop (length front) file)) (λ one. shut.gate (sym gate ∙ one))
  where
    no_gate : (b : ℕ) (cut : Bool) → b ≢ 1 → (not (eqb b 1) || cut) ≡ true
    no_gate b cut other = grind (arith, nat_tests)

pub files_stand_for_records : FilesStandForRecords
files_stand_for_records shape head file records fits shut =
    let front : List ℕ = head ++ flat_map record_bytes records in
    let rest : List ℕ = drop (length front) file in
    let whole : file ≡ head ++ (flat_map record_bytes records ++ rest) = sym (take-append-drop (length front) file) ∙ ap (λ (t : List ℕ). t ++ rest) (begins front file shut) ∙ append_assoc head (flat_map record_bytes records) rest in
    record {
      rest = rest;
      header = ap (take (length head)) whole ∙ take_at head (flat_map record_bytes records ++ rest) (length head) refl;
      wal = record {
        whole = ap (drop (length head)) whole ∙ drop_at head (flat_map record_bytes records ++ rest) (length head) refl;
        each = fits;
        last = ends front file shut;
        no_more = tt;
      };
    }
