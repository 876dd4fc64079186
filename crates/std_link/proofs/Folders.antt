-- What the files of a folder are after one was put by way of another beside it.
use Rattle.std.proofs.Common.{◌≡◌, ◌≢◌, ℕ, List, Option, Some, None, Bool, true, false, cond, refl, sym, ap, subst, ◌∙◌, OnOk, OnErr, Result, Ok, Err}
use Rattle.std.specs.declared.cmp.Ordering.{Ordering}
use Rattle.std.specs.declared.cmp.Ordering.TheVariants.{Less, Equal, Greater}
use Rattle.std.specs.Ordering.{nat_cmp, eq_by_cmp, is_eq}
use Rattle.std.specs.Cmp.{eq_by_cmp_equiv}
use Rattle.std.specs.Cmp.Lexicographic.{slice_cmp, nat_list_cmp_total}
use Rattle.std.specs.FinMap.{get, insert, remove, get-insert, get-remove, slice_cmp-IsAntisymmetric, nat_cmp-IsAntisymmetric}
use Rattle.survey_link.specs.Shelf.{ShelfFiles, with_file, without_file, OthersStay}
use Rattle.std_link.specs.Folder.{moved_file, with_moved, PutAt, IsPut}

by_bytes : List ℕ → List ℕ → Bool
by_bytes = eq_by_cmp (slice_cmp nat_cmp)

same : (path : List ℕ) → by_bytes path path ≡ true
unfolding by_bytes
same path = (eq_by_cmp_equiv nat_list_cmp_total).refl path

equal_by : (o : Ordering) → is_eq o ≡ true → o ≡ Equal
equal_by Less h = cc
equal_by Equal h = refl
equal_by Greater h = cc

-- another path is told apart
apart : (other path : List ℕ) → other ≢ path → by_bytes other path ≡ false
unfolding by_bytes
apart other path differs =
    elim (by_bytes other path) as (λ b. by_bytes other path ≡ b → b ≡ false) [
      | true ↦ λ h. absurd (differs (slice_cmp-IsAntisymmetric nat_cmp-IsAntisymmetric other path (equal_by _ h)))
      | false ↦ λ h. refl
    ] refl

inserted : (m : ShelfFiles) (path bytes : List ℕ) → get (insert m path bytes) path ≡ Some bytes
unfolding by_bytes
inserted m path bytes = get-insert nat_list_cmp_total m path bytes path ∙ ap (λ b. cond b (Some bytes) (get m path)) (same path)

inserted_other : (m : ShelfFiles) (path bytes other : List ℕ) → other ≢ path → get (insert m path bytes) other ≡ get m other
unfolding by_bytes
inserted_other m path bytes other differs = get-insert nat_list_cmp_total m path bytes other ∙ ap (λ b. cond b (Some bytes) (get m other)) (apart other path differs)

removed : (m : ShelfFiles) (path : List ℕ) → get (remove m path) path ≡ None
unfolding by_bytes
removed m path = get-remove nat_list_cmp_total m path path ∙ ap (λ b. cond b None (get m path)) (same path)

removed_other : (m : ShelfFiles) (path other : List ℕ) → other ≢ path → get (remove m path) other ≡ get m other
unfolding by_bytes
removed_other m path other differs = get-remove nat_list_cmp_total m path other ∙ ap (λ b. cond b None (get m other)) (apart other path differs)

moved : (path beside bytes : List ℕ) (m : ShelfFiles) → beside ≢ path
    → PutAt path beside bytes m (insert (remove (insert m beside bytes) beside) path bytes)
moved path beside bytes m differs = record {
  holds = inserted _ path bytes;
  cleared = inserted_other _ path bytes beside differs ∙ removed _ beside;
  others = λ other p q. inserted_other _ path bytes other p ∙ removed_other _ beside other q ∙ inserted_other m beside bytes other q;
}

put_moved : (path beside bytes : List ℕ) (old : Option ShelfFiles) → beside ≢ path → IsPut path beside bytes old (with_moved beside path (with_file beside bytes old))
put_moved path beside bytes None differs = tt
put_moved path beside bytes (Some m) differs =
    subst (λ o. PutAt path beside bytes m (moved_file beside path (insert m beside bytes) o)) (sym (inserted m beside bytes)) (moved path beside bytes m differs)

-- the file beside it was written, and moved to the path
pub put_from_move : {E : Type 0} (path beside bytes : List ℕ) (old mid new : Option ShelfFiles) (r : Result (Unit {0}) E) → beside ≢ path
    → mid ≡ with_file beside bytes old → OnOk r (new ≡ with_moved beside path mid) → OnOk r (IsPut path beside bytes old new)
put_from_move path beside bytes old mid new (Ok _) differs written done =
    subst (IsPut path beside bytes old) (sym (done ∙ ap (with_moved beside path) written)) (put_moved path beside bytes old differs)
put_from_move path beside bytes old mid new (Err _) differs written done = tt

others_with : (path bytes : List ℕ) (old : Option ShelfFiles) → OthersStay path old (with_file path bytes old)
others_with path bytes None = tt
others_with path bytes (Some m) = λ other p. inserted_other m path bytes other p

-- the file was written, and what came next left all as it was
pub others_from_write : {E : Type 0} (path bytes : List ℕ) (old mid new : Option ShelfFiles) (r : Result (Unit {0}) E)
    → mid ≡ with_file path bytes old → OnErr r (new ≡ mid) → OnErr r (OthersStay path old new)
others_from_write path bytes old mid new (Ok _) written kept = tt
others_from_write path bytes old mid new (Err _) written kept = subst (OthersStay path old) (sym (kept ∙ written)) (others_with path bytes old)

others_without : (path : List ℕ) (old : Option ShelfFiles) → OthersStay path old (without_file path old)
others_without path None = tt
others_without path (Some m) = λ other p. removed_other m path other p

-- the file was removed
pub others_from_remove : (path : List ℕ) (old mid new : Option ShelfFiles) → mid ≡ old → new ≡ without_file path mid → OthersStay path old new
others_from_remove path old mid new kept gone = subst (OthersStay path old) (sym (gone ∙ ap (without_file path) kept)) (others_without path old)

others_same : (path : List ℕ) (old : Option ShelfFiles) → OthersStay path old old
others_same path None = tt
others_same path (Some m) = λ other p. refl

-- the file was to be removed, and is or isn't
pub others_from_try : {E : Type 0} (path : List ℕ) (old new : Option ShelfFiles) (r : Result (Unit {0}) E)
    → OnOk r (new ≡ without_file path old) → OnErr r (new ≡ old) → OthersStay path old new
others_from_try path old new (Ok _) gone kept = subst (OthersStay path old) (sym gone) (others_without path old)
others_from_try path old new (Err _) gone kept = subst (OthersStay path old) (sym kept) (others_same path old)

pub others_joined : (path : List ℕ) (a b c : Option ShelfFiles) → OthersStay path a b → OthersStay path b c → OthersStay path a c
others_joined path None b c p q = tt
others_joined path (Some a) None c p q = absurd p
others_joined path (Some a) (Some b) None p q = absurd q
others_joined path (Some a) (Some b) (Some c) p q = λ other differs. q other differs ∙ p other differs

pub put_joined : (path beside bytes : List ℕ) (a b c : Option ShelfFiles) → OthersStay beside a b → IsPut path beside bytes b c → IsPut path beside bytes a c
put_joined path beside bytes None b c p q = tt
put_joined path beside bytes (Some a) None c p q = absurd p
put_joined path beside bytes (Some a) (Some b) None p q = absurd q
put_joined path beside bytes (Some a) (Some b) (Some c) p q = record {
  holds = q.holds;
  cleared = q.cleared;
  others = λ other x y. q.others other x y ∙ p other y;
}
