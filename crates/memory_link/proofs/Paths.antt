-- What the files of a shelf are after a change of the map that holds them.
use Rattle.std.proofs.Common.{◌≡◌, ℕ, List, [], ◌∷◌, map, Option, Some, None, Bool, true, false, cond, refl, sym, ap, ◌∙◌, subst, string_bytes, String, Vec, Bor}
use Rattle.std.specs.Prelude.{option_map, T, ◌&&◌}
use Rattle.std.specs.BTreeMap as tree
use Rattle.std.specs.declared.cmp.Ordering.TheVariants.{Less}
use Rattle.std.specs.List.{AllByRecursion}
use Rattle.std.specs.List.Sorted.{IsStrictlySortedBy}
use Rattle.std.specs.Map.Iter.{deref}
use Rattle.std.specs.FinMap.Entries.{below_all, is_sorted}
use Rattle.std.proofs.lemmas.Map.Keys.{sorted_head, sorted_tail}
use Rattle.std.specs.declared.alloc.Global.{Global}
use Rattle.std.specs.BTreeMap.{BTreeMap, IsOrdered, get_by_text, UpdatesBy}
use Rattle.std.specs.String.{string_cmp}
use Rattle.std.specs.Str.{bytes_eq}
use Rattle.std.specs.Ordering.{nat_cmp, eq_by_cmp, is_eq, is_lt}
use Rattle.std.specs.Cmp.{eq_by_cmp_equiv}
use Rattle.std.specs.Cmp.Lexicographic.{slice_cmp, nat_list_cmp_total}
use Rattle.std.specs.Map.{lookup, keys_of}
use Rattle.std.specs.FinMap.{from_entries, from_sorted, entries, entries-from_sorted, get-from_sorted, get, insert, remove, keys, find, get-from_entries, get-insert, get-remove, same_map, slice_cmp-IsAntisymmetric, nat_cmp-IsAntisymmetric}
use Rattle.std.proofs.lemmas.Map.Text.{btree_map_updates_text, is_eq-slice_cmp}
use Rattle.survey_link.specs.Shelf.{ShelfFiles}
use Rattle.memory_link.specs.Files.{file_of, files_of}

abbrev Held : Type 0
Held = BTreeMap (String Global) (Vec ℕ Global)

by_bytes : List ℕ → List ℕ → Bool
by_bytes = eq_by_cmp (slice_cmp nat_cmp)

option_map-cond : {A B : Type 0} (f : A → B) (b : Bool) (x : A) (o : Option A) → option_map f (cond b (Some x) o) ≡ cond b (Some (f x)) (option_map f o)
option_map-cond f true x o = refl
option_map-cond f false x o = refl

-- what stands at a path in the list of files
find-files : (es : List (String Global × Vec ℕ Global)) (q : List ℕ)
    → find (slice_cmp nat_cmp) q (map file_of es) ≡ option_map (λ v. v.items) (lookup (λ k. is_eq (slice_cmp nat_cmp q (string_bytes k))) es)
find-files [] q = refl
find-files (e ∷ es) q =
    ap (cond (is_eq (slice_cmp nat_cmp q (string_bytes e.0))) (Some e.1.items)) (find-files es q)
    ∙ sym (option_map-cond (λ v. v.items) (is_eq (slice_cmp nat_cmp q (string_bytes e.0))) e.1 _)

pub get-files : (m : Held) (q : List ℕ) → get (files_of m) q ≡ option_map (λ v. v.items) (get_by_text m q)
get-files m q = get-from_entries nat_list_cmp_total (map file_of m.entries) q ∙ find-files m.entries q

option_map-update : (b : Bool) (w o : Option (Vec ℕ Global)) → option_map (λ v. v.items) (cond b w o) ≡ cond b (option_map (λ v. v.items) w) (option_map (λ v. v.items) o)
option_map-update true w o = refl
option_map-update false w o = refl

-- the test by bytes, as the files write it
test : (bs q : List ℕ) → bytes_eq bs q ≡ eq_by_cmp (slice_cmp nat_cmp) q bs
test bs q = sym (is_eq-slice_cmp bs q) ∙ (eq_by_cmp_equiv nat_list_cmp_total).symm bs q

-- what stands at a path after a change at the path bs
get-changed : (bs : List ℕ) (m n : Held) (w : Option (Vec ℕ Global)) → UpdatesBy string_cmp (λ k. slice_cmp nat_cmp bs (string_bytes k)) m n w
    → (q : List ℕ) → get (files_of n) q ≡ cond (eq_by_cmp (slice_cmp nat_cmp) q bs) (option_map (λ v. v.items) w) (get (files_of m) q)
get-changed bs m n w h q =
    get-files n q ∙ ap (option_map (λ v. v.items)) (btree_map_updates_text bs m n w h q) ∙ option_map-update (bytes_eq bs q) w (get_by_text m q)
    ∙ ap (λ b. cond b (option_map (λ v. v.items) w) (option_map (λ v. v.items) (get_by_text m q))) (test bs q)
    ∙ ap (λ o. cond (eq_by_cmp (slice_cmp nat_cmp) q bs) (option_map (λ v. v.items) w) o) (sym (get-files m q))

same_files : (a b : ShelfFiles) → ((q : List ℕ) → get a q ≡ get b q) → a ≡ b
same_files = same_map nat_list_cmp_total (slice_cmp-IsAntisymmetric nat_cmp-IsAntisymmetric)

pub files-inserted : (bs : List ℕ) (m n : Held) (v : Vec ℕ Global) → UpdatesBy string_cmp (λ k. slice_cmp nat_cmp bs (string_bytes k)) m n (Some v)
    → files_of n ≡ insert (files_of m) bs v.items
files-inserted bs m n v h = same_files _ _ (λ q. get-changed bs m n (Some v) h q ∙ sym (get-insert nat_list_cmp_total (files_of m) bs v.items q))

pub files-removed : (bs : List ℕ) (m n : Held) → UpdatesBy string_cmp (λ k. slice_cmp nat_cmp bs (string_bytes k)) m n None
    → files_of n ≡ remove (files_of m) bs
files-removed bs m n h = same_files _ _ (λ q. get-changed bs m n None h q ∙ sym (get-remove nat_list_cmp_total (files_of m) bs q))

and : (a b : Bool) → T a → T b → T (a && b)
and true b p q = q
and false b p q = p

below : (path : String Global) (es : List (String Global × Vec ℕ Global)) → AllByRecursion (λ y. string_cmp path y ≡ Less) (keys_of es)
    → T (below_all (slice_cmp nat_cmp) (string_bytes path) (map file_of es))
below path [] h = tt
below path (e ∷ es) h = and _ _ (subst (λ o. T (is_lt o)) (sym h.0) tt) (below path es h.1)

-- the list of files is in order
in_order : (es : List (String Global × Vec ℕ Global)) → IsStrictlySortedBy string_cmp (keys_of es) → T (is_sorted (slice_cmp nat_cmp) (map file_of es))
in_order [] h = tt
in_order (e ∷ es) h = and _ _ (below e.0 es (sorted_head string_cmp e.0 (keys_of es) h)) (in_order es (sorted_tail string_cmp e.0 (keys_of es) h))

entries_in_order : (es : List (List ℕ × List ℕ)) → T (is_sorted (slice_cmp nat_cmp) es) → entries (from_entries {R = slice_cmp nat_cmp} es) ≡ es
entries_in_order es h =
    ap entries (same_files (from_entries es) (from_sorted es) (λ q. get-from_entries nat_list_cmp_total es q ∙ sym (get-from_sorted (slice_cmp nat_cmp) es q h)))
    ∙ entries-from_sorted (slice_cmp nat_cmp) es h

paths_of : (es : List (String Global × Vec ℕ Global)) → map (λ e. e.0) (map file_of es) ≡ map string_bytes (keys_of es)
paths_of [] = refl
paths_of (e ∷ es) = ap (λ l. string_bytes e.0 ∷ l) (paths_of es)

shown : (ps : List (Bor (String Global))) → map (λ p. string_bytes p.now) ps ≡ map string_bytes (map (deref {X = String Global}) ps)
shown [] = refl
shown (p ∷ ps) = ap (λ l. string_bytes p.now ∷ l) (shown ps)

-- the keys of the map, read one after the other, are the paths
pub paths_listed : (ps : List (Bor (String Global))) (m : Held) → IsOrdered string_cmp m → map (deref {X = String Global}) ps ≡ tree.keys m
    → map (λ p. string_bytes p.now) ps ≡ keys (files_of m)
paths_listed ps m sorted all =
    shown ps ∙ ap (map string_bytes) all ∙ sym (paths_of m.entries) ∙ ap (map (λ e. e.0)) (sym (entries_in_order (map file_of m.entries) (in_order m.entries sorted)))
