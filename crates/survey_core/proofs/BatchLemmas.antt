-- The entries of a body, one by one.
use Rattle.std.proofs.Common.{◌≡◌, ℕ, suc, ◌+◌, ◌-◌, ◌<◌, ◌≤◌, cond, List, [], ◌∷◌, ◌++◌, map, length, Option, Some, None, Ok, Err, refl, sym, ap, ◌∙◌, subst, arith, length-append, append_assoc}
use Rattle.std.specs.Prelude.{is_some}
use Rattle.std.proofs.lemmas.List.Sums.{sum_by-append}
use Rattle.survey_conf.specs.Description.{Description}
use Rattle.dirty_plan.specs.Dirty.{steps_after}
use Rattle.edit_journal.specs.Edit.{LeafEdit, put, add, replace, remove, edit_tile, edit_of}
use Rattle.edit_journal.specs.declared.edit.Edit.{Edit}
use Rattle.survey_core.specs.declared.fault.EntryFault.{EntryFault}
use Rattle.survey_core.specs.declared.fault.EntryFault.TheVariants.{Many, Line as NoLine}
use Rattle.survey_core.specs.BatchBody.{ReadEntry, entry, BatchEntries, faulty, then_entries, entries_in, batch_entries, entry_tiles, tiles_of, tile_count, behind, read_so_far}

-- ---- edits, and then the entries of what is left

pub nothing_more : {X : Type 0} (xs : List X) → xs ++ [] ≡ xs
nothing_more [] = refl
nothing_more (x ∷ xs) = ap (λ ys. x ∷ ys) (nothing_more xs)

same_entries : (edits edits' : List LeafEdit) (fault fault' : Option EntryFault) → edits ≡ edits' → fault ≡ fault' →
    (let one : BatchEntries = record { edits = edits; fault = fault } in let other : BatchEntries = record { edits = edits'; fault = fault' } in one ≡ other)
same_entries edits edits' fault fault' e f = cc

so_far-none : (d : Description) (bytes : List ℕ) → 0 < length bytes → read_so_far d [] bytes ≡ batch_entries d bytes
unfolding batch_entries
so_far-none d [] some = absurd (omega arith)
so_far-none d (b ∷ bytes) some = refl

-- after the last one
pub so_far-all : (d : Description) (edits : List LeafEdit) → read_so_far d edits [] ≡ record { edits = edits; fault = None }
unfolding entries_in
so_far-all d edits = ap (λ all. record { edits = all; fault = None }) (nothing_more edits)

room_left : (count : ℕ) → count < 1024 → 1024 - count ≡ suc (1024 - (count + 1))
room_left count h = omega arith

pub entries_left : (d : Description) (count : ℕ) (bytes : List ℕ) → count < 1024 → 0 < length bytes →
    entries_in d (1024 - count) bytes ≡ then_entries (entry d bytes) (entries_in d (1024 - (count + 1)))
unfolding entries_in
entries_left d count [] h some = absurd (omega arith)
entries_left d count (b ∷ bytes) h some = ap (λ room. entries_in d room (b ∷ bytes)) (room_left count h)

-- what the entry at the front makes of them
pub so_far-entry : (d : Description) (edits : List LeafEdit) (bytes : List ℕ) → length edits < 1024 → 0 < length bytes →
    read_so_far d edits bytes ≡ behind edits (then_entries (entry d bytes) (entries_in d (1024 - (length edits + 1))))
so_far-entry d edits bytes h some = ap (behind edits) (entries_left d (length edits) bytes h some)

-- an entry without a fault
pub so_far-more : (d : Description) (edits : List LeafEdit) (bytes : List ℕ) (edit : LeafEdit) (rest : List ℕ) → length edits < 1024 → 0 < length bytes → entry d bytes ≡ Ok (edit, rest) →
    read_so_far d (edits ++ edit ∷ []) rest ≡ read_so_far d edits bytes
so_far-more d edits bytes edit rest h some read =
    let count : length (edits ++ edit ∷ []) ≡ length edits + 1 = length-append edits (edit ∷ []) in
    let left : BatchEntries = entries_in d (1024 - (length edits + 1)) rest in
    ap (λ n. behind (edits ++ edit ∷ []) (entries_in d (1024 - n) rest)) count
    ∙ ap (λ all. record { edits = all; fault = left.fault }) (append_assoc edits (edit ∷ []) left.edits)
    ∙ sym (so_far-entry d edits bytes h some ∙ ap (λ read. behind edits (then_entries read (entries_in d (1024 - (length edits + 1))))) read)

-- an entry with a fault
pub record EndsWith (entries : BatchEntries) (place : ℕ) (fault : EntryFault) : Type 0 where
  pub place_is : length entries.edits ≡ place
  pub fault_is : entries.fault ≡ Some fault

faulty_behind : (edits : List LeafEdit) (fault : EntryFault) → EndsWith (behind edits (faulty fault)) (length edits) fault
faulty_behind edits fault = record { place_is = ap length (nothing_more edits); fault_is = refl }

pub so_far-fault : (d : Description) (edits : List LeafEdit) (bytes : List ℕ) (fault : EntryFault) → length edits < 1024 → 0 < length bytes → entry d bytes ≡ Err fault →
    EndsWith (read_so_far d edits bytes) (length edits) fault
so_far-fault d edits bytes fault h some read =
    let is : read_so_far d edits bytes ≡ behind edits (faulty fault) =
    so_far-entry d edits bytes h some ∙ ap (λ read. behind edits (then_entries read (entries_in d (1024 - (length edits + 1))))) read in
    subst (λ entries. EndsWith entries (length edits) fault) (sym is) (faulty_behind edits fault)

pub no_room : (d : Description) (bytes : List ℕ) → 0 < length bytes → entries_in d 0 bytes ≡ faulty Many
unfolding entries_in
no_room d [] some = absurd (omega arith)
no_room d (b ∷ bytes) some = refl

pub so_far-many : (d : Description) (edits : List LeafEdit) (bytes : List ℕ) → length edits ≡ 1024 → 0 < length bytes → EndsWith (read_so_far d edits bytes) (length edits) Many
so_far-many d edits bytes full some =
    let none : 1024 - length edits ≡ 0 = omega arith in
    let is : read_so_far d edits bytes ≡ behind edits (faulty Many) = ap (λ room. behind edits (entries_in d room bytes)) none ∙ ap (behind edits) (no_room d bytes some) in
    subst (λ entries. EndsWith entries (length edits) Many) (sym is) (faulty_behind edits Many)

-- ---- how many tiles

pub tiles_of-append : (edits more : List LeafEdit) → tiles_of (edits ++ more) ≡ tiles_of edits + tiles_of more
tiles_of-append edits more = sum_by-append (λ edit. cond (is_some (edit_tile edit)) 1 0) edits more

tiles_of-one : (edit : LeafEdit) (rest : List ℕ) → tiles_of (edit ∷ []) ≡ entry_tiles (Ok (edit, rest))
tiles_of-one (put leaf tile) rest = refl
tiles_of-one (add leaf tile) rest = refl
tiles_of-one (replace leaf tile) rest = refl
tiles_of-one (remove leaf) rest = refl

pub tiles_of-push : (edits : List LeafEdit) (edit : LeafEdit) (rest : List ℕ) → tiles_of (edits ++ edit ∷ []) ≡ tiles_of edits + entry_tiles (Ok (edit, rest))
tiles_of-push edits edit rest = tiles_of-append edits (edit ∷ []) ∙ ap (λ n. tiles_of edits + n) (tiles_of-one edit rest)

then_tiles : (read : ReadEntry) (rest : List ℕ → BatchEntries) → entry_tiles read ≤ tile_count (then_entries read rest)
then_tiles (Ok read) rest =
    let parts : tiles_of ((read.0 ∷ []) ++ (rest read.1).edits) ≡ tiles_of (read.0 ∷ []) + tiles_of (rest read.1).edits = tiles_of-append (read.0 ∷ []) (rest read.1).edits in
    let one : tiles_of (read.0 ∷ []) ≡ entry_tiles (Ok read) = tiles_of-one read.0 read.1 in
    omega arith
then_tiles (Err fault) rest = omega arith

pub so_far-tiles : (d : Description) (edits : List LeafEdit) (bytes : List ℕ) → length edits < 1024 → 0 < length bytes →
    tiles_of edits + entry_tiles (entry d bytes) ≤ tile_count (read_so_far d edits bytes)
so_far-tiles d edits bytes h some =
    let next : BatchEntries = then_entries (entry d bytes) (entries_in d (1024 - (length edits + 1))) in
    let all : tile_count (read_so_far d edits bytes) ≡ tiles_of edits + tile_count next = ap tile_count (so_far-entry d edits bytes h some) ∙ tiles_of-append edits next.edits in
    let here : entry_tiles (entry d bytes) ≤ tile_count next = then_tiles (entry d bytes) (entries_in d (1024 - (length edits + 1))) in
    omega arith

pub so_far-kept : (d : Description) (edits : List LeafEdit) (bytes : List ℕ) → tiles_of edits ≤ tile_count (read_so_far d edits bytes)
so_far-kept d edits bytes =
    let left : BatchEntries = entries_in d (1024 - length edits) bytes in
    let all : tile_count (read_so_far d edits bytes) ≡ tiles_of edits + tile_count left = tiles_of-append edits left.edits in
    omega arith

-- a counter that has counted the tiles so far, after those of one entry more
pub steps_more : (count tiles more old new all : ℕ) → old ≡ steps_after count tiles → new ≡ steps_after old more → all ≡ tiles + more → new ≡ steps_after count all
steps_more count tiles more old new all begun counted both = omega arith

-- ---- the whole body

pub empty_body : (d : Description) (bytes : List ℕ) → length bytes ≡ 0 → EndsWith (batch_entries d bytes) 0 NoLine
unfolding batch_entries
empty_body d [] none = record { place_is = refl; fault_is = refl }
empty_body d (b ∷ bytes) none = absurd (omega arith)

-- before the first entry
pub begun_body : (d : Description) (items : List Edit) (bytes : List ℕ) → items ≡ [] → 0 < length bytes → read_so_far d (map edit_of items) bytes ≡ batch_entries d bytes
begun_body d items bytes none some = ap (λ all. read_so_far d (map edit_of all) bytes) none ∙ so_far-none d bytes some

-- after the last entry, where nothing is left
pub whole_body : (d : Description) (edits : List LeafEdit) (left bytes : List ℕ) → length left ≡ 0 → read_so_far d edits left ≡ batch_entries d bytes →
    batch_entries d bytes ≡ record { edits = edits; fault = None }
whole_body d edits [] bytes none is = sym is ∙ so_far-all d edits
whole_body d edits (b ∷ left) bytes none is = absurd (omega arith)

-- an entry at least
then_some : (read : ReadEntry) (rest : List ℕ → BatchEntries) → (then_entries read rest).fault ≡ None → 0 < length (then_entries read rest).edits
then_some (Ok read) rest e = omega arith
then_some (Err fault) rest e = cc

pub some_entry : (d : Description) (bytes : List ℕ) → (batch_entries d bytes).fault ≡ None → 0 < length (batch_entries d bytes).edits
unfolding batch_entries entries_in
some_entry d [] e = cc
some_entry d (b ∷ bytes) e = then_some (entry d (b ∷ bytes)) (entries_in d 1023) e
