-- A body that is refused: written entries, and a rest with a fault.
use Rattle.std.proofs.Common.{◌≡◌, ◌⊎◌, inl, inr, ℕ, zero, suc, ◌+◌, ◌-◌, ◌<◌, ◌≤◌, Bool, true, false, cond, List, [], ◌∷◌, ◌++◌, length, take, drop, Option, Some, None, Result, Ok, Err, refl, sym, ap, ◌∙◌, subst, arith, length-append, append_assoc}
use Rattle.std.specs.Prelude.{ℤ, nat_lt}
use Rattle.std.proofs.lemmas.Bool.Decides.{nat_tests}
use Rattle.std.proofs.lemmas.List.{take-append-drop, take_at, length-take-le}
use Rattle.decimal_scale.specs.Laws.{PlainIsRead}
use Rattle.survey_conf.specs.Description.{Description, IsDescription}
use Rattle.fits_tile.specs.Reading.{reads}
use Rattle.fits_tile.specs.declared.fault.TileFault.{TileFault}
use Rattle.edit_journal.specs.Edit.{LeafEdit}
use Rattle.survey_core.specs.Line.{line_feed, line_at}
use Rattle.survey_core.specs.BatchBody.{ReadEntry, tile_by, tile_in, tiled_by, entry_by, entry_with, entry, BatchEntries, faulty, with_edit, then_entries, entries_in, batch_entries, behind}
use Rattle.survey_core.specs.Written.{line_text, AreEntries, BeginsWith, HasFault, IsFaulty, RefusalsAreFaults}
use Rattle.survey_core.specs.declared.line.Verb.{Verb}
use Rattle.survey_core.specs.declared.line.Line.{Line}
use Rattle.survey_core.specs.declared.line.Line.TheVariants.{Tiled, Remove}
use Rattle.survey_core.specs.declared.fault.EntryFault.{EntryFault}
use Rattle.survey_core.specs.declared.fault.EntryFault.TheVariants.{Many, Line as NoLine, Short, Tile}
use Rattle.survey_core.proofs.LineLemmas.{line_at_read, line_at_found}
use Rattle.survey_core.proofs.EntryLemmas.{entry_read, entry_found, entry_some, step_read}
use Rattle.survey_core.proofs.BatchLemmas.{nothing_more, entries_left, no_room}

err_same : (one other : ReadEntry) (f g : EntryFault) → one ≡ Err f → other ≡ Err g → one ≡ other → f ≡ g
err_same one other f g is_f is_g same = cc

some_same : (one other : Option EntryFault) (f g : EntryFault) → one ≡ Some f → other ≡ Some g → one ≡ other → f ≡ g
some_same one other f g is_f is_g same = cc

-- a line takes bytes
begun_some : (top : ℕ) (line : Line) (rest bytes : List ℕ) → BeginsWith top line rest bytes → 0 < length bytes
begun_some top line rest bytes begins = omega (arith, ap length begins.1 ∙ length-append (line_text line) (line_feed ∷ rest))

-- ---- what has a fault is refused with it

no_line : PlainIsRead → (d : Description) (bytes : List ℕ) (found : Option (Line × List ℕ)) → line_at d.shape.top bytes ≡ found →
    ((line : Line) (rest : List ℕ) → ¬ BeginsWith d.shape.top line rest bytes) → entry_with d found ≡ Err NoLine
no_line law d bytes None at none = refl
no_line law d bytes (Some found) at none = let is = line_at_found law d.shape.top bytes found at in absurd (none found.0 found.1 (is.1, is.0))

entry_begun : PlainIsRead → (d : Description) (line : Line) (rest bytes : List ℕ) → d.shape.top ≤ 11 → BeginsWith d.shape.top line rest bytes → entry d bytes ≡ entry_by d line rest
unfolding entry
entry_begun law d line rest bytes few begins = ap (λ b. entry_with d (line_at d.shape.top b)) begins.1 ∙ ap (entry_with d) (line_at_read law d.shape.top line rest few begins.0)

short_read : (d : Description) (verb : Verb) (leaf len : ℕ) (file : List ℕ) → length file < len → entry_by d (Tiled verb leaf len) file ≡ Err Short
short_read d verb leaf len file short =
    let less : nat_lt (length file) len ≡ true = grind (arith, nat_tests) in
    ap (λ t. cond t (Err Short) (tiled_by verb leaf (tile_in d (take len file)) (drop len file))) less

tile_refused : (d : Description) (file : List ℕ) (fault : TileFault) → reads d file ≡ Err fault → tile_in d file ≡ Err (Tile fault)
unfolding tile_in
tile_refused d file fault is = ap (tile_by d) is

tile_read : (d : Description) (verb : Verb) (leaf len : ℕ) (file rest : List ℕ) (fault : TileFault) → length file ≡ len → reads d file ≡ Err fault →
    entry_by d (Tiled verb leaf len) (file ++ rest) ≡ Err (Tile fault)
tile_read d verb leaf len file rest fault count is =
    let enough : nat_lt (length (file ++ rest)) len ≡ false = let all = length-append file rest in grind (arith, nat_tests) in
    let front : take len (file ++ rest) ≡ file = take_at file rest len count in
    let chosen : entry_by d (Tiled verb leaf len) (file ++ rest) ≡ tiled_by verb leaf (tile_in d (take len (file ++ rest))) (drop len (file ++ rest)) =
    ap (λ t. cond t (Err Short) (tiled_by verb leaf (tile_in d (take len (file ++ rest))) (drop len (file ++ rest)))) enough in
    chosen ∙ ap (λ f. tiled_by verb leaf (tile_in d f) (drop len (file ++ rest))) front ∙ ap (λ t. tiled_by verb leaf t (drop len (file ++ rest))) (tile_refused d file fault is)

none_read : PlainIsRead → (d : Description) (bytes : List ℕ) → ((line : Line) (rest : List ℕ) → ¬ BeginsWith d.shape.top line rest bytes) → entry d bytes ≡ Err NoLine
unfolding entry
none_read law d bytes none = no_line law d bytes (line_at d.shape.top bytes) refl none

refused_here : (d : Description) (count : ℕ) (bytes : List ℕ) (fault : EntryFault) → count < 1024 → 0 < length bytes → entry d bytes ≡ Err fault → entries_in d (1024 - count) bytes ≡ faulty fault
refused_here d count bytes fault h some is = entries_left d count bytes h some ∙ ap (λ read. then_entries read (entries_in d (1024 - (count + 1)))) is

fault_read : PlainIsRead → (d : Description) (count : ℕ) (bytes : List ℕ) (fault : EntryFault) → d.shape.top ≤ 11 → 0 < length bytes → HasFault d count bytes fault →
    entries_in d (1024 - count) bytes ≡ faulty fault
fault_read law d count bytes Many few some full = let none : 1024 - count ≡ 0 = omega arith in ap (λ room. entries_in d room bytes) none ∙ no_room d bytes some
fault_read law d count bytes NoLine few some (h, none) = refused_here d count bytes NoLine h some (none_read law d bytes none)
fault_read law d count bytes Short few some (h, verb, leaf, len, file, begins, short) =
    refused_here d count bytes Short h some (entry_begun law d (Tiled verb leaf len) file bytes few begins ∙ short_read d verb leaf len file short)
fault_read law d count bytes (Tile fault) few some (h, verb, leaf, len, file, rest, begins, len_is, is) =
    refused_here d count bytes (Tile fault) h some (entry_begun law d (Tiled verb leaf len) (file ++ rest) bytes few begins ∙ tile_read d verb leaf len file rest fault len_is is)

count_within : (d : Description) (count : ℕ) (bytes : List ℕ) (fault : EntryFault) → HasFault d count bytes fault → count ≤ 1024
count_within d count bytes Many full = omega arith
count_within d count bytes NoLine (h, none) = omega arith
count_within d count bytes Short (h, verb, leaf, len, file, begins, short) = omega arith
count_within d count bytes (Tile fault) (h, verb, leaf, len, file, rest, begins, len_is, is) = omega arith

-- written entries are read, and then what is left
entries_behind : PlainIsRead → (d : Description) (room : ℕ) (edits : List LeafEdit) (front rest : List ℕ) → d.shape.top ≤ 11 → length edits ≤ room → AreEntries d edits front →
    entries_in d room (front ++ rest) ≡ behind edits (entries_in d (room - length edits) rest)
entries_behind law d room [] front rest few h none =
    let all : room ≡ room - 0 = omega arith in
    ap (λ f. entries_in d room (f ++ rest)) none ∙ ap (λ n. entries_in d n rest) all
entries_behind law d zero (edit ∷ edits) front rest few h are = absurd (omega arith)
entries_behind law d (suc room) (edit ∷ edits) bytes rest few h (front, more, bytes_are, is, later) =
    let some : 0 < length (bytes ++ rest) = omega (arith, length-append bytes rest, ap length bytes_are ∙ length-append front more, entry_some d front edit is) in
    let parts : bytes ++ rest ≡ front ++ (more ++ rest) = ap (λ b. b ++ rest) bytes_are ∙ append_assoc front more rest in
    let left : room - length edits ≡ suc room - length (edit ∷ edits) = omega arith in
    step_read d room (bytes ++ rest) some
    ∙ ap (λ b. then_entries (entry d b) (entries_in d room)) parts
    ∙ ap (λ read. then_entries read (entries_in d room)) (entry_read law d front (more ++ rest) edit few is)
    ∙ ap (with_edit edit) (entries_behind law d room edits more rest few (omega arith) later)
    ∙ ap (λ n. behind (edit ∷ edits) (entries_in d n rest)) left

empty_read : (d : Description) (edits : List LeafEdit) (fault : EntryFault) → IsFaulty d [] edits fault → faulty NoLine ≡ record { edits = edits; fault = Some fault }
empty_read d [] Many is = let full : 0 ≡ 1024 = is.has in absurd (omega arith)
empty_read d [] NoLine is = refl
empty_read d [] Short is =
    let has = is.has in
    absurd (omega (arith, ap length is.parts ∙ length-append is.front is.rest, begun_some d.shape.top (Tiled (has.1) (has.2) (has.3)) (has.4) is.rest (has.5)))
empty_read d [] (Tile fault) is =
    let has = is.has in
    absurd (omega (arith, ap length is.parts ∙ length-append is.front is.rest, begun_some d.shape.top (Tiled (has.1) (has.2) (has.3)) (has.4 ++ has.5) is.rest (has.6)))
empty_read d (edit ∷ edits) fault is =
    let are = is.entries in
    absurd (omega (arith, ap length is.parts ∙ length-append is.front is.rest, ap length (are.2) ∙ length-append (are.0) (are.1), entry_some d (are.0) edit (are.3)))

some_rest : (b : ℕ) (bytes : List ℕ) (rest : List ℕ) → ((b ∷ bytes ≡ []) ⊎ (0 < length rest)) → 0 < length rest
some_rest b bytes rest (inl none) = cc
some_rest b bytes rest (inr some) = some

faulty_read : PlainIsRead → (d : Description) (body : List ℕ) (edits : List LeafEdit) (fault : EntryFault) → IsDescription d → IsFaulty d body edits fault →
    batch_entries d body ≡ record { edits = edits; fault = Some fault }
unfolding batch_entries
faulty_read law d [] edits fault known is = empty_read d edits fault is
faulty_read law d (b ∷ bytes) edits fault known is =
    let few = known.shape.greatest_top in
    let within : length edits ≤ 1024 = count_within d (length edits) is.rest fault is.has in
    ap (entries_in d 1024) is.parts
    ∙ entries_behind law d 1024 edits is.front is.rest few within is.entries
    ∙ ap (behind edits) (fault_read law d (length edits) is.rest fault few (some_rest b bytes is.rest is.some) is.has)
    ∙ ap (λ all. record { edits = all; fault = Some fault }) (nothing_more edits)

-- ---- what is refused has that fault

by_reads : (d : Description) (count : ℕ) (bytes : List ℕ) (f : EntryFault) (verb : Verb) (leaf len : ℕ) (after : List ℕ) → count < 1024 → BeginsWith d.shape.top (Tiled verb leaf len) after bytes →
    len ≤ length after → (read : Result (List ℤ) TileFault) → reads d (take len after) ≡ read → tiled_by verb leaf (tile_by d read) (drop len after) ≡ Err f → HasFault d count bytes f
by_reads d count bytes f verb leaf len after h begins room (Ok numbers) at e = cc
by_reads d count bytes f verb leaf len after h begins room (Err fault) at e =
    let parts : after ≡ take len after ++ drop len after = sym (take-append-drop len after) in
    let begun : BeginsWith d.shape.top (Tiled verb leaf len) (take len after ++ drop len after) bytes =
    (begins.0, begins.1 ∙ ap (λ b. line_text (Tiled verb leaf len) ++ (line_feed ∷ b)) parts) in
    subst (λ g. HasFault d count bytes g) (err_same _ _ (Tile fault) f refl refl e)
    (h, verb, leaf, len, take len after, drop len after, begun, length-take-le len after room, at)

by_tile : (d : Description) (count : ℕ) (bytes : List ℕ) (f : EntryFault) (verb : Verb) (leaf len : ℕ) (after : List ℕ) → count < 1024 → BeginsWith d.shape.top (Tiled verb leaf len) after bytes →
    len ≤ length after → tiled_by verb leaf (tile_in d (take len after)) (drop len after) ≡ Err f → HasFault d count bytes f
unfolding tile_in
by_tile d count bytes f verb leaf len after h begins room e = by_reads d count bytes f verb leaf len after h begins room (reads d (take len after)) refl e

by_length : (d : Description) (count : ℕ) (bytes : List ℕ) (f : EntryFault) (verb : Verb) (leaf len : ℕ) (after : List ℕ) → count < 1024 → BeginsWith d.shape.top (Tiled verb leaf len) after bytes →
    (t : Bool) → nat_lt (length after) len ≡ t → cond t (Err Short) (tiled_by verb leaf (tile_in d (take len after)) (drop len after)) ≡ Err f → HasFault d count bytes f
by_length d count bytes f verb leaf len after h begins true short e =
    let less : length after < len = grind (arith, nat_tests) in
    subst (λ g. HasFault d count bytes g) (err_same _ _ Short f refl refl e) (h, verb, leaf, len, after, begins, less)
by_length d count bytes f verb leaf len after h begins false enough e =
    let room : len ≤ length after = grind (arith, nat_tests) in
    by_tile d count bytes f verb leaf len after h begins room e

by_line : (d : Description) (count : ℕ) (bytes : List ℕ) (f : EntryFault) (line : Line) (after : List ℕ) → count < 1024 → BeginsWith d.shape.top line after bytes → entry_by d line after ≡ Err f →
    HasFault d count bytes f
by_line d count bytes f (Remove leaf) after h begins e = cc
by_line d count bytes f (Tiled verb leaf len) after h begins e = by_length d count bytes f verb leaf len after h begins (nat_lt (length after) len) refl e

by_found : PlainIsRead → (d : Description) (count : ℕ) (bytes : List ℕ) (f : EntryFault) → d.shape.top ≤ 11 → count < 1024 → (found : Option (Line × List ℕ)) → line_at d.shape.top bytes ≡ found →
    entry_with d found ≡ Err f → HasFault d count bytes f
by_found law d count bytes f few h None at e =
    let none : (line : Line) (rest : List ℕ) → ¬ BeginsWith d.shape.top line rest bytes =
    λ line rest begins.
    let there : line_at d.shape.top bytes ≡ Some (line, rest) = ap (line_at d.shape.top) begins.1 ∙ line_at_read law d.shape.top line rest few begins.0 in
    cc in
    subst (λ g. HasFault d count bytes g) (err_same _ _ NoLine f refl refl e) (h, none)
by_found law d count bytes f few h (Some found) at e =
    let is = line_at_found law d.shape.top bytes found at in
    by_line d count bytes f found.0 found.1 h (is.1, is.0) e

entry_fault : PlainIsRead → (d : Description) (count : ℕ) (bytes : List ℕ) (f : EntryFault) → d.shape.top ≤ 11 → count < 1024 → entry d bytes ≡ Err f → HasFault d count bytes f
unfolding entry
entry_fault law d count bytes f few h e = by_found law d count bytes f few h (line_at d.shape.top bytes) refl e

-- the entries that are read, and what is left behind them
record Parts (d : Description) (room : ℕ) (bytes : List ℕ) (edits : List LeafEdit) (fault : EntryFault) : Type 0 where
  pub front : List ℕ
  pub rest : List ℕ
  pub parts : bytes ≡ front ++ rest
  pub entries : AreEntries d edits front
  pub some : 0 < length rest
  pub count : length edits ≤ room
  pub has : room ≤ 1024 → HasFault d (1024 - room + length edits) rest fault

parts_of : PlainIsRead → (d : Description) (room : ℕ) (bytes : List ℕ) (fault : EntryFault) → d.shape.top ≤ 11 → (entries_in d room bytes).fault ≡ Some fault →
    Parts d room bytes (entries_in d room bytes).edits fault
unfolding entries_in
parts_of law d room [] fault few e = cc
parts_of law d zero (b ∷ bytes) fault few e = record {
  front = [];
  rest = b ∷ bytes;
  parts = refl;
  entries = refl;
  some = omega arith;
  count = omega arith;
  has = λ within. subst (λ g. HasFault d 1024 (b ∷ bytes) g) (some_same _ _ Many fault refl refl e) refl;
}
parts_of law d (suc room) (b ∷ bytes) fault few e = after (λ rest. parts_of law d room rest fault few) (entry d (b ∷ bytes)) refl e
  where
    after : ((rest : List ℕ) → (entries_in d room rest).fault ≡ Some fault → Parts d room rest (entries_in d room rest).edits fault) → (read : ReadEntry) → entry d (b ∷ bytes) ≡ read → (then_entries read (entries_in d room)).fault ≡ Some fault →
        Parts d (suc room) (b ∷ bytes) (then_entries read (entries_in d room)).edits fault
    after on (Ok read) at e =
        let has = entry_found law d (b ∷ bytes) read.0 read.1 at in
        let later = on read.1 e in
        record {
          front = has.front ++ later.front;
          rest = later.rest;
          parts = has.bytes_are ∙ ap (λ r. has.front ++ r) later.parts ∙ sym (append_assoc has.front later.front later.rest);
          entries = (has.front, later.front, refl, has.is, later.entries);
          some = later.some;
          count = omega (arith, later.count);
          has = λ within.
              let same : 1024 - room + length (entries_in d room read.1).edits ≡ 1024 - suc room + length (read.0 ∷ (entries_in d room read.1).edits) = omega arith in
              subst (λ n. HasFault d n later.rest fault) same (later.has (omega arith));
        }
    after on (Err f) at e = record {
      front = [];
      rest = b ∷ bytes;
      parts = refl;
      entries = refl;
      some = omega arith;
      count = omega arith;
      has = λ within. subst (λ g. HasFault d (1024 - suc room + 0) (b ∷ bytes) g) (some_same _ _ f fault refl refl e)
          (entry_fault law d (1024 - suc room + 0) (b ∷ bytes) f few (omega arith) at);
    }

empty_found : (d : Description) → IsFaulty d [] [] NoLine
empty_found d = record {
  front = [];
  rest = [];
  parts = refl;
  entries = refl;
  some = inl refl;
  has = (omega arith, λ line rest begins. let some = begun_some d.shape.top line rest [] begins in omega arith);
}

entries_same : (one : BatchEntries) (edits : List LeafEdit) (fault : EntryFault) → one ≡ record { edits = edits; fault = Some fault } → (one.edits ≡ edits) × (one.fault ≡ Some fault)
entries_same one edits fault e = (ap (λ entries. entries.edits) e, ap (λ entries. entries.fault) e)

faulty_found : PlainIsRead → (d : Description) (body : List ℕ) (edits : List LeafEdit) (fault : EntryFault) → IsDescription d →
    batch_entries d body ≡ record { edits = edits; fault = Some fault } → IsFaulty d body edits fault
unfolding batch_entries
faulty_found law d [] edits fault known e =
    let same = entries_same (faulty NoLine) edits fault e in
    subst (λ f. IsFaulty d [] edits f) (some_same _ _ NoLine fault refl refl (same.1)) (subst (λ all. IsFaulty d [] all NoLine) (same.0) (empty_found d))
faulty_found law d (b ∷ bytes) edits fault known e =
    let same = entries_same (entries_in d 1024 (b ∷ bytes)) edits fault e in
    let is = parts_of law d 1024 (b ∷ bytes) fault known.shape.greatest_top (same.1) in
    let count : ℕ = length (entries_in d 1024 (b ∷ bytes)).edits in
    let place : 1024 - 1024 + count ≡ count = omega arith in
    subst (λ all. IsFaulty d (b ∷ bytes) all fault) (same.0) (record {
      front = is.front;
      rest = is.rest;
      parts = is.parts;
      entries = is.entries;
      some = inr is.some;
      has = subst (λ n. HasFault d n is.rest fault) place (is.has (omega arith));
    })

pub refusals_are_faults : PlainIsRead → RefusalsAreFaults
refusals_are_faults law = record { read = faulty_read law; written = faulty_found law }
