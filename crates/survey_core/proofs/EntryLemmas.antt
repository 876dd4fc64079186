-- An entry that is written is read, and what is read is written so.
use Rattle.std.proofs.Common.{◌≡◌, ℕ, zero, suc, ◌<◌, ◌≤◌, Bool, true, false, cond, List, [], ◌∷◌, ◌++◌, length, take, drop, Option, Some, None, Result, Ok, Err, refl, sym, ap, ◌∙◌, subst, arith, length-append, append_assoc}
use Rattle.std.specs.Prelude.{nat_lt}
use Rattle.std.proofs.lemmas.Bool.Decides.{nat_tests}
use Rattle.std.proofs.lemmas.List.{take-append-drop, take_at, drop_at, length-take-le}
use Rattle.decimal_scale.specs.Laws.{PlainIsRead}
use Rattle.survey_conf.specs.Description.{Description, IsDescription}
use Rattle.tile_pixels.specs.Tile.{PixelTile}
use Rattle.edit_journal.specs.Edit.{LeafEdit, remove}
use Rattle.survey_core.specs.Line.{line_feed, line_at}
use Rattle.survey_core.specs.BatchBody.{ReadEntry, edit_by, tile_in, tiled_by, entry_by, entry_with, entry, BatchEntries, with_edit, then_entries, entries_in, batch_entries}
use Rattle.survey_core.specs.Written.{line_text, IsEditOf, IsEntry, AreEntries, BodiesAreEntries}
use Rattle.survey_core.specs.declared.line.Verb.{Verb}
use Rattle.survey_core.specs.declared.line.Line.{Line}
use Rattle.survey_core.specs.declared.line.Line.TheVariants.{Tiled, Remove}
use Rattle.survey_core.specs.declared.fault.EntryFault.{EntryFault}
use Rattle.survey_core.specs.declared.fault.EntryFault.TheVariants.{Short}
use Rattle.survey_core.proofs.LineLemmas.{line_at_read, line_at_found}

-- ---- one entry

entry_by_read : (d : Description) (line : Line) (file rest : List ℕ) (edit : LeafEdit) → IsEditOf d line file edit → entry_by d line (file ++ rest) ≡ Ok (edit, rest)
entry_by_read d (Remove leaf) file rest edit is =
    ap (λ f. Ok (remove leaf, f ++ rest)) is.0 ∙ ap (λ e. Ok (e, rest)) (sym is.1)
entry_by_read d (Tiled verb leaf len) file rest edit is =
    let tile : PixelTile = is.0 in
    let count : length file ≡ len = is.1 in
    let enough : nat_lt (length (file ++ rest)) len ≡ false = let all = length-append file rest in grind (arith, nat_tests) in
    let front : take len (file ++ rest) ≡ file = take_at file rest len count in
    let behind : drop len (file ++ rest) ≡ rest = drop_at file rest len count in
    let chosen : entry_by d (Tiled verb leaf len) (file ++ rest) ≡ tiled_by verb leaf (tile_in d (take len (file ++ rest))) (drop len (file ++ rest)) =
    ap (λ t. cond t (Err Short) (tiled_by verb leaf (tile_in d (take len (file ++ rest))) (drop len (file ++ rest)))) enough in
    chosen ∙ ap (λ f. tiled_by verb leaf (tile_in d f) (drop len (file ++ rest))) front ∙ ap (λ t. tiled_by verb leaf t (drop len (file ++ rest))) (is.2)
    ∙ ap (λ r. Ok (edit_by verb leaf tile, r)) behind ∙ ap (λ e. Ok (e, rest)) (sym (is.3))

pub entry_read : PlainIsRead → (d : Description) (front rest : List ℕ) (edit : LeafEdit) → d.shape.top ≤ 11 → IsEntry d front edit → entry d (front ++ rest) ≡ Ok (edit, rest)
unfolding entry
entry_read law d front rest edit few is =
    let text : front ++ rest ≡ line_text is.line ++ (line_feed ∷ (is.file ++ rest)) =
    ap (λ f. f ++ rest) is.written ∙ append_assoc (line_text is.line) (line_feed ∷ is.file) rest in
    ap (λ bytes. entry_with d (line_at d.shape.top bytes)) text
    ∙ ap (entry_with d) (line_at_read law d.shape.top is.line (is.file ++ rest) few is.fits)
    ∙ entry_by_read d is.line is.file rest edit is.is

ok_same : (x y : LeafEdit × List ℕ) (one other : ReadEntry) → one ≡ Ok x → other ≡ Ok y → one ≡ other → x ≡ y
ok_same x y one other is_x is_y same = cc

-- the file and what follows it
pub record HasFile (d : Description) (line : Line) (bytes : List ℕ) (edit : LeafEdit) (rest : List ℕ) : Type 0 where
  pub file : List ℕ
  pub bytes_are : bytes ≡ file ++ rest
  pub is : IsEditOf d line file edit

tiled_found : (d : Description) (verb : Verb) (leaf len : ℕ) (bytes : List ℕ) (edit : LeafEdit) (rest : List ℕ) (tile : Result PixelTile EntryFault) → len ≤ length bytes →
    tile_in d (take len bytes) ≡ tile → tiled_by verb leaf tile (drop len bytes) ≡ Ok (edit, rest) → HasFile d (Tiled verb leaf len) bytes edit rest
tiled_found d verb leaf len bytes edit rest (Ok tile) enough at e =
    let pair : (edit_by verb leaf tile, drop len bytes) ≡ (edit, rest) = ok_same (edit_by verb leaf tile, drop len bytes) (edit, rest) _ _ refl refl e in
    let edit_is : edit_by verb leaf tile ≡ edit = ap (λ p. p.0) pair in
    let rest_is : drop len bytes ≡ rest = ap (λ p. p.1) pair in
    record {
      file = take len bytes;
      bytes_are = sym (take-append-drop len bytes) ∙ ap (λ r. take len bytes ++ r) rest_is;
      is = (tile, length-take-le len bytes enough, at, sym edit_is);
    }
tiled_found d verb leaf len bytes edit rest (Err fault) enough at e = cc

entry_by_found : (d : Description) (line : Line) (bytes : List ℕ) (edit : LeafEdit) (rest : List ℕ) → entry_by d line bytes ≡ Ok (edit, rest) → HasFile d line bytes edit rest
entry_by_found d (Remove leaf) bytes edit rest e =
    let pair : (remove leaf, bytes) ≡ (edit, rest) = ok_same (remove leaf, bytes) (edit, rest) _ _ refl refl e in
    let edit_is : remove leaf ≡ edit = ap (λ p. p.0) pair in
    let rest_is : bytes ≡ rest = ap (λ p. p.1) pair in
    record { file = []; bytes_are = rest_is; is = (refl, sym edit_is) }
entry_by_found d (Tiled verb leaf len) bytes edit rest e = either (nat_lt (length bytes) len) refl e
  where
    either : (t : Bool) → nat_lt (length bytes) len ≡ t → cond t (Err Short) (tiled_by verb leaf (tile_in d (take len bytes)) (drop len bytes)) ≡ Ok (edit, rest) →
        HasFile d (Tiled verb leaf len) bytes edit rest
    either true short e = cc
    either false enough e =
        let room : len ≤ length bytes = grind (arith, nat_tests) in
        tiled_found d verb leaf len bytes edit rest (tile_in d (take len bytes)) room refl e

-- the entry and what follows it
pub record HasEntry (d : Description) (bytes : List ℕ) (edit : LeafEdit) (rest : List ℕ) : Type 0 where
  pub front : List ℕ
  pub bytes_are : bytes ≡ front ++ rest
  pub is : IsEntry d front edit

with_found : PlainIsRead → (d : Description) (bytes : List ℕ) (edit : LeafEdit) (rest : List ℕ) (found : Option (Line × List ℕ)) → line_at d.shape.top bytes ≡ found →
    entry_with d found ≡ Ok (edit, rest) → HasEntry d bytes edit rest
with_found law d bytes edit rest None at e = cc
with_found law d bytes edit rest (Some found) at e =
    let line = line_at_found law d.shape.top bytes found at in
    let file = entry_by_found d found.0 found.1 edit rest e in
    record {
      front = line_text found.0 ++ (line_feed ∷ file.file);
      bytes_are = line.0 ∙ ap (λ b. line_text found.0 ++ (line_feed ∷ b)) file.bytes_are ∙ sym (append_assoc (line_text found.0) (line_feed ∷ file.file) rest);
      is = record { line = found.0; file = file.file; fits = line.1; written = refl; is = file.is };
    }

pub entry_found : PlainIsRead → (d : Description) (bytes : List ℕ) (edit : LeafEdit) (rest : List ℕ) → entry d bytes ≡ Ok (edit, rest) → HasEntry d bytes edit rest
unfolding entry
entry_found law d bytes edit rest e = with_found law d bytes edit rest (line_at d.shape.top bytes) refl e

-- an entry has bytes
pub entry_some : (d : Description) (front : List ℕ) (edit : LeafEdit) → IsEntry d front edit → 0 < length front
entry_some d front edit is = omega (arith, ap length is.written ∙ length-append (line_text is.line) (line_feed ∷ is.file))

-- ---- all entries

pub step_read : (d : Description) (room : ℕ) (bytes : List ℕ) → 0 < length bytes → entries_in d (suc room) bytes ≡ then_entries (entry d bytes) (entries_in d room)
unfolding entries_in
step_read d room [] some = absurd (omega arith)
step_read d room (b ∷ bytes) some = refl

entries_read : PlainIsRead → (d : Description) (room : ℕ) (edits : List LeafEdit) (bytes : List ℕ) → d.shape.top ≤ 11 → length edits ≤ room → AreEntries d edits bytes →
    entries_in d room bytes ≡ record { edits = edits; fault = None }
unfolding entries_in
entries_read law d room [] bytes few h none = ap (entries_in d room) none
entries_read law d zero (edit ∷ edits) bytes few h are = absurd (omega arith)
entries_read law d (suc room) (edit ∷ edits) bytes few h (front, rest, bytes_are, is, later) =
    let some : 0 < length bytes = omega (arith, ap length bytes_are ∙ length-append front rest, entry_some d front edit is) in
    step_read d room bytes some
    ∙ ap (λ b. then_entries (entry d b) (entries_in d room)) bytes_are
    ∙ ap (λ read. then_entries read (entries_in d room)) (entry_read law d front rest edit few is)
    ∙ ap (with_edit edit) (entries_read law d room edits rest few (omega arith) later)

-- what is read of one entry and the rest, without a fault
pub record Goes (read : ReadEntry) (rest : List ℕ → BatchEntries) (edits : List LeafEdit) : Type 0 where
  pub first : LeafEdit
  pub after : List ℕ
  pub others : List LeafEdit
  pub read_is : read ≡ Ok (first, after)
  pub edits_are : edits ≡ first ∷ others
  pub rest_is : rest after ≡ record { edits = others; fault = None }

goes : (read : ReadEntry) (rest : List ℕ → BatchEntries) (edits : List LeafEdit) → then_entries read rest ≡ record { edits = edits; fault = None } → Goes read rest edits
goes (Ok read) rest edits e = record {
  first = read.0;
  after = read.1;
  others = (rest read.1).edits;
  read_is = refl;
  edits_are = sym (ap (λ entries. entries.edits) e);
  rest_is = ap (λ fault. record { edits = (rest read.1).edits; fault = fault }) (ap (λ entries. entries.fault) e);
}
goes (Err fault) rest edits e = let none : Some fault ≡ None = ap (λ entries. entries.fault) e in cc

entries_found : PlainIsRead → (d : Description) (room : ℕ) (edits : List LeafEdit) (bytes : List ℕ) → entries_in d room bytes ≡ record { edits = edits; fault = None } → AreEntries d edits bytes
unfolding entries_in
entries_found law d room edits [] e = let none : [] ≡ edits = ap (λ entries. entries.edits) e in subst (λ all. AreEntries d all []) none refl
entries_found law d zero edits (b ∷ bytes) e = let none : _ ≡ None = ap (λ entries. entries.fault) e in cc
entries_found law d (suc room) edits (b ∷ bytes) e =
    let on = goes (entry d (b ∷ bytes)) (entries_in d room) edits e in
    let has = entry_found law d (b ∷ bytes) on.first on.after on.read_is in
    let later : AreEntries d on.others on.after = entries_found law d room on.others on.after on.rest_is in
    subst (λ all. AreEntries d all (b ∷ bytes)) (sym on.edits_are) (has.front, on.after, has.bytes_are, has.is, later)

-- ---- the law

body_read : PlainIsRead → (d : Description) (edits : List LeafEdit) (body : List ℕ) → IsDescription d → 0 < length edits → length edits ≤ 1024 → AreEntries d edits body →
    batch_entries d body ≡ record { edits = edits; fault = None }
unfolding batch_entries
body_read law d [] body known some most are = absurd (omega arith)
body_read law d (edit ∷ edits) [] known some most (front, rest, bytes_are, is, later) =
    absurd (omega (arith, ap length bytes_are ∙ length-append front rest, entry_some d front edit is))
body_read law d (edit ∷ edits) (b ∷ bytes) known some most are = entries_read law d 1024 (edit ∷ edits) (b ∷ bytes) known.shape.greatest_top most are

body_found : PlainIsRead → (d : Description) (edits : List LeafEdit) (body : List ℕ) → batch_entries d body ≡ record { edits = edits; fault = None } → AreEntries d edits body
unfolding batch_entries
body_found law d edits [] e = let none : Some _ ≡ None = ap (λ entries. entries.fault) e in cc
body_found law d edits (b ∷ bytes) e = entries_found law d 1024 edits (b ∷ bytes) e

pub bodies_are_entries : PlainIsRead → BodiesAreEntries
bodies_are_entries law = record {
  read = body_read law;
  written = λ d edits body known e. body_found law d edits body e;
}
