-- What is read fits the survey.
use Rattle.std.proofs.Common.{◌≡◌, ℕ, zero, suc, ◌<◌, ◌^◌, Bool, true, false, cond, List, [], ◌∷◌, length, take, drop, Option, Some, None, Result, Ok, Err, refl, arith}
use Rattle.std.specs.Prelude.{All, IfSome, IfOk, ℤ, option_and_then, option_map, nat_lt, codes}
use Rattle.std.specs.Str.{bytes_eq}
use Rattle.std.proofs.lemmas.Bool.Decides.{nat_tests}
use Rattle.std.proofs.lemmas.List.Elements.{All-nil, All-cons}
use Rattle.healpix_nested.specs.Cells.{cell_count}
use Rattle.decimal_scale.specs.Whole.{plain_value}
use Rattle.survey_conf.specs.Description.{Description}
use Rattle.tile_pixels.specs.Tile.{PixelTile}
use Rattle.fits_tile.specs.Reading.{reads}
use Rattle.fits_tile.specs.declared.fault.TileFault.{TileFault}
use Rattle.edit_journal.specs.Leaves.{FitsEdit, FitsTile}
use Rattle.survey_core.specs.Line.{number_below, verb_of, tiled_line, line_by, line_of, line_at, cut, space, line_feed}
use Rattle.survey_core.specs.declared.line.Verb.{Verb}
use Rattle.survey_core.specs.declared.line.Verb.TheVariants.{Put, Add, Replace}
use Rattle.survey_core.specs.declared.line.Line.{Line}
use Rattle.survey_core.specs.declared.line.Line.TheVariants.{Tiled, Remove}
use Rattle.survey_core.specs.declared.fault.EntryFault.TheVariants.{Short}
use Rattle.survey_core.specs.Written.{FitsLine}
use Rattle.survey_core.specs.BatchBody.{ReadEntry, edit_by, tile_by, tile_in, tiled_by, entry_by, entry_with, entry, BatchEntries, then_entries, entries_in, batch_entries}

-- ---- options

bound : {A B : Type 0} (P : A → Type 0) (Q : B → Type 0) (found : Option A) (next : A → Option B) → IfSome found P → ((a : A) → P a → IfSome (next a) Q) → IfSome (option_and_then next found) Q
bound P Q None next here later = tt
bound P Q (Some a) next here later = later a here

any : {A : Type 0} (found : Option A) → IfSome found (λ _. Unit {0})
any None = tt
any (Some a) = tt

mapped : {A B : Type 0} (P : A → Type 0) (Q : B → Type 0) (found : Option A) (f : A → B) → IfSome found P → ((a : A) → P a → Q (f a)) → IfSome (option_map f found) Q
mapped P Q None f here later = tt
mapped P Q (Some a) f here later = later a here

-- ---- lines

checked : (limit n : ℕ) (b : Bool) → nat_lt n limit ≡ b → IfSome (cond b (Some n) None) (λ m. m < limit)
checked limit n true below = grind (arith, nat_tests)
checked limit n false above = tt

number_fits : (limit : ℕ) (text : List ℕ) → IfSome (number_below limit text) (λ n. n < limit)
unfolding number_below
number_fits limit text =
    bound (λ _. Unit {0}) (λ n. n < limit) (plain_value text) (λ n. cond (nat_lt n limit) (Some n) None) (any (plain_value text)) (λ n _. checked limit n (nat_lt n limit) refl)

tiled_fits : (top : ℕ) (verb : Verb) (numbers : List ℕ) → IfSome (tiled_line top verb numbers) (FitsLine top)
unfolding tiled_line
tiled_fits top verb numbers =
    bound (λ _. Unit {0}) (FitsLine top) (cut space numbers) _ (any (cut space numbers))
    (λ parts _. bound (λ n. n < cell_count top) (FitsLine top) (number_below (cell_count top) parts.0) _ (number_fits (cell_count top) parts.0)
    (λ leaf small. bound (λ n. n < 2 ^ 32) (FitsLine top) (number_below (2 ^ 32) parts.1) _ (number_fits (2 ^ 32) parts.1) (λ len short. (small, short))))

line_by_fits : (top : ℕ) (word numbers : List ℕ) → IfSome (line_by top word numbers) (FitsLine top)
unfolding line_by
line_by_fits top word numbers = either (bytes_eq word (codes "remove"))
  where
    either : (b : Bool) → IfSome (cond b (option_map Remove (number_below (cell_count top) numbers)) (option_and_then (λ verb. tiled_line top verb numbers) (verb_of word))) (FitsLine top)
    either true = mapped (λ n. n < cell_count top) (FitsLine top) (number_below (cell_count top) numbers) Remove (number_fits (cell_count top) numbers) (λ leaf small. small)
    either false = bound (λ _. Unit {0}) (FitsLine top) (verb_of word) (λ verb. tiled_line top verb numbers) (any (verb_of word)) (λ verb _. tiled_fits top verb numbers)

line_of_fits : (top : ℕ) (text : List ℕ) → IfSome (line_of top text) (FitsLine top)
unfolding line_of
line_of_fits top text = bound (λ _. Unit {0}) (FitsLine top) (cut space text) _ (any (cut space text)) (λ parts _. line_by_fits top parts.0 parts.1)

line_at_fits : (top : ℕ) (bytes : List ℕ) → IfSome (line_at top bytes) (λ found. FitsLine top found.0)
unfolding line_at
line_at_fits top bytes =
    bound (λ _. Unit {0}) (λ found. FitsLine top found.0) (cut line_feed bytes) _ (any (cut line_feed bytes))
    (λ parts _. bound (FitsLine top) (λ found. FitsLine top found.0) (line_of top parts.0) _ (line_of_fits top parts.0) (λ line fits. fits))

-- ---- entries

abbrev EntryFits : Description → ReadEntry → Type 0
EntryFits d read = IfOk read (λ r. FitsEdit d.shape r.0)

edit_fits : (d : Description) (verb : Verb) (leaf : ℕ) (tile : PixelTile) → leaf < cell_count d.shape.top → FitsTile d.shape tile → FitsEdit d.shape (edit_by verb leaf tile)
edit_fits d Put leaf tile small fits = (small, fits)
edit_fits d Add leaf tile small fits = (small, fits)
edit_fits d Replace leaf tile small fits = (small, fits)

tiled_by_fits : (d : Description) (verb : Verb) (leaf : ℕ) (read : Result (List ℤ) TileFault) (rest : List ℕ) → leaf < cell_count d.shape.top → EntryFits d (tiled_by verb leaf (tile_by d read) rest)
tiled_by_fits d verb leaf (Ok numbers) rest small = edit_fits d verb leaf (record { depth = d.shape.depth; n = d.shape.n; numbers = numbers }) small (refl, refl)
tiled_by_fits d verb leaf (Err fault) rest small = tt

entry_by_fits : (d : Description) (line : Line) (bytes : List ℕ) → FitsLine d.shape.top line → EntryFits d (entry_by d line bytes)
unfolding tile_in
entry_by_fits d (Remove leaf) bytes fits = fits
entry_by_fits d (Tiled verb leaf len) bytes fits = either (nat_lt (length bytes) len)
  where
    either : (b : Bool) → EntryFits d (cond b (Err Short) (tiled_by verb leaf (tile_in d (take len bytes)) (drop len bytes)))
    either true = tt
    either false = tiled_by_fits d verb leaf (reads d (take len bytes)) (drop len bytes) fits.0

entry_with_fits : (d : Description) (found : Option (Line × List ℕ)) → IfSome found (λ f. FitsLine d.shape.top f.0) → EntryFits d (entry_with d found)
entry_with_fits d None fits = tt
entry_with_fits d (Some found) fits = entry_by_fits d found.0 found.1 fits

entry_fits : (d : Description) (bytes : List ℕ) → EntryFits d (entry d bytes)
unfolding entry
entry_fits d bytes = entry_with_fits d (line_at d.shape.top bytes) (line_at_fits d.shape.top bytes)

-- ---- all entries

then_fit : (d : Description) (read : ReadEntry) (rest : List ℕ → BatchEntries) → EntryFits d read → ((bytes : List ℕ) → All (FitsEdit d.shape) (rest bytes).edits) →
    All (FitsEdit d.shape) (then_entries read rest).edits
then_fit d (Ok read) rest here later = All-cons (FitsEdit d.shape) read.0 (rest read.1).edits here (later read.1)
then_fit d (Err fault) rest here later = All-nil (FitsEdit d.shape)

entries_fit : (d : Description) (room : ℕ) (bytes : List ℕ) → All (FitsEdit d.shape) (entries_in d room bytes).edits
unfolding entries_in
entries_fit d room [] = All-nil (FitsEdit d.shape)
entries_fit d zero (b ∷ bytes) = All-nil (FitsEdit d.shape)
entries_fit d (suc room) (b ∷ bytes) = then_fit d (entry d (b ∷ bytes)) (entries_in d room) (entry_fits d (b ∷ bytes)) (λ rest. entries_fit d room rest)

pub batch_fits : (d : Description) (bytes : List ℕ) → All (FitsEdit d.shape) (batch_entries d bytes).edits
unfolding batch_entries
batch_fits d [] = All-nil (FitsEdit d.shape)
batch_fits d (b ∷ bytes) = entries_fit d 1024 (b ∷ bytes)
