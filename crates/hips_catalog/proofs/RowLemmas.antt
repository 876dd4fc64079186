-- The line that is written of a row is read as that row, and what is read of a line is written so.
use Rattle.std.proofs.Common.{◌≡◌, ℕ, ◌<◌, ◌≤◌, ◌^◌, Bool, true, false, cond, List, [], ◌∷◌, ◌++◌, length, Option, Some, None, Result, Ok, Err, refl, sym, ap, ◌∙◌, subst, arith, decimal}
use Rattle.std.specs.Prelude.{◌==◌, ◌&&◌, not, nat_lt, nat_le, option_and_then, ok_or}
use Rattle.std.specs.List.{onto_first, list_all, join_with_byte}
use Rattle.std.specs.Str.Parse.{AllDigits, digits_value}
use Rattle.std.proofs.lemmas.Bool.{and_parts}
use Rattle.std.proofs.lemmas.Bool.Decides.{nat_tests}
use Rattle.std.proofs.lemmas.Fmt.{digits_decimal}
use Rattle.std.proofs.lemmas.List.Splits.{slice_split-cons_yes, slice_split-cons_no, join_with_byte-slice_split}
use Rattle.std.proofs.lemmas.Str.Parse.{IsNumeralModel, numerals_by_value, tells_digits, digit_from_value}
use Rattle.healpix_nested.specs.Cells.{cell_count}
use Rattle.healpix_nested.specs.CellLaws.{four_pow_mono}
use Rattle.decimal_scale.specs.Whole.{plain_value}
use Rattle.decimal_scale.specs.Laws.{PlainIsRead}
use Rattle.hips_catalog.specs.Rows.{Source}
use Rattle.hips_catalog.specs.Reading.{tab, fields, is_id, is_rest, rank_in, npix_in, id_in, rest_in, row_by, row_of, read_row, IsRow, row_text, ◌>>=◌}
use Rattle.hips_catalog.specs.Laws.{RowIsRead}
use Rattle.hips_catalog.specs.declared.fault.RowFault.{RowFault}
use Rattle.hips_catalog.specs.declared.fault.RowFault.TheVariants.{Rank, Npix, Id, Rest}

-- ---- what has no TAB

abbrev is_tab : ℕ → Bool
is_tab byte = byte == tab

abbrev LacksTab : List ℕ → Type 0
LacksTab [] = Unit {0}
LacksTab (b ∷ bs) = (is_tab b ≡ false) × LacksTab bs

last_field : (text : List ℕ) → LacksTab text → fields text ≡ text ∷ []
last_field [] none = refl
last_field (b ∷ bs) none = slice_split-cons_no is_tab b bs none.0 ∙ ap (onto_first b) (last_field bs none.1)

first_field : (text more : List ℕ) → LacksTab text → fields (text ++ tab ∷ more) ≡ text ∷ fields more
first_field [] more none = slice_split-cons_yes is_tab tab more refl
first_field (b ∷ bs) more none = slice_split-cons_no is_tab b (bs ++ tab ∷ more) none.0 ∙ ap (onto_first b) (first_field bs more none.1)

own : IsNumeralModel (AllDigits 10) (digits_value 10)
own = numerals_by_value (AllDigits 10) tells_digits

digits_lack : (ds : List ℕ) → AllDigits 10 ds → LacksTab ds
digits_lack [] digits = tt
digits_lack (c ∷ cs) digits = let range = digit_from_value c digits.0 in let here : is_tab c ≡ false = grind (arith, nat_tests) in (here, digits_lack cs digits.1)

decimal_lacks : (n : ℕ) → n < 2 ^ 64 → LacksTab (decimal n)
decimal_lacks n small = digits_lack (decimal n) (digits_decimal own n small)

all_lack : (test : ℕ → Bool) → ((b : ℕ) → test b ≡ true → is_tab b ≡ false) → (text : List ℕ) → list_all test text ≡ true → LacksTab text
all_lack test apart [] all = tt
all_lack test apart (b ∷ bs) all = let parts = and_parts (test b) (list_all test bs) all in (apart b parts.0, all_lack test apart bs parts.1)

seen : (b : ℕ) → (nat_le 33 b && nat_le b 126) ≡ true → is_tab b ≡ false
seen b is = let parts = and_parts (nat_le 33 b) (nat_le b 126) is in grind (arith, nat_tests)

printed : (b : ℕ) → (nat_le 32 b && not (b == 127)) ≡ true → is_tab b ≡ false
printed b is = let parts = and_parts (nat_le 32 b) (not (b == 127)) is in grind (arith, nat_tests)

id_lacks : (text : List ℕ) → is_id text ≡ true → LacksTab text
unfolding is_id
id_lacks text is =
    let parts = and_parts (nat_le 1 (length text) && nat_le (length text) 64) (list_all (λ byte. nat_le 33 byte && nat_le byte 126) text) is in
    all_lack (λ byte. nat_le 33 byte && nat_le byte 126) seen text parts.1

rest_lacks : (text : List ℕ) → is_rest text ≡ true → LacksTab text
unfolding is_rest
rest_lacks text is =
    let parts = and_parts (nat_le (length text) 256) (list_all (λ byte. nat_le 32 byte && not (byte == 127)) text) is in
    all_lack (λ byte. nat_le 32 byte && not (byte == 127)) printed text parts.1

-- ---- a row that is written

cell_small : (top npix : ℕ) → top ≤ 11 → npix < cell_count top → npix < 2 ^ 64
cell_small top npix few below = let most = four_pow_mono top 11 few in omega arith

npix_written : PlainIsRead → (top npix : ℕ) → npix < 2 ^ 64 → npix < cell_count top → npix_in top (decimal npix) ≡ Ok npix
unfolding npix_in
npix_written law top npix small below =
    let within : nat_lt npix (cell_count top) ≡ true = grind (arith, nat_tests) in
    rw (law.written npix small) (rw within refl)

row_written : PlainIsRead → (top : ℕ) → top ≤ 11 → (row : Source) → IsRow top row → row_by top (decimal row.rank) (decimal row.npix) row.id row.rest ≡ Ok row
unfolding row_by rank_in id_in rest_in
row_written law top few row is =
    let small : row.npix < 2 ^ 64 = cell_small top row.npix few is.npix.in_order in
    rw (law.written row.rank is.rank) (rw (npix_written law top row.npix small is.npix.in_order) (rw is.id (rw is.rest refl)))

fields_written : (top : ℕ) → top ≤ 11 → (row : Source) → IsRow top row → fields (row_text row) ≡ decimal row.rank ∷ (decimal row.npix ∷ (row.id ∷ (row.rest ∷ [])))
fields_written top few row is =
    let small : row.npix < 2 ^ 64 = cell_small top row.npix few is.npix.in_order in
    first_field (decimal row.rank) (decimal row.npix ++ tab ∷ (row.id ++ tab ∷ row.rest)) (decimal_lacks row.rank is.rank)
    ∙ ap (λ more. decimal row.rank ∷ more) (first_field (decimal row.npix) (row.id ++ tab ∷ row.rest) (decimal_lacks row.npix small)
    ∙ ap (λ more. decimal row.npix ∷ more) (first_field row.id row.rest (id_lacks row.id is.id) ∙ ap (λ more. row.id ∷ more) (last_field row.rest (rest_lacks row.rest is.rest))))

written : PlainIsRead → (top : ℕ) → top ≤ 11 → (row : Source) → IsRow top row → read_row top (row_text row) ≡ Ok row
unfolding read_row
written law top few row is = ap (row_of top) (fields_written top few row is) ∙ row_written law top few row is

-- ---- a row that is read

record Bound {A B : Type 0} (found : Result A RowFault) (next : A → Result B RowFault) (y : B) : Type 0 where
  pub value : A
  pub is : found ≡ Ok value
  pub then : next value ≡ Ok y

bound : {A B : Type 0} (found : Result A RowFault) (next : A → Result B RowFault) (y : B) → (found >>= next) ≡ Ok y → Bound found next y
bound (Ok x) next y e = record { value = x; is = refl; then = e }
bound (Err fault) next y e = cc

number_read : PlainIsRead → (text : List ℕ) (value : Option ℕ) (fault : RowFault) (n : ℕ) → plain_value text ≡ value → ok_or value fault ≡ Ok n → (text ≡ decimal n) × (n < 2 ^ 64)
number_read law text None fault n is e = cc
number_read law text (Some m) fault n is e = let same : m ≡ n = cc in law.read text n (is ∙ ap Some same)

rank_read : PlainIsRead → (text : List ℕ) (n : ℕ) → rank_in text ≡ Ok n → (text ≡ decimal n) × (n < 2 ^ 64)
unfolding rank_in
rank_read law text n e = number_read law text (plain_value text) Rank n refl e

below_read : (limit m n : ℕ) (t : Bool) → nat_lt m limit ≡ t → ok_or (cond t (Some m) None) Npix ≡ Ok n → (m ≡ n) × (n < limit)
below_read limit m n true is e = let same : m ≡ n = cc in (same, grind (arith, nat_tests))
below_read limit m n false is e = cc

npix_from : PlainIsRead → (top : ℕ) (text : List ℕ) (value : Option ℕ) (n : ℕ) → plain_value text ≡ value →
    ok_or (option_and_then (λ m. cond (nat_lt m (cell_count top)) (Some m) None) value) Npix ≡ Ok n → (text ≡ decimal n) × (n < cell_count top)
npix_from law top text None n is e = cc
npix_from law top text (Some m) n is e =
    let below = below_read (cell_count top) m n (nat_lt m (cell_count top)) refl e in
    ((law.read text m is).0 ∙ ap decimal below.0, below.1)

npix_read : PlainIsRead → (top : ℕ) (text : List ℕ) (n : ℕ) → npix_in top text ≡ Ok n → (text ≡ decimal n) × (n < cell_count top)
unfolding npix_in
npix_read law top text n e = npix_from law top text (plain_value text) n refl e

chosen : (text found : List ℕ) (fault : RowFault) (t : Bool) → cond t (Ok text) (Err fault) ≡ Ok found → (text ≡ found) × (t ≡ true)
chosen text found fault true e = (cc, refl)
chosen text found fault false e = cc

id_read : (text found : List ℕ) → id_in text ≡ Ok found → (text ≡ found) × (is_id found ≡ true)
unfolding id_in
id_read text found e = let is = chosen text found Id (is_id text) e in (is.0, ap is_id (sym is.0) ∙ is.1)

rest_read : (text found : List ℕ) → rest_in text ≡ Ok found → (text ≡ found) × (is_rest found ≡ true)
unfolding rest_in
rest_read text found e = let is = chosen text found Rest (is_rest text) e in (is.0, ap is_rest (sym is.0) ∙ is.1)

joined : (top : ℕ) → top ≤ 11 → (a b c d : List ℕ) (rank npix : ℕ) (id rest : List ℕ) →
    a ≡ decimal rank → rank < 2 ^ 64 → b ≡ decimal npix → npix < cell_count top → c ≡ id → is_id id ≡ true → d ≡ rest → is_rest rest ≡ true →
    (a ++ tab ∷ (b ++ tab ∷ (c ++ tab ∷ d)) ≡ row_text (record { rank = rank; npix = npix; id = id; rest = rest })) × IsRow top (record { rank = rank; npix = npix; id = id; rest = rest })
joined top few a b c d rank npix id rest is_a small is_b below is_c id_is is_d rest_is = (
  rw is_a (rw is_b (rw is_c (rw is_d refl))),
  record { rank = small; npix = record { known_order = omega arith; in_order = below }; id = id_is; rest = rest_is },
)

by_fields : PlainIsRead → (top : ℕ) → top ≤ 11 → (a b c d : List ℕ) (row : Source) → row_by top a b c d ≡ Ok row → (a ++ tab ∷ (b ++ tab ∷ (c ++ tab ∷ d)) ≡ row_text row) × IsRow top row
unfolding row_by
by_fields law top few a b c d row e =
    let rank = bound (rank_in a) _ row e in
    let npix = bound (npix_in top b) _ row rank.then in
    let id = bound (id_in c) _ row npix.then in
    let rest = bound (rest_in d) _ row id.then in
    let made : record { rank = rank.value; npix = npix.value; id = id.value; rest = rest.value } ≡ row = cc (rest.then) in
    let rank_is = rank_read law a rank.value rank.is in
    let npix_is = npix_read law top b npix.value npix.is in
    let id_is = id_read c id.value id.is in
    let rest_is = rest_read d rest.value rest.is in
    subst (λ r. (a ++ tab ∷ (b ++ tab ∷ (c ++ tab ∷ d)) ≡ row_text r) × IsRow top r) made
    (joined top few a b c d rank.value npix.value id.value rest.value rank_is.0 rank_is.1 npix_is.0 npix_is.1 id_is.0 id_is.1 rest_is.0 rest_is.1)

row_from : PlainIsRead → (top : ℕ) → top ≤ 11 → (parts : List (List ℕ)) (row : Source) → row_of top parts ≡ Ok row → (join_with_byte tab parts ≡ row_text row) × IsRow top row
row_from law top few [] row e = cc
row_from law top few (a ∷ []) row e = cc
row_from law top few (a ∷ b ∷ []) row e = cc
row_from law top few (a ∷ b ∷ c ∷ []) row e = cc
row_from law top few (a ∷ b ∷ c ∷ d ∷ []) row e = by_fields law top few a b c d row e
row_from law top few (a ∷ b ∷ c ∷ d ∷ f ∷ more) row e = cc

read : PlainIsRead → (top : ℕ) → top ≤ 11 → (line : List ℕ) (row : Source) → read_row top line ≡ Ok row → (line ≡ row_text row) × IsRow top row
unfolding read_row
read law top few line row e =
    let found = row_from law top few (fields line) row e in
    (sym (join_with_byte-slice_split tab line) ∙ found.0, found.1)

pub row_is_read : PlainIsRead → (top : ℕ) → top ≤ 11 → RowIsRead top
row_is_read law top few = record { written = written law top few; read = read law top few }
