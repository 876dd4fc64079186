-- The rows of a coverage file stand behind its two headers, and nothing but zero bytes follows them.
use Rattle.std.proofs.Common.{◌≡◌, inl, inr, ℕ, zero, suc, ◌+◌, ◌-◌, ◌*◌, ◌/◌, ◌^◌, ◌<◌, ◌≤◌, Bool, eqb, true, List, [], ◌∷◌, ◌++◌, length, take, drop, get_or, slice_index, replicate, pos, codes, All, refl, sym, ap, ap₂, ◌∙◌, subst, arith, append_assoc, length-append, take_all, length-drop, take-append-drop, mod-eq_of_lt}
use Rattle.std.specs.List.{concat, list_all, AllByRecursion}
use Rattle.std.proofs.lemmas.Bool.{cases_lt, eq-eqb, eqb-true}
use Rattle.std.proofs.lemmas.Bool.Decides.{nat_tests}
use Rattle.std.proofs.lemmas.List.{drop-drop, drop_at, take-append-le, get_or_default, same_lists, get_or_past, get_or-replicate, length-replicate}
use Rattle.std.proofs.lemmas.List.Elements.{All-head, All-tail, All-get_or}
use Rattle.byteorder.specs.Endian.{big_from, big_number, big_bytes}
use Rattle.byteorder.specs.Numbers.{big_from-bytes, length-bytes_high_first}
use Rattle.fits_header.specs.Cards.{whole_blocks}
use Rattle.fits_header.specs.FitsFile.{in_blocks, header_text}
use Rattle.fits_header.specs.Laws.{MadeCardsAreCards}
use Rattle.decimal_scale.specs.Whole.{fits_64_bits}
use Rattle.coverage_moc.specs.Cover.{cover}
use Rattle.coverage_moc.specs.CoverFile.{IsRow, HoldsRows, primary_cards, table_cards, row_bytes, moc_file}
use Rattle.healpix_nested.specs.CellLaws.{four_pow_mono}
use Rattle.coverage_moc.proofs.MemberLemmas.{all_from_has, all_pass, pass_all, has_at, place_of}
use Rattle.coverage_moc.proofs.TreeLemmas.{cover_bounds}
use Rattle.coverage_moc.proofs.CanonLemmas.{cover_few}

-- ---- rows as bytes

pub length-row_bytes : (rows : List ℕ) → length (row_bytes rows) ≡ 8 * length rows
length-row_bytes [] = refl
length-row_bytes (row ∷ rows) = length-append (big_bytes 8 row) (row_bytes rows) ∙ (let a : length (big_bytes 8 row) ≡ 8 = length-bytes_high_first 8 row in let b : length (row_bytes rows) ≡ 8 * length rows = length-row_bytes rows in omega arith)

pub row_at : (rows rest : List ℕ) (i : ℕ) → All IsRow rows → i < length rows → big_number 8 (drop (8 * i) (row_bytes rows ++ rest)) ≡ get_or rows i 0
row_at [] rest i all within = absurd (omega arith)
row_at (row ∷ rows) rest zero all within =
    let of : IsRow row = All-head IsRow row rows all in
    let low : row < 2 ^ 64 = of.1 in
    ap (big_from 0 8) (append_assoc (big_bytes 8 row) (row_bytes rows) rest) ∙ big_from-bytes 8 row (row_bytes rows ++ rest) ∙ mod-eq_of_lt (omega arith)
row_at (row ∷ rows) rest (suc i) all within =
    let place : 8 * suc i ≡ 8 + 8 * i = omega arith in
    ap (big_from 0 8) (ap₂ (λ (n : ℕ) (zs : List ℕ). drop n zs) place (append_assoc (big_bytes 8 row) (row_bytes rows) rest)
    ∙ sym (drop-drop (8 * i) 8 (big_bytes 8 row ++ (row_bytes rows ++ rest)))
    ∙ ap (drop (8 * i)) (drop_at (big_bytes 8 row) (row_bytes rows ++ rest) 8 (length-bytes_high_first 8 row)))
    ∙ row_at rows rest i (All-tail IsRow row rows all) (omega arith)

pub big_zero : (n i : ℕ) (bytes : List ℕ) → ((j : ℕ) → slice_index bytes j ≡ 0) → big_from i n bytes ≡ 0
big_zero zero i bytes none = refl
big_zero (suc n) i bytes none =
    let first : slice_index bytes i ≡ 0 = none i in
    let rest : big_from (suc i) n bytes ≡ 0 = big_zero n (suc i) bytes none in
    ap₂ (λ (a b : ℕ). a * 256 ^ n + b) first rest ∙ (omega arith)

-- ---- one row read

-- the bytes from a place on
pub word_read : (bytes : List ℕ) (start : ℕ) → big_number 8 (take (length bytes - start) (drop start bytes)) ≡ big_number 8 (drop start bytes)
word_read bytes start = ap (big_from 0 8) (take_all (length bytes - start) (drop start bytes) (omega (arith, length-drop start bytes)))

-- ---- the headers

length-concat : (cards : List (List ℕ)) → AllByRecursion (λ card. length card ≡ 80) cards → length (concat cards) ≡ 80 * length cards
length-concat [] all = refl
length-concat (card ∷ cards) all = length-append card (concat cards) ∙ (let a : length card ≡ 80 = all.0 in let b : length (concat cards) ≡ 80 * length cards = length-concat cards all.1 in omega arith)

length-in_blocks : (byte : ℕ) (bytes : List ℕ) → length (in_blocks byte bytes) ≡ whole_blocks (length bytes)
length-in_blocks byte bytes = length-append bytes (replicate (whole_blocks (length bytes) - length bytes) byte) ∙ (let r : length (replicate (whole_blocks (length bytes) - length bytes) byte) ≡ whole_blocks (length bytes) - length bytes = length-replicate (whole_blocks (length bytes) - length bytes) byte in omega arith)

length-header_text : (cards : List (List ℕ)) → AllByRecursion (λ card. length card ≡ 80) cards → length (header_text cards) ≡ whole_blocks (80 * length cards)
unfolding header_text
length-header_text cards all = length-in_blocks 32 (concat cards) ∙ ap whole_blocks (length-concat cards all)

fits : (n : ℕ) → n < 2 ^ 32 → fits_64_bits (pos n) ≡ true
fits n h = grind (arith, nat_tests)

pub length-primary : MadeCardsAreCards → length (header_text primary_cards) ≡ 2880
unfolding primary_cards
length-primary made = length-header_text primary_cards (
  (made.of_logical (codes "SIMPLE") true refl).len,
  (
    (made.of_integer (codes "BITPIX") (pos 8) refl (fits 8 (omega arith))).len,
    (
      (made.of_integer (codes "NAXIS") (pos 0) refl (fits 0 (omega arith))).len,
      (
        (made.of_logical (codes "EXTEND") true refl).len,
        (made.of_end.len, tt),
      ),
    ),
  ),
)

pub length-table : MadeCardsAreCards → (top count : ℕ) → top < 2 ^ 32 → count < 2 ^ 32 → length (header_text (table_cards top count)) ≡ 2880
unfolding table_cards
length-table made top count low few = length-header_text (table_cards top count) (
  (made.of_text (codes "XTENSION") (codes "BINTABLE") refl refl).len,
  (
    (made.of_integer (codes "BITPIX") (pos 8) refl (fits 8 (omega arith))).len,
    (
      (made.of_integer (codes "NAXIS") (pos 2) refl (fits 2 (omega arith))).len,
      (
        (made.of_integer (codes "NAXIS1") (pos 8) refl (fits 8 (omega arith))).len,
        (
          (made.of_integer (codes "NAXIS2") (pos count) refl (fits count few)).len,
          (
            (made.of_integer (codes "PCOUNT") (pos 0) refl (fits 0 (omega arith))).len,
            (
              (made.of_integer (codes "GCOUNT") (pos 1) refl (fits 1 (omega arith))).len,
              (
                (made.of_integer (codes "TFIELDS") (pos 1) refl (fits 1 (omega arith))).len,
                (
                  (made.of_text (codes "TTYPE1") (codes "UNIQ") refl refl).len,
                  (
                    (made.of_text (codes "TFORM1") (codes "1K") refl refl).len,
                    (
                      (made.of_text (codes "PIXTYPE") (codes "HEALPIX") refl refl).len,
                      (
                        (made.of_text (codes "ORDERING") (codes "NUNIQ") refl refl).len,
                        (
                          (made.of_text (codes "COORDSYS") (codes "C") refl refl).len,
                          (
                            (made.of_integer (codes "MOCORDER") (pos top) refl (fits top low)).len,
                            (made.of_end.len, tt),
                          ),
                        ),
                      ),
                    ),
                  ),
                ),
              ),
            ),
          ),
        ),
      ),
    ),
  ),
)

-- ---- the file

zeros : (n j : ℕ) → slice_index (replicate n 0) j ≡ 0
zeros n j = elim (cases_lt j n) [
  | inl lt ↦ get_or-replicate n j 0 0 lt
  | inr ge ↦ get_or_past (replicate n 0) j 0 (subst (λ (z : ℕ). z ≤ j) (sym (length-replicate n 0)) ge)
]

holds_rows : MadeCardsAreCards → (top : ℕ) (rows bytes : List ℕ) → top ≤ 11 → length rows < 2 ^ 32 → moc_file top rows ≡ bytes → HoldsRows bytes rows
unfolding moc_file
holds_rows made top rows bytes few small e =
    let headers : List ℕ = header_text primary_cards ++ header_text (table_cards top (length rows)) in
    let len : length headers ≡ 5760 = length-append (header_text primary_cards) (header_text (table_cards top (length rows))) ∙ ap₂ (λ (a b : ℕ). a + b) (length-primary made) (length-table made top (length rows) (omega arith) small) in
    let parts : moc_file top rows ≡ headers ++ in_blocks 0 (row_bytes rows) = sym (append_assoc (header_text primary_cards) (header_text (table_cards top (length rows))) (in_blocks 0 (row_bytes rows))) in (
      replicate (whole_blocks (length (row_bytes rows)) - length (row_bytes rows)) 0,
      ap (drop 5760) (sym e ∙ parts) ∙ drop_at headers (in_blocks 0 (row_bytes rows)) 5760 len,
      zeros (whole_blocks (length (row_bytes rows)) - length (row_bytes rows)),
    )

pub rows_of_cover : (top : ℕ) (cells : List ℕ) → top ≤ 11 → All IsRow (cover top cells)
rows_of_cover top cells few =
    let most : 4 ^ top ≤ 4 ^ 11 = four_pow_mono top 11 few in
    all_from_has IsRow (cover top cells) (λ row h.
    let b : (4 ≤ row) × (row < 16 * 4 ^ top) = cover_bounds top cells row h in
    let low : 4 ≤ row = b.0 in
    let high : row < 16 * 4 ^ top = b.1 in
    (omega arith, omega arith))

pub holds_cover : MadeCardsAreCards → (top : ℕ) (cells bytes : List ℕ) → top ≤ 11 → moc_file top (cover top cells) ≡ bytes → HoldsRows bytes (cover top cells)
holds_cover made top cells bytes few e = holds_rows made top (cover top cells) bytes few (cover_few top (cover top cells) cells few refl) e

-- ---- the file in its parts

pub file_parts : (top : ℕ) (rows : List ℕ) → moc_file top rows ≡ (header_text primary_cards ++ header_text (table_cards top (length rows))) ++ (row_bytes rows ++ replicate (whole_blocks (8 * length rows) - 8 * length rows) 0)
unfolding moc_file
file_parts top rows =
    sym (append_assoc (header_text primary_cards) (header_text (table_cards top (length rows))) (in_blocks 0 (row_bytes rows)))
    ∙ ap (λ (m : ℕ). (header_text primary_cards ++ header_text (table_cards top (length rows))) ++ (row_bytes rows ++ replicate (whole_blocks m - m) 0)) (length-row_bytes rows)

length-headers : MadeCardsAreCards → (top count : ℕ) → top < 2 ^ 32 → count < 2 ^ 32 → length (header_text primary_cards ++ header_text (table_cards top count)) ≡ 5760
length-headers made top count low few = length-append (header_text primary_cards) (header_text (table_cards top count)) ∙ ap₂ (λ (a b : ℕ). a + b) (length-primary made) (length-table made top count low few)

pub file_length : MadeCardsAreCards → (top : ℕ) (rows bytes : List ℕ) → top < 2 ^ 32 → length rows < 2 ^ 32 → moc_file top rows ≡ bytes → length bytes ≡ 5760 + whole_blocks (8 * length rows)
file_length made top rows bytes low few e =
    let headers : List ℕ = header_text primary_cards ++ header_text (table_cards top (length rows)) in
    let rest : List ℕ = replicate (whole_blocks (8 * length rows) - 8 * length rows) 0 in
    let a : length headers ≡ 5760 = length-headers made top (length rows) low few in
    let b : length (row_bytes rows) ≡ 8 * length rows = length-row_bytes rows in
    let c : length rest ≡ whole_blocks (8 * length rows) - 8 * length rows = length-replicate (whole_blocks (8 * length rows) - 8 * length rows) 0 in
    ap length (sym e ∙ file_parts top rows) ∙ length-append headers (row_bytes rows ++ rest) ∙ ap (λ (m : ℕ). length headers + m) (length-append (row_bytes rows) rest) ∙ (omega arith)

pub file_front : MadeCardsAreCards → (top : ℕ) (rows bytes : List ℕ) → top < 2 ^ 32 → length rows < 2 ^ 32 → moc_file top rows ≡ bytes → take 5760 bytes ≡ header_text primary_cards ++ header_text (table_cards top (length rows))
file_front made top rows bytes low few e =
    let headers : List ℕ = header_text primary_cards ++ header_text (table_cards top (length rows)) in
    let a : length headers ≡ 5760 = length-headers made top (length rows) low few in
    ap (take 5760) (sym e ∙ file_parts top rows)
    ∙ take-append-le 5760 headers (row_bytes rows ++ replicate (whole_blocks (8 * length rows) - 8 * length rows) 0) (omega arith)
    ∙ take_all 5760 headers (omega arith)

pub file_end : MadeCardsAreCards → (top : ℕ) (rows bytes : List ℕ) → top < 2 ^ 32 → length rows < 2 ^ 32 → moc_file top rows ≡ bytes → drop (5760 + 8 * length rows) bytes ≡ replicate (whole_blocks (8 * length rows) - 8 * length rows) 0
file_end made top rows bytes low few e =
    let headers : List ℕ = header_text primary_cards ++ header_text (table_cards top (length rows)) in
    let rest : List ℕ = replicate (whole_blocks (8 * length rows) - 8 * length rows) 0 in
    ap (drop (5760 + 8 * length rows)) (sym e ∙ file_parts top rows)
    ∙ sym (drop-drop (8 * length rows) 5760 (headers ++ (row_bytes rows ++ rest)))
    ∙ ap (drop (8 * length rows)) (drop_at headers (row_bytes rows ++ rest) 5760 (length-headers made top (length rows) low few))
    ∙ drop_at (row_bytes rows) rest (8 * length rows) (length-row_bytes rows)

pub file_from_parts : (top : ℕ) (rows bytes : List ℕ) → length bytes ≡ 5760 + whole_blocks (8 * length rows) → take 5760 bytes ≡ header_text primary_cards ++ header_text (table_cards top (length rows))
    → row_bytes rows ++ drop (5760 + 8 * length rows) bytes ≡ drop 5760 bytes → drop (5760 + 8 * length rows) bytes ≡ replicate (length (drop (5760 + 8 * length rows) bytes)) 0 → moc_file top rows ≡ bytes
file_from_parts top rows bytes len front written end =
    let count : length (drop (5760 + 8 * length rows) bytes) ≡ whole_blocks (8 * length rows) - 8 * length rows = length-drop (5760 + 8 * length rows) bytes ∙ (omega arith) in
    file_parts top rows
    ∙ ap₂ (λ (xs ys : List ℕ). xs ++ ys) (sym front) (ap (λ (m : ℕ). row_bytes rows ++ replicate m 0) (sym count) ∙ ap (λ (zs : List ℕ). row_bytes rows ++ zs) (sym end) ∙ written)
    ∙ take-append-drop 5760 bytes

zero_at : (zs : List ℕ) → list_all (λ byte. eqb byte 0) zs ≡ true → (k d : ℕ) → k < length zs → get_or zs k d ≡ 0
zero_at zs pass k d h = sym (get_or_default zs k 0 d h) ∙ eqb-true (get_or zs k 0) 0 (all_pass (λ byte. eqb byte 0) zs pass (get_or zs k 0) (has_at zs k h))

all_zero : (zs : List ℕ) → list_all (λ byte. eqb byte 0) zs ≡ true → zs ≡ replicate (length zs) 0
all_zero zs pass = same_lists zs (replicate (length zs) 0) (sym (length-replicate (length zs) 0)) (λ k d h. zero_at zs pass k d h ∙ sym (get_or-replicate (length zs) k 0 d h))

zeros_pass : (n : ℕ) → list_all (λ byte. eqb byte 0) (replicate n 0) ≡ true
zeros_pass n = pass_all (λ byte. eqb byte 0) (replicate n 0) (λ x h.
    let p : (i : ℕ) × (i < length (replicate n 0)) × (get_or (replicate n 0) i 0 ≡ x) = place_of (replicate n 0) x h in
    eq-eqb x 0 (sym p.2 ∙ zeros n p.0))

-- where the lengths and the headers agree, the bytes behind the rows decide
pub file_decided : MadeCardsAreCards → (top : ℕ) (rows bytes : List ℕ) (zero_behind : Bool) → top < 2 ^ 32 → length rows < 2 ^ 32 → length bytes ≡ 5760 + whole_blocks (8 * length rows)
    → take 5760 bytes ≡ header_text primary_cards ++ header_text (table_cards top (length rows)) → row_bytes rows ++ drop (5760 + 8 * length rows) bytes ≡ drop 5760 bytes
    → zero_behind ≡ list_all (λ byte. eqb byte 0) (take (length bytes - (5760 + 8 * length rows)) (drop (5760 + 8 * length rows) bytes))
    → (zero_behind ≡ true → moc_file top rows ≡ bytes) × (moc_file top rows ≡ bytes → zero_behind ≡ true)
file_decided made top rows bytes zero_behind low few len front written is =
    let whole : take (length bytes - (5760 + 8 * length rows)) (drop (5760 + 8 * length rows) bytes) ≡ drop (5760 + 8 * length rows) bytes =
    take_all (length bytes - (5760 + 8 * length rows)) (drop (5760 + 8 * length rows) bytes) (omega (arith, length-drop (5760 + 8 * length rows) bytes)) in
    let tested : zero_behind ≡ list_all (λ byte. eqb byte 0) (drop (5760 + 8 * length rows) bytes) = is ∙ ap (list_all (λ byte. eqb byte 0)) whole in (
      λ h. file_from_parts top rows bytes len front written (all_zero (drop (5760 + 8 * length rows) bytes) (sym tested ∙ h)),
      λ e. tested ∙ ap (list_all (λ byte. eqb byte 0)) (file_end made top rows bytes low few e) ∙ zeros_pass (whole_blocks (8 * length rows) - 8 * length rows),
    )
