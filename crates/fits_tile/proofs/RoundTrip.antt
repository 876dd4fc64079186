-- A tile file that is written is read again.
use Rattle.std.proofs.Common.{◌≡◌, ℕ, ◌+◌, ◌-◌, ◌*◌, ◌/◌, ◌^◌, ◌<◌, ◌≤◌, true, false, All, ℤ, pos, List, [], ◌∷◌, ◌++◌, length, drop, replicate, Some, None, Result, Ok, Err, refl, sym, ap, ◌∙◌, arith, length-append}
use Rattle.std.specs.Prelude.{codes}
use Rattle.std.specs.List.{AllByRecursion}
use Rattle.std.specs.Fmt.{signed_decimal}
use Rattle.std.specs.Option.{option_and_then, option_map_or, option_or}
use Rattle.std.proofs.lemmas.List.{drop_at, take_at, length-replicate}
use Rattle.healpix_nested.specs.Cells.{IsCell}
use Rattle.decimal_scale.specs.Real.{real_text}
use Rattle.decimal_scale.specs.Whole.{whole_value}
use Rattle.fits_header.specs.Cards.{whole_blocks}
use Rattle.fits_header.specs.FitsFile.{header_text, in_blocks}
use Rattle.fits_header.specs.Laws.{IsCard, IsInnerCard, MadeCardsAreCards, WrittenValuesAreRead, WrittenHeadersAreRead}
use Rattle.fits_header.specs.Reading.{header_of, values, read_header, is_bad, value_fault, twice_fault}
use Rattle.fits_header.specs.Values.{logical, real, value_text}
use Rattle.fits_header.specs.WrittenCards.{keyword_columns, set_right, value_card, end_card}
use Rattle.fits_header.specs.declared.fault.HeaderFault.{HeaderFault}
use Rattle.fits_header.specs.declared.header.Header.{Header}
use Rattle.parent_rule.specs.Depth.{IsNumber}
use Rattle.survey_conf.specs.Description.{Description, IsDescription}
use Rattle.tile_pixels.specs.Stored.{stored_bytes, numbers_from}
use Rattle.tile_pixels.specs.StoredLaws.{length-stored_bytes, numbers_from-stored_bytes}
use Rattle.fits_tile.specs.TileFile.{data_len, image_cards, cell_cards, tile_cards, tile_file}
use Rattle.fits_tile.specs.Reading.{header_fault, data_fault, numbers_in, reads, reads_after, reads_with}
use Rattle.fits_tile.specs.Laws.{TilesAreReadAgain}
use Rattle.fits_tile.specs.declared.fault.TileFault.{TileFault}
use Rattle.fits_tile.proofs.FitsLemmas.{fits-pos, fits-number, fits-bitpix, fits-width}
use Rattle.fits_tile.proofs.HeaderLemmas.{nowhere, length-header, header-faultless, data-faultless}
use Rattle.fits_tile.proofs.NamedCards.{cards_of, no-ends, goods, never-twice}
use Rattle.fits_tile.proofs.SizeLemmas.{cell-small}
use Rattle.fits_tile.proofs.ValuesRead.{has-kind, simple-of, bitpix-of, naxis-of, naxis1-of, naxis2-of, bscale-of, bzero-of, blank-of}

-- ---- the cards

-- the value columns of a logical value, of a whole number and of a real one
abbrev pub yes : List ℕ
yes = set_right 20 (codes "T")

abbrev pub written : ℤ → List ℕ
written v = set_right 20 (signed_decimal v)

-- the cards of a tile by their value columns
abbrev pub cards_by : Description → ℕ → ℕ → List (List ℕ)
cards_by d k p = cards_of yes (written (pos d.shape.depth.bitpix)) (written (pos 2)) (written (pos (2 ^ d.shape.n))) (written (pos (2 ^ d.shape.n)))
    (set_right 20 (real_text d.bscale)) (set_right 20 (real_text d.bzero)) (written d.shape.depth.blank) (written (pos k)) (written (pos p))

same-cards : (d : Description) (k p : ℕ) → tile_cards d k p ≡ cards_by d k p
unfolding image_cards cell_cards
same-cards d k p = refl

-- what the laws of the header say of them
record Facts (d : Description) (k p : ℕ) : Type 0 where
  made : MadeCardsAreCards
  read : WrittenValuesAreRead
  known : IsDescription d
  order : k ≤ 11
  cell : IsCell k p

cards-inner : (d : Description) (k p : ℕ) → Facts d k p → AllByRecursion IsInnerCard (cards_by d k p)
cards-inner d k p facts =
    let made = facts.made in
    let known = facts.known in
    let bits = d.shape.depth.bitpix in
    let order : k ≤ 11 = facts.order in
    let small : p < 2 ^ 63 = cell-small k p facts.cell in
    let width = fits-width d.shape.n known.shape.greatest_n in (
      record { is = made.of_logical (codes "SIMPLE") true refl; inner = no-ends.simple _ },
      (
        record { is = made.of_integer (codes "BITPIX") (pos bits) refl (fits-bitpix bits known.bitpix); inner = no-ends.bitpix _ },
        (
          record { is = made.of_integer (codes "NAXIS") (pos 2) refl refl; inner = no-ends.naxis _ },
          (
            record { is = made.of_integer (codes "NAXIS1") (pos (2 ^ d.shape.n)) refl width; inner = no-ends.naxis1 _ },
            (
              record { is = made.of_integer (codes "NAXIS2") (pos (2 ^ d.shape.n)) refl width; inner = no-ends.naxis2 _ },
              (
                record { is = made.of_real (codes "BSCALE") d.bscale refl known.bscale; inner = no-ends.bscale _ },
                (
                  record { is = made.of_real (codes "BZERO") d.bzero refl known.bzero; inner = no-ends.bzero _ },
                  (
                    record { is = made.of_integer (codes "BLANK") d.shape.depth.blank refl (fits-number bits d.shape.depth.blank known.bitpix known.blank); inner = no-ends.blank _ },
                    (
                      record { is = made.of_integer (codes "ORDER") (pos k) refl (fits-pos k (omega (arith, order))); inner = no-ends.order _ },
                      (
                        record { is = made.of_integer (codes "NPIX") (pos p) refl (fits-pos p small); inner = no-ends.npix _ },
                        tt,
                      ),
                    ),
                  ),
                ),
              ),
            ),
          ),
        ),
      ),
    )

-- ---- what is read of each

record AreRead (d : Description) : Type 0 where
  simple : option_and_then logical (value_text (value_card (codes "SIMPLE") yes)) ≡ Some true
  bitpix : option_and_then whole_value (value_text (value_card (codes "BITPIX") (written (pos d.shape.depth.bitpix)))) ≡ Some (pos d.shape.depth.bitpix)
  naxis : option_and_then whole_value (value_text (value_card (codes "NAXIS") (written (pos 2)))) ≡ Some (pos 2)
  naxis1 : option_and_then whole_value (value_text (value_card (codes "NAXIS1") (written (pos (2 ^ d.shape.n))))) ≡ Some (pos (2 ^ d.shape.n))
  naxis2 : option_and_then whole_value (value_text (value_card (codes "NAXIS2") (written (pos (2 ^ d.shape.n))))) ≡ Some (pos (2 ^ d.shape.n))
  bscale : option_and_then real (value_text (value_card (codes "BSCALE") (set_right 20 (real_text d.bscale)))) ≡ Some d.bscale
  bzero : option_and_then real (value_text (value_card (codes "BZERO") (set_right 20 (real_text d.bzero)))) ≡ Some d.bzero
  blank : option_and_then whole_value (value_text (value_card (codes "BLANK") (written d.shape.depth.blank))) ≡ Some d.shape.depth.blank

are-read : (d : Description) → WrittenValuesAreRead → IsDescription d → AreRead d
are-read d read known =
    let bits = d.shape.depth.bitpix in
    let width = fits-width d.shape.n known.shape.greatest_n in
    record {
      simple = read.of_logical (codes "SIMPLE") true refl;
      bitpix = read.of_integer (codes "BITPIX") (pos bits) refl (fits-bitpix bits known.bitpix);
      naxis = read.of_integer (codes "NAXIS") (pos 2) refl refl;
      naxis1 = read.of_integer (codes "NAXIS1") (pos (2 ^ d.shape.n)) refl width;
      naxis2 = read.of_integer (codes "NAXIS2") (pos (2 ^ d.shape.n)) refl width;
      bscale = read.of_real (codes "BSCALE") d.bscale refl known.bscale;
      bzero = read.of_real (codes "BZERO") d.bzero refl known.bzero;
      blank = read.of_integer (codes "BLANK") d.shape.depth.blank refl (fits-number bits d.shape.depth.blank known.bitpix known.blank);
    }

none-bad : (d : Description) (k p : ℕ) → AreRead d → value_fault (cards_by d k p) ≡ None
none-bad d k p r =
    let all : AllByRecursion (λ card. is_bad card ≡ false) (cards_by d k p) = (
      goods.simple _ (has-kind logical _ _ r.simple),
      (
        goods.bitpix _ (has-kind whole_value _ _ r.bitpix),
        (
          goods.naxis _ (has-kind whole_value _ _ r.naxis),
          (
            goods.naxis1 _ (has-kind whole_value _ _ r.naxis1),
            (
              goods.naxis2 _ (has-kind whole_value _ _ r.naxis2),
              (
                goods.bscale _ (has-kind real _ _ r.bscale),
                (
                  goods.bzero _ (has-kind real _ _ r.bzero),
                  (
                    goods.blank _ (has-kind whole_value _ _ r.blank),
                    (
                      goods.order _,
                      (
                        goods.npix _,
                        tt,
                      ),
                    ),
                  ),
                ),
              ),
            ),
          ),
        ),
      ),
    ) in
    rw (nowhere is_bad (cards_by d k p) all) refl

none-twice : (d : Description) (k p : ℕ) → twice_fault (cards_by d k p) ≡ None
none-twice d k p = rw (never-twice yes (written (pos d.shape.depth.bitpix)) (written (pos 2)) (written (pos (2 ^ d.shape.n))) (written (pos (2 ^ d.shape.n)))
    (set_right 20 (real_text d.bscale)) (set_right 20 (real_text d.bzero)) (written d.shape.depth.blank) (written (pos k)) (written (pos p))) refl

first-of : (d : Description) (k p : ℕ) → (header_of (cards_by d k p)).first_simple ≡ true
unfolding values value_card keyword_columns
first-of d k p = refl

none-wrong : (d : Description) (k p : ℕ) → AreRead d → header_fault d (header_of (cards_by d k p)) ≡ None
none-wrong d k p r =
    header-faultless d (header_of (cards_by d k p)) (first-of d k p)
    (simple-of _ _ _ _ _ _ _ _ _ _ _ r.simple)
    (bitpix-of _ _ _ _ _ _ _ _ _ _ _ r.bitpix)
    (naxis-of _ _ _ _ _ _ _ _ _ _ _ r.naxis)
    (naxis1-of _ _ _ _ _ _ _ _ _ _ _ r.naxis1)
    (naxis2-of _ _ _ _ _ _ _ _ _ _ _ r.naxis2)
    (bscale-of _ _ _ _ _ _ _ _ _ _ _ r.bscale)
    (bzero-of _ _ _ _ _ _ _ _ _ _ _ r.bzero)
    (blank-of _ _ _ _ _ _ _ _ _ _ _ r.blank)

-- ---- the header that is read

abbrev pub with_end : Description → ℕ → ℕ → List (List ℕ)
with_end d k p = cards_by d k p ++ end_card ∷ []

header-read : (d : Description) (k p : ℕ) (rest : List ℕ) → WrittenHeadersAreRead → Facts d k p
    → read_header (header_text (with_end d k p) ++ rest) ≡ Ok (header_of (cards_by d k p), 2880)
header-read d k p rest headers facts =
    let none : option_or (value_fault (cards_by d k p)) (twice_fault (cards_by d k p)) ≡ None = ap (λ o. option_or o (twice_fault (cards_by d k p))) (none-bad d k p (are-read d facts.read facts.known)) ∙ none-twice d k p in
    headers (cards_by d k p) rest (cards-inner d k p facts) (omega arith)
    ∙ ap (λ o. option_map_or {U = Result (Header × ℕ) HeaderFault} (λ fault. Err fault) o (Ok (header_of (cards_by d k p), 2880))) none

all-cards : (xs : List (List ℕ)) → AllByRecursion IsInnerCard xs → IsCard end_card → AllByRecursion IsCard (xs ++ end_card ∷ [])
all-cards [] all end = (end, tt)
all-cards (x ∷ xs) all end = (all.0.is, all-cards xs all.1 end)

header-fills : (d : Description) (k p : ℕ) → Facts d k p → length (header_text (with_end d k p)) ≡ 2880
header-fills d k p facts = length-header (with_end d k p) (all-cards (cards_by d k p) (cards-inner d k p facts) facts.made.of_end) (omega arith) (omega arith)

-- ---- the data

stored-len : (d : Description) (numbers : List ℤ) → IsDescription d → length numbers ≡ 4 ^ d.shape.n → length (stored_bytes d.shape.depth.bitpix numbers) ≡ data_len d.shape
stored-len d numbers known count = length-stored_bytes d.shape.depth.bitpix numbers known.bitpix ∙ ap (λ n. n * (d.shape.depth.bitpix / 8)) count

filled-len : (bytes : List ℕ) → length (in_blocks 0 bytes) ≡ whole_blocks (length bytes)
filled-len bytes =
    let rest : ℕ = whole_blocks (length bytes) - length bytes in
    length-append bytes (replicate rest 0) ∙ ap (λ n. length bytes + n) (length-replicate rest 0) ∙ omega arith

data-read : (d : Description) (numbers : List ℤ) → IsDescription d → length numbers ≡ 4 ^ d.shape.n → All (IsNumber d.shape.depth.bitpix) numbers
    → numbers_in d (in_blocks 0 (stored_bytes d.shape.depth.bitpix numbers)) ≡ numbers
data-read d numbers known count all =
    let bits = d.shape.depth.bitpix in
    let bytes = stored_bytes bits numbers in
    let rest = replicate (whole_blocks (length bytes) - length bytes) 0 in
    ap (numbers_from bits (4 ^ d.shape.n)) (take_at bytes rest (data_len d.shape) (stored-len d numbers known count))
    ∙ ap (λ n. numbers_from bits n bytes) (sym count)
    ∙ numbers_from-stored_bytes bits numbers known.bitpix all

data-none : (d : Description) (numbers : List ℤ) → IsDescription d → length numbers ≡ 4 ^ d.shape.n
    → data_fault d.shape (length (in_blocks 0 (stored_bytes d.shape.depth.bitpix numbers))) ≡ None
data-none d numbers known count =
    data-faultless d.shape (length (in_blocks 0 (stored_bytes d.shape.depth.bitpix numbers)))
    (filled-len (stored_bytes d.shape.depth.bitpix numbers) ∙ ap whole_blocks (stored-len d numbers known count))

-- ---- the law

pub read-again : MadeCardsAreCards → WrittenValuesAreRead → WrittenHeadersAreRead → TilesAreReadAgain
read-again made read headers d k p numbers known order cell count all =
    let facts : Facts d k p = record { made = made; read = read; known = known; order = order; cell = cell } in
    let header = header_of (cards_by d k p) in
    let rest = in_blocks 0 (stored_bytes d.shape.depth.bitpix numbers) in
    let bytes = header_text (with_end d k p) ++ rest in
    let is : tile_file d k p numbers ≡ bytes = ap (λ cards. header_text (cards ++ end_card ∷ []) ++ rest) (same-cards d k p) in
    let after : drop 2880 bytes ≡ rest = drop_at (header_text (with_end d k p)) rest 2880 (header-fills d k p facts) in
    let none : option_or (header_fault d header) (data_fault d.shape (length rest)) ≡ None = ap (λ o. option_or o (data_fault d.shape (length rest))) (none-wrong d k p (are-read d read known)) ∙ data-none d numbers known count in
    ap (reads d) is
    ∙ ap (reads_with d bytes) (header-read d k p rest headers facts)
    ∙ ap (reads_after d header) after
    ∙ ap (λ o. option_map_or {U = Result (List ℤ) TileFault} (λ fault. Err fault) o (Ok (numbers_in d rest))) none
    ∙ ap Ok (data-read d numbers known count all)
