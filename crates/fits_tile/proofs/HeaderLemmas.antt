-- The header of a tile as it is written, and its faults.
use Rattle.std.proofs.Common.{◌≡◌, ℕ, ◌+◌, ◌-◌, ◌*◌, ◌^◌, ◌≤◌, Bool, true, false, not, ◌&&◌, ℤ, pos, List, [], ◌∷◌, length, replicate, Option, Some, None, refl, ap, ◌∙◌, arith, length-append}
use Rattle.std.specs.Prelude.{nat_lt, position, unwrap_or}
use Rattle.std.specs.List.{AllByRecursion, concat, position_or_len}
use Rattle.std.proofs.lemmas.Bool.Decides.{nat_tests}
use Rattle.std.proofs.lemmas.List.{length-replicate}
use Rattle.decimal_scale.specs.Real.{DecimalNumber}
use Rattle.fits_header.specs.Cards.{whole_blocks}
use Rattle.fits_header.specs.FitsFile.{header_text}
use Rattle.fits_header.specs.Laws.{IsCard}
use Rattle.fits_header.specs.declared.header.Header.{Header}
use Rattle.parent_rule.specs.CombinedLaws.{int_eq-self}
use Rattle.pyramid_model.specs.Shape.{PyramidShape}
use Rattle.survey_conf.specs.Description.{Description, real_one, real_zero}
use Rattle.fits_tile.specs.TileFile.{data_len}
use Rattle.fits_tile.specs.Reading.{is_other, is_same, blank_fault, header_fault, data_fault}

-- ---- no card is bad

none-before : {A : Type 0} (p : A → Bool) (xs : List A) → AllByRecursion (λ x. p x ≡ false) xs → position_or_len p xs ≡ length xs
none-before p [] none = refl
none-before p (x ∷ xs) none = rw (none.0, none-before p xs none.1) (omega arith)

pub nowhere : {A : Type 0} (p : A → Bool) (xs : List A) → AllByRecursion (λ x. p x ≡ false) xs → position p xs ≡ None
nowhere p xs none =
    let past : nat_lt (length xs) (length xs) ≡ false = grind (arith, nat_tests) in
    rw (none-before p xs none, past) refl

-- ---- how long a header is

length-concat : (cards : List (List ℕ)) → AllByRecursion IsCard cards → length (concat cards) ≡ 80 * length cards
length-concat [] all = refl
length-concat (card ∷ cards) all =
    let first : length card ≡ 80 = all.0.len in
    let rest : length (concat cards) ≡ 80 * length cards = length-concat cards all.1 in
    length-append card (concat cards) ∙ omega (arith, first, rest)

pub length-header : (cards : List (List ℕ)) → AllByRecursion IsCard cards → 1 ≤ length cards → length cards ≤ 36 → length (header_text cards) ≡ 2880
unfolding header_text
length-header cards all some few =
    let used : length (concat cards) ≡ 80 * length cards = length-concat cards all in
    let rest : ℕ = whole_blocks (length (concat cards)) - length (concat cards) in
    length-append (concat cards) (replicate rest 32)
    ∙ ap (λ n. length (concat cards) + n) (length-replicate rest 32)
    ∙ omega (arith, used)

-- ---- values that are the survey's are no faults

pub not-other : (v : ℤ) (found : Option ℤ) → found ≡ Some v → is_other v found ≡ false
not-other v found e = ap (is_other v) e ∙ ap not (int_eq-self v)

same-self : (x : DecimalNumber) → is_same x x ≡ true
same-self x = rw (int_eq-self x.mantissa, int_eq-self x.exp) refl

pub same-found : (found : Option DecimalNumber) (absent x : DecimalNumber) → found ≡ Some x → is_same (unwrap_or found absent) x ≡ true
same-found found absent x e = ap (λ o. is_same (unwrap_or o absent) x) e ∙ same-self x

pub header-faultless : (d : Description) (h : Header) → h.first_simple ≡ true → h.simple ≡ Some true
    → h.bitpix ≡ Some (pos d.shape.depth.bitpix) → h.naxis ≡ Some (pos 2)
    → h.naxis1 ≡ Some (pos (2 ^ d.shape.n)) → h.naxis2 ≡ Some (pos (2 ^ d.shape.n))
    → h.bscale ≡ Some d.bscale → h.bzero ≡ Some d.bzero → h.blank ≡ Some d.shape.depth.blank
    → header_fault d h ≡ None
unfolding header_fault
header-faultless d h first simple bitpix naxis naxis1 naxis2 bscale bzero blank =
    let conforms : (h.first_simple && unwrap_or h.simple false) ≡ true = ap (λ b. b && unwrap_or h.simple false) first ∙ ap (λ o. unwrap_or o false) simple in
    let no_blank : blank_fault d.shape.depth h.blank ≡ None = ap (blank_fault d.shape.depth) blank ∙ rw (int_eq-self d.shape.depth.blank) refl in
    rw (
      conforms,
      not-other (pos d.shape.depth.bitpix) h.bitpix bitpix,
      not-other (pos 2) h.naxis naxis,
      not-other (pos (2 ^ d.shape.n)) h.naxis1 naxis1,
      not-other (pos (2 ^ d.shape.n)) h.naxis2 naxis2,
      same-found h.bscale real_one d.bscale bscale,
      same-found h.bzero real_zero d.bzero bzero,
    ) no_blank

-- whole blocks of data are neither too few nor too many bytes
pub data-faultless : (shape : PyramidShape) (count : ℕ) → count ≡ whole_blocks (data_len shape) → data_fault shape count ≡ None
unfolding data_fault
data-faultless shape count e =
    let all : nat_lt count (data_len shape) ≡ false = grind (arith, nat_tests) in
    let no_more : nat_lt (whole_blocks (data_len shape)) count ≡ false = grind (arith, nat_tests) in
    rw (all, no_more) refl
