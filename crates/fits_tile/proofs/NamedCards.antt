-- What the keywords of a tile's cards decide, whatever the values are: no card is an end card, and none repeats another.
use Rattle.std.proofs.Common.{◌≡◌, ℕ, Bool, true, false, not, ◌||◌, List, [], ◌∷◌, Option, None, refl, ap}
use Rattle.std.specs.Prelude.{codes, is_some}
use Rattle.std.specs.Option.{option_map_or}
use Rattle.decimal_scale.specs.Whole.{whole_value}
use Rattle.fits_header.specs.Cards.{is_end_card}
use Rattle.fits_header.specs.Values.{value_text, logical, real}
use Rattle.fits_header.specs.Reading.{is_bad, repeats, repeated_card}
use Rattle.fits_header.specs.WrittenCards.{keyword_columns, value_card}

-- a tile's cards with these value columns
abbrev pub cards_of : (simple bitpix naxis naxis1 naxis2 bscale bzero blank order npix : List ℕ) → List (List ℕ)
cards_of simple bitpix naxis naxis1 naxis2 bscale bzero blank order npix =
    value_card (codes "SIMPLE") simple ∷ value_card (codes "BITPIX") bitpix ∷ value_card (codes "NAXIS") naxis
    ∷ value_card (codes "NAXIS1") naxis1 ∷ value_card (codes "NAXIS2") naxis2 ∷ value_card (codes "BSCALE") bscale
    ∷ value_card (codes "BZERO") bzero ∷ value_card (codes "BLANK") blank ∷ value_card (codes "ORDER") order
    ∷ value_card (codes "NPIX") npix ∷ []

pub record NoEnds : Type 0 where
  pub simple : (v : List ℕ) → is_end_card (value_card (codes "SIMPLE") v) ≡ false
  pub bitpix : (v : List ℕ) → is_end_card (value_card (codes "BITPIX") v) ≡ false
  pub naxis : (v : List ℕ) → is_end_card (value_card (codes "NAXIS") v) ≡ false
  pub naxis1 : (v : List ℕ) → is_end_card (value_card (codes "NAXIS1") v) ≡ false
  pub naxis2 : (v : List ℕ) → is_end_card (value_card (codes "NAXIS2") v) ≡ false
  pub bscale : (v : List ℕ) → is_end_card (value_card (codes "BSCALE") v) ≡ false
  pub bzero : (v : List ℕ) → is_end_card (value_card (codes "BZERO") v) ≡ false
  pub blank : (v : List ℕ) → is_end_card (value_card (codes "BLANK") v) ≡ false
  pub order : (v : List ℕ) → is_end_card (value_card (codes "ORDER") v) ≡ false
  pub npix : (v : List ℕ) → is_end_card (value_card (codes "NPIX") v) ≡ false

pub no-ends : NoEnds
unfolding value_card keyword_columns
no-ends = record {
  simple = λ v. refl;
  bitpix = λ v. refl;
  naxis = λ v. refl;
  naxis1 = λ v. refl;
  naxis2 = λ v. refl;
  bscale = λ v. refl;
  bzero = λ v. refl;
  blank = λ v. refl;
  order = λ v. refl;
  npix = λ v. refl;
}

-- a card has a value text of a kind
abbrev pub has_kind : {A : Type 0} → (List ℕ → Option A) → List ℕ → Bool
has_kind kind card = option_map_or (λ text. is_some (kind text)) (value_text card) false

-- a card that has a value of its keyword's kind is not bad
pub record Goods : Type 0 where
  pub simple : (v : List ℕ) → has_kind logical (value_card (codes "SIMPLE") v) ≡ true → is_bad (value_card (codes "SIMPLE") v) ≡ false
  pub bitpix : (v : List ℕ) → has_kind whole_value (value_card (codes "BITPIX") v) ≡ true → is_bad (value_card (codes "BITPIX") v) ≡ false
  pub naxis : (v : List ℕ) → has_kind whole_value (value_card (codes "NAXIS") v) ≡ true → is_bad (value_card (codes "NAXIS") v) ≡ false
  pub naxis1 : (v : List ℕ) → has_kind whole_value (value_card (codes "NAXIS1") v) ≡ true → is_bad (value_card (codes "NAXIS1") v) ≡ false
  pub naxis2 : (v : List ℕ) → has_kind whole_value (value_card (codes "NAXIS2") v) ≡ true → is_bad (value_card (codes "NAXIS2") v) ≡ false
  pub bscale : (v : List ℕ) → has_kind real (value_card (codes "BSCALE") v) ≡ true → is_bad (value_card (codes "BSCALE") v) ≡ false
  pub bzero : (v : List ℕ) → has_kind real (value_card (codes "BZERO") v) ≡ true → is_bad (value_card (codes "BZERO") v) ≡ false
  pub blank : (v : List ℕ) → has_kind whole_value (value_card (codes "BLANK") v) ≡ true → is_bad (value_card (codes "BLANK") v) ≡ false
  pub order : (v : List ℕ) → is_bad (value_card (codes "ORDER") v) ≡ false
  pub npix : (v : List ℕ) → is_bad (value_card (codes "NPIX") v) ≡ false

pub goods : Goods
unfolding is_bad value_card keyword_columns
goods = record {
  simple = λ v h. ap (λ b. not b || false) h;
  bitpix = λ v h. ap (λ b. not b || false) h;
  naxis = λ v h. ap (λ b. not b || false) h;
  naxis1 = λ v h. ap (λ b. not b || false) h;
  naxis2 = λ v h. ap (λ b. not b || false) h;
  bscale = λ v h. ap (λ b. not b || false) h;
  bzero = λ v h. ap (λ b. not b || false) h;
  blank = λ v h. ap (λ b. not b || false) h;
  order = λ v. refl;
  npix = λ v. refl;
}

-- no keyword stands twice
pub never-twice : (simple bitpix naxis naxis1 naxis2 bscale bzero blank order npix : List ℕ) → repeated_card (cards_of simple bitpix naxis naxis1 naxis2 bscale bzero blank order npix) ≡ None
unfolding repeats value_card keyword_columns
never-twice simple bitpix naxis naxis1 naxis2 bscale bzero blank order npix = refl
