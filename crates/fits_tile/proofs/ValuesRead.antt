-- The values that are read of a tile's cards, where the value of each card is read.
use Rattle.std.proofs.Common.{◌≡◌, ℕ, Bool, true, false, List, ℤ, Option, Some, None, refl, ap}
use Rattle.std.specs.Prelude.{codes, is_some}
use Rattle.std.specs.Option.{option_and_then, option_map_or}
use Rattle.decimal_scale.specs.Real.{DecimalNumber}
use Rattle.decimal_scale.specs.Whole.{whole_value}
use Rattle.fits_header.specs.Values.{value_text, logical, real}
use Rattle.fits_header.specs.Reading.{header_of, values}
use Rattle.fits_header.specs.WrittenCards.{keyword_columns, value_card}
use Rattle.fits_tile.proofs.NamedCards.{cards_of}

-- a card whose value is read has a value of its kind
pub has-kind : {A : Type 0} (kind : List ℕ → Option A) (text : Option (List ℕ)) (v : A) → option_and_then kind text ≡ Some v → option_map_or (λ t. is_some (kind t)) text false ≡ true
has-kind kind None v e = absurd cc
has-kind kind (Some text) v e = ap is_some e

pub simple-of : (a b c d e f g h i j : List ℕ) (v : Bool) → option_and_then logical (value_text (value_card (codes "SIMPLE") a)) ≡ Some v → (header_of (cards_of a b c d e f g h i j)).simple ≡ Some v
unfolding values value_card keyword_columns
simple-of a b c d e f g h i j v is = rw is refl

pub bitpix-of : (a b c d e f g h i j : List ℕ) (v : ℤ) → option_and_then whole_value (value_text (value_card (codes "BITPIX") b)) ≡ Some v → (header_of (cards_of a b c d e f g h i j)).bitpix ≡ Some v
unfolding values value_card keyword_columns
bitpix-of a b c d e f g h i j v is = rw is refl

pub naxis-of : (a b c d e f g h i j : List ℕ) (v : ℤ) → option_and_then whole_value (value_text (value_card (codes "NAXIS") c)) ≡ Some v → (header_of (cards_of a b c d e f g h i j)).naxis ≡ Some v
unfolding values value_card keyword_columns
naxis-of a b c d e f g h i j v is = rw is refl

pub naxis1-of : (a b c d e f g h i j : List ℕ) (v : ℤ) → option_and_then whole_value (value_text (value_card (codes "NAXIS1") d)) ≡ Some v → (header_of (cards_of a b c d e f g h i j)).naxis1 ≡ Some v
unfolding values value_card keyword_columns
naxis1-of a b c d e f g h i j v is = rw is refl

pub naxis2-of : (a b c d e f g h i j : List ℕ) (v : ℤ) → option_and_then whole_value (value_text (value_card (codes "NAXIS2") e)) ≡ Some v → (header_of (cards_of a b c d e f g h i j)).naxis2 ≡ Some v
unfolding values value_card keyword_columns
naxis2-of a b c d e f g h i j v is = rw is refl

pub bscale-of : (a b c d e f g h i j : List ℕ) (v : DecimalNumber) → option_and_then real (value_text (value_card (codes "BSCALE") f)) ≡ Some v → (header_of (cards_of a b c d e f g h i j)).bscale ≡ Some v
unfolding values value_card keyword_columns
bscale-of a b c d e f g h i j v is = rw is refl

pub bzero-of : (a b c d e f g h i j : List ℕ) (v : DecimalNumber) → option_and_then real (value_text (value_card (codes "BZERO") g)) ≡ Some v → (header_of (cards_of a b c d e f g h i j)).bzero ≡ Some v
unfolding values value_card keyword_columns
bzero-of a b c d e f g h i j v is = rw is refl

pub blank-of : (a b c d e f g h i j : List ℕ) (v : ℤ) → option_and_then whole_value (value_text (value_card (codes "BLANK") h)) ≡ Some v → (header_of (cards_of a b c d e f g h i j)).blank ≡ Some v
unfolding values value_card keyword_columns
blank-of a b c d e f g h i j v is = rw is refl
