-- A number or a tile that is read is the one that was written, and what was written is read again.
use Rattle.std.proofs.Common.{◌≡◌, ℕ, ◌*◌, ◌/◌, ◌^◌, ◌<◌, ◌≤◌, Bool, true, false, cond, ltb, List, ◌++◌, length, take, drop, Option, Some, None, All, refl, sym, ap, subst, ◌∙◌, append_assoc, arith}
use Rattle.std.specs.Prelude.{option_and_then, IsTrue}
use Rattle.std.specs.Int.{w32, from_be_bytes, to_be_bytes}
use Rattle.std.proofs.lemmas.Bool.{ltb-false, le-ltb}
use Rattle.std.proofs.lemmas.List.{take_at, drop_at, take-append-drop, length-append, length-take-le}
use Rattle.std.proofs.lemmas.Nat.{be_bytes_4, from_be_bytes-to_be_bytes_4}
use Rattle.parent_rule.specs.Depth.{PixelDepth, is_bitpix, IsNumber}
use Rattle.pyramid_model.specs.Shape.{PyramidShape}
use Rattle.tile_pixels.specs.Stored.{numbers_from, stored_bytes}
use Rattle.tile_pixels.specs.StoredLaws.{AreBytes, AreBytes-take, AreBytes-drop, length-stored_bytes, length-numbers_from, numbers_from-stored_bytes, numbers_from-numbers, stored_bytes-numbers_from}
use Rattle.tile_pixels.specs.Tile.{PixelTile, IsTile, HasShape}
use Rattle.wal_frame.specs.Record.{tile_bytes}
use Rattle.wal_frame.specs.Survey.{tile_length}
use Rattle.wal_frame.specs.Payload.{number_at, tile_at}
use Rattle.wal_frame.specs.Laws.{IsKnown}

-- the value of a step that found one
pub bind_some : {A B : Type 0} (f : A → Option B) (o : Option A) (y : B) → option_and_then f o ≡ Some y → (x : A) × (o ≡ Some x) × (f x ≡ Some y)
bind_some f None y e = absurd cc
bind_some f (Some x) y e = (x, refl, e)

-- a value, of that type
abbrev pub one_of : (A : Type 0) → A → Option A
one_of A x = Some x

-- a test that went well
pub guard_some : {A : Type 0} (b : Bool) (x y : A) → cond b None (Some x) ≡ Some y → (b ≡ false) × (x ≡ y)
guard_some true x y e = absurd cc
guard_some false x y e = (refl, cc)

-- what a reader took from the front
pub record Takes (bytes text rest : List ℕ) : Type 0 where
  pub parts : bytes ≡ text ++ rest
  pub rest_fits : AreBytes rest

pub takes_then : (a x b y c : List ℕ) → Takes a x b → Takes b y c → Takes a (x ++ y) c
takes_then a x b y c p q = record { parts = p.parts ∙ ap (λ (t : List ℕ). x ++ t) q.parts ∙ sym (append_assoc x y c); rest_fits = q.rest_fits }

pub number_takes : (bytes : List ℕ) (x : ℕ × List ℕ) → AreBytes bytes → number_at bytes ≡ Some x → Takes bytes (to_be_bytes w32 x.0) x.1 × (x.0 < 2 ^ 32)
unfolding number_at
number_takes bytes x fits e =
    let g = guard_some (ltb (length bytes) 4) (from_be_bytes w32 (take 4 bytes), drop 4 bytes) x e in
    let long : 4 ≤ length bytes = ltb-false _ _ g.0 in
    let front : length (take 4 bytes) ≡ 4 = length-take-le 4 bytes long in
    let few : AreBytes (take 4 bytes) = AreBytes-take 4 bytes fits in
    let same : to_be_bytes w32 (from_be_bytes w32 (take 4 bytes)) ≡ take 4 bytes = be_bytes_4 (take 4 bytes) _ front few refl in
    subst (λ (x : ℕ × List ℕ). Takes bytes (to_be_bytes w32 x.0) x.1 × (x.0 < 2 ^ 32)) g.1
    (record { parts = sym (take-append-drop 4 bytes) ∙ ap (λ (t : List ℕ). t ++ drop 4 bytes) (sym same); rest_fits = AreBytes-drop 4 bytes fits }, omega (arith, few 0, few 1, few 2, few 3))

pub number_again : (n : ℕ) (rest : List ℕ) → n < 2 ^ 32 → number_at (to_be_bytes w32 n ++ rest) ≡ Some (n, rest)
unfolding number_at
number_again n rest below =
    let long : ltb (length (to_be_bytes w32 n ++ rest)) 4 ≡ false = le-ltb _ _ (omega (arith, length-append (to_be_bytes w32 n) rest)) in
    rw long (ap (λ (m : ℕ). one_of (ℕ × List ℕ) (m, rest)) (from_be_bytes-to_be_bytes_4 n below))

-- ---- tiles

-- a tile that a WAL of the shape may have
pub record IsOfShape (shape : PyramidShape) (tile : PixelTile) : Type 0 where
  pub has_shape : HasShape tile shape.depth shape.n
  pub is_tile : IsTile tile.depth tile.n tile.numbers

pub tile_takes : (shape : PyramidShape) (bytes : List ℕ) (x : PixelTile × List ℕ) → IsKnown shape → AreBytes bytes → tile_at shape bytes ≡ Some x → Takes bytes (tile_bytes x.0) x.1 × IsOfShape shape x.0
unfolding tile_at
tile_takes shape bytes x known fits e =
    let bits : ℕ = shape.depth.bitpix in
    let len : ℕ = tile_length shape in
    let numbers = numbers_from bits (4 ^ shape.n) (take len bytes) in
    let made : PixelTile = record { depth = shape.depth; n = shape.n; numbers = numbers } in
    let g = guard_some (ltb (length bytes) len) (made, drop len bytes) x e in
    let long : len ≤ length bytes = ltb-false _ _ g.0 in
    let front : length (take len bytes) ≡ len = length-take-le len bytes long in
    let few : AreBytes (take len bytes) = AreBytes-take len bytes fits in
    let same : stored_bytes bits numbers ≡ take len bytes = stored_bytes-numbers_from bits (4 ^ shape.n) (take len bytes) known.bitpix front few in
    let tile : IsTile shape.depth shape.n numbers = record {
      least_n = known.known.least_n;
      greatest_n = known.known.greatest_n;
      count = length-numbers_from bits (4 ^ shape.n) (take len bytes);
      range = numbers_from-numbers bits (4 ^ shape.n) (take len bytes) known.bitpix few;
    } in
    subst (λ (x : PixelTile × List ℕ). Takes bytes (tile_bytes x.0) x.1 × IsOfShape shape x.0) g.1
    (record { parts = sym (take-append-drop len bytes) ∙ ap (λ (t : List ℕ). t ++ drop len bytes) (sym same); rest_fits = AreBytes-drop len bytes fits }, record { has_shape = (refl, refl); is_tile = tile })

pub length-tile_bytes : (shape : PyramidShape) (tile : PixelTile) → IsKnown shape → IsOfShape shape tile → length (tile_bytes tile) ≡ tile_length shape
length-tile_bytes shape tile known fits =
    let bits : IsTrue (is_bitpix tile.depth.bitpix) = rw fits.has_shape.0 known.bitpix in
    let all : length (tile_bytes tile) ≡ length tile.numbers * (tile.depth.bitpix / 8) = length-stored_bytes tile.depth.bitpix tile.numbers bits in
    all ∙ rw (fits.is_tile.count, fits.has_shape.0, fits.has_shape.1) refl

pub tile_again : (shape : PyramidShape) (tile : PixelTile) (rest : List ℕ) → IsKnown shape → IsOfShape shape tile → tile_at shape (tile_bytes tile ++ rest) ≡ Some (tile, rest)
unfolding tile_at
tile_again shape tile rest known fits =
    let bits : ℕ = shape.depth.bitpix in
    let len : length (tile_bytes tile) ≡ tile_length shape = length-tile_bytes shape tile known fits in
    let long : ltb (length (tile_bytes tile ++ rest)) (tile_length shape) ≡ false = le-ltb _ _ (omega (arith, length-append (tile_bytes tile) rest, len)) in
    let width : tile_bytes tile ≡ stored_bytes bits tile.numbers = ap (λ (d : PixelDepth). stored_bytes d.bitpix tile.numbers) fits.has_shape.0 in
    let count : 4 ^ shape.n ≡ length tile.numbers = sym (fits.is_tile.count ∙ ap (λ (n : ℕ). 4 ^ n) fits.has_shape.1) in
    let range : All (IsNumber bits) tile.numbers = subst (λ (d : PixelDepth). All (IsNumber d.bitpix) tile.numbers) fits.has_shape.0 fits.is_tile.range in
    let numbers : numbers_from bits (4 ^ shape.n) (tile_bytes tile) ≡ tile.numbers =
    ap (λ (n : ℕ). numbers_from bits n (tile_bytes tile)) count ∙ ap (numbers_from bits (length tile.numbers)) width ∙ numbers_from-stored_bytes bits tile.numbers known.bitpix range in
    let made : PixelTile = record { depth = shape.depth; n = shape.n; numbers = tile.numbers } in
    let same : made ≡ tile = rw (← fits.has_shape.0, ← fits.has_shape.1) refl in
    rw (long, take_at (tile_bytes tile) rest (tile_length shape) len, drop_at (tile_bytes tile) rest (tile_length shape) len, numbers)
    (ap (λ (t : PixelTile). Some (t, rest)) same)
