-- The stored numbers of an edit's tile.
use Rattle.std.proofs.Common.{◌≡◌, ℕ, ◌+◌, ◌*◌, ◌/◌, ◌%◌, ◌^◌, ◌<◌, List, [], ◌∷◌, ◌++◌, length, get_or, map, refl, sym, ap, ◌∙◌, arith, pos}
use Rattle.std.specs.Prelude.{All, Result, Ok, Err, IfOk}
use Rattle.std.proofs.lemmas.Int.{ints}
use Rattle.std.specs.List.{range_with_len}
use Rattle.std.specs.Int.{to_be_bytes, cast_unsigned, w16}
use Rattle.std.proofs.lemmas.List.{append-nil}
use Rattle.std.proofs.lemmas.List.FromFn.{map-range_with_len_more, length-map-range_with_len, get_or-map-range_with_len}
use Rattle.byteorder.specs.Endian.{big_bytes}
use Rattle.parent_rule.specs.Depth.{IsNumber}
use Rattle.tile_pixels.specs.Tile.{PixelTile}
use Rattle.tile_pixels.specs.Stored.{number_bytes, stored_bytes, numbers_from}
use Rattle.tile_pixels.specs.StoredLaws.{stored_bytes-append, stored_bytes-cons, stored_bytes-nil, length-stored_bytes, numbers_from-stored_bytes}
use Rattle.survey_make.specs.Script.{number_at, numbers_of}
use Rattle.pyramid_model.specs.Shape.{PyramidShape}
use Rattle.survey_make.proofs.MadeLemmas.{made_shape}

-- the bytes of a number below 2 ^ 16
small-bytes : (m : ℕ) → m < 65536 → number_bytes 16 (pos m) ≡ to_be_bytes w16 m
small-bytes m h = ap (big_bytes 2) (let e : cast_unsigned w16 (pos m) ≡ m = omega arith in e)

-- the bytes of one number more
pub numbers-more : (x s : ℕ) → stored_bytes 16 (map (number_at x) (range_with_len 0 (s + 1))) ≡ stored_bytes 16 (map (number_at x) (range_with_len 0 s)) ++ to_be_bytes w16 ((x / 2 ^ 40 + s) % 4096)
numbers-more x s =
    let vs : List _ = map (number_at x) (range_with_len 0 s) in
    let last : stored_bytes 16 (number_at x s ∷ []) ≡ number_bytes 16 (number_at x s) = stored_bytes-cons 16 (number_at x s) [] ∙ ap (λ (bytes : List ℕ). number_bytes 16 (number_at x s) ++ bytes) (stored_bytes-nil 16) ∙ append-nil (number_bytes 16 (number_at x s)) in
    let small : (x / 2 ^ 40 + s) % 4096 < 65536 = omega arith in
    ap (stored_bytes 16) (map-range_with_len_more (number_at x) 0 s s (omega arith))
    ∙ stored_bytes-append 16 vs (number_at x s ∷ [])
    ∙ ap (λ (bytes : List ℕ). stored_bytes 16 vs ++ bytes) (last ∙ small-bytes ((x / 2 ^ 40 + s) % 4096) small)

-- all of them
pub numbers-all : (x : ℕ) → numbers_of x ≡ map (number_at x) (range_with_len 0 1024)
unfolding numbers_of
numbers-all x = refl

-- they are numbers of 16 bits
small-number : (m : ℕ) → m < 32768 → IsNumber 16 (pos m)
small-number m h = record { low = omega (arith, ints); high = omega (arith, ints) }

small-numbers : (x : ℕ) → All (IsNumber 16) (numbers_of x)
unfolding numbers_of
small-numbers x = λ k d h.
    let at : get_or (map (number_at x) (range_with_len 0 1024)) k d ≡ number_at x k = get_or-map-range_with_len (number_at x) 0 1024 k k d h (omega arith) in
    rw at (small-number ((x / 2 ^ 40 + k) % 4096) (omega arith))

-- what is read of their bytes
pub numbers-read : (x : ℕ) (shape : PyramidShape) → shape ≡ made_shape → numbers_from shape.depth.bitpix (4 ^ shape.n) (stored_bytes 16 (numbers_of x)) ≡ numbers_of x
numbers-read x shape e =
    let count : length (numbers_of x) ≡ 1024 = ap length (numbers-all x) ∙ length-map-range_with_len (number_at x) 0 1024 in
    let back : numbers_from 16 (length (numbers_of x)) (stored_bytes 16 (numbers_of x)) ≡ numbers_of x = numbers_from-stored_bytes 16 (numbers_of x) refl (small-numbers x) in
    ap (λ (s : PyramidShape). numbers_from s.depth.bitpix (4 ^ s.n) (stored_bytes 16 (numbers_of x))) e
    ∙ ap (λ (n : ℕ). numbers_from 16 n (stored_bytes 16 (numbers_of x))) (sym count) ∙ back

-- a tile of these bytes
pub numbers-in : {E : Type 0} (r : Result PixelTile E) (x : ℕ) (tile : PixelTile) → IfOk r (λ t. t ≡ tile) → tile.numbers ≡ numbers_of x → IfOk r (λ t. t.numbers ≡ numbers_of x)
numbers-in (Ok t) x tile is e = ap (λ (u : PixelTile). u.numbers) is ∙ e
numbers-in (Err _) x tile is e = tt

-- how many bytes they are
pub numbers-len : (x : ℕ) (shape : PyramidShape) → shape ≡ made_shape → length (stored_bytes 16 (numbers_of x)) ≡ 4 ^ shape.n * (shape.depth.bitpix / 8)
numbers-len x shape e =
    let count : length (numbers_of x) ≡ 1024 = ap length (numbers-all x) ∙ length-map-range_with_len (number_at x) 0 1024 in
    length-stored_bytes 16 (numbers_of x) refl ∙ ap (λ (n : ℕ). n * 2) count
    ∙ sym (ap (λ (s : PyramidShape). 4 ^ s.n * (s.depth.bitpix / 8)) e)
