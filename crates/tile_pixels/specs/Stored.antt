-- Stored numbers as bytes: big-endian; 8 bits hold no sign, more bits are two's complement (FITS 4.0, section 5.2).
use Rattle.std.specs.Prelude.{ℕ, ◌*◌, ◌/◌, List, map, drop, flat_map, ℤ, pos, if◌then◌else◌, ◌==◌}
use Rattle.std.specs.Int.{cast_signed, cast_unsigned, w8, w16, w32, w64}
use Rattle.std.specs.List.{range_with_len}
use Rattle.byteorder.specs.Endian.{big_number, big_bytes}

-- the number that stands first in some bytes
abbrev pub number_from : ℕ → List ℕ → ℤ
number_from bits bytes =
    if bits == 8 then pos (big_number 1 bytes)
    else (if bits == 16 then cast_signed w16 (big_number 2 bytes)
    else (if bits == 32 then cast_signed w32 (big_number 4 bytes) else cast_signed w64 (big_number 8 bytes)))

-- the number at a place of a row of stored numbers
abbrev pub stored_at : ℕ → List ℕ → ℕ → ℤ
stored_at bits row place = number_from bits (drop (place * (bits / 8)) row)

-- the first count numbers in some bytes
unfoldable pub numbers_from : ℕ → ℕ → List ℕ → List ℤ
numbers_from bits count bytes = map (λ s. number_from bits (drop (s * (bits / 8)) bytes)) (range_with_len 0 count)

-- the bytes of a number, and of numbers one after the other
abbrev pub number_bytes : ℕ → ℤ → List ℕ
number_bytes bits v =
    if bits == 8 then big_bytes 1 (cast_unsigned w8 v)
    else (if bits == 16 then big_bytes 2 (cast_unsigned w16 v)
    else (if bits == 32 then big_bytes 4 (cast_unsigned w32 v) else big_bytes 8 (cast_unsigned w64 v)))

unfoldable pub stored_bytes : ℕ → List ℤ → List ℕ
stored_bytes bits numbers = flat_map (number_bytes bits) numbers
