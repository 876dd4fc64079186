-- The numbers of 64 bits that stand in some bytes, one after the other, the highest byte first.
use Rattle.std.specs.Prelude.{ℕ, ◌*◌, ◌/◌, List, map, length, drop}
use Rattle.std.specs.List.{range_with_len}
use Rattle.byteorder.specs.Endian.{big_number}

unfoldable pub numbers_in : List ℕ → List ℕ
numbers_in bytes = map (λ i. big_number 8 (drop (8 * i) bytes)) (range_with_len 0 (length bytes / 8))
