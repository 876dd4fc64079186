-- The leaf records that `probe` reads: each is the number of a leaf in 8 bytes, and then its 4^n stored numbers of 16
-- bits, big-endian and in two's complement.
use Rattle.std.specs.Prelude.{ℕ, ◌+◌, ◌*◌, ◌/◌, ◌%◌, ◌^◌, min, List, [], map, drop, length, fold, ℤ, Bool, not, ◌==◌, nat_le, nat_lt, if◌then◌else◌}
use Rattle.std.specs.Int.{cast_signed, w16}
use Rattle.std.specs.List.{list_any, range_with_len}
use Rattle.std.specs.BTreeMap.{insert_entry}
use Rattle.std.specs.Ordering.{nat_cmp}
use Rattle.byteorder.specs.Endian.{big_number}
use Rattle.healpix_nested.specs.Cells.{cell_count}
use Rattle.pyramid_model.specs.Shape.{LeafMap}

-- the bytes of a record
abbrev pub record_length : ℕ → ℕ
record_length n = 8 + 2 * 4 ^ n

-- the leaf number of record i
abbrev pub leaf_number : ℕ → List ℕ → ℕ → ℕ
leaf_number n input i = big_number 8 (drop (i * record_length n) input)

-- the stored numbers of record i
abbrev pub stored_number : ℕ → List ℕ → ℕ → ℕ → ℤ
stored_number n input i s = cast_signed w16 (big_number 2 (drop (i * record_length n + 8 + 2 * s) input))

abbrev pub stored_numbers : ℕ → List ℕ → ℕ → List ℤ
stored_numbers n input i = map (stored_number n input i) (range_with_len 0 (4 ^ n))

-- the leaves of the first records, the last of each number
abbrev pub recorded_leaves : ℕ → List ℕ → ℕ → LeafMap
recorded_leaves n input count =
    fold (λ leaves i. insert_entry nat_cmp leaves (leaf_number n input i) (stored_numbers n input i)) [] (range_with_len 0 count)

-- the most records that are read
abbrev pub most_records : ℕ
most_records = 65536

-- how many of these have their number in the input
abbrev pub numbers_read : ℕ → List ℕ → ℕ
numbers_read n input = min most_records ((length input + 2 * 4 ^ n) / record_length n)

-- a leaf number that is read is no cell of the order of the leaves
abbrev pub names_no_leaf : ℕ → ℕ → List ℕ → Bool
names_no_leaf top n input = list_any (λ i. nat_le (cell_count top) (leaf_number n input i)) (range_with_len 0 (numbers_read n input))

-- the input goes on after the last record that is read
abbrev pub goes_on : ℕ → List ℕ → Bool
goes_on n input = nat_lt (most_records * record_length n) (length input)

-- the input ends within a record
abbrev pub ends_within : ℕ → List ℕ → Bool
ends_within n input = not (length input % record_length n == 0)

-- the status by which reading the records ends, by the first place in the input where one applies: 13 for a number that is no
-- leaf's, 12 for an input that goes on, 4 for one that ends within a record, and else 0
abbrev pub reading_status : ℕ → ℕ → List ℕ → ℕ
reading_status top n input =
    if names_no_leaf top n input then 13 else (if goes_on n input then 12 else (if ends_within n input then 4 else 0))
