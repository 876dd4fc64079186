-- The cover of a set of leaves: the cells of any order that are wholly covered, each as large as it can be (MOC 1.1, section
-- 2). Leaves are cells of the order `top`, a set of them is a list of their numbers, and a cell of the cover is written by its
-- number among the cells of all orders (MOC 1.1, section 2.3.1: NUNIQ).
use Rattle.std.specs.Prelude.{ℕ, ◌+◌, ◌-◌, ◌/◌, ◌^◌, ◌==◌, ◌&&◌, ◌||◌, not, Bool, List, map, filter}
use Rattle.std.specs.List.{list_any, list_all, flat_map, range_with_len}
use Rattle.std.specs.List.Sorted.{IsStrictlySortedBy}
use Rattle.std.specs.Ordering.{nat_cmp}
use Rattle.healpix_nested.specs.Cells.{cell_count, lies_under, uniq_number}

-- the number is in the list
abbrev pub has : List ℕ → ℕ → Bool
has numbers number = list_any (λ other. other == number) numbers

-- each number is below the next
abbrev pub IsAscending : List ℕ → Type 0
IsAscending numbers = IsStrictlySortedBy nat_cmp numbers

-- every leaf that lies under cell p of order k is there
unfoldable pub is_full : ℕ → List ℕ → ℕ → ℕ → Bool
is_full top leaves k p = list_all (λ leaf. not (lies_under top leaf k p) || has leaves leaf) (range_with_len 0 (cell_count top))

-- that holds for the cell, and k is 0 or it fails for the parent
abbrev pub is_row : ℕ → List ℕ → ℕ → ℕ → Bool
is_row top leaves k p = is_full top leaves k p && (k == 0 || not (is_full top leaves (k - 1) (p / 4)))

-- the numbers of these cells of one order, ascending
abbrev pub rows_of_order : ℕ → List ℕ → ℕ → List ℕ
rows_of_order top leaves k = map (uniq_number k) (filter (is_row top leaves k) (range_with_len 0 (cell_count k)))

-- the cover: those of order 0, of order 1, and so on up to the order of the leaves
unfoldable pub cover : ℕ → List ℕ → List ℕ
cover top leaves = flat_map (rows_of_order top leaves) (range_with_len 0 (top + 1))

-- the leaf lies under some cell of the rows: at some order the cell over it is a row
unfoldable pub is_under : ℕ → List ℕ → ℕ → Bool
is_under top rows leaf = list_any (λ k. has rows (uniq_number k (leaf / 4 ^ (top - k)))) (range_with_len 0 (top + 1))

-- the leaves under some rows, ascending
unfoldable pub leaves_under : ℕ → List ℕ → List ℕ
leaves_under top rows = filter (is_under top rows) (range_with_len 0 (cell_count top))

-- the leaves without one
abbrev pub without : ℕ → List ℕ → List ℕ
without leaf leaves = filter (λ other. not (other == leaf)) leaves

-- a cover as contracts see it: the order of the leaves that it was made with, and its rows
pub record MocCover : Type 0 where
  pub top : ℕ
  pub rows : List ℕ
