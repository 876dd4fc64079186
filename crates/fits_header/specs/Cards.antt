-- The cards of a header, and where the header ends (FITS 4.0, sections 3.1, 3.3.1 and 4.1.1: the standard calls a card a
-- keyword record). Texts are lists of bytes. That a header has at most 36 blocks is this project's limit.
use Rattle.std.specs.Prelude.{ℕ, ◌+◌, ◌-◌, ◌*◌, ◌/◌, Bool, List, length, map, take, position, Option, nat_eq, codes}
use Rattle.std.specs.List.{slice_range, range_with_len, starts_with}

-- card i, from 1, is bytes 80(i - 1) to 80i - 1
abbrev pub card : List ℕ → ℕ → List ℕ
card text i = slice_range text (80 * (i - 1)) (80 * i)

-- the cards that lie wholly in the text, from card 1 on
unfoldable pub cards : List ℕ → List (List ℕ)
cards text = map (card text) (range_with_len 1 (length text / 80))

-- columns 1 to 8 are `END` and five spaces
abbrev pub is_end_card : List ℕ → Bool
is_end_card card = starts_with nat_eq card (codes "END     ")

-- how many cards stand before the end card, which is the first such card among the first 1,296; None where there is none
unfoldable pub cards_before_end : List ℕ → Option ℕ
cards_before_end text = position is_end_card (take 1296 (cards text))

-- a length rounded up to whole blocks of 2,880 bytes
abbrev pub whole_blocks : ℕ → ℕ
whole_blocks len = (len + 2879) / 2880 * 2880

-- the length of a header with so many cards before the end card
abbrev pub header_length : ℕ → ℕ
header_length before = whole_blocks (80 * (before + 1))
