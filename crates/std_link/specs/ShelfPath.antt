-- The paths of a shelf over a folder. A pathname is names with `/` between; in each folder `.` is the folder itself and `..`
-- the one above it, and no name is empty or has a NUL (POSIX.1-2017, 3.170 Filename and 4.13 Pathname Resolution).
use Rattle.std.specs.Prelude.{ℕ, ◌^◌, Bool, not, ◌&&◌, ◌==◌, List, ◌++◌, codes}
use Rattle.std.specs.List.{list_any, list_all, slice_split, ends_with}
use Rattle.std.specs.Cmp.Lexicographic.{pointwise}

-- this is the text in a path between two slashes
abbrev pub is_text : List ℕ → List ℕ → Bool
is_text text part = pointwise (◌==◌) part text

-- a name of something in the folder
abbrev pub is_name : List ℕ → Bool
is_name part = not (is_text (codes "") part) && not (is_text (codes ".") part) && not (is_text (codes "..") part)

-- each name of the path is that of something in its folder
abbrev pub stays_in_folder : List ℕ → Bool
stays_in_folder path = list_all is_name (slice_split (λ byte. byte == 47) path)

abbrev pub has_nul : List ℕ → Bool
has_nul path = list_any (λ byte. byte == 0) path

-- what follows a path in the name of the file that is still being written
abbrev pub unfinished_mark : List ℕ
unfinished_mark = codes ".unfinished"

-- the file beside the one at the path, which takes its place once it is whole
abbrev pub unfinished : List ℕ → List ℕ
unfinished path = path ++ unfinished_mark

-- the path is that of a file that a stop in the middle left unfinished
abbrev pub is_left_over : List ℕ → Bool
is_left_over path = ends_with (◌==◌) path unfinished_mark

-- the path of a file on the shelf: it stays in the folder, names the file in one way alone, and isn't that of an unfinished one
abbrev pub is_shelf_path : List ℕ → Bool
is_shelf_path path = stays_in_folder path && not (has_nul path) && not (is_left_over path)

-- so many bytes has the longest file that a survey may have
abbrev pub longest_file : ℕ
longest_file = 2 ^ 29
