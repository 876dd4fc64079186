-- The script of the made survey: the requests of one connection (RFC 9112, sections 2.1, 3 and 6.2), made from a number.
use Rattle.std.specs.Prelude.{ℕ, zero, suc, ◌+◌, ◌*◌, ◌/◌, ◌%◌, ◌^◌, ◌==◌, List, [], ◌∷◌, ◌++◌, map, flat_map, ℤ, pos, codes, if◌then◌else◌}
use Rattle.std.specs.List.{range_with_len}
use Rattle.tile_path.specs.Spelling.{spelling}
use Rattle.tile_path.specs.declared.path.Path.TheVariants.{Tile}
use Rattle.fits_tile.specs.TileFile.{tile_file}
use Rattle.survey_make.specs.Conf.{made}

-- the number after x
abbrev pub next_number : ℕ → ℕ
next_number x = (x * 6364136223846793005 + 1442695040888963407) % 2 ^ 64

-- the number of edit i, counted from 1, in the script of the number x
unfoldable pub number_of : ℕ → ℕ → ℕ
number_of x zero = x
number_of x (suc i) = next_number (number_of x i)

-- the leaf of the edit with that number, and the stored numbers of its tile
abbrev pub leaf_of : ℕ → ℕ
leaf_of x = x / 2 ^ 33 % 12288

abbrev pub number_at : ℕ → ℕ → ℤ
number_at x s = pos ((x / 2 ^ 40 + s) % 4096)

unfoldable pub numbers_of : ℕ → List ℤ
numbers_of x = map (number_at x) (range_with_len 0 1024)

-- the path of that tile
abbrev pub path_of : ℕ → List ℕ
path_of x = spelling (Tile (record { order = 5; npix = leaf_of x }))

-- a line of a head
abbrev pub line : List ℕ → List ℕ
line text = text ++ 13 ∷ 10 ∷ []

-- the head of a request for the path: its line, the field Host, these lines of further fields, and the empty line
unfoldable pub head_of : List ℕ → List ℕ → List ℕ → List ℕ
head_of method path fields = line (method ++ codes " /" ++ path ++ codes " HTTP/1.1") ++ line (codes "Host: make") ++ fields ++ line []

-- the leaf's tile is put
abbrev pub put_request : ℕ → List ℕ
put_request x = head_of (codes "PUT") (path_of x) (line (codes "Content-Length: 5760")) ++ tile_file made 5 (leaf_of x) (numbers_of x)

-- the leaf is taken away
abbrev pub delete_request : ℕ → List ℕ
delete_request x = head_of (codes "DELETE") (path_of x) []

-- all edits so far are published
abbrev pub publish_request : List ℕ
publish_request = head_of (codes "POST") (codes "publish") []

-- the requests of edit i, whose number is x: each eighth takes its leaf away, and a publication follows each 64th
unfoldable pub edit_requests : ℕ → ℕ → List ℕ
edit_requests i x = (if i % 8 == 0 then delete_request x else put_request x) ++ (if i % 64 == 0 then publish_request else [])

-- the edits 1 to i
unfoldable pub requests_to : ℕ → ℕ → List ℕ
requests_to x i = flat_map (λ i. edit_requests i (number_of x i)) (range_with_len 1 i)

-- so many edits, and a publication after the last
unfoldable pub made_script : ℕ → ℕ → List ℕ
made_script x edits = requests_to x edits ++ publish_request
