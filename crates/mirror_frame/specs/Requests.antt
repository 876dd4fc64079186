-- The requests of a mirror as bytes (RFC 9112, section 3): lines that end in CR LF, an empty line, and no body.
use Rattle.std.specs.Prelude.{ℕ, List, [], ◌∷◌, ◌++◌, map, flat_map, codes, ⊤}
use Rattle.httparse.specs.Ascii.{crlf_bytes}
use Rattle.http_frame.specs.Reply.{line}
use Rattle.tile_path.specs.Spelling.{HasTileOrder, spelling}
use Rattle.tile_path.specs.declared.path.Path.TheVariants.{Properties, Moc, Allsky, Tile}
use Rattle.mirror_frame.specs.declared.ask.Ask.{Ask}
use Rattle.mirror_frame.specs.declared.ask.Ask.TheVariants.{Pin, File, Unpin}

-- the method, the target and the version
abbrev pub request_line : Ask → List ℕ
request_line Pin = codes "POST /pin HTTP/1.1"
request_line (File path) = codes "GET /" ++ spelling path ++ codes " HTTP/1.1"
request_line Unpin = codes "POST /unpin HTTP/1.1"

-- the peer must close the connection after the last reply (RFC 9112, section 9.6)
abbrev pub close_line : Ask → List ℕ
close_line Pin = []
close_line (File path) = []
close_line Unpin = line (codes "Connection: close")

abbrev pub request_bytes : Ask → List ℕ
request_bytes ask = line (request_line ask) ++ line (codes "Host: mirror") ++ close_line ask ++ crlf_bytes

-- the mosaic is asked for where there is a leaf
abbrev pub mosaic_asks : List ℕ → List Ask
mosaic_asks [] = []
mosaic_asks (_ ∷ _) = File Allsky ∷ []

abbrev pub leaf_ask : ℕ → ℕ → Ask
leaf_ask top leaf = File (Tile (record { order = top; npix = leaf }))

-- what is asked for behind the cover, for these leaves of order `top`
abbrev pub later_asks : ℕ → List ℕ → List Ask
later_asks top leaves = map (leaf_ask top) leaves ++ mosaic_asks leaves ++ Unpin ∷ []

-- all that is asked for, in order
abbrev pub asks : ℕ → List ℕ → List Ask
asks top leaves = Pin ∷ File Properties ∷ File Moc ∷ later_asks top leaves

unfoldable pub mirror_requests : ℕ → List ℕ → List ℕ
mirror_requests top leaves = flat_map request_bytes (asks top leaves)

-- the cell of a tile that is asked for has an order that paths spell
abbrev pub HasOrder : Ask → Type 0
HasOrder Pin = ⊤
HasOrder (File path) = HasTileOrder path
HasOrder Unpin = ⊤
