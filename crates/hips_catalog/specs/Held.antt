-- Which rows a tile of a catalogue holds: HiPS 1.0, section 4.2, where the tiles of a source list hold the best sources at the
-- lowest order, and deeper ones the next. A tile takes its rows from the top downward: the first of those that no tile above
-- it holds. How many a tile holds is this project's profile.
use Rattle.std.specs.Prelude.{ℕ, zero, suc, ◌/◌, nat_lt, Bool, cond, List, take, drop}
use Rattle.std.specs.List.{filter}
use Rattle.healpix_nested.specs.Cells.{lies_under}
use Rattle.hips_catalog.specs.Rows.{Source}

-- whether a source, whose cell is of order top, lies under cell p of order k
abbrev pub is_under : ℕ → ℕ → ℕ → Source → Bool
is_under top k p source = lies_under top source.npix k p

-- Rest(k, p): of sources in order, with n to a tile, those under cell p of order k that no tile above it holds
abbrev pub rest_of : ℕ → ℕ → List Source → ℕ → ℕ → List Source
rest_of top n sources zero p = filter (is_under top 0 p) sources
rest_of top n sources (suc k) p = filter (is_under top (suc k) p) (drop n (rest_of top n sources k (p / 4)))

-- Held(k, p): the first n of Rest(k, p), and all of it at the deepest order, top
abbrev pub held : ℕ → ℕ → List Source → ℕ → ℕ → List Source
held top n sources k p = cond (nat_lt k top) (take n (rest_of top n sources k p)) (rest_of top n sources k p)
