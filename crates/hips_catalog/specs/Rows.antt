-- The rows of a catalogue, and the order in which they are shown: a smaller rank is better, and ties go by the bytes of the
-- id.
use Rattle.std.specs.Prelude.{ℕ, Bool, cond, List, [], ◌∷◌}
use Rattle.std.specs.Cmp.Lexicographic.{slice_cmp}
use Rattle.std.specs.Ordering.{nat_cmp, is_lt, on, then_cmp}
use Rattle.std.specs.declared.cmp.Ordering.{Ordering}

-- a source: its rank, the number of its cell, its id, and the rest of its line
pub record Source : Type 0 where
  pub rank : ℕ
  pub npix : ℕ
  pub id : List ℕ
  pub rest : List ℕ

-- by rank, then by the bytes of the id
abbrev pub source_cmp : Source → Source → Ordering
source_cmp = then_cmp (on (λ (s : Source). s.rank) nat_cmp) (on (λ (s : Source). s.id) (slice_cmp nat_cmp))

-- the source's id is below the other
abbrev pub has_id_below : Source → List ℕ → Bool
has_id_below source id = is_lt (slice_cmp nat_cmp source.id id)

-- the one source is shown before the other
abbrev pub is_better : Source → Source → Bool
is_better one other = is_lt (source_cmp one other)

-- the sources with one more, after those that are better
abbrev pub placed : Source → List Source → List Source
placed source [] = source ∷ []
placed source (s ∷ ss) = cond (is_better s source) (s ∷ placed source ss) (source ∷ s ∷ ss)

-- the sources in order
abbrev pub in_order : List Source → List Source
in_order [] = []
in_order (s ∷ ss) = placed s (in_order ss)
