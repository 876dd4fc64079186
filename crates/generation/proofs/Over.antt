-- The cells of order 3 over some leaves.
use Rattle.std.proofs.Common.{◌≡◌, ℕ, ◌+◌, ◌-◌, ◌*◌, ◌/◌, ◌^◌, ◌<◌, ◌≤◌, List, [], ◌∷◌, ◌++◌, map, take, length, get_or, sym, ap, ◌∙◌, arith}
use Rattle.std.specs.Prelude.{All, Contains, nat_eq}
use Rattle.std.specs.List.{dedup}
use Rattle.std.proofs.lemmas.List.{map-append, take_more, length-map, get_or-map}
use Rattle.std.proofs.lemmas.List.Elements.{All-map}
use Rattle.std.proofs.lemmas.List.Filters.{All-dedup}
use Rattle.std.proofs.lemmas.List.Kept.{Contains-dedup_nat}
use Rattle.healpix_nested.specs.Cells.{cell_count, IsCell}
use Rattle.healpix_nested.specs.CellLaws.{ancestor_is_cell, four_pow}

-- the cell of order 3 over a leaf
abbrev pub over : ℕ → ℕ → ℕ
over top leaf = leaf / 4 ^ (top - 3)

pub cells_more : (top i : ℕ) (leaves cells cells' : List ℕ) → i < length leaves → cells ≡ map (over top) (take i leaves) → cells' ≡ cells ++ (get_or leaves i 0 / 2 ^ (2 * (top - 3))) ∷ []
    → cells' ≡ map (over top) (take (i + 1) leaves)
cells_more top i leaves cells cells' within is pushed =
    pushed ∙ ap (λ l. l ++ (get_or leaves i 0 / 2 ^ (2 * (top - 3))) ∷ []) is
    ∙ ap (λ p. map (over top) (take i leaves) ++ (get_or leaves i 0 / p) ∷ []) (four_pow (top - 3))
    ∙ sym (map-append (over top) (take i leaves) (get_or leaves i 0 ∷ [])) ∙ ap (map (over top)) (sym (take_more leaves i 0 within))

pub over_cells : (top : ℕ) (leaves : List ℕ) → 3 ≤ top → top ≤ 11 → All (λ leaf. leaf < cell_count top) leaves → All (λ cell. cell < 768) (dedup nat_eq (map (over top) leaves))
over_cells top leaves least most all =
    All-dedup nat_eq (λ cell. cell < 768) (map (over top) leaves) (All-map (λ cell. cell < 768) (over top) leaves (λ k d h.
    let here : IsCell 3 (over top (get_or leaves k d)) = ancestor_is_cell top (get_or leaves k d) 3 (record { known_order = omega arith; in_order = all k d h }) least in
    here.in_order))

pub over_each : (top : ℕ) (leaves : List ℕ) → All (λ leaf. Contains (dedup nat_eq (map (over top) leaves)) (over top leaf)) leaves
over_each top leaves k d h =
    Contains-dedup_nat (map (over top) leaves) (over top (get_or leaves k d)) (k, omega (arith, length-map leaves (over top)), get_or-map (over top) leaves k d (over top (get_or leaves k d)) h)
