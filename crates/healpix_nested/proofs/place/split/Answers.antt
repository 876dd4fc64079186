use Rattle.std.proofs.Common.{ℕ, ◌<◌, sym, ap₂, ◌∙◌, subst₂, subst}
use Rattle.healpix_nested.specs.Place.{Interleaves, z_order}
use Rattle.healpix_nested.specs.PlaceLaws.{z_order-parts, parts_interleave, column_of_below, line_of_below}
use Rattle.healpix_nested.proofs.place.split.Goals as goal

pub returns-clause-bits : goal.returns-clause-bits
returns-clause-bits c =
    subst₂ (λ (x : ℕ) (y : ℕ). Interleaves c.args.z x y) (sym c.gather.ensures) (sym c.gather-2.ensures)
    (parts_interleave c.args.z c.requires)

pub returns-clause-below : goal.returns-clause-below
returns-clause-below c = (
  subst (λ (x : ℕ). x < 512) (sym c.gather.ensures) (column_of_below 9 c.args.z c.requires),
  subst (λ (x : ℕ). x < 512) (sym c.gather-2.ensures) (line_of_below 9 c.args.z c.requires),
)

pub returns-clause-number : goal.returns-clause-number
returns-clause-number c =
    ap₂ (λ (x : ℕ) (y : ℕ). z_order x y) c.gather.ensures c.gather-2.ensures ∙ z_order-parts c.args.z c.requires
