use Rattle.std.proofs.Common.{◌≡◌, ℕ, ◌<◌, List, map, string_bytes, sym, ap, ◌∙◌, subst}
use Rattle.std.specs.Prelude.{IfSome, All}
use Rattle.std.specs.List.Sorted.{IsStrictlyIncreasing}
use Rattle.healpix_nested.specs.Cells.{cell_count}
use Rattle.shelf_io.specs.Opening.{leaves_on}
use Rattle.shelf_io.specs.Listed.{leaves_among}
use Rattle.shelf_io.proofs.LoadLemmas.{listed_on, among_ascend, among_cells}
use Rattle.shelf_io.proofs.listing.shelf_leaves.Goals as goal

pub returns-clause-listed : goal.returns-clause-listed
returns-clause-listed g c =
    let found : c.in_ok-listed_leaves.field-0.items ≡ leaves_among (map string_bytes c.in_ok-paths.paths.items) c.args.top = c.in_ok-listed_leaves.ensures ∙ ap (λ paths. leaves_among (map string_bytes paths) c.args.top) c.deref-2.ensures.value in
    subst (λ leaves. IfSome (g.H.Shelf.files c.args.shelf.now) (λ files. leaves ≡ leaves_on files c.args.top)) (sym found)
    (listed_on (g.H.Shelf.files c.args.shelf.now) c.in_ok-paths.paths.items c.args.top c.in_ok-paths.ensures.listed)

pub returns-clause-ascending : goal.returns-clause-ascending
returns-clause-ascending g c = subst IsStrictlyIncreasing (sym c.in_ok-listed_leaves.ensures) (among_ascend (map string_bytes c.deref-2.result.now) c.args.top)

pub returns-clause-cells : goal.returns-clause-cells
returns-clause-cells g c =
    let P : List ℕ → Type 0 = All (λ leaf. leaf < cell_count c.args.top) in
    subst P (sym c.in_ok-listed_leaves.ensures) (among_cells (map string_bytes c.deref-2.result.now) c.args.top)
