use Rattle.std.proofs.Common.{subst, ◌≡◌, ◌<◌, List, [], ◌∷◌, length, drop, refl, ap, sym, ◌∙◌, arith}
use Rattle.std.specs.Prelude.{slice_get, slice_set, slice_index_or, Some}
use Rattle.std.specs.Arc.{arc_value}
use Rattle.std.specs.declared.sync.Arc.{Arc}
use Rattle.std.specs.declared.alloc.Global.{Global}
use Rattle.hips_catalog.specs.Rows.{Source}
use Rattle.hips_catalog.specs.Tiles.{sources, rows_at, HasNewRows}
use Rattle.hips_catalog.proofs.tile.exchange.Goals as goal

first_set : (rows : List (Arc Source Global)) (row : Arc Source Global) → 0 < length rows → sources (slice_set rows 0 row) ≡ arc_value row ∷ drop 1 (sources rows)
first_set [] row h = absurd (omega (arith, h))
first_set (r ∷ rs) row h = refl

first_out : (rows : List (Arc Source Global)) (row : Arc Source Global) → 0 < length rows → row ≡ slice_index_or rows 0 row → Some (arc_value row) ≡ slice_get (sources rows) 0
first_out [] row h e = absurd (omega (arith, h))
first_out (r ∷ rs) row h e = ap (λ q. Some (arc_value q)) e

some_rows : (ss : List Source) (rows : List (Arc Source Global)) → length ss ≡ length rows → 0 < length ss → 0 < length rows
some_rows ss rows e h = omega (arith, e, h)

pub exchange-first-requires : goal.exchange-first-requires
exchange-first-requires c =
    some_rows (rows_at c.args.tiles.now c.args.cell.order c.args.cell.npix) c.lift-tile.result.rows
    c.lift-tile.ensures.count c.requires.some

done : (c : goal.Joined-tile-2) → HasNewRows c.args.cell (sources c.exchange-first.new.self) c.args.tiles.now c.swap.new.self
done c =
    subst (λ tiles. HasNewRows c.args.cell (sources c.exchange-first.new.self) c.args.tiles.now tiles) (sym c.swap.ensures.items)
    (c.lift-tile.ensures.back (record { cell = c.lift-tile.result.cell; rows = c.exchange-first.new.self }) refl)

pub returns-clause-rows : goal.returns-clause-rows
returns-clause-rows c =
    (done c).rows_are ∙ ap sources c.exchange-first.ensures.items
    ∙ first_set c.lift-tile.result.rows c.args.row
    (some_rows (rows_at c.args.tiles.now c.args.cell.order c.args.cell.npix) c.lift-tile.result.rows
    c.lift-tile.ensures.count c.requires.some)
    ∙ ap (λ ys. arc_value c.args.row ∷ drop 1 ys) (sym c.lift-tile.ensures.rows)

pub returns-clause-first : goal.returns-clause-first
returns-clause-first c =
    first_out c.lift-tile.result.rows c.exchange-first.result
    (some_rows (rows_at c.args.tiles.now c.args.cell.order c.args.cell.npix) c.lift-tile.result.rows
    c.lift-tile.ensures.count c.requires.some) c.exchange-first.ensures.item
    ∙ ap (λ ys. slice_get ys 0) (sym c.lift-tile.ensures.rows)

pub returns-clause-others : goal.returns-clause-others
returns-clause-others c = (done c).others

pub returns-clause-listed : goal.returns-clause-listed
returns-clause-listed c = (done c).listed

pub returns-clause-cells : goal.returns-clause-cells
returns-clause-cells c = (done c).cells
