use Rattle.std.proofs.Common.{ℕ, Err, sym, subst, ◌∙◌, arith}
use Rattle.std.proofs.lemmas.Result.{err_from_is_err_and}
use Rattle.hips_catalog.specs.Catalogue.{existing_tiles}
use Rattle.catalog_command.proofs.Existing.{are_tiles, are_all, are_few}
use Rattle.catalog_command.proofs.Shelves.{inside, beyond, filling_goes_on, filling_fails, filling_ends}
use Rattle.survey_link.specs.Link.{CountsFault}
use Rattle.survey_link.specs.Shelf.{shelf_failed}
use Rattle.catalog_command.proofs.tiles.fill.Goals as goal

pub fill_tile-requires : goal.fill_tile-requires
fill_tile-requires g c = (are_tiles c.args.catalog.now c.len-rows.ensures.known.top c.tiles.count c.in-Some.cell (sym c.in-Some.ensures)).order_at_most_11

pub returns-in_err-fill_tile-clause-refused : goal.returns-in_err-fill_tile-clause-refused
returns-in_err-fill_tile-clause-refused g c =
    let p = err_from_is_err_and c.from_residual.result c.from_residual.ensures.1 in
    let tile = are_tiles c.args.catalog.now c.len-rows.ensures.known.top c.tiles.count c.in-Some.cell (sym c.in-Some.ensures) in
    rw p.1 (filling_fails c.args.catalog.now c.tiles.count c.in-Some.cell (g.H.Shelf.files c.args.shelf.now) (g.H.Shelf.files c.tiles.shelf) (g.H.Shelf.files c.fill_tile.new.shelf) tile
    c.tiles.invariant.fills c.in_err-fill_tile.ensures.refused)

pub returns-in_err-fill_tile-clause-faults : goal.returns-in_err-fill_tile-clause-faults
returns-in_err-fill_tile-clause-faults g c =
    let p = err_from_is_err_and c.from_residual.result c.from_residual.ensures.1 in
    rw (p.1, p.2) (subst (λ count. CountsFault (shelf_failed {A = ℕ} (Err c.in_err-fill_tile.field-0.0)) count (g.H.Shelf.faults c.fill_tile.new.shelf)) c.tiles.invariant.faults c.in_err-fill_tile.ensures.faults)

pub overflow_add-count : goal.overflow_add-count
overflow_add-count g c =
    let low = inside (existing_tiles c.args.catalog.now) c.tiles.count c.in-Some.cell (sym c.in-Some.ensures) in
    let few = are_few c.args.catalog.now c.len-rows.ensures.known.top in
    omega (arith, low, few)

pub tiles-smaller : goal.tiles-smaller
tiles-smaller g c =
    let low = inside (existing_tiles c.args.catalog.now) c.tiles.count c.in-Some.cell (sym c.in-Some.ensures) in
    omega (arith, low)

pub tiles-preserved : goal.tiles-preserved
tiles-preserved g c =
    let low = inside (existing_tiles c.args.catalog.now) c.tiles.count c.in-Some.cell (sym c.in-Some.ensures) in
    record {
      fills = filling_goes_on c.catalogue_spellings_differ.ensures c.args.catalog.now (are_tiles c.args.catalog.now c.len-rows.ensures.known.top) c.tiles.count c.in-Some.cell
          (g.H.Shelf.files c.args.shelf.now) (g.H.Shelf.files c.tiles.shelf) (g.H.Shelf.files c.fill_tile.new.shelf) (sym c.in-Some.ensures) c.tiles.invariant.fills c.in_ok-fill_tile.ensures.filled;
      within = omega (arith, low);
      faults = c.in_ok-fill_tile.ensures.faults ∙ c.tiles.invariant.faults;
    }

pub returns-clause-count : goal.returns-clause-count
returns-clause-count g c =
    let far = beyond (existing_tiles c.args.catalog.now) c.tiles.count (sym c.in_default.ensures) in
    omega (arith, far, c.tiles.invariant.within)

pub returns-clause-filled : goal.returns-clause-filled
returns-clause-filled g c =
    let far = beyond (existing_tiles c.args.catalog.now) c.tiles.count (sym c.in_default.ensures) in
    filling_ends c.args.catalog.now (are_all c.args.catalog.now) c.tiles.count (omega (arith, far, c.tiles.invariant.within)) (g.H.Shelf.files c.args.shelf.now) (g.H.Shelf.files c.tiles.shelf) c.tiles.invariant.fills
