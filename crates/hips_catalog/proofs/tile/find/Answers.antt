use Rattle.std.proofs.Common.{◌≡◌, ap, sym, ◌∙◌}
use Rattle.std.specs.Prelude.{slice_get, Some, option_copied}
use Rattle.hips_catalog.specs.Tiles.{is_of}
use Rattle.hips_catalog.proofs.Listed.{gap_from, got, no_tile, has_tile, the_cell, found_rows}
use Rattle.hips_catalog.proofs.tile.find.Goals as goal

pub returns-then-is_of-clause-there : goal.returns-then-is_of-clause-there
returns-then-is_of-clause-there c =
    has_tile c.args.tiles.now c.search-at.result.0 c.in-Some.tile.now c.args.cell (sym c.search-at.ensures.item ∙ ap option_copied c.in-Some.is)
    (the_cell c.in-Some.tile.now c.args.cell (sym c.is_of.ensures ∙ c.if-is_of.true))

pub returns-then-is_of-clause-rows : goal.returns-then-is_of-clause-rows
returns-then-is_of-clause-rows c =
    let e : slice_get c.args.tiles.now c.search-at.result.0 ≡ Some c.in-Some.tile.now = sym c.search-at.ensures.item ∙ ap option_copied c.in-Some.is in
    found_rows c.args.tiles.now c.search-at.result.0 c.in-Some.tile.now c.args.cell c.requires
    (has_tile c.args.tiles.now c.search-at.result.0 c.in-Some.tile.now c.args.cell e (the_cell c.in-Some.tile.now c.args.cell (sym c.is_of.ensures ∙ c.if-is_of.true))) e

pub returns-then-is_of-clause-cell : goal.returns-then-is_of-clause-cell
returns-then-is_of-clause-cell c = the_cell c.in-Some.tile.now c.args.cell (sym c.is_of.ensures ∙ c.if-is_of.true)

pub returns-else-is_of-clause-gap : goal.returns-else-is_of-clause-gap
returns-else-is_of-clause-gap c =
    gap_from c.args.tiles.now c.search-at.result.0 c.uniq.result c.args.cell c.uniq.ensures c.requires c.search-at.ensures.leading
    (λ tile e. ap (is_of c.args.cell.order c.args.cell.npix) (sym (got c.in-Some.tile.now tile (sym (ap option_copied c.in-Some.is) ∙ c.search-at.ensures.item ∙ e))) ∙ sym c.is_of.ensures ∙ c.if-is_of.false)

pub returns-in-None-clause-gap : goal.returns-in-None-clause-gap
returns-in-None-clause-gap c =
    gap_from c.args.tiles.now c.search-at.result.0 c.uniq.result c.args.cell c.uniq.ensures c.requires c.search-at.ensures.leading
    (λ tile e. absurd (no_tile tile (sym (ap option_copied c.in-None.is) ∙ c.search-at.ensures.item ∙ e)))
