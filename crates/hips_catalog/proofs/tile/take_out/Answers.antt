use Rattle.std.proofs.Common.{◌≡◌, ℕ, ◌+◌, ◌<◌, List, [], length, ap, sym, ◌∙◌, arith}
use Rattle.std.specs.Arc.{arc_value}
use Rattle.std.specs.List.{remove}
use Rattle.hips_catalog.specs.Rows.{Source}
use Rattle.hips_catalog.specs.Tiles.{rows_at}
use Rattle.hips_catalog.proofs.Full.{dropped, remove_only, remove_length, still_full}
use Rattle.hips_catalog.proofs.Shared.{length_map}
use Rattle.hips_catalog.proofs.tile.take_out.Goals as goal

two_left : (ss after : List Source) (i n : ℕ) → n ≡ length ss → ¬ (n ≡ 1) → i < length ss → after ≡ remove ss i → 0 < length after
two_left ss after i n e m h r =
    let a : length (remove ss i) + 1 ≡ length ss = remove_length ss i h in
    let b : length after ≡ length (remove ss i) = ap length r in omega (arith, a, b, e, m, h)

pub returns-then-len-eq1-clause-rows : goal.returns-then-len-eq1-clause-rows
returns-then-len-eq1-clause-rows c =
    (dropped c.args.tiles.now c.remove-tile.new.self c.with_place-at.result.0 c.args.cell c.requires.listed c.with_place-at.ensures.there c.remove-tile.ensures.items).rows_are
    ∙ sym (remove_only (rows_at c.args.tiles.now c.args.cell.order c.args.cell.npix) c.args.i (ap length c.with_place-at.ensures.rows ∙ length_map arc_value c.with_place-at.result.1.now.rows ∙ sym c.len.ensures ∙ c.if-len-eq1.true) c.requires.place)

pub returns-then-len-eq1-clause-others : goal.returns-then-len-eq1-clause-others
returns-then-len-eq1-clause-others c = (dropped c.args.tiles.now c.remove-tile.new.self c.with_place-at.result.0 c.args.cell c.requires.listed c.with_place-at.ensures.there c.remove-tile.ensures.items).others

pub returns-then-len-eq1-clause-listed : goal.returns-then-len-eq1-clause-listed
returns-then-len-eq1-clause-listed c = (dropped c.args.tiles.now c.remove-tile.new.self c.with_place-at.result.0 c.args.cell c.requires.listed c.with_place-at.ensures.there c.remove-tile.ensures.items).listed

pub returns-then-len-eq1-clause-full : goal.returns-then-len-eq1-clause-full
returns-then-len-eq1-clause-full c = (dropped c.args.tiles.now c.remove-tile.new.self c.with_place-at.result.0 c.args.cell c.requires.listed c.with_place-at.ensures.there c.remove-tile.ensures.items).full

pub returns-clause-full : goal.returns-clause-full
returns-clause-full c =
    still_full c.args.tiles.now c.take-row.new.tiles c.args.cell.order c.args.cell.npix c.take-row.ensures.cells c.take-row.ensures.others
    (two_left (rows_at c.args.tiles.now c.args.cell.order c.args.cell.npix) (rows_at c.take-row.new.tiles c.args.cell.order c.args.cell.npix) c.args.i c.len.result (c.len.ensures ∙ sym (length_map arc_value c.with_place-at.result.1.now.rows) ∙ sym (ap length c.with_place-at.ensures.rows)) c.if-len-eq1.false c.requires.place c.take-row.ensures.rows)
