use Rattle.std.proofs.Common.{◌∙◌, arith}
use Rattle.tile_path.specs.Spelling.{IsTile}
use Rattle.tile_path.proofs.TileLemmas.{order_digits, npix_digits, folder_digits, tile_written}
use Rattle.tile_path.proofs.tile.write_tile.Goals as goal

pub write_number-end-requires : goal.write_number-end-requires
write_number-end-requires c =
    let order = order_digits c.from-order.result c.args.cell.order (c.from-order.ensures ∙ c.order.ensures.order) c.requires.order in
    omega (arith, order, c.requires.room)

pub write-end-requires-2 : goal.write-end-requires-2
write-end-requires-2 c =
    let order = order_digits c.from-order.result c.args.cell.order (c.from-order.ensures ∙ c.order.ensures.order) c.requires.order in
    omega (arith, order, c.requires.room)

pub write_number-end-requires-2 : goal.write_number-end-requires-2
write_number-end-requires-2 c =
    let tile : IsTile c.args.cell.order c.args.cell.npix = record { cell = c.order.ensures.known; order_at_most_11 = c.requires.order } in
    let order = order_digits c.from-order.result c.args.cell.order (c.from-order.ensures ∙ c.order.ensures.order) c.requires.order in
    let folder = folder_digits c.folder.result c.args.cell.order c.args.cell.npix c.npix-npix.result c.folder.ensures c.npix-npix.ensures.npix tile in
    omega (arith, order, folder, c.requires.room)

pub write-end-requires-3 : goal.write-end-requires-3
write-end-requires-3 c =
    let tile : IsTile c.args.cell.order c.args.cell.npix = record { cell = c.order.ensures.known; order_at_most_11 = c.requires.order } in
    let order = order_digits c.from-order.result c.args.cell.order (c.from-order.ensures ∙ c.order.ensures.order) c.requires.order in
    let folder = folder_digits c.folder.result c.args.cell.order c.args.cell.npix c.npix-npix.result c.folder.ensures c.npix-npix.ensures.npix tile in
    omega (arith, order, folder, c.requires.room)

pub write_number-end-requires-3 : goal.write_number-end-requires-3
write_number-end-requires-3 c =
    let tile : IsTile c.args.cell.order c.args.cell.npix = record { cell = c.order.ensures.known; order_at_most_11 = c.requires.order } in
    let order = order_digits c.from-order.result c.args.cell.order (c.from-order.ensures ∙ c.order.ensures.order) c.requires.order in
    let folder = folder_digits c.folder.result c.args.cell.order c.args.cell.npix c.npix-npix.result c.folder.ensures c.npix-npix.ensures.npix tile in
    let npix = npix_digits c.npix-npix.result c.args.cell.order c.args.cell.npix c.npix-npix.ensures.npix tile in
    omega (arith, order, folder, npix, c.requires.room)

pub write-requires : goal.write-requires
write-requires c =
    let tile : IsTile c.args.cell.order c.args.cell.npix = record { cell = c.order.ensures.known; order_at_most_11 = c.requires.order } in
    let order = order_digits c.from-order.result c.args.cell.order (c.from-order.ensures ∙ c.order.ensures.order) c.requires.order in
    let folder = folder_digits c.folder.result c.args.cell.order c.args.cell.npix c.npix-npix.result c.folder.ensures c.npix-npix.ensures.npix tile in
    let npix = npix_digits c.npix-npix.result c.args.cell.order c.args.cell.npix c.npix-npix.ensures.npix tile in
    omega (arith, order, folder, npix, c.requires.room)

pub returns-clause-written : goal.returns-clause-written
returns-clause-written c =
    tile_written c.args.cell.order c.args.cell.npix (c.from-order.ensures ∙ c.order.ensures.order) c.folder.ensures c.npix-npix.ensures.npix
    c.write-end.ensures c.write_number-end.ensures c.write-end-2.ensures c.write_number-end-2.ensures
    c.write-end-3.ensures c.write_number-end-3.ensures c.write.ensures

pub returns-clause-within : goal.returns-clause-within
returns-clause-within c =
    let tile : IsTile c.args.cell.order c.args.cell.npix = record { cell = c.order.ensures.known; order_at_most_11 = c.requires.order } in
    let order = order_digits c.from-order.result c.args.cell.order (c.from-order.ensures ∙ c.order.ensures.order) c.requires.order in
    let folder = folder_digits c.folder.result c.args.cell.order c.args.cell.npix c.npix-npix.result c.folder.ensures c.npix-npix.ensures.npix tile in
    let npix = npix_digits c.npix-npix.result c.args.cell.order c.args.cell.npix c.npix-npix.ensures.npix tile in
    omega (arith, order, folder, npix)
