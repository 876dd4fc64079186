use Rattle.std.proofs.Common.{sym, ◌∙◌, ap, arith}
use Rattle.std.proofs.lemmas.Bool.{false≢true}
use Rattle.std.proofs.lemmas.Bool.Decides.{Decides-eqb}
use Rattle.std.proofs.lemmas.Slice.Eq.{slice_eq-Decides}
use Rattle.tile_path.specs.Spelling.{folder_number}
use Rattle.tile_path.proofs.TileLemmas.{no_folder, no_npix, reads_as, reads_of_tile, cell_read}
use Rattle.tile_path.proofs.tile.read_tile.Goals as goal
use Rattle.tile_path.proofs.tile.read_tile.Goals.{else-order-le-MAX_TILE_ORDER-via-then-order-le-MAX_TILE_ORDER+then-directory-folder+else-eq, else-order-le-MAX_TILE_ORDER-via-then-order-le-MAX_TILE_ORDER+else-directory-folder, else-order-le-MAX_TILE_ORDER-via-else-order-le-MAX_TILE_ORDER}

pub returns-in_err-directory : goal.returns-in_err-directory
returns-in_err-directory c =
    rw c.from_residual-in_err-directory.ensures
    (no_folder c.args.text.now c.args.suffix.now c.in_ok-order.order c.in_ok-order.rest.now c.in_ok-order.ensures c.in_err-directory.ensures)

pub returns-in_err-npix : goal.returns-in_err-npix
returns-in_err-npix c =
    rw c.from_residual-in_err-npix.ensures
    (no_npix c.args.text.now c.args.suffix.now c.in_ok-order.order c.in_ok-directory.directory c.in_ok-order.rest.now c.in_ok-directory.rest.now
    c.requires c.in_ok-order.ensures c.in_ok-directory.ensures c.in_err-npix.ensures)

pub returns-then-eq : goal.returns-then-eq
returns-then-eq c =
    cell_read c.args.text.now c.in_ok-order.order c.in_ok-directory.directory c.in_ok-npix.npix c.in_ok-npix.rest.now c.args.suffix.now
    c.new.result c.requires (reads_as c.in_ok-order.ensures c.in_ok-directory.ensures c.in_ok-npix.ensures)
    c.if-order-le-MAX_TILE_ORDER.true (c.if-directory-folder.true ∙ c.folder.ensures)
    ((slice_eq-Decides Decides-eqb c.in_ok-npix.rest.now c.args.suffix.now c.eq.result c.eq.ensures).0 c.if-eq.true)
    c.new.ensures.known c.new.ensures.cell

pub returns-else-order-le-MAX_TILE_ORDER : goal.returns-else-order-le-MAX_TILE_ORDER
returns-else-order-le-MAX_TILE_ORDER c order npix tile e =
    let same =
    reads_of_tile c.args.text.now c.in_ok-order.order c.in_ok-directory.directory c.in_ok-npix.npix c.in_ok-npix.rest.now c.args.suffix.now
    c.requires (reads_as c.in_ok-order.ensures c.in_ok-directory.ensures c.in_ok-npix.ensures) order npix tile e in
    elim c.else-order-le-MAX_TILE_ORDER.branch [
      | else-order-le-MAX_TILE_ORDER-via-then-order-le-MAX_TILE_ORDER+then-directory-folder+else-eq w ↦
          absurd (false≢true (sym w.if-eq.false
          ∙ (slice_eq-Decides Decides-eqb c.in_ok-npix.rest.now c.args.suffix.now w.eq.result w.eq.ensures).1 same.same_suffix))
      | else-order-le-MAX_TILE_ORDER-via-then-order-le-MAX_TILE_ORDER+else-directory-folder w ↦
          w.if-directory-folder.false (same.same_folder ∙ ap folder_number (sym same.same_npix) ∙ sym w.folder.ensures)
      | else-order-le-MAX_TILE_ORDER-via-else-order-le-MAX_TILE_ORDER w ↦ omega (arith, same.same_order, tile.order_at_most_11)
    ]
