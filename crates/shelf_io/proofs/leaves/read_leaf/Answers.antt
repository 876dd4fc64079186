use Rattle.std.proofs.Common.{◌≡◌, sym, ap, ◌∙◌, subst}
use Rattle.std.specs.Prelude.{Some}
use Rattle.tile_path.specs.Spelling.{spelling}
use Rattle.tile_path.specs.declared.path.Path.TheVariants.{Tile}
use Rattle.survey_link.specs.Shelf.{Finds}
use Rattle.fits_tile.specs.Reading.{reads}
use Rattle.fits_tile.specs.Refused.{IsRefusedBy}
use Rattle.shelf_io.specs.Opening.{leaf_cell, leaf_path}
use Rattle.shelf_io.proofs.PathLemmas.{leaf_spelling, made_cell}
use Rattle.shelf_io.proofs.LeafLemmas.{tile_read, tile_sound, tile_refused, tile_absent, absent_sound}
use Rattle.shelf_io.proofs.leaves.read_leaf.Goals as goal

pub returns-in-Ok-clause-tile : goal.returns-in-Ok-clause-tile
returns-in-Ok-clause-tile g c =
    let d = c.args.conf.now in
    let cell : c.unwrap-cell.result ≡ leaf_cell d.shape.top c.args.leaf = made_cell d.shape.top c.new.inside.top c.args.leaf c.new-2.result c.unwrap-cell.result (ap (λ s. s.top) c.new.view_is ∙ ap (λ s. s.top) c.shape.ensures.shape) c.unwrap-cell.ensures c.new-2.ensures.cell in
    let spelled : c.deref.result.now ≡ leaf_path d.shape.top c.args.leaf = c.deref.ensures ∙ c.in_ok-path.ensures.ok ∙ ap (λ cell. spelling (Tile cell)) cell ∙ leaf_spelling d.shape.top c.args.leaf in
    let found : Finds (g.H.Shelf.files c.args.shelf.now) c.deref.result.now (Some c.in-Some.bytes) = subst (Finds (g.H.Shelf.files c.args.shelf.now) c.deref.result.now) c.in-Some.is c.in_ok-bytes.ensures.found in
    tile_read d c.args.leaf c.deref.result.now spelled (g.H.Shelf.files c.args.shelf.now) c.in-Some.bytes c.in-Ok.tile found
    (ap (reads d) (sym c.deref-in-Some.ensures.value) ∙ c.in-Ok.ensures.numbers) c.in-Ok.ensures.depth c.in-Ok.ensures.n

pub returns-clause-sound : goal.returns-clause-sound
returns-clause-sound g c =
    let d = c.args.conf.now in
    let cell : c.unwrap-cell.result ≡ leaf_cell d.shape.top c.args.leaf = made_cell d.shape.top c.new.inside.top c.args.leaf c.new-2.result c.unwrap-cell.result (ap (λ s. s.top) c.new.view_is ∙ ap (λ s. s.top) c.shape.ensures.shape) c.unwrap-cell.ensures c.new-2.ensures.cell in
    let spelled : c.deref.result.now ≡ leaf_path d.shape.top c.args.leaf = c.deref.ensures ∙ c.in_ok-path.ensures.ok ∙ ap (λ cell. spelling (Tile cell)) cell ∙ leaf_spelling d.shape.top c.args.leaf in
    absent_sound d c.args.leaf c.deref.result.now spelled (g.H.Shelf.files c.args.shelf.now) (subst (Finds (g.H.Shelf.files c.args.shelf.now) c.deref.result.now) c.in-None.is c.in_ok-bytes.ensures.found)

pub returns-in-Err-Fault-clause-refused : goal.returns-in-Err-Fault-clause-refused
returns-in-Err-Fault-clause-refused g c =
    let d = c.args.conf.now in
    let cell : c.unwrap-cell.result ≡ leaf_cell d.shape.top c.args.leaf = made_cell d.shape.top c.new.inside.top c.args.leaf c.new-2.result c.unwrap-cell.result (ap (λ s. s.top) c.new.view_is ∙ ap (λ s. s.top) c.shape.ensures.shape) c.unwrap-cell.ensures c.new-2.ensures.cell in
    let spelled : c.deref.result.now ≡ leaf_path d.shape.top c.args.leaf = c.deref.ensures ∙ c.in_ok-path.ensures.ok ∙ ap (λ cell. spelling (Tile cell)) cell ∙ leaf_spelling d.shape.top c.args.leaf in
    let found : Finds (g.H.Shelf.files c.args.shelf.now) c.deref.result.now (Some c.in-Some.bytes) = subst (Finds (g.H.Shelf.files c.args.shelf.now) c.deref.result.now) c.in-Some.is c.in_ok-bytes.ensures.found in
    let refused = subst (IsRefusedBy (reads d c.deref-in-Some.result.now)) c.in-Err-Fault.field-0-is c.in-Err-Fault.ensures.refused in
    tile_refused d c.args.leaf c.deref.result.now spelled (g.H.Shelf.files c.args.shelf.now) c.in-Some.bytes c.unwrap-cell.result c.in-Err-Fault.fault cell found
    (ap (reads d) (sym c.deref-in-Some.ensures.value) ∙ refused)

pub returns-in-Ok-clause-sound : goal.returns-in-Ok-clause-sound
returns-in-Ok-clause-sound g c =
    let d = c.args.conf.now in
    let cell : c.unwrap-cell.result ≡ leaf_cell d.shape.top c.args.leaf = made_cell d.shape.top c.new.inside.top c.args.leaf c.new-2.result c.unwrap-cell.result (ap (λ s. s.top) c.new.view_is ∙ ap (λ s. s.top) c.shape.ensures.shape) c.unwrap-cell.ensures c.new-2.ensures.cell in
    let spelled : c.deref.result.now ≡ leaf_path d.shape.top c.args.leaf = c.deref.ensures ∙ c.in_ok-path.ensures.ok ∙ ap (λ cell. spelling (Tile cell)) cell ∙ leaf_spelling d.shape.top c.args.leaf in
    let found : Finds (g.H.Shelf.files c.args.shelf.now) c.deref.result.now (Some c.in-Some.bytes) = subst (Finds (g.H.Shelf.files c.args.shelf.now) c.deref.result.now) c.in-Some.is c.in_ok-bytes.ensures.found in
    tile_sound d c.args.leaf c.deref.result.now spelled (g.H.Shelf.files c.args.shelf.now) c.in-Some.bytes c.in-Ok.tile.numbers found
    (ap (reads d) (sym c.deref-in-Some.ensures.value) ∙ c.in-Ok.ensures.numbers)

pub returns-clause-tile : goal.returns-clause-tile
returns-clause-tile g c =
    let d = c.args.conf.now in
    let cell : c.unwrap-cell.result ≡ leaf_cell d.shape.top c.args.leaf = made_cell d.shape.top c.new.inside.top c.args.leaf c.new-2.result c.unwrap-cell.result (ap (λ s. s.top) c.new.view_is ∙ ap (λ s. s.top) c.shape.ensures.shape) c.unwrap-cell.ensures c.new-2.ensures.cell in
    let spelled : c.deref.result.now ≡ leaf_path d.shape.top c.args.leaf = c.deref.ensures ∙ c.in_ok-path.ensures.ok ∙ ap (λ cell. spelling (Tile cell)) cell ∙ leaf_spelling d.shape.top c.args.leaf in
    tile_absent d c.args.leaf c.deref.result.now spelled (g.H.Shelf.files c.args.shelf.now) (subst (Finds (g.H.Shelf.files c.args.shelf.now) c.deref.result.now) c.in-None.is c.in_ok-bytes.ensures.found)
