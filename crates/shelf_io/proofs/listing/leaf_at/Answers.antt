use Rattle.std.proofs.Common.{◌∙◌, refl}
use Rattle.tile_path.specs.declared.path.Path.TheVariants.{Tile}
use Rattle.shelf_io.specs.Opening.{leaf_cell}
use Rattle.shelf_io.proofs.PathLemmas.{leaf_is_path, leaf_spelling, leaf_of_read, leaf_below}
use Rattle.shelf_io.proofs.listing.leaf_at.Goals as goal

pub returns-in-Some : goal.returns-in-Some
returns-in-Some c = record {
  cell = rw c.leaf_of.ensures (leaf_below c.args.top c.in-Some.path c.in-Some.ensures.path);
  leaf = λ leaf below. rw c.leaf_of.ensures (leaf_of_read c.args.top c.args.text.now c.in-Some.path c.requires c.in-Some.ensures.spelled c.in-Some.ensures.inverse leaf below);
}

pub returns-in-None : goal.returns-in-None
returns-in-None c = record {
  cell = tt;
  leaf = λ leaf below. (λ e. absurd (cc), λ spelled. absurd (c.in-None.ensures.none refl (Tile (leaf_cell c.args.top leaf)) (leaf_is_path c.args.top leaf c.requires below) (leaf_spelling c.args.top leaf ∙ spelled)));
}
