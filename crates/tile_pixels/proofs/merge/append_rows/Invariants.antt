use Rattle.std.proofs.Common.{◌≡◌, ◌+◌, ◌-◌, ◌*◌, ◌/◌, ◌^◌, ◌++◌, List, Option, length}
use Rattle.std.specs.Prelude.{All, ℤ}
use Rattle.parent_rule.specs.Depth.{IsNumber}
use Rattle.tile_pixels.specs.Lines.{half_rows}
use Rattle.tile_pixels.specs.Quadrants.{IsOver}
use Rattle.tile_pixels.specs.Stored.{stored_bytes}
use Rattle.tile_pixels.proofs.merge.append_rows.Given as goal

abbrev pub invariant-loop-line : goal.invariant-loop-line
invariant-loop-line l = record {
  long : length l.raw.items ≡ length l.initial.raw.items + l.line * (2 * (2 ^ (l.form.n - 1) * (l.form.depth.bitpix / 8)));
  bytes : (left right : Option (List ℤ)) → IsOver l.form.depth l.form.n left l.left → IsOver l.form.depth l.form.n right l.right
      → l.raw.items ≡ l.initial.raw.items ++ stored_bytes l.form.depth.bitpix (half_rows l.form.depth l.form.n left right l.line);
  range : (left right : Option (List ℤ)) → IsOver l.form.depth l.form.n left l.left → IsOver l.form.depth l.form.n right l.right
      → All (IsNumber l.form.depth.bitpix) (half_rows l.form.depth l.form.n left right l.line);
}
