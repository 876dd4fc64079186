use Rattle.std.proofs.Common.{length, ◌≡◌, ◌+◌, ◌-◌, ◌*◌, ◌/◌, ◌^◌, ◌++◌, ◌∙◌, List, ℕ, Option, ap, subst, length-append, option_map}
use Rattle.std.specs.Prelude.{All, ℤ}
use Rattle.parent_rule.specs.Depth.{IsNumber}
use Rattle.tile_pixels.specs.Lines.{half_row}
use Rattle.tile_pixels.specs.Quadrants.{IsOver}
use Rattle.tile_pixels.specs.Stored.{stored_bytes}
use Rattle.tile_pixels.proofs.Kept.{appended, kept_bytes, kept_length, kept_range}
use Rattle.tile_pixels.proofs.merge.append_row.Goals as goal

pub returns-in-Kept-clause-length : goal.returns-in-Kept-clause-length
returns-in-Kept-clause-length c =
    let old : List ℕ = c.args.raw.now.items in
    appended c.extend_from_slice.result c.extend_from_slice.new.self.items old c.quadrant_line.result.now
    (λ bs. length bs ≡ length old + 2 ^ (c.args.form.now.n - 1) * (c.args.form.now.depth.bitpix / 8)) c.extend_from_slice.ensures.items
    (length-append old c.quadrant_line.result.now ∙ ap (λ (k : ℕ). length old + k)
    (kept_length c.args.form.now.depth c.args.form.now.n c.in-Kept.i c.in-Kept.tile c.args.quadrant c.quadrant_line.result.now c.in-Kept.is c.requires.quadrant c.quadrant_line.ensures.length))

pub returns-in-Kept-clause-bytes : goal.returns-in-Kept-clause-bytes
returns-in-Kept-clause-bytes c =
    let old : List ℕ = c.args.raw.now.items in
    appended c.extend_from_slice.result c.extend_from_slice.new.self.items old c.quadrant_line.result.now
    (λ bs. (child : Option (List ℤ)) → IsOver c.args.form.now.depth c.args.form.now.n child c.args.quadrant → bs ≡ old ++ stored_bytes c.args.form.now.depth.bitpix (half_row c.args.form.now.depth c.args.form.now.n child c.args.row)) c.extend_from_slice.ensures.items
    (λ child over. ap (λ (bs : List ℕ). old ++ bs)
    (kept_bytes c.args.form.now.depth c.args.form.now.n c.in-Kept.i c.args.row c.in-Kept.tile c.args.quadrant c.quadrant_line.result.now c.in-Kept.is c.requires.quadrant c.quadrant_line.ensures.bytes child over))

pub returns-in-Kept-clause-range : goal.returns-in-Kept-clause-range
returns-in-Kept-clause-range c child over =
    kept_range c.args.form.now.depth c.args.form.now.n c.in-Kept.i c.args.row c.in-Kept.tile c.args.quadrant c.in-Kept.is c.requires.quadrant c.quadrant_line.ensures.range child over

pub returns-in-Merged-clause-bytes : goal.returns-in-Merged-clause-bytes
returns-in-Merged-clause-bytes c =
    let old : List ℕ = c.args.raw.now.items in
    appended c.extend_from_slice-in-Merged.result c.extend_from_slice-in-Merged.new.self.items old c.store_half_row.new.bytes
    (λ bs. (child : Option (List ℤ)) → IsOver c.args.form.now.depth c.args.form.now.n child c.args.quadrant → bs ≡ old ++ stored_bytes c.args.form.now.depth.bitpix (half_row c.args.form.now.depth c.args.form.now.n child c.args.row)) c.extend_from_slice-in-Merged.ensures.items
    (λ child over.
    let given : option_map (λ t. t.now.numbers) c.in-Merged.child ≡ child = subst (IsOver c.args.form.now.depth c.args.form.now.n child) c.in-Merged.is over in
    ap (λ (bs : List ℕ). old ++ bs) (c.store_half_row.ensures.bytes ∙ ap (λ (o : Option (List ℤ)). stored_bytes c.args.form.now.depth.bitpix (half_row c.args.form.now.depth c.args.form.now.n o c.args.row)) given))

pub returns-in-Merged-clause-range : goal.returns-in-Merged-clause-range
returns-in-Merged-clause-range c child over =
    let given : option_map (λ t. t.now.numbers) c.in-Merged.child ≡ child = subst (IsOver c.args.form.now.depth c.args.form.now.n child) c.in-Merged.is over in
    subst (λ (o : Option (List ℤ)). All (IsNumber c.args.form.now.depth.bitpix) (half_row c.args.form.now.depth c.args.form.now.n o c.args.row)) given c.store_half_row.ensures.range
