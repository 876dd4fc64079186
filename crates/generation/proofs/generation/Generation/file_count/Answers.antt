use Rattle.std.proofs.Common.{◌≡◌, ◌+◌, ◌<◌, ℕ, List, Some, ap, ◌∙◌, sym, subst, arith, length, cond}
use Rattle.std.specs.Prelude.{IsSome, slice_get, option_map}
use Rattle.std.specs.FinMap.{get, len}
use Rattle.tile_path.specs.Spelling.{spelling}
use Rattle.pyramid_model.specs.Shape.{PyramidShape}
use Rattle.generation.specs.Files.{leaf_map, mosaic_paths, paths_in, files_in}
use Rattle.generation.specs.Generation.{GenerationContent}
use Rattle.generation.proofs.Paths.{orders_from}
use Rattle.generation.proofs.FileLemmas.{flag, mosaic_number, some_items, paths_count, file_len_is, each_file}
use Rattle.generation.proofs.generation.Generation.file_count.Goals as goal
use mir.Val.{bool_byte}

counted : (c : goal.After-count) → 2 + c.from.result + c.count.result ≡ length (paths_in c.args.self.now)
counted c =
    let g = c.args.self.now in
    let leaves_is = ap (λ (v : GenerationContent). leaf_map v.leaves) c.self.view_is in
    let shape_is = c.self.invariant.shape ∙ ap (λ (v : GenerationContent). v.conf.shape) c.self.view_is in
    let first : c.from.result ≡ length (mosaic_paths (leaf_map g.leaves)) =
    c.from.ensures ∙ ap bool_byte c.is_some.ensures ∙ flag _ ∙ ap (λ b. cond b 1 0) (some_items c.self.inside.mosaic)
    ∙ mosaic_number _ (leaf_map c.self.inside.pyramid.leaves) _ c.self.invariant.mosaic_is ∙ ap (λ l. length (mosaic_paths l)) leaves_is in
    let tiles : c.count.result ≡ length (orders_from g.conf.shape (leaf_map g.leaves) g.conf.shape.low) =
    c.count.ensures.count ∙ ap (λ (s : PyramidShape). length (orders_from s (leaf_map c.self.inside.pyramid.leaves) s.low)) shape_is
    ∙ ap (λ l. length (orders_from g.conf.shape l g.conf.shape.low)) leaves_is in
    let all = paths_count g.conf.shape (leaf_map g.leaves) in
    omega (arith, all, first, tiles)

pub returns-clause-paths : goal.returns-clause-paths
returns-clause-paths c = counted c

pub returns-clause-files : goal.returns-clause-files
returns-clause-files c =
    counted c ∙ sym (subst (λ (g : GenerationContent). len (files_in g) ≡ length (paths_in g)) c.self.view_is (file_len_is _ _ _ _ _ c.self.invariant c.spellings_differ.ensures))

pub returns-clause-each : goal.returns-clause-each
returns-clause-each c text there =
    let here = subst (λ (g : GenerationContent). (text : List ℕ) → IsSome (get (files_in g) text) → (i : ℕ) × (i < length (paths_in g)) × (option_map spelling (slice_get (paths_in g) i) ≡ Some text)) c.self.view_is
    (each_file _ _ _ _ _ c.self.invariant c.spellings_differ.ensures) text there in
    (here.0, omega (arith, here.1, counted c), here.2)
