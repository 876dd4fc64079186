use Rattle.std.proofs.Common.{ap, ◌∙◌, subst, cond}
use Rattle.std.specs.Prelude.{IfSome, IsSome, slice_get}
use Rattle.std.specs.FinMap.{get}
use Rattle.tile_path.specs.Spelling.{spelling}
use Rattle.pyramid_model.specs.Shape.{PyramidShape}
use Rattle.generation.specs.Files.{leaf_map, paths, paths_in, files_in}
use Rattle.generation.specs.Generation.{GenerationContent}
use Rattle.generation.proofs.FileLemmas.{mosaic_number, some_items, path_known}
use Rattle.generation.proofs.generation.Generation.path.Goals as goal

pub returns-clause-path : goal.returns-clause-path
returns-clause-path c =
    c.path_of.ensures
    ∙ ap (λ (s : PyramidShape). slice_get (paths s (leaf_map c.self.inside.pyramid.leaves)) c.args.i) c.self.invariant.shape
    ∙ ap (λ (g : GenerationContent). slice_get (paths_in g) c.args.i) c.self.view_is

pub returns-clause-known : goal.returns-clause-known
returns-clause-known c =
    (path_known _ _ _ _ _ c.self.invariant c.spellings_differ.ensures c.args.i c.path_of.result
    (c.path_of.ensures ∙ ap (λ (s : PyramidShape). slice_get (paths s (leaf_map c.self.inside.pyramid.leaves)) c.args.i) c.self.invariant.shape)).0

pub returns-clause-there : goal.returns-clause-there
returns-clause-there c =
    subst (λ (g : GenerationContent). IfSome c.path_of.result (λ path. IsSome (get (files_in g) (spelling path)))) c.self.view_is
    (path_known _ _ _ _ _ c.self.invariant c.spellings_differ.ensures c.args.i c.path_of.result
    (c.path_of.ensures ∙ ap (λ (s : PyramidShape). slice_get (paths s (leaf_map c.self.inside.pyramid.leaves)) c.args.i) c.self.invariant.shape)).1

pub path_of-requires : goal.path_of-requires
path_of-requires c =
    ap (λ b. cond b 1 0) (c.is_some.ensures ∙ some_items c.self.inside.mosaic) ∙ mosaic_number _ (leaf_map c.self.inside.pyramid.leaves) _ c.self.invariant.mosaic_is
