use Rattle.std.proofs.Common.{◌≡◌, ◌≤◌, ◌+◌, ◌-◌, ap, ◌∙◌, sym, subst, arith, length, slice_get}
use Rattle.generation.specs.Files.{leaf_map, mosaic_paths, paths}
use Rattle.generation.proofs.FileLemmas.{flag, flag_small, path_zero, path_one, path_two, path_tile}
use Rattle.generation.proofs.generation.path_of.Goals as goal

pub returns-in-Some : goal.returns-in-Some
returns-in-Some c =
    let first : c.from-first.result ≡ length (mosaic_paths (leaf_map c.args.pyramid.now.leaves)) = c.from-first.ensures ∙ flag c.args.has_mosaic ∙ c.requires in
    c.in-Some.ensures.cell ∙ path_tile c.args.pyramid.now.shape (leaf_map c.args.pyramid.now.leaves) c.args.i (c.args.i - (2 + c.from-first.result)) (omega arith)

pub returns-in-None : goal.returns-in-None
returns-in-None c =
    let first : c.from-first.result ≡ length (mosaic_paths (leaf_map c.args.pyramid.now.leaves)) = c.from-first.ensures ∙ flag c.args.has_mosaic ∙ c.requires in
    c.in-None.ensures.cell ∙ path_tile c.args.pyramid.now.shape (leaf_map c.args.pyramid.now.leaves) c.args.i (c.args.i - (2 + c.from-first.result)) (omega arith)

pub returns-in-0 : goal.returns-in-0
returns-in-0 c =
    let at : c.args.i ≡ 0 = omega arith in
    path_zero c.args.pyramid.now.shape (leaf_map c.args.pyramid.now.leaves) ∙ ap (slice_get (paths c.args.pyramid.now.shape (leaf_map c.args.pyramid.now.leaves))) (sym at)

pub returns-in-1 : goal.returns-in-1
returns-in-1 c =
    let at : c.args.i ≡ 1 = omega arith in
    path_one c.args.pyramid.now.shape (leaf_map c.args.pyramid.now.leaves) ∙ ap (slice_get (paths c.args.pyramid.now.shape (leaf_map c.args.pyramid.now.leaves))) (sym at)

pub returns-in_default : goal.returns-in_default
returns-in_default c =
    let first : c.from-first.result ≡ length (mosaic_paths (leaf_map c.args.pyramid.now.leaves)) = c.from-first.ensures ∙ flag c.args.has_mosaic ∙ c.requires in
    let few : c.from-first.result ≤ 1 = subst (λ n. n ≤ 1) (sym c.from-first.ensures) (flag_small c.args.has_mosaic) in
    let at : c.args.i ≡ 2 = omega arith in
    let one : length (mosaic_paths (leaf_map c.args.pyramid.now.leaves)) ≡ 1 = omega arith in
    path_two c.args.pyramid.now.shape (leaf_map c.args.pyramid.now.leaves) one ∙ ap (slice_get (paths c.args.pyramid.now.shape (leaf_map c.args.pyramid.now.leaves))) (sym at)
