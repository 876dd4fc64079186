use Rattle.std.proofs.Common.{◌≡◌, ◌≤◌, ap, ◌∙◌, arith, length}
use Rattle.generation.specs.Files.{leaf_map, tile_paths}
use Rattle.generation.proofs.Paths.{count_is, few_paths}
use Rattle.generation.proofs.pyramid.Pyramid.count_of.Goals as goal

pub returns-in-Some-clause-count : goal.returns-in-Some-clause-count
returns-in-Some-clause-count c =
    c.len.ensures.pairs ∙ ap length c.in-Some.ensures.tiles.2 ∙ count_is c.args.self.now.shape (leaf_map c.args.self.now.leaves) c.args.order

pub returns-in-Some-clause-at_most : goal.returns-in-Some-clause-at_most
returns-in-Some-clause-at_most c =
    let same : c.len.result ≡ length (tile_paths c.args.self.now.shape (leaf_map c.args.self.now.leaves) c.args.order) =
    c.len.ensures.pairs ∙ ap length c.in-Some.ensures.tiles.2 ∙ count_is c.args.self.now.shape (leaf_map c.args.self.now.leaves) c.args.order in
    let top : c.args.self.now.shape.top ≤ 11 = c.in-Some.ensures.shape.greatest_top in
    let high : c.args.order ≤ c.args.self.now.shape.top = c.requires.high in
    let few = few_paths c.args.self.now.shape (leaf_map c.args.self.now.leaves) c.args.order (omega arith) in
    omega arith
