use Rattle.std.proofs.Common.{◌≡◌, ◌≤◌, ◌+◌, ap, ◌∙◌, arith, take, length}
use Rattle.std.specs.Arc.{arc_value}
use Rattle.std.specs.FinMap.{get}
use Rattle.fits_header.specs.Cards.{whole_blocks}
use Rattle.fits_tile.specs.TileFile.{data_len, tile_file}
use Rattle.survey_conf.specs.Description.{Description}
use Rattle.tile_path.specs.declared.path.Path.TheVariants.{Tile}
use Rattle.tile_path.specs.Spelling.{spelling}
use Rattle.generation.specs.Files.{files_in}
use Rattle.generation.specs.Generation.{GenerationContent}
use Rattle.generation.proofs.FileLemmas.{tile_kept, tile_absent}
use Rattle.generation.proofs.Paths.{written_front}
use Rattle.generation.proofs.generation.Generation.tile_body.Goals as goal

pub returns-in-Some-clause-file : goal.returns-in-Some-clause-file
returns-in-Some-clause-file c =
    let n : c.encode_into.result ≡ 2880 + whole_blocks (data_len c.args.self.now.conf.shape) =
    c.encode_into.ensures.len ∙ ap (λ (d : Description). 2880 + whole_blocks (data_len d.shape)) (c.deref-in-Some.ensures ∙ ap (λ (g : GenerationContent). g.conf) c.self.view_is) in
    let room : 2880 + whole_blocks (data_len c.args.self.now.conf.shape) ≤ length c.args.out.now = c.requires.room in
    let within : c.encode_into.result ≤ length c.args.out.now = omega arith in
    let made : take c.encode_into.result c.encode_into.new.out ≡ tile_file (arc_value c.self.inside.conf) c.args.cell.order c.args.cell.npix c.deref.result.now.numbers =
    written_front c.encode_into.new.out c.args.out.now (tile_file c.deref-in-Some.result.now c.args.cell.order c.args.cell.npix c.deref.result.now.numbers) c.encode_into.result c.encode_into.ensures.written c.encode_into.auto.out within
    ∙ ap (λ (d : Description). tile_file d c.args.cell.order c.args.cell.npix c.deref.result.now.numbers) c.deref-in-Some.ensures in
    tile_kept _ _ _ _ _ c.self.invariant c.spellings_differ.ensures c.args.cell c.deref.result.now (take c.encode_into.result c.encode_into.new.out) c.order-order.ensures.known c.in-Some.ensures.0
    (c.deref.ensures ∙ c.in-Some.ensures.1) made
    ∙ ap (λ (g : GenerationContent). get (files_in g) (spelling (Tile c.args.cell))) c.self.view_is

pub returns-in-None-clause-file : goal.returns-in-None-clause-file
returns-in-None-clause-file c =
    tile_absent _ _ _ _ _ c.self.invariant c.spellings_differ.ensures c.deep_tiles_are_no_paths.ensures c.args.cell c.order-order.ensures.known c.in-None.ensures
    ∙ ap (λ (g : GenerationContent). get (files_in g) (spelling (Tile c.args.cell))) c.self.view_is
