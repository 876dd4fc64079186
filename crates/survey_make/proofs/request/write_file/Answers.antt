use Rattle.std.proofs.Common.{◌≡◌, ◌∙◌, ap, List, ℕ, ◌+◌, ◌≤◌, ◌++◌, length, arith}
use Rattle.std.proofs.lemmas.List.{append-nil, drop_all}
use Rattle.survey_conf.specs.Description.{Description}
use Rattle.fits_header.specs.Cards.{whole_blocks}
use Rattle.fits_tile.specs.TileFile.{data_len, tile_file}
use Rattle.survey_make.proofs.MadeLemmas.{made_file_len}
use Rattle.survey_make.proofs.request.write_file.Goals as goal

pub encode_into-requires-clause-room : goal.encode_into-requires-clause-room
encode_into-requires-clause-room c =
    let len : 2880 + whole_blocks (data_len c.args.conf.now.shape) ≡ 5760 = ap (λ (d : Description). 2880 + whole_blocks (data_len d.shape)) c.requires.conf ∙ made_file_len in
    omega (arith, len, c.requires.room)

pub returns : goal.returns
returns c =
    let len : 2880 + whole_blocks (data_len c.args.conf.now.shape) ≡ 5760 = ap (λ (d : Description). 2880 + whole_blocks (data_len d.shape)) c.requires.conf ∙ made_file_len in
    let whole : length c.args.out.now ≤ c.encode_into.result = omega (arith, len, c.requires.room, c.encode_into.ensures.len) in
    let file : List ℕ = tile_file c.args.conf.now c.args.leaf.order c.args.leaf.npix c.args.tile.now.numbers in
    c.encode_into.ensures.written ∙ ap (λ (bytes : List ℕ). file ++ bytes) (drop_all c.encode_into.result c.args.out.now whole) ∙ append-nil file
    ∙ ap (λ (d : Description). tile_file d c.args.leaf.order c.args.leaf.npix c.args.tile.now.numbers) c.requires.conf
