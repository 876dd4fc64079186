use Rattle.std.proofs.Common.{◌≡◌, ◌*◌, ◌∷◌, [], ◌++◌, length, drop, sym, ap, ◌∙◌, arith}
use Rattle.fits_header.specs.FitsFile.{fits_file}
use Rattle.fits_header.specs.WrittenCards.{end_card}
use Rattle.tile_pixels.specs.StoredLaws.{AreBytes, stored_bytes-numbers_from}
use Rattle.fits_tile.specs.TileFile.{image_cards}
use Rattle.fits_tile.proofs.ImageLemmas.{fills-room}
use Rattle.fits_tile.proofs.encode.encode_image.Goals as goal

pub returns : goal.returns
returns c =
    let conf = c.args.conf.now in
    let raw = c.args.raw.now in
    let bytes : AreBytes raw = λ i. let fits = c.type_inv.raw i in omega (arith, fits) in
    let back = stored_bytes-numbers_from conf.shape.depth.bitpix (c.args.width * c.args.height) raw c.image_cards.ensures.bitpix c.requires bytes in
    let items = c.in_ok-file.file.items in
    let text = fits_file c.image_cards.result raw in
    let room : length items ≡ c.in_ok-file.file.len = sym (ap length c.deref_mut.ensures.value) ∙ c.deref_mut.ensures.len in
    let written : length c.write_file.new.out ≡ c.in_ok-file.file.len = omega (arith, c.write_file.auto.out, c.deref_mut.ensures.len) in
    let len : c.write_file.result ≡ c.in_ok-file.file.len = omega (arith, c.write_file.ensures.len, c.in_ok-file.ensures.len, c.whole_blocks.ensures.len) in
    let is = c.write_file.ensures.written ∙ ap (λ ys. text ++ drop c.write_file.result ys) c.deref_mut.ensures.value ∙ ap (λ n. text ++ drop n items) len in
    fills-room c.write_file.new.out items text c.in_ok-file.file.len written room is
    ∙ ap (λ cards. fits_file cards raw) c.image_cards.ensures.cards
    ∙ ap (fits_file (image_cards conf c.args.width c.args.height ++ end_card ∷ [])) (sym back)
