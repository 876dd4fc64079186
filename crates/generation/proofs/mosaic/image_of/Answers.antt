use Rattle.std.proofs.Common.{◌≡◌, ◌*◌, ◌≤◌, ◌∙◌, ap, subst, arith, length}
use Rattle.std.specs.Prelude.{IfOk}
use Rattle.tile_pixels.specs.Stored.{numbers_from}
use Rattle.tile_pixels.specs.StoredLaws.{AreBytes}
use Rattle.fits_header.specs.Cards.{whole_blocks}
use Rattle.fits_tile.specs.TileFile.{image_file}
use Rattle.pyramid_model.specs.Shape.{PyramidShape}
use Rattle.allsky_mosaic.specs.Mosaic.{mosaic_count, side_of, width_of, height_of}
use Rattle.generation.specs.Kept.{pixel_len, file_pixels}
use Rattle.generation.proofs.Mosaics.{image_end}
use Rattle.generation.proofs.Results.{if_ok_each}
use Rattle.generation.proofs.mosaic.image_of.Goals as goal

end_of : (c : goal.After-encode_image) → IfOk c.encode_image.result (λ file. (whole_blocks (pixel_len c.args.conf.now) ≤ length file.items) × (file_pixels c.args.conf.now file.items ≡ c.args.pixels.now))
end_of c =
    let d = c.args.conf.now in
    let pixels = c.args.pixels.now in
    let bytes : AreBytes pixels = λ i. let fits = c.type_inv.pixels i in omega (arith, fits) in
    let side : c.mosaic_side-side.result ≡ side_of d.shape.n = c.mosaic_side-side.ensures.side ∙ ap (λ (s : PyramidShape). side_of s.n) (c.mosaic_side.view_is ∙ c.shape.ensures.shape) in
    let made = subst (λ side. IfOk c.encode_image.result (λ file. file.items ≡ image_file d (27 * side) (29 * side) (numbers_from d.shape.depth.bitpix (27 * side * (29 * side)) pixels))) side c.encode_image.ensures in
    if_ok_each c.encode_image.result (λ file. file.items ≡ image_file d (width_of d.shape.n) (height_of d.shape.n) (numbers_from d.shape.depth.bitpix (mosaic_count d.shape.n) pixels))
    (λ file. (whole_blocks (pixel_len d) ≤ length file.items) × (file_pixels d file.items ≡ pixels)) made
    (λ file is. image_end d pixels file.items c.shape.ensures.kept.bitpix bytes c.requires is)

pub returns-clause-long : goal.returns-clause-long
returns-clause-long c =
    if_ok_each c.encode_image.result (λ file. (whole_blocks (pixel_len c.args.conf.now) ≤ length file.items) × (file_pixels c.args.conf.now file.items ≡ c.args.pixels.now))
    (λ file. whole_blocks (pixel_len c.args.conf.now) ≤ length file.items) (end_of c) (λ file both. both.0)

pub returns-clause-pixels : goal.returns-clause-pixels
returns-clause-pixels c =
    if_ok_each c.encode_image.result (λ file. (whole_blocks (pixel_len c.args.conf.now) ≤ length file.items) × (file_pixels c.args.conf.now file.items ≡ c.args.pixels.now))
    (λ file. file_pixels c.args.conf.now file.items ≡ c.args.pixels.now) (end_of c) (λ file both. both.1)
