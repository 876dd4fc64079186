use Rattle.std.proofs.Common.{◌≡◌, ◌+◌, ◌-◌, ◌*◌, ◌/◌, ◌<◌, ℕ, List, ap, ◌∙◌, sym, subst, arith, length, take, drop}
use Rattle.fits_header.specs.Cards.{whole_blocks}
use Rattle.pyramid_model.specs.Shape.{PyramidShape, LeafMap}
use Rattle.tile_pixels.specs.StoredLaws.{AreBytes}
use Rattle.allsky_mosaic.specs.Mosaic.{mosaic_count}
use Rattle.allsky_mosaic.specs.Patch.{WasMosaic}
use Rattle.allsky_mosaic.specs.Tiles.{IsMosaic, IsSurvey, ShowsCell, order_3, leaf_map}
use Rattle.generation.specs.Kept.{pixel_len, ShowsBoth}
use Rattle.generation.proofs.Mosaics.{was_mosaic, image_patched, shows_cells, is_survey}
use Rattle.generation.proofs.mosaic.patch_pixels.Goals as goal
use borrow.Rule.Slice.PartMut.{put_mid}

-- what is behind a start and before an end that far off
between : (start size : ℕ) → start + size - start ≡ size
between start size = omega arith

pub patch_in_place-requires-clause-old : goal.patch_in_place-requires-clause-old
patch_in_place-requires-clause-old c =
    let d = c.args.conf.now in
    let file : List ℕ = c.args.file.now in
    let same = c.shape.view_is ∙ c.shape-shape.ensures.shape in
    let len : c.pixel_bytes-len.result ≡ pixel_len d = c.pixel_bytes-len.ensures.len ∙ ap (λ (s : PyramidShape). mosaic_count s.n * (s.depth.bitpix / 8)) c.shape-shape.ensures.shape in
    let start : ℕ = length file - c.whole_blocks.result in
    let at : start ≡ length file - whole_blocks (pixel_len d) = ap (λ k. length file - k) (c.whole_blocks.ensures.len ∙ ap whole_blocks len) in
    let size : ℕ = start + c.pixel_bytes-len.result - start in
    let wide : size ≡ pixel_len d = between start c.pixel_bytes-len.result ∙ len in
    subst (λ (s : PyramidShape). WasMosaic s.depth s.n c.args.touched.now c.args.tiles.now (take size (drop start file))) (sym same)
    (was_mosaic d c.args.touched.now c.args.tiles.now file (take size (drop start file)) c.requires.old
    (ap (λ k. take k (drop start file)) wide ∙ ap (λ k. take (pixel_len d) (drop k file)) at))

pub returns : goal.returns
returns c leaves some fits is =
    let d = c.args.conf.now in
    let file : List ℕ = c.args.file.now in
    let tiles = c.args.tiles.now in
    let pixels : List ℕ = c.patch_in_place.new.raw in
    let same = c.shape.view_is ∙ c.shape-shape.ensures.shape in
    let len : c.pixel_bytes-len.result ≡ pixel_len d = c.pixel_bytes-len.ensures.len ∙ ap (λ (s : PyramidShape). mosaic_count s.n * (s.depth.bitpix / 8)) c.shape-shape.ensures.shape in
    let start : ℕ = length file - c.whole_blocks.result in
    let at : start ≡ length file - whole_blocks (pixel_len d) = ap (λ k. length file - k) (c.whole_blocks.ensures.len ∙ ap whole_blocks len) in
    let size : ℕ = start + c.pixel_bytes-len.result - start in
    let wide : size ≡ pixel_len d = between start c.pixel_bytes-len.result ∙ len in
    let P : PyramidShape → Type 0 = λ s. (shape : PyramidShape) (ls : LeafMap) → IsSurvey s.depth s.n shape → ((cell : ℕ) → cell < 768 → ShowsCell shape ls tiles cell) → IsMosaic s.depth s.n shape ls pixels in
    let surveys : P d.shape = subst P same c.in_ok-patch_in_place.ensures.survey in
    let Q : PyramidShape → Type 0 = λ s. IsMosaic s.depth s.n (order_3 s.depth s.n) (leaf_map tiles) pixels in
    let order : Q d.shape = subst Q same c.in_ok-patch_in_place.ensures.mosaic in
    let shows : ShowsBoth d leaves pixels = record {
      some = some;
      survey = surveys d.shape leaves (is_survey d leaves tiles c.shape-shape.ensures.kept.shape fits is) (shows_cells d leaves tiles c.shape-shape.ensures.kept.shape fits is);
      order_3 = subst (λ t. IsMosaic d.shape.depth d.shape.n (order_3 d.shape.depth d.shape.n) (leaf_map t) pixels) is order;
    } in
    let bytes : AreBytes (put_mid start size file pixels) = λ i. let byte = c.type_inv.file i in omega (arith, byte) in
    image_patched d c.requires.old.before leaves file pixels start size c.shape-shape.ensures.kept.bitpix bytes c.requires.old.file_is at wide shows
