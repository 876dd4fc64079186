-- The tile of a cell depends on the leaves under the cell alone.
use Rattle.std.proofs.Common.{◌≡◌, ℕ, zero, suc, ◌+◌, ◌-◌, ◌*◌, ◌/◌, ◌%◌, ◌^◌, ◌<◌, ◌≤◌, ◌||◌, Bool, List, [], ◌∷◌, sym, ap, ◌∙◌, refl, arith, ℤ, map, div-one}
use Rattle.std.specs.Prelude.{is_some}
use Rattle.std.specs.List.{range_with_len}
use Rattle.std.proofs.lemmas.Nat.{div-mul-add}
use Rattle.healpix_nested.specs.Place.{stored_z}
use Rattle.healpix_nested.specs.PlaceLaws.{stored_z_below}
use Rattle.pyramid_model.specs.Shape.{PyramidShape, LeafMap, leaf_numbers}
use Rattle.pyramid_model.specs.Value.{value_above, pixel_of}
use Rattle.pyramid_model.specs.ValueLaws.{four_steps}
use Rattle.pyramid_model.specs.Tile.{exists, pixels, pixel_at}
use Rattle.pyramid_model.specs.TileLaws.{exists_step, exists_leaf}

-- two leaf maps have the same leaves under a cell so many orders above the leaves
abbrev pub AgreeUnder : LeafMap → LeafMap → ℕ → ℕ → Type 0
AgreeUnder a b height cell = (leaf : ℕ) → leaf / 4 ^ height ≡ cell → leaf_numbers a leaf ≡ leaf_numbers b leaf

-- what lies under a child lies under the cell
under_child : (x height q i : ℕ) → i < 4 → x / 4 ^ height ≡ 4 * q + i → x / 4 ^ (height + 1) ≡ q
under_child x height q i h e =
    let step : x / 4 ^ height / 4 ^ 1 ≡ x / 4 ^ (height + 1) = four_steps x height 1 (height + 1) (omega arith) in
    let here : (4 * q + i) / 4 ≡ q = omega arith in
    sym step ∙ ap (λ n. n / 4) e ∙ here

agree_child : (a b : LeafMap) (height q i : ℕ) → i < 4 → AgreeUnder a b (height + 1) q → AgreeUnder a b height (4 * q + i)
agree_child a b height q i h agree leaf e = agree leaf (under_child leaf height q i h e)

same_four : (a b c d a' b' c' d' : Bool) → a ≡ a' → b ≡ b' → c ≡ c' → d ≡ d' → (a || b || c || d) ≡ (a' || b' || c' || d')
same_four a b c d a' b' c' d' ea eb ec ed = rw (ea, eb, ec, ed) refl

-- so a tile of the cell exists in both or in neither
exists_agrees : (shape : PyramidShape) (a b : LeafMap) (height k q : ℕ) → k + height ≡ shape.top → AgreeUnder a b height q → exists shape a k q ≡ exists shape b k q
exists_agrees shape a b zero k q e agree =
    let here : k ≡ shape.top = omega arith in
    let own : q / 4 ^ 0 ≡ q = div-one q in
    let P : ℕ → Type 0 = λ j. exists shape a j q ≡ exists shape b j q in
    rw here (exists_leaf shape a q ∙ ap is_some (agree q own) ∙ sym (exists_leaf shape b q))
exists_agrees shape a b (suc height) k q e agree =
    let above : k < shape.top = omega arith in
    let up : height + 1 ≡ suc height = omega arith in
    let more : AgreeUnder a b (height + 1) q = rw up agree in
    let next : k + 1 + height ≡ shape.top = omega arith in
    let z : 4 * q + 0 ≡ 4 * q = omega arith in
    let c0 : exists shape a (k + 1) (4 * q) ≡ exists shape b (k + 1) (4 * q) = rw (← z) (exists_agrees shape a b height (k + 1) (4 * q + 0) next (agree_child a b height q 0 (omega arith) more)) in
    let c1 = exists_agrees shape a b height (k + 1) (4 * q + 1) next (agree_child a b height q 1 (omega arith) more) in
    let c2 = exists_agrees shape a b height (k + 1) (4 * q + 2) next (agree_child a b height q 2 (omega arith) more) in
    let c3 = exists_agrees shape a b height (k + 1) (4 * q + 3) next (agree_child a b height q 3 (omega arith) more) in
    exists_step shape a k q above
    ∙ same_four (exists shape a (k + 1) (4 * q)) (exists shape a (k + 1) (4 * q + 1)) (exists shape a (k + 1) (4 * q + 2)) (exists shape a (k + 1) (4 * q + 3))
    (exists shape b (k + 1) (4 * q)) (exists shape b (k + 1) (4 * q + 1)) (exists shape b (k + 1) (4 * q + 2)) (exists shape b (k + 1) (4 * q + 3)) c0 c1 c2 c3
    ∙ sym (exists_step shape b k q above)

-- the pixels under a cell agree
abbrev AgreePixels : PyramidShape → LeafMap → LeafMap → ℕ → ℕ → Type 0
AgreePixels shape a b height q = (pixel : ℕ) → pixel / 4 ^ height ≡ q → leaf_numbers a (pixel / 4 ^ shape.n) ≡ leaf_numbers b (pixel / 4 ^ shape.n)

value_agrees : (shape : PyramidShape) (a b : LeafMap) (height q : ℕ) → AgreePixels shape a b height q → value_above shape a height q ≡ value_above shape b height q
unfolding value_above
value_agrees shape a b zero q agree =
    let own : q / 4 ^ 0 ≡ q = div-one q in
    ap (λ ns. pixel_of shape ns (q % 4 ^ shape.n)) (agree q own)
value_agrees shape a b (suc height) q agree =
    let up : height + 1 ≡ suc height = omega arith in
    let child : (i : ℕ) → i < 4 → AgreePixels shape a b height (4 * q + i) = λ i h pixel e. agree pixel (rw (← up) (under_child pixel height q i h e)) in
    let z : 4 * q + 0 ≡ 4 * q = omega arith in
    let v0 : value_above shape a height (4 * q) ≡ value_above shape b height (4 * q) = rw (← z) (value_agrees shape a b height (4 * q + 0) (child 0 (omega arith))) in
    let v1 = value_agrees shape a b height (4 * q + 1) (child 1 (omega arith)) in
    let v2 = value_agrees shape a b height (4 * q + 2) (child 2 (omega arith)) in
    let v3 = value_agrees shape a b height (4 * q + 3) (child 3 (omega arith)) in
    rw (v0, v1, v2, v3) refl

same_maps : (f g : ℕ → ℤ) → ((x : ℕ) → f x ≡ g x) → (xs : List ℕ) → map f xs ≡ map g xs
same_maps f g same [] = refl
same_maps f g same (x ∷ xs) = rw (same x, same_maps f g same xs) refl

-- a pixel under a cell within a tile lies in a leaf under the tile's cell
within : (x n height p z : ℕ) → z < 4 ^ n → x / 4 ^ height ≡ p * 4 ^ n + z → x / 4 ^ n / 4 ^ height ≡ p
within x n height p z below e =
    four_steps x n height (height + n) (omega arith)
    ∙ sym (four_steps x height n (height + n) refl)
    ∙ ap (λ y. y / 4 ^ n) e ∙ div-mul-add p (4 ^ n) z below

pixel_agrees : (shape : PyramidShape) (a b : LeafMap) (k p s : ℕ) → k ≤ shape.top → AgreeUnder a b (shape.top - k) p → pixel_at shape a k p s ≡ pixel_at shape b k p s
pixel_agrees shape a b k p s h agree =
    let height : shape.top + shape.n - (k + shape.n) ≡ shape.top - k = omega arith in
    value_agrees shape a b (shape.top + shape.n - (k + shape.n)) (p * 4 ^ shape.n + stored_z shape.n s) (λ pixel e.
    agree (pixel / 4 ^ shape.n) (within pixel shape.n (shape.top - k) p (stored_z shape.n s) (stored_z_below shape.n s) (ap (λ j. pixel / 4 ^ j) (sym height) ∙ e)))

-- a tile is the same where the leaves under its cell are
pub record SameTile (shape : PyramidShape) (a b : LeafMap) (k p : ℕ) : Type 0 where
  pub exists_is : exists shape a k p ≡ exists shape b k p
  pub pixels_are : pixels shape a k p ≡ pixels shape b k p

pub same_tile : (shape : PyramidShape) (a b : LeafMap) (k p : ℕ) → k ≤ shape.top → AgreeUnder a b (shape.top - k) p → SameTile shape a b k p
unfolding pixels
same_tile shape a b k p h agree = record {
  exists_is = exists_agrees shape a b (shape.top - k) k p (omega arith) agree;
  pixels_are = same_maps (pixel_at shape a k p) (pixel_at shape b k p) (λ s. pixel_agrees shape a b k p s h agree) (range_with_len 0 (4 ^ shape.n));
}
