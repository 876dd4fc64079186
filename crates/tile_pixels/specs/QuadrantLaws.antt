-- Where the four quadrants of a tile stand, and the places of its half lines.
use Rattle.std.proofs.Common.{◌≡◌, ℕ, zero, suc, ◌+◌, ◌-◌, ◌*◌, ◌/◌, ◌%◌, ◌^◌, ◌<◌, ◌≤◌, List, [], ◌∷◌, ◌++◌, map, Option, Some, None, sym, ap, ap₂, ◌∙◌, refl, arith, pow-suc}
use Rattle.std.specs.Prelude.{ℤ}
use Rattle.std.specs.List.{range_with_len}
use Rattle.std.proofs.lemmas.Nat.{div-mul-add, mod-mul-add}
use Rattle.healpix_nested.specs.Place.{spread, z_order, stored_z}
use Rattle.healpix_nested.specs.PlaceLaws.{z_order_of_four, z_order_below, column_of-z_order, line_of-z_order, side_at_most, square_of_side}
use Rattle.parent_rule.specs.declared.combine.Combine.{Combine}
use Rattle.std.proofs.Math.Nat.{mul-le-mul_right}
use Rattle.parent_rule.specs.Combined.{combined}
use Rattle.parent_rule.specs.Depth.{PixelDepth}
use Rattle.tile_pixels.specs.Merge.{FourTiles, child, number_of, number_above, merged}
use Rattle.tile_pixels.specs.Lines.{number_in, number_over, half_row, half_rows}

spread-zero : (k : ℕ) → spread k 0 ≡ 0
unfolding spread
spread-zero zero = refl
spread-zero (suc k) = let rest : spread k (0 / 2) ≡ 0 = spread-zero k in omega arith

-- a bit above m bits
spread_top : (k m b x : ℕ) → m < k → b < 2 → x < 2 ^ m → spread k (b * 2 ^ m + x) ≡ b * 4 ^ m + spread k x
unfolding spread
spread_top zero m b x hk hb hx = absurd (omega arith)
spread_top (suc k) zero b x hk hb hx =
    let none : x ≡ 0 = omega arith in
    let low : (b * 2 ^ 0 + x) % 2 ≡ b = omega arith in
    let rest : (b * 2 ^ 0 + x) / 2 ≡ 0 = omega arith in
    let half : x / 2 ≡ 0 = omega arith in
    rw (low, rest, half, spread-zero k) (omega arith)
spread_top (suc k) (suc m) b x hk hb hx =
    let hx2 : x < 2 ^ m * 2 = rw (pow-suc 2 m) at hx in
    let two : 2 ^ (suc m) ≡ 2 ^ m * 2 = pow-suc 2 m in
    let four : 4 ^ (suc m) ≡ 4 ^ m * 4 = pow-suc 4 m in
    let twice : b * 2 ^ (suc m) ≡ 2 * (b * 2 ^ m) = rw two (omega arith) in
    let times : b * 4 ^ (suc m) ≡ 4 * (b * 4 ^ m) = rw four (omega arith) in
    let low : (b * 2 ^ (suc m) + x) % 2 ≡ x % 2 = omega arith in
    let rest : (b * 2 ^ (suc m) + x) / 2 ≡ b * 2 ^ m + x / 2 = omega arith in
    let step : spread k (b * 2 ^ m + x / 2) ≡ b * 4 ^ m + spread k (x / 2) = spread_top k m b (x / 2) (omega arith) hb (omega arith) in
    rw (low, rest, step) (omega arith)

-- the first bit of the column and that of the line say in which quadrant a place is
pub z_order_top : (m cb rb column row : ℕ) → m ≤ 8 → cb < 2 → rb < 2 → column < 2 ^ m → row < 2 ^ m →
    z_order (cb * 2 ^ m + column) (rb * 2 ^ m + row) ≡ (2 * cb + rb) * 4 ^ m + z_order column row
z_order_top m cb rb column row hm hc hr below_c below_r =
    let c : spread 9 (cb * 2 ^ m + column) ≡ cb * 4 ^ m + spread 9 column = spread_top 9 m cb column (omega arith) hc below_c in
    let r : spread 9 (rb * 2 ^ m + row) ≡ rb * 4 ^ m + spread 9 row = spread_top 9 m rb row (omega arith) hr below_r in
    rw (c, r) (omega arith)

-- the number of a cell of one of the four, by column and row
pub number_of-z_order : (depth : PixelDepth) (n : ℕ) (numbers : Option (List ℤ)) (column row : ℕ) → column < 512 → row < 512 →
    number_of depth n numbers (z_order column row) ≡ number_in depth n numbers column row
number_of-z_order depth n None column row hc hr = refl
number_of-z_order depth n (Some numbers) column row hc hr = rw (column_of-z_order column row hc, line_of-z_order column row hr) refl

side_of : (m : ℕ) → m ≤ 8 → 2 ^ m ≤ 256
side_of m hm =
    let more : 2 ^ (suc m) ≤ 512 = side_at_most (suc m) (omega arith) in
    let two : 2 ^ (suc m) ≡ 2 ^ m * 2 = pow-suc 2 m in
    omega arith

cell_under : (i q w z j y : ℕ) → w ≡ q * 4 → y ≡ 4 * z + j → 4 * (i * q + z) + j ≡ i * w + y
cell_under i q w z j y ew ey = rw (ew, ey) (omega arith)

-- one of the four cells under a place of a quadrant
under_place : (depth : PixelDepth) (n m : ℕ) (tiles : FourTiles) (i column row dc dl j c r : ℕ) → n ≡ suc m → m ≤ 8 → column < 2 ^ m → row < 2 ^ m → dc < 2 → dl < 2
    → j ≡ 2 * dc + dl → c ≡ 2 * column + dc → r ≡ 2 * row + dl
    → number_of depth n (child tiles ((4 * (i * 4 ^ m + z_order column row) + j) / 4 ^ n)) ((4 * (i * 4 ^ m + z_order column row) + j) % 4 ^ n)
    ≡ number_in depth n (child tiles i) c r
under_place depth n m tiles i column row dc dl j c r e hm hc hr hdc hdl ej ec er =
    let side : 2 ^ m ≤ 256 = side_of m hm in
    let four : 4 ^ n ≡ 4 ^ m * 4 = ap (λ k. 4 ^ k) e ∙ pow-suc 4 m in
    let two : 2 ^ n ≡ 2 ^ m * 2 = ap (λ k. 2 ^ k) e ∙ pow-suc 2 m in
    let z : z_order c r ≡ 4 * z_order column row + j = ap₂ (λ x y. z_order x y) ec er ∙ z_order_of_four column row dc dl (omega arith) (omega arith) hdc hdl ∙ ap (λ k. 4 * z_order column row + k) (sym ej) in
    let below : z_order c r < 4 ^ n = z_order_below n c r (omega arith) (omega arith) in
    let cell : 4 * (i * 4 ^ m + z_order column row) + j ≡ i * 4 ^ n + z_order c r = cell_under i (4 ^ m) (4 ^ n) (z_order column row) j (z_order c r) four z in
    ap₂ (λ (q : ℕ) (y : ℕ). number_of depth n (child tiles q) y)
    (ap (λ x. x / 4 ^ n) cell ∙ div-mul-add i (4 ^ n) (z_order c r) below)
    (ap (λ x. x % 4 ^ n) cell ∙ mod-mul-add i (4 ^ n) (z_order c r) below)
    ∙ number_of-z_order depth n (child tiles i) c r (omega arith) (omega arith)

pub same_four : (way : Combine) (blank a b c d a' b' c' d' : ℤ) → a ≡ a' → b ≡ b' → c ≡ c' → d ≡ d' → combined way blank (a ∷ b ∷ c ∷ d ∷ []) ≡ combined way blank (a' ∷ b' ∷ c' ∷ d' ∷ [])
same_four way blank a b c d a' b' c' d' ea eb ec ed = rw (ea, eb, ec, ed) refl

-- the number above a place of a quadrant
pub number_above-quadrant : (depth : PixelDepth) (n m : ℕ) (tiles : FourTiles) (cb rb i column row : ℕ) → n ≡ suc m → m ≤ 8 → cb < 2 → rb < 2 → column < 2 ^ m → row < 2 ^ m → i ≡ 2 * cb + rb →
    number_above depth n tiles (z_order (cb * 2 ^ m + column) (rb * 2 ^ m + row)) ≡ number_over depth n (child tiles i) row column
number_above-quadrant depth n m tiles cb rb i column row e hm hcb hrb hc hr ei =
    let z : z_order (cb * 2 ^ m + column) (rb * 2 ^ m + row) ≡ i * 4 ^ m + z_order column row = z_order_top m cb rb column row hm hcb hrb hc hr ∙ ap (λ k. k * 4 ^ m + z_order column row) (sym ei) in
    ap (λ y. number_above depth n tiles y) z
    ∙ same_four depth.combine depth.blank _ _ _ _ _ _ _ _
    (under_place depth n m tiles i column row 0 0 0 (2 * column) (2 * row) e hm hc hr (omega arith) (omega arith) (omega arith) (omega arith) (omega arith))
    (under_place depth n m tiles i column row 0 1 1 (2 * column) (2 * row + 1) e hm hc hr (omega arith) (omega arith) (omega arith) (omega arith) (omega arith))
    (under_place depth n m tiles i column row 1 0 2 (2 * column + 1) (2 * row) e hm hc hr (omega arith) (omega arith) (omega arith) (omega arith) (omega arith))
    (under_place depth n m tiles i column row 1 1 3 (2 * column + 1) (2 * row + 1) e hm hc hr (omega arith) (omega arith) (omega arith) (omega arith) (omega arith))

-- ---- half lines

-- two parts of a list that a function of the place gives
pub map_shift : (f g : ℕ → ℤ) (n a b : ℕ) → ((i : ℕ) → i < n → f (a + i) ≡ g (b + i)) → map f (range_with_len a n) ≡ map g (range_with_len b n)
map_shift f g zero a b same = refl
map_shift f g (suc n) a b same =
    let at_a : a + 0 ≡ a = omega arith in
    let at_b : b + 0 ≡ b = omega arith in
    let first : f a ≡ g b = sym (ap f at_a) ∙ same 0 (omega arith) ∙ ap g at_b in
    let rest : map f (range_with_len (a + 1) n) ≡ map g (range_with_len (b + 1) n) = map_shift f g n (a + 1) (b + 1) (λ i h.
    let next_a : a + 1 + i ≡ a + suc i = omega arith in
    let next_b : b + suc i ≡ b + 1 + i = omega arith in
    ap f next_a ∙ same (suc i) (omega arith) ∙ ap g next_b) in
    ap₂ (λ x xs. x ∷ xs) first rest

pub map_range_split : (f : ℕ → ℤ) (m n a b : ℕ) → b ≡ a + m → map f (range_with_len a m) ++ map f (range_with_len b n) ≡ map f (range_with_len a (m + n))
map_range_split f zero n a b e =
    let here : b ≡ a = omega arith in
    let count : 0 + n ≡ n = omega arith in
    ap₂ (λ (x : ℕ) (k : ℕ). map f (range_with_len x k)) here (sym count)
map_range_split f (suc m) n a b e =
    let count : suc m + n ≡ suc (m + n) = omega arith in
    ap (λ xs. f a ∷ xs) (map_range_split f m n (a + 1) b (omega arith)) ∙ ap (λ k. map f (range_with_len a k)) (sym count)

-- the place in column cb * 2^m + column of a line
pub stored_z-line : (n m cb rb line column row : ℕ) → n ≡ suc m → cb < 2 → rb < 2 → column < 2 ^ m → row < 2 ^ m → line + (rb * 2 ^ m + row) + 1 ≡ 2 ^ n
    → stored_z n (line * 2 ^ n + (cb * 2 ^ m + column)) ≡ z_order (cb * 2 ^ m + column) (rb * 2 ^ m + row)
stored_z-line n m cb rb line column row e hcb hrb hc hr el =
    let two : 2 ^ n ≡ 2 ^ m * 2 = ap (λ k. 2 ^ k) e ∙ pow-suc 2 m in
    let bit : cb * 2 ^ m ≤ 1 * 2 ^ m = mul-le-mul_right (2 ^ m) (omega arith) in
    let below : cb * 2 ^ m + column < 2 ^ n = omega arith in
    let up : 2 ^ n - 1 - line ≡ rb * 2 ^ m + row = omega arith in
    rw (mod-mul-add line (2 ^ n) (cb * 2 ^ m + column) below, div-mul-add line (2 ^ n) (cb * 2 ^ m + column) below, up) refl

-- half a line of the tile above is the row above two rows of a child
half_row-places : (depth : PixelDepth) (n m : ℕ) (tiles : FourTiles) (cb rb i line row from : ℕ) → n ≡ suc m → m ≤ 8 → cb < 2 → rb < 2 → row < 2 ^ m → i ≡ 2 * cb + rb
    → line + (rb * 2 ^ m + row) + 1 ≡ 2 ^ n → from ≡ line * 2 ^ n + cb * 2 ^ m
    → half_row depth n (child tiles i) row ≡ map (λ s. number_above depth n tiles (stored_z n s)) (range_with_len from (2 ^ m))
unfolding half_row
half_row-places depth n m tiles cb rb i line row from e hm hcb hrb hr ei el ef =
    let less : n - 1 ≡ m = omega arith in
    ap (λ k. map (number_over depth n (child tiles i) row) (range_with_len 0 (2 ^ k))) less
    ∙ map_shift (number_over depth n (child tiles i) row) (λ s. number_above depth n tiles (stored_z n s)) (2 ^ m) 0 from (λ column hc.
    let here : 0 + column ≡ column = omega arith in
    let place : from + column ≡ line * 2 ^ n + (cb * 2 ^ m + column) = omega arith in
    ap (number_over depth n (child tiles i) row) here
    ∙ sym (number_above-quadrant depth n m tiles cb rb i column row e hm hcb hrb hc hr ei)
    ∙ ap (λ z. number_above depth n tiles z) (sym (stored_z-line n m cb rb line column row e hcb hrb hc hr el))
    ∙ ap (λ s. number_above depth n tiles (stored_z n s)) (sym place))

-- the first lines of the half of the tile above that stands in children rb and 2 + rb
pub half_rows-places : (depth : PixelDepth) (n m : ℕ) (tiles : FourTiles) (rb j lines first : ℕ) → n ≡ suc m → m ≤ 8 → rb < 2 → j ≡ 2 + rb → lines ≤ 2 ^ m → first + rb * 2 ^ m ≡ 2 ^ m
    → half_rows depth n (child tiles rb) (child tiles j) lines ≡ map (λ s. number_above depth n tiles (stored_z n s)) (range_with_len (first * 2 ^ n) (lines * 2 ^ n))
unfolding half_rows
half_rows-places depth n m tiles rb j zero first e hm hrb ej hl ef =
    let none : zero * 2 ^ n ≡ 0 = omega arith in
    rw none refl
half_rows-places depth n m tiles rb j (suc lines) first e hm hrb ej hl ef =
    let f : ℕ → ℤ = λ s. number_above depth n tiles (stored_z n s) in
    let two : 2 ^ n ≡ 2 ^ m * 2 = ap (λ k. 2 ^ k) e ∙ pow-suc 2 m in
    let less : n - 1 ≡ m = omega arith in
    let half : 2 ^ (n - 1) ≡ 2 ^ m = ap (λ k. 2 ^ k) less in
    let row : ℕ = 2 ^ (n - 1) - 1 - lines in
    let line : ℕ = first + lines in
    let above : line + (rb * 2 ^ m + row) + 1 ≡ 2 ^ n = omega arith in
    let start : line * 2 ^ n ≡ first * 2 ^ n + lines * 2 ^ n = omega arith in
    let so_far : half_rows depth n (child tiles rb) (child tiles j) lines ≡ map f (range_with_len (first * 2 ^ n) (lines * 2 ^ n)) = half_rows-places depth n m tiles rb j lines first e hm hrb ej (omega arith) ef in
    let left : half_row depth n (child tiles rb) row ≡ map f (range_with_len (line * 2 ^ n) (2 ^ m)) = half_row-places depth n m tiles 0 rb rb line row (line * 2 ^ n) e hm (omega arith) hrb (omega arith) (omega arith) above (omega arith) in
    let right : half_row depth n (child tiles j) row ≡ map f (range_with_len (line * 2 ^ n + 2 ^ m) (2 ^ m)) = half_row-places depth n m tiles 1 rb j line row (line * 2 ^ n + 2 ^ m) e hm (omega arith) hrb (omega arith) (omega arith) above (omega arith) in
    let both : map f (range_with_len (line * 2 ^ n) (2 ^ m)) ++ map f (range_with_len (line * 2 ^ n + 2 ^ m) (2 ^ m)) ≡ map f (range_with_len (line * 2 ^ n) (2 ^ m + 2 ^ m)) = map_range_split f (2 ^ m) (2 ^ m) (line * 2 ^ n) (line * 2 ^ n + 2 ^ m) refl in
    let all : lines * 2 ^ n + (2 ^ m + 2 ^ m) ≡ suc lines * 2 ^ n = omega arith in
    ap₂ (λ xs ys. xs ++ ys) so_far (ap₂ (λ xs ys. xs ++ ys) left right ∙ both)
    ∙ map_range_split f (lines * 2 ^ n) (2 ^ m + 2 ^ m) (first * 2 ^ n) (line * 2 ^ n) start
    ∙ ap (λ k. map f (range_with_len (first * 2 ^ n) k)) all

-- the lower half and the upper half are the tile above
pub halves-merged : (depth : PixelDepth) (n : ℕ) (tiles : FourTiles) → 1 ≤ n → n ≤ 9
    → half_rows depth n tiles.second tiles.fourth (2 ^ (n - 1)) ++ half_rows depth n tiles.first tiles.third (2 ^ (n - 1)) ≡ merged depth n tiles
unfolding merged
halves-merged depth n tiles some most =
    let m : ℕ = n - 1 in
    let e : n ≡ suc m = omega arith in
    let f : ℕ → ℤ = λ s. number_above depth n tiles (stored_z n s) in
    let two : 2 ^ n ≡ 2 ^ m * 2 = ap (λ k. 2 ^ k) e ∙ pow-suc 2 m in
    let low : half_rows depth n tiles.second tiles.fourth (2 ^ m) ≡ map f (range_with_len (0 * 2 ^ n) (2 ^ m * 2 ^ n)) = half_rows-places depth n m tiles 1 3 (2 ^ m) 0 e (omega arith) (omega arith) (omega arith) (omega arith) (omega arith) in
    let high : half_rows depth n tiles.first tiles.third (2 ^ m) ≡ map f (range_with_len (2 ^ m * 2 ^ n) (2 ^ m * 2 ^ n)) = half_rows-places depth n m tiles 0 2 (2 ^ m) (2 ^ m) e (omega arith) (omega arith) (omega arith) (omega arith) (omega arith) in
    let none : 0 * 2 ^ n ≡ 0 = omega arith in
    let twice : 2 ^ m * 2 ^ n + 2 ^ m * 2 ^ n ≡ 2 ^ n * 2 ^ n = rw two (omega arith) in
    let all : 2 ^ m * 2 ^ n + 2 ^ m * 2 ^ n ≡ 4 ^ n = twice ∙ square_of_side n in
    ap₂ (λ xs ys. xs ++ ys) low high
    ∙ map_range_split f (2 ^ m * 2 ^ n) (2 ^ m * 2 ^ n) (0 * 2 ^ n) (2 ^ m * 2 ^ n) (omega arith)
    ∙ ap₂ (λ (a : ℕ) (k : ℕ). map f (range_with_len a k)) none all
