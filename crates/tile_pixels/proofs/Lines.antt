-- Lines of numbers that are written into a list, one after the other.
use Rattle.std.proofs.Common.{◌≡◌, ℕ, zero, suc, ◌+◌, ◌-◌, ◌*◌, ◌/◌, ◌%◌, ◌^◌, ◌<◌, ◌≤◌, List, [], ◌∷◌, ◌++◌, length, take, drop, get_or, All, refl, sym, ap, subst, ◌∙◌, inl, inr, arith, ℤ, pos, Some, slice_get}
use Rattle.std.proofs.Math.Nat.{pow-suc}
use Rattle.std.proofs.lemmas.Bool.{cases_lt}
use Rattle.std.proofs.lemmas.Nat.{div-add-mod', div_below, mod_below, mul-add-lt, pow_pos, row_fits}
use Rattle.std.proofs.lemmas.List.{drop-drop, get_or-append_right, get_or-drop, get_or-take, get_or_append_left, length-drop, length-take-le, take_at}
use Rattle.std.proofs.lemmas.List.Elements.{All-append, All-drop, All-from_get_or, All-take}
use Rattle.std.proofs.lemmas.Option.{slice_get-get_or}
use Rattle.std.proofs.lemmas.Slice.{drop-put_mid}
use borrow.Rule.Slice.PartMut.{put_mid}
use Rattle.parent_rule.specs.declared.combine.Combine.{Combine}
use Rattle.parent_rule.specs.Combined.{combined, number_at, square_at}
use Rattle.parent_rule.specs.Depth.{IsNumber}
use Rattle.tile_pixels.specs.Block.{PixelBlock, block_number, block_square}
use Rattle.tile_pixels.specs.Tile.{PixelTile, IsTile, pixel_in}
use Rattle.tile_pixels.proofs.Tiles.{four_pow}

-- a number of the list, where a part of it was written
get_or-put_mid_before : (a k : ℕ) (xs ys : List ℤ) (i : ℕ) (d : ℤ) → a ≤ length xs → i < a → get_or (put_mid a k xs ys) i d ≡ get_or xs i d
get_or-put_mid_before a k xs ys i d room before =
    let front : length (take a xs) ≡ a = length-take-le a xs room in
    get_or_append_left (take a xs) (ys ++ drop k (drop a xs)) d i (omega arith) ∙ get_or-take a xs i d before

get_or-put_mid_in : (a k : ℕ) (xs ys : List ℤ) (j : ℕ) (d : ℤ) → a ≤ length xs → j < length ys → get_or (put_mid a k xs ys) (a + j) d ≡ get_or ys j d
get_or-put_mid_in a k xs ys j d room within =
    let front : length (take a xs) ≡ a = length-take-le a xs room in
    let at : a + j - a ≡ j = omega arith in
    get_or-append_right (take a xs) (ys ++ drop k (drop a xs)) a (a + j) d front (omega arith)
    ∙ ap (λ (n : ℕ). get_or (ys ++ drop k (drop a xs)) n d) at
    ∙ get_or_append_left ys (drop k (drop a xs)) d j within

-- one line more is written
pub line_more : (wanted : ℕ → ℕ → ℤ) (side line a k : ℕ) (xs ys : List ℤ) → a ≡ line * side → length ys ≡ side → line * side + side ≤ length xs
    → ((column l : ℕ) → column < side → l < line → get_or xs (l * side + column) (pos 0) ≡ wanted column l)
    → ((column : ℕ) → column < side → get_or ys column (pos 0) ≡ wanted column line)
    → (column l : ℕ) → column < side → l < line + 1 → get_or (put_mid a k xs ys) (l * side + column) (pos 0) ≡ wanted column l
line_more wanted side line a k xs ys at long room before now column l column_in line_in =
    elim (cases_lt l line) [
      | inl earlier ↦
          let fits : l * side + side ≤ line * side = row_fits l side line side earlier (omega arith) in
          get_or-put_mid_before a k xs ys (l * side + column) (pos 0) (omega arith) (omega arith) ∙ before column l column_in earlier
      | inr this ↦
          let same : l ≡ line = omega arith in
          let place : l * side + column ≡ a + column = ap (λ (n : ℕ). n * side + column) same ∙ ap (λ (n : ℕ). n + column) (sym at) in
          ap (λ (n : ℕ). get_or (put_mid a k xs ys) n (pos 0)) place
          ∙ get_or-put_mid_in a k xs ys column (pos 0) (omega arith) (omega arith) ∙ now column column_in ∙ ap (wanted column) (sym same)
    ]

-- what a write keeps of every number, and behind it
pub All-put_mid : (P : ℤ → Type 0) (a k : ℕ) (xs ys : List ℤ) → All P xs → All P ys → All P (put_mid a k xs ys)
All-put_mid P a k xs ys olds news =
    All-append P (take a xs) (ys ++ drop k (drop a xs)) (All-take P a xs olds)
    (All-append P ys (drop k (drop a xs)) news (All-drop P k (drop a xs) (All-drop P a xs olds)))

pub drop_behind : (line side k : ℕ) (xs ys : List ℤ) → k ≡ (line + 1) * side - line * side → length ys ≡ side → (line + 1) * side ≤ length xs → drop ((line + 1) * side) (put_mid (line * side) k xs ys) ≡ drop ((line + 1) * side) xs
drop_behind line side k xs ys is long room =
    let e : (line + 1) * side ≡ line * side + side = omega arith in
    drop-put_mid (line * side) k xs ys ((line + 1) * side) (omega arith) (omega arith) (omega arith)

-- what holds of the number in each column and line holds of each number
pub All-by_lines : (P : ℤ → Type 0) (side : ℕ) (xs : List ℤ) → 0 < side → length xs ≡ side * side
    → ((column line : ℕ) → column < side → line < side → P (get_or xs (line * side + column) (pos 0)))
    → All P xs
All-by_lines P side xs some long each =
    All-from_get_or P xs (pos 0)
    (λ k h.
    let place : k / side * side + k % side ≡ k = div-add-mod' k side in
    let Q : ℕ → Type 0 = λ n. P (get_or xs n (pos 0)) in
    subst Q place (each (k % side) (k / side) (mod_below k side some) (div_below k side side some (omega arith))))

-- the numbers of a tile's block are numbers of its width
pub All-pixels : (tile : PixelTile) (side : ℕ) (xs : List ℤ) → IsTile tile.depth tile.n tile.numbers → side ≡ 2 ^ tile.n → length xs ≡ 4 ^ tile.n
    → ((column line : ℕ) → column < 2 ^ tile.n → line < 2 ^ tile.n → get_or xs (line * 2 ^ tile.n + column) (pos 0) ≡ pixel_in tile column line)
    → All (IsNumber tile.depth.bitpix) xs
All-pixels tile side xs of side_is long each =
    let s : ℕ = 2 ^ tile.n in
    let some : 0 < s = pow_pos tile.n in
    let square : 4 ^ tile.n ≡ s * s = four_pow tile.n in
    All-by_lines (IsNumber tile.depth.bitpix) s xs some (long ∙ square)
    (λ column line column_in line_in.
    let place : (s - 1 - line) * s + column < s * s = mul-add-lt (s - 1 - line) s column s (omega arith) column_in in
    subst (IsNumber tile.depth.bitpix) (sym (each column line column_in line_in))
    (of.range ((s - 1 - line) * s + column) tile.depth.blank (omega (arith, of.count))))

-- what stands behind a place stands behind a later one
same_behind : (n m : ℕ) (xs ys : List ℤ) → n ≤ m → drop n xs ≡ drop n ys → drop m xs ≡ drop m ys
same_behind n m xs ys le same =
    let e : m ≡ n + (m - n) = omega arith in
    ap (λ (k : ℕ). drop k xs) e ∙ sym (drop-drop (m - n) n xs) ∙ ap (drop (m - n)) same ∙ drop-drop (m - n) n ys ∙ ap (λ (k : ℕ). drop k ys) (sym e)

-- one line more is halved
pub halved_more : (way : Combine) (blank : ℤ) (side r line : ℕ) (first now next : List ℤ) → r ≡ side
    → ((column l : ℕ) → column < side → l < line → get_or now (l * side + column) (pos 0) ≡ combined way blank (square_at (drop (4 * side * l) first) (drop (4 * side * l + 2 * side) first) column))
    → drop (line * side) now ≡ drop (line * side) first
    → ((column : ℕ) → column < r → get_or next (line * r + column) (pos 0) ≡ combined way blank (square_at (drop (4 * r * line) now) (drop (4 * r * line + 2 * r) now) column))
    → ((place : ℕ) → place < line * r → get_or next place (pos 0) ≡ get_or now place (pos 0))
    → (column l : ℕ) → column < side → l < line + 1 → get_or next (l * side + column) (pos 0) ≡ combined way blank (square_at (drop (4 * side * l) first) (drop (4 * side * l + 2 * side) first) column)
halved_more way blank side r line first now next same done behind written before column l column_in line_in =
    elim (cases_lt l line) [
      | inl earlier ↦
          let fits : l * side + side ≤ line * side = row_fits l side line side earlier (omega arith) in
          before (l * side + column) (rw same (omega arith)) ∙ done column l column_in earlier
      | inr this ↦
          let at : l ≡ line = omega arith in
          let upper : drop (4 * r * line) now ≡ drop (4 * side * l) first =
          ap (λ (k : ℕ). drop k now) (rw (same, at) refl) ∙ same_behind (line * side) (4 * side * l) now first (rw at (omega arith)) behind in
          let lower : drop (4 * r * line + 2 * r) now ≡ drop (4 * side * l + 2 * side) first =
          ap (λ (k : ℕ). drop k now) (rw (same, at) refl) ∙ same_behind (line * side) (4 * side * l + 2 * side) now first (rw at (omega arith)) behind in
          let place : l * side + column ≡ line * r + column = rw (same, at) refl in
          ap (λ (k : ℕ). get_or next k (pos 0)) place ∙ written column (omega arith)
          ∙ ap (λ (t : List ℤ). combined way blank (square_at t (drop (4 * r * line + 2 * r) now) column)) upper
          ∙ ap (λ (b : List ℤ). combined way blank (square_at (drop (4 * side * l) first) b column)) lower
    ]

pub behind_more : (side r line : ℕ) (first now next : List ℤ) → r ≡ side
    → drop (line * side) now ≡ drop (line * side) first
    → drop ((line + 1) * r) next ≡ drop ((line + 1) * r) now
    → drop ((line + 1) * side) next ≡ drop ((line + 1) * side) first
behind_more side r line first now next same before kept =
    let e : (line + 1) * r ≡ (line + 1) * side = rw same refl in
    ap (λ (k : ℕ). drop k next) (sym e) ∙ kept ∙ ap (λ (k : ℕ). drop k now) e ∙ same_behind (line * side) ((line + 1) * side) now first (omega arith) before

-- half of a side
pub half_side : (levels : ℕ) → 1 ≤ levels → 2 ^ levels ≡ 2 * 2 ^ (levels - 1)
half_side zero h = absurd (omega arith)
half_side (suc m) h =
    let e : suc m - 1 ≡ m = omega arith in
    rw (e, pow-suc 2 m) (omega arith)

four : {a b c d e f g h : ℤ} → a ≡ e → b ≡ f → c ≡ g → d ≡ h → a ∷ b ∷ c ∷ d ∷ [] ≡ e ∷ f ∷ g ∷ h ∷ []
four p q r s = cc

-- a number of the halved block
pub halved_number : (way : Combine) (blank : ℤ) (old new : PixelBlock) (side : ℕ) (next : List ℤ) → 1 ≤ old.levels → new.levels ≡ old.levels - 1 → side ≡ 2 ^ old.levels / 2
    → new.numbers ≡ take (side * side) next
    → ((column line : ℕ) → column < side → line < side → get_or next (line * side + column) (pos 0) ≡ combined way blank (square_at (drop (4 * side * line) old.numbers) (drop (4 * side * line + 2 * side) old.numbers) column))
    → (column line : ℕ) → column < 2 ^ new.levels → line < 2 ^ new.levels → block_number new column line ≡ combined way blank (block_square old column line)
halved_number way blank old new side next some less is front each column line column_in line_in =
    let half : 2 ^ old.levels ≡ 2 * 2 ^ (old.levels - 1) = half_side old.levels some in
    let new_side : 2 ^ new.levels ≡ 2 ^ (old.levels - 1) = ap (λ (k : ℕ). 2 ^ k) less in
    let side_is : 2 ^ new.levels ≡ side = omega arith in
    let double : 2 ^ old.levels ≡ 2 * side = omega arith in
    let within : line * side + column < side * side = mul-add-lt line side column side (omega arith) (omega arith) in
    let top : (c : ℕ) → number_at (drop (4 * side * line) old.numbers) c ≡ block_number old c (2 * line) =
    λ c. get_or-drop (4 * side * line) old.numbers c (pos 0) ∙ ap (λ (n : ℕ). get_or old.numbers n (pos 0)) (let e : 4 * side * line + c ≡ 2 * line * 2 ^ old.levels + c = rw double (omega arith) in e) in
    let bottom : (c : ℕ) → number_at (drop (4 * side * line + 2 * side) old.numbers) c ≡ block_number old c (2 * line + 1) =
    λ c. get_or-drop (4 * side * line + 2 * side) old.numbers c (pos 0) ∙ ap (λ (n : ℕ). get_or old.numbers n (pos 0)) (let e : 4 * side * line + 2 * side + c ≡ (2 * line + 1) * 2 ^ old.levels + c = rw double (omega arith) in e) in
    ap (λ (s : ℕ). get_or new.numbers (line * s + column) (pos 0)) side_is
    ∙ ap (λ (vs : List ℤ). get_or vs (line * side + column) (pos 0)) front
    ∙ get_or-take (side * side) next (line * side + column) (pos 0) within
    ∙ each column line (omega arith) (omega arith)
    ∙ ap (combined way blank) (four (top (2 * column)) (bottom (2 * column)) (top (2 * column + 1)) (bottom (2 * column + 1)))

-- what half of a side is
pub half_of : (levels side : ℕ) → 1 ≤ levels → side ≡ 2 ^ levels → side / 2 ≡ 2 ^ (levels - 1)
half_of levels side some is = let half : 2 ^ levels ≡ 2 * 2 ^ (levels - 1) = half_side levels some in omega arith

-- the numbers of a block, in quarters
pub quarters : (levels side : ℕ) → 1 ≤ levels → side ≡ 2 ^ levels → 4 ^ levels ≡ 4 * ((side / 2) * (side / 2))
quarters levels side some is =
    let half : 2 ^ levels ≡ 2 * 2 ^ (levels - 1) = half_side levels some in
    rw (half_of levels side some is, four_pow levels, half) (omega arith)

pub quarter : (levels side : ℕ) → 1 ≤ levels → side ≡ 2 ^ levels → 4 ^ (levels - 1) ≡ (side / 2) * (side / 2)
quarter levels side some is = rw (half_of levels side some is) (four_pow (levels - 1))

-- what a list holds after a part of it was given out and came back
pub given_back : (len : ℕ) (news olds : List ℤ) → length news ≡ len → take len (news ++ drop (length news) olds) ≡ news
given_back len news olds h = take_at news (drop (length news) olds) len h

pub length_of_part : (start side : ℕ) (xs : List ℤ) → start + side ≤ length xs → length (take (start + side - start) (drop start xs)) ≡ side
length_of_part start side xs room =
    let e : start + side - start ≡ side = omega arith in
    rw e (length-take-le side (drop start xs) (rw (length-drop start xs) (omega arith)))

-- a line that was written, number by number
number_of_part : (xs : List ℤ) (start side i : ℕ) → i < 2 * side → number_at (take (start + 2 * side - start) (drop start xs)) i ≡ number_at (drop start xs) i
number_of_part xs start side i within = get_or-take (start + 2 * side - start) (drop start xs) i (pos 0) (omega arith)

square_of_parts : (xs : List ℤ) (upper lower side column : ℕ) → column < side
    → square_at (take (upper + 2 * side - upper) (drop upper xs)) (take (lower + 2 * side - lower) (drop lower xs)) column ≡ square_at (drop upper xs) (drop lower xs) column
square_of_parts xs upper lower side column within =
    four (number_of_part xs upper side (2 * column) (omega arith)) (number_of_part xs lower side (2 * column) (omega arith))
    (number_of_part xs upper side (2 * column + 1) (omega arith)) (number_of_part xs lower side (2 * column + 1) (omega arith))

from_get : (xs : List ℤ) (k : ℕ) (v : ℤ) → k < length xs → slice_get xs k ≡ Some v → get_or xs k (pos 0) ≡ v
from_get xs k v within is = let e : slice_get xs k ≡ Some (get_or xs k (pos 0)) = slice_get-get_or xs k (pos 0) within in cc

pub halved_line : (way : Combine) (blank : ℤ) (side line k upper lower : ℕ) (xs ys out : List ℤ) → length out ≡ side → ys ≡ out → line * side ≤ length xs
    → ((i : ℕ) → i < length out → slice_get out i ≡ Some (combined way blank (square_at (take (upper + 2 * side - upper) (drop upper xs)) (take (lower + 2 * side - lower) (drop lower xs)) i)))
    → (column : ℕ) → column < side → get_or (put_mid (line * side) k xs ys) (line * side + column) (pos 0) ≡ combined way blank (square_at (drop upper xs) (drop lower xs) column)
halved_line way blank side line k upper lower xs ys out long is room each column column_in =
    let within : column < length out = omega arith in
    let there : column < length ys = rw is within in
    get_or-put_mid_in (line * side) k xs ys column (pos 0) room there
    ∙ ap (λ (vs : List ℤ). get_or vs column (pos 0)) is
    ∙ from_get out column (combined way blank (square_at (take (upper + 2 * side - upper) (drop upper xs)) (take (lower + 2 * side - lower) (drop lower xs)) column)) within (each column within)
    ∙ ap (combined way blank) (square_of_parts xs upper lower side column column_in)
