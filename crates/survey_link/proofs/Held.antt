-- The bytes of a buffer from one place to another, after bytes were given or read.
use Rattle.std.proofs.Common.{◌≡◌, ℕ, ◌+◌, ◌-◌, ◌≤◌, List, ◌++◌, length, take, drop, sym, ap, ◌∙◌, arith}
use borrow.Rule.Slice.PartMut.{post_of}
use Rattle.std.specs.Prelude.{Vec, slice_range}
use Rattle.std.specs.Vec.{with_items}
use Rattle.std.specs.declared.alloc.Global.{Global}
use Rattle.std.proofs.lemmas.List.{with_items_is, length-append}
use Rattle.std.proofs.lemmas.List.{length-take, length-drop, drop-take, drop-drop, drop-append-le, take-append-le, append-nil}
use Rattle.std.proofs.Math.Seq.{take-append-add}

-- how many there are
pub front_length : (xs : List ℕ) (start end : ℕ) → start ≤ end → end ≤ length xs → length (slice_range xs start end) ≡ end - start
front_length xs start end ordered within =
    let taken = length-take (end - start) (drop start xs) in
    let dropped = length-drop start xs in
    omega (arith, taken, dropped)

-- what is kept before a write, and what is written after it
module _ (xs ys rest : List ℕ) (start end : ℕ) (ordered : start ≤ end) (within : end ≤ length xs) where
  front_is : drop start (take end xs ++ (ys ++ rest)) ≡ slice_range xs start end ++ (ys ++ rest)
  front_is =
      let taken = length-take end xs in
      let split : end ≡ start + (end - start) = omega arith in
      drop-append-le start (take end xs) (ys ++ rest) (omega (arith, taken))
      ∙ ap (λ n. drop start (take n xs) ++ (ys ++ rest)) split
      ∙ ap (λ front. front ++ (ys ++ rest)) (drop-take start (end - start) xs)

  -- the bytes before the write stay
  pub kept_before : (old : List ℕ) → xs ≡ old → slice_range (take end xs ++ (ys ++ rest)) start end ≡ slice_range old start end
  kept_before old same =
      let size = front_length xs start end ordered within in
      let none : end - start ≡ length (slice_range xs start end) + 0 = omega (arith, size) in
      ap (take (end - start)) front_is ∙ ap (λ n. take n (slice_range xs start end ++ (ys ++ rest))) none
      ∙ take-append-add (slice_range xs start end) (ys ++ rest) 0 ∙ append-nil (slice_range xs start end)
      ∙ ap (λ bytes. slice_range bytes start end) same

  -- and some of the bytes written come behind them
  pub grown_by : (old : List ℕ) → xs ≡ old → (count : ℕ) → count ≤ length ys
      → slice_range (take end xs ++ (ys ++ rest)) start (end + count) ≡ slice_range old start end ++ take count ys
  grown_by old same count fits =
      let size = front_length xs start end ordered within in
      let more : end + count - start ≡ length (slice_range xs start end) + count = omega (arith, size) in
      ap (take (end + count - start)) front_is ∙ ap (λ n. take n (slice_range xs start end ++ (ys ++ rest))) more
      ∙ take-append-add (slice_range xs start end) (ys ++ rest) count
      ∙ ap (λ bytes. slice_range xs start end ++ bytes) (take-append-le count ys rest fits)
      ∙ ap (λ bytes. slice_range bytes start end ++ take count ys) same

-- the bytes behind some that were given
pub rest_after : (xs : List ℕ) (start end count : ℕ) → start + count ≤ end → slice_range xs (start + count) end ≡ drop count (slice_range xs start end)
rest_after xs start end count within =
    let more : end - start ≡ count + (end - (start + count)) = omega arith in
    sym (ap (λ n. drop count (take n (drop start xs))) more ∙ drop-take count (end - (start + count)) (drop start xs)
    ∙ ap (take (end - (start + count))) (drop-drop count start xs))

-- a vector after a write from one place up to another
module _ (bytes : Vec ℕ Global) (lent ys : List ℕ) (start end limit : ℕ) (lent_is : lent ≡ bytes.items)
    (ordered : start ≤ end) (before : end ≤ limit) (within : limit ≤ length bytes.items) (size : length ys ≡ limit - end) where
  abbrev written : List ℕ
  written = take end lent ++ (ys ++ post_of end (limit - end) lent)

  lent_length : length lent ≡ length bytes.items
  lent_length = ap length lent_is

  written_length : length written ≡ bytes.len
  written_length =
      let front = length-take end lent in
      let back = length-drop end lent in
      let post = length-drop (limit - end) (drop end lent) in
      let all = length-append (take end lent) (ys ++ post_of end (limit - end) lent) in
      let tail = length-append ys (post_of end (limit - end) lent) in
      omega (arith, front, back, post, all, tail, size, lent_length, bytes.ok.0)

  in_lent : end ≤ length lent
  in_lent = omega (arith, lent_length)

  pub kept_in : slice_range (with_items bytes written).items start end ≡ slice_range bytes.items start end
  kept_in =
      ap (λ bs. slice_range bs start end) (with_items_is bytes written written_length)
      ∙ kept_before lent ys (post_of end (limit - end) lent) start end ordered in_lent bytes.items lent_is

  pub grown_in : (count : ℕ) → count ≤ limit - end
      → slice_range (with_items bytes written).items start (end + count) ≡ slice_range bytes.items start end ++ take count ys
  grown_in count fits =
      ap (λ bs. slice_range bs start (end + count)) (with_items_is bytes written written_length)
      ∙ grown_by lent ys (post_of end (limit - end) lent) start end ordered in_lent bytes.items lent_is count (omega (arith, size))

  pub size_kept : length (with_items bytes written).items ≡ length bytes.items
  size_kept = ap length (with_items_is bytes written written_length) ∙ written_length ∙ bytes.ok.0
