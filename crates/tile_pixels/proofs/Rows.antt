-- The loops over a row.
use Rattle.std.proofs.Common.{◌≡◌, ℕ, ◌+◌, ◌*◌, ◌/◌, ◌<◌, ◌≤◌, List, [], ◌∷◌, ◌++◌, length, take, drop, set, get_or, All, sym, subst, ap, ◌∙◌, arith, ℤ, pos, w8, Fits, IsTrue}
use Rattle.std.proofs.lemmas.List.{append-nil, take_all, take_more}
use Rattle.std.proofs.lemmas.List.Edits.{fill_by_more}
use Rattle.std.proofs.lemmas.List.Elements.{All-same}
use Rattle.parent_rule.specs.Depth.{is_bitpix, IsNumber}
use Rattle.tile_pixels.specs.Stored.{number_from, numbers_from, number_bytes, stored_bytes}
use Rattle.tile_pixels.specs.StoredLaws.{AreBytes, numbers_from-numbers, numbers_from-places, numbers_from-stored_bytes, stored_bytes-append, stored_bytes-cons, stored_bytes-nil}

-- what a slice of bytes holds
pub are_bytes : (bytes : List ℕ) → ((k : ℕ) → Fits w8 (get_or bytes k 0)) → AreBytes bytes
are_bytes bytes h = λ i. let fits : Fits w8 (get_or bytes i 0) = h i in omega arith

-- one number more is read
pub read_more : (f : ℕ → ℤ) (numbers : List ℤ) (i : ℕ) (x : ℤ) → i < length numbers → x ≡ f i → ((k : ℕ) → k < i → get_or numbers k (pos 0) ≡ f k) → (k : ℕ) → k < i + 1 → get_or (set numbers i x) k (pos 0) ≡ f k
read_more f numbers i x within is before =
    let P : ℤ → Type 0 = λ v. (k : ℕ) → k < i + 1 → get_or (set numbers i v) k (pos 0) ≡ f k in
    subst P (sym is) (fill_by_more f numbers i (pos 0) within before)

-- the bytes of one number more
pub stored_more : (bits : ℕ) (numbers : List ℤ) (i : ℕ) → i < length numbers → stored_bytes bits (take (i + 1) numbers) ≡ stored_bytes bits (take i numbers) ++ number_bytes bits (get_or numbers i (pos 0))
stored_more bits numbers i within =
    let v : ℤ = get_or numbers i (pos 0) in
    ap (stored_bytes bits) (take_more numbers i (pos 0) within) ∙ stored_bytes-append bits (take i numbers) (v ∷ [])
    ∙ ap (λ (bytes : List ℕ). stored_bytes bits (take i numbers) ++ bytes)
    (stored_bytes-cons bits v [] ∙ ap (λ (bytes : List ℕ). number_bytes bits v ++ bytes) (stored_bytes-nil bits) ∙ append-nil (number_bytes bits v))

-- all is written
pub written_all : (bits : ℕ) (numbers : List ℤ) (bytes : List ℕ) (i : ℕ) → i ≡ length numbers → length bytes ≡ length numbers * (bits / 8) → take (i * (bits / 8)) bytes ≡ stored_bytes bits (take i numbers)
    → bytes ≡ stored_bytes bits numbers
written_all bits numbers bytes i end long before =
    let all : length bytes ≤ i * (bits / 8) = rw end (omega (arith, long)) in
    sym (take_all (i * (bits / 8)) bytes all) ∙ before ∙ ap (stored_bytes bits) (take_all i numbers (omega arith))

-- all is read
pub read_all : (bits : ℕ) (bytes : List ℕ) (numbers : List ℤ) (i count : ℕ) → length numbers ≡ i → length numbers ≡ count → ((k : ℕ) → k < i → get_or numbers k (pos 0) ≡ number_from bits (drop (k * (bits / 8)) bytes)) → numbers ≡ numbers_from bits count bytes
read_all bits bytes numbers i count done same each =
    numbers_from-places bits bytes numbers (λ k h. each k (omega arith)) ∙ ap (λ (n : ℕ). numbers_from bits n bytes) same

pub All-read : (bits : ℕ) (bytes : List ℕ) (numbers : List ℤ) (i : ℕ) → IsTrue (is_bitpix bits) → ((k : ℕ) → Fits w8 (get_or bytes k 0)) → length numbers ≡ i → ((k : ℕ) → k < i → get_or numbers k (pos 0) ≡ number_from bits (drop (k * (bits / 8)) bytes)) → All (IsNumber bits) numbers
All-read bits bytes numbers i known fits done each =
    All-same (IsNumber bits) numbers (numbers_from bits i bytes) (read_all bits bytes numbers i i done done each) (numbers_from-numbers bits i bytes known (are_bytes bytes fits))

-- what was written reads back
pub read_back : (bits known_bits : ℕ) (numbers : List ℤ) (bytes : List ℕ) → IsTrue (is_bitpix known_bits) → bits ≡ known_bits → All (IsNumber bits) numbers → bytes ≡ stored_bytes known_bits numbers → numbers_from bits (length numbers) bytes ≡ numbers
read_back bits known_bits numbers bytes known is of written =
    ap (numbers_from bits (length numbers)) (written ∙ ap (λ (b : ℕ). stored_bytes b numbers) (sym is))
    ∙ numbers_from-stored_bytes bits numbers (ap is_bitpix is ∙ known) of
