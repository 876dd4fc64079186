-- How many leaves lie under rows: four times as many as cells of the order above, and the order's own rows.
use Rattle.std.proofs.Common.{◌≡◌, ℕ, zero, suc, ◌+◌, ◌-◌, ◌*◌, ◌/◌, ◌^◌, ◌<◌, ◌≤◌, Bool, true, false, cond, ◌&&◌, ◌||◌, leb, ltb, List, [], ◌∷◌, length, map, filter, count_by, All, refl, sym, ap, ap₂, ◌∙◌, subst, arith, length-append}
use Rattle.std.specs.List.{range_with_len}
use Rattle.std.proofs.lemmas.Bool.{true≢false, and_parts, and_from, leb-true, ltb-true, le-leb, lt-ltb}
use Rattle.std.proofs.lemmas.List.{length-map}
use Rattle.std.proofs.lemmas.List.Elements.{filter-append}
use Rattle.std.proofs.lemmas.List.Sums.{length-filter}
use Rattle.healpix_nested.specs.Cells.{cell_count, uniq_number}
use Rattle.coverage_moc.specs.Cover.{has, IsAscending, is_under, leaves_under}
use Rattle.coverage_moc.specs.Rows.{IsMaximalRow}
use Rattle.coverage_moc.proofs.MemberLemmas.{same_bools, all_has, all_from_has, range_more, has-filter, up-filter, up-same}
use Rattle.coverage_moc.proofs.CoverLemmas.{power_more}
use Rattle.coverage_moc.proofs.TreeLemmas.{number_of, has-block, block_bounds, up-block, under-zero, under-suc}
use Rattle.coverage_moc.proofs.CanonLemmas.{alone_parts, alone_of}

abbrev one : Bool → ℕ
one b = cond b 1 0

-- how many of the first n numbers pass
abbrev count : (ℕ → Bool) → ℕ → ℕ
count f zero = 0
count f (suc n) = count f n + one (f n)

length-filter_range : (f : ℕ → Bool) (n : ℕ) → length (filter f (range_with_len 0 n)) ≡ count f n
length-filter_range f zero = refl
length-filter_range f (suc n) =
    let last : 0 + n ≡ n = omega arith in
    ap (λ zs. length (filter f zs)) (range_more 0 n) ∙ ap length (filter-append f (range_with_len 0 n) ((0 + n) ∷ []))
    ∙ length-append (filter f (range_with_len 0 n)) (filter f ((0 + n) ∷ []))
    ∙ ap₂ (λ (x y : ℕ). x + y) (length-filter_range f n) (ap (λ (z : ℕ). length (filter f (z ∷ []))) last ∙ single_one (f n) n)
  where
    single_one : (b : Bool) (n : ℕ) → length (cond b (n ∷ []) []) ≡ one b
    single_one true n = refl
    single_one false n = refl

count_agree : (f g : ℕ → Bool) (n : ℕ) → ((c : ℕ) → c < n → f c ≡ g c) → count f n ≡ count g n
count_agree f g zero agree = refl
count_agree f g (suc n) agree = ap₂ (λ (x : ℕ) (b : Bool). x + one b) (count_agree f g n (λ c lt. agree c (omega arith))) (agree n (omega arith))

-- four numbers under each number
count_fours : (u r : ℕ → Bool) (n : ℕ) → ((c : ℕ) → c < 4 * n → r c ≡ true → u (c / 4) ≡ false) → count (λ c. u (c / 4) || r c) (4 * n) ≡ 4 * count u n + count r (4 * n)
count_fours u r zero apart = refl
count_fours u r (suc n) apart =
    let whole : 4 * suc n ≡ suc (suc (suc (suc (4 * n)))) = omega arith in
    let before : count (λ c. u (c / 4) || r c) (4 * n) ≡ 4 * count u n + count r (4 * n) = count_fours u r n (λ c lt. apart c (omega arith)) in
    let q0 : 4 * n / 4 ≡ n = omega arith in
    let q1 : suc (4 * n) / 4 ≡ n = omega arith in
    let q2 : suc (suc (4 * n)) / 4 ≡ n = omega arith in
    let q3 : suc (suc (suc (4 * n))) / 4 ≡ n = omega arith in
    let e0 : one (u (4 * n / 4) || r (4 * n)) ≡ one (u n) + one (r (4 * n)) = ap (λ (z : ℕ). one (u z || r (4 * n))) q0 ∙ both (u n) (r (4 * n)) (λ h. ap u (sym q0) ∙ apart (4 * n) (omega arith) h) in
    let e1 : one (u (suc (4 * n) / 4) || r (suc (4 * n))) ≡ one (u n) + one (r (suc (4 * n))) = ap (λ (z : ℕ). one (u z || r (suc (4 * n)))) q1 ∙ both (u n) (r (suc (4 * n))) (λ h. ap u (sym q1) ∙ apart (suc (4 * n)) (omega arith) h) in
    let e2 : one (u (suc (suc (4 * n)) / 4) || r (suc (suc (4 * n)))) ≡ one (u n) + one (r (suc (suc (4 * n)))) = ap (λ (z : ℕ). one (u z || r (suc (suc (4 * n))))) q2 ∙ both (u n) (r (suc (suc (4 * n)))) (λ h. ap u (sym q2) ∙ apart (suc (suc (4 * n))) (omega arith) h) in
    let e3 : one (u (suc (suc (suc (4 * n))) / 4) || r (suc (suc (suc (4 * n))))) ≡ one (u n) + one (r (suc (suc (suc (4 * n))))) = ap (λ (z : ℕ). one (u z || r (suc (suc (suc (4 * n)))))) q3 ∙ both (u n) (r (suc (suc (suc (4 * n))))) (λ h. ap u (sym q3) ∙ apart (suc (suc (suc (4 * n)))) (omega arith) h) in
    ap (count (λ c. u (c / 4) || r c)) whole
    ∙ ap₂ (λ (x y : ℕ). x + y) (ap₂ (λ (x y : ℕ). x + y) (ap₂ (λ (x y : ℕ). x + y) (ap₂ (λ (x y : ℕ). x + y) before e0) e1) e2) e3
    ∙ gather (count u n) (count r (4 * n)) (one (u n)) (one (r (4 * n))) (one (r (suc (4 * n)))) (one (r (suc (suc (4 * n))))) (one (r (suc (suc (suc (4 * n))))))
    ∙ ap (λ (z : ℕ). 4 * (count u n + one (u n)) + count r z) (sym whole)
  where
    both : (a b : Bool) → (b ≡ true → a ≡ false) → one (a || b) ≡ one a + one b
    both true true apart = absurd (true≢false (apart refl))
    both true false apart = refl
    both false true apart = refl
    both false false apart = refl

    gather : (x y a b c d e : ℕ) → 4 * x + y + (a + b) + (a + c) + (a + d) + (a + e) ≡ 4 * (x + a) + (y + b + c + d + e)
    gather x y a b c d e = omega arith

-- ---- the leaves

-- the rows of an order are counted among all rows
own_count : (k : ℕ) (rows : List ℕ) → IsAscending rows → count_by (λ row. leb (4 * 4 ^ k) row && ltb row (16 * 4 ^ k)) rows ≡ count (λ p. has rows (uniq_number k p)) (cell_count k)
own_count k rows up =
    let within : ℕ → Bool = λ row. leb (4 * 4 ^ k) row && ltb row (16 * 4 ^ k) in
    let test : ℕ → Bool = λ p. has rows (uniq_number k p) in
    let block : List ℕ = map (uniq_number k) (filter test (range_with_len 0 (cell_count k))) in
    let same : filter within rows ≡ block = up-same (filter within rows) block (up-filter within rows up) (up-block k test) (λ row. same_bools (has (filter within rows) row) (has block row)
    (λ h.
    let both : (has rows row ≡ true) × (within row ≡ true) = and_parts (has rows row) (within row) (sym (has-filter within rows row) ∙ h) in
    let ends : (leb (4 * 4 ^ k) row ≡ true) × (ltb row (16 * 4 ^ k) ≡ true) = and_parts (leb (4 * 4 ^ k) row) (ltb row (16 * 4 ^ k)) both.1 in
    let n : (p : ℕ) × (p < cell_count k) × (uniq_number k p ≡ row) = number_of k row (leb-true (4 * 4 ^ k) row ends.0) (ltb-true row (16 * 4 ^ k) ends.1) in
    subst (λ (z : ℕ). has block z ≡ true) n.2 (has-block k test n.0 n.1 ∙ ap (has rows) n.2 ∙ both.0))
    (λ h.
    let ends : (4 * 4 ^ k ≤ row) × (row < 16 * 4 ^ k) = block_bounds k test row h in
    let n : (p : ℕ) × (p < cell_count k) × (uniq_number k p ≡ row) = number_of k row ends.0 ends.1 in
    let there : has rows row ≡ true = ap (has rows) (sym n.2) ∙ sym (has-block k test n.0 n.1) ∙ ap (has block) n.2 ∙ h in
    has-filter within rows row ∙ and_from (has rows row) (within row) there (and_from (leb (4 * 4 ^ k) row) (ltb row (16 * 4 ^ k)) (le-leb (4 * 4 ^ k) row ends.0) (lt-ltb row (16 * 4 ^ k) ends.1)))) in
    sym (length-filter within rows) ∙ ap length same ∙ length-map (filter test (range_with_len 0 (cell_count k))) (uniq_number k) ∙ length-filter_range test (cell_count k)

length-leaves : (k : ℕ) (rows : List ℕ) → length (leaves_under k rows) ≡ count (is_under k rows) (cell_count k)
unfolding leaves_under
length-leaves k rows = length-filter_range (is_under k rows) (cell_count k)

pub count_first : (k : ℕ) (rows : List ℕ) → k ≡ 0 → IsAscending rows → count_by (λ row. leb (4 * 4 ^ k) row && ltb row (16 * 4 ^ k)) rows ≡ length (leaves_under k rows)
count_first zero rows e up = own_count 0 rows up ∙ sym (length-leaves 0 rows ∙ count_agree (is_under 0 rows) (λ p. has rows (uniq_number 0 p)) (cell_count 0) (λ p lt. under-zero rows p))
count_first (suc t) rows e up = absurd (omega arith)

pub count_more : (k : ℕ) (rows : List ℕ) → 0 < k → k ≤ 11 → IsAscending rows → All (IsMaximalRow 11 rows) rows
    → 4 * length (leaves_under (k - 1) rows) + count_by (λ row. leb (4 * 4 ^ k) row && ltb row (16 * 4 ^ k)) rows ≡ length (leaves_under k rows)
count_more zero rows some few up all = absurd (omega arith)
count_more (suc t) rows some few up all =
    let order : suc t - 1 ≡ t = omega arith in
    let power : 4 ^ suc t ≡ 4 * 4 ^ t = power_more t in
    let cells : cell_count (suc t) ≡ 4 * cell_count t = omega arith in
    let own : ℕ → Bool = λ p. has rows (uniq_number (suc t) p) in
    let fours : count (λ c. is_under t rows (c / 4) || own c) (4 * cell_count t) ≡ 4 * count (is_under t rows) (cell_count t) + count own (4 * cell_count t) =
    count_fours (is_under t rows) own (cell_count t) (λ c lt h. (alone_parts t rows c (alone_of 11 rows (omega arith) (all_has (IsMaximalRow 11 rows) rows all) (suc t) c few (omega arith) h)).0) in
    ap₂ (λ (x y : ℕ). 4 * x + y) (ap (λ (j : ℕ). length (leaves_under j rows)) order ∙ length-leaves t rows) (own_count (suc t) rows up ∙ ap (count own) cells)
    ∙ sym fours
    ∙ sym (length-leaves (suc t) rows ∙ count_agree (is_under (suc t) rows) (λ c. is_under t rows (c / 4) || own c) (cell_count (suc t)) (λ c lt. under-suc t rows c) ∙ ap (count (λ c. is_under t rows (c / 4) || own c)) cells)

pub maximal_11 : (top : ℕ) (rows : List ℕ) → top ≤ 11 → All (IsMaximalRow top rows) rows → All (IsMaximalRow 11 rows) rows
maximal_11 top rows few all = all_from_has (IsMaximalRow 11 rows) rows (λ row h.
    let m : IsMaximalRow top rows row = all_has (IsMaximalRow top rows) rows all row h in
    let within : m.0 ≤ top = m.2 in
    (m.0, m.1, omega arith, m.3, m.4, m.5))

pub power_of_order : (k : ℕ) → 0 < k → 4 ^ k ≡ 4 * 4 ^ (k - 1)
power_of_order zero some = absurd (omega arith)
power_of_order (suc t) some = let order : suc t - 1 ≡ t = omega arith in power_more t ∙ ap (λ (j : ℕ). 4 * 4 ^ j) (sym order)
