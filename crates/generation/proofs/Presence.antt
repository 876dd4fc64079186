-- Which leaves are there decides the cover, and a cover can follow them one leaf at a time.
use Rattle.std.proofs.Common.{◌≡◌, ℕ, ◌+◌, ◌<◌, List, [], ◌∷◌, true, false, cond, inl, inr, ◌⊎◌, Some, Bool, filter, refl, sym, ap, subst, ◌∙◌, arith, get_or, length, take, eqb-true}
use Rattle.std.specs.Prelude.{All, Contains, is_some, not, ◌==◌, ◌||◌}
use Rattle.std.specs.List.{range_with_len}
use Rattle.std.specs.Map.{keys_of}
use Rattle.std.proofs.lemmas.Bool.{cases_eq, eq-eqb, true≢false}
use Rattle.std.proofs.lemmas.Bool.Decides.{nat_tests}
use Rattle.std.proofs.lemmas.List.Elements.{All-filter}
use Rattle.std.proofs.lemmas.List.FromFn.{length-range_with_len, get_or-range_with_len}
use Rattle.std.proofs.lemmas.List.Sums.{fold_more}
use Rattle.std.proofs.lemmas.Map.Made.{Contains-tail}
use Rattle.healpix_nested.specs.Cells.{cell_count}
use Rattle.leaf_store.specs.Store.{value_at}
use Rattle.coverage_moc.specs.Cover.{has, cover, leaves_under, without}
use Rattle.coverage_moc.specs.Laws.{LeavesComeBack, LeavesDecide}
use Rattle.edit_journal.specs.Leaves.{LeafTiles}
use Rattle.generation.specs.Kept.{SameBut}
use Rattle.generation.specs.Presence.{comes_or_goes, as_in, all_as_in}
use Rattle.generation.proofs.Lists.{value_here, value_later, selection_ascends}
use Rattle.generation.proofs.Placing.{selection_has, selection_lacks}

pub has_key : (leaf : ℕ) (leaves : LeafTiles) → has (keys_of leaves) leaf ≡ is_some (value_at leaf leaves)
has_key leaf [] = refl
has_key leaf (e ∷ es) = elim (cases_eq leaf e.0) [
  | inl same ↦
      let first : (e.0 == leaf) ≡ true = eq-eqb e.0 leaf (sym same) in
      let found : value_at leaf (e ∷ es) ≡ Some e.1 = subst (λ k. value_at leaf ((k, e.1) ∷ es) ≡ Some e.1) same (value_here leaf e.1 es) in
      ap (λ b. b || has (keys_of es) leaf) first ∙ sym (ap is_some found)
  | inr apart ↦
      let other : (e.0 == leaf) ≡ false = grind (arith, nat_tests) in
      ap (λ b. b || has (keys_of es) leaf) other ∙ has_key leaf es ∙ ap is_some (sym (value_later leaf e.0 e.1 es apart))
]

-- ---- the leaves under a cover's rows

selection_is : (t : ℕ → Bool) (n x : ℕ) → x < n → has (filter t (range_with_len 0 n)) x ≡ t x
selection_is t n x below = elim (t x) as (λ b. t x ≡ b → has (filter t (range_with_len 0 n)) x ≡ b) [
  | true ↦ λ e. selection_has t 0 n x e (omega arith) (omega arith)
  | false ↦ λ e. selection_lacks t 0 n x e
] refl

range_below : (n : ℕ) → All (λ x. x < n) (range_with_len 0 n)
range_below n k d h =
    let long : length (range_with_len 0 n) ≡ n = length-range_with_len 0 n in
    let at : get_or (range_with_len 0 n) k d ≡ 0 + k = get_or-range_with_len 0 n k d (omega arith) in
    omega arith

-- they are those that it is the cover of
pub come_back : LeavesDecide → LeavesComeBack → (top : ℕ) (leaves : List ℕ) (x : ℕ) → x < cell_count top → has (leaves_under top (cover top leaves)) x ≡ has leaves x
come_back decide back top leaves x below =
    let all : List ℕ = filter (has leaves) (range_with_len 0 (cell_count top)) in
    ap (λ rows. has (leaves_under top rows) x) (decide top leaves all (λ leaf h. sym (selection_is (has leaves) (cell_count top) leaf h)))
    ∙ ap (λ found. has found x) (back top all (selection_ascends (has leaves) 0 (cell_count top)) (All-filter (has leaves) (λ leaf. leaf < cell_count top) (range_with_len 0 (cell_count top)) (range_below (cell_count top))))
    ∙ selection_is (has leaves) (cell_count top) x below

-- ---- one leaf that comes or goes

has-without : (leaf : ℕ) (leaves : List ℕ) (x : ℕ) → has (without leaf leaves) x ≡ cond (leaf == x) false (has leaves x)
has-without leaf [] x = elim (leaf == x) as (λ b. false ≡ cond b false false) [ true ↦ refl | false ↦ refl ]
has-without leaf (y ∷ ys) x =
    let rest : has (without leaf ys) x ≡ cond (leaf == x) false (has ys x) = has-without leaf ys x in
    elim (cases_eq y leaf) [
      | inl same ↦
          let dropped : (y == leaf) ≡ true = eq-eqb y leaf same in
          rw dropped (rest ∙ subst (λ (k : ℕ). cond (leaf == x) false (has ys x) ≡ cond (leaf == x) false ((k == x) || has ys x)) (sym same) (gone (leaf == x)))
      | inr apart ↦
          let stays : (y == leaf) ≡ false = grind (arith, nat_tests) in
          rw stays (ap (λ b. (y == x) || b) rest ∙ other (cases_eq leaf x) apart)
    ]
  where
    gone : (t : Bool) → cond t false (has ys x) ≡ cond t false (t || has ys x)
    gone true = refl
    gone false = refl

    other : (leaf ≡ x) ⊎ (leaf ≡ x → ⊥) → (y ≡ leaf → ⊥) → ((y == x) || cond (leaf == x) false (has ys x)) ≡ cond (leaf == x) false ((y == x) || has ys x)
    other (inl e) apart =
        let here : (leaf == x) ≡ true = eq-eqb leaf x e in
        let not_here : (y == x) ≡ false = grind (arith, nat_tests) in
        rw (here, not_here) refl
    other (inr e) apart = let elsewhere : (leaf == x) ≡ false = grind (arith, nat_tests) in rw elsewhere refl

has-as_in : (new : LeafTiles) (leaves : List ℕ) (leaf x : ℕ) → has (as_in new leaves leaf) x ≡ cond (leaf == x) (is_some (value_at leaf new)) (has leaves x)
has-as_in new leaves leaf x = elim (is_some (value_at leaf new)) as (λ b. has (cond b (leaf ∷ leaves) (without leaf leaves)) x ≡ cond (leaf == x) b (has leaves x)) [
  | true ↦ elim (leaf == x) as (λ t. (t || has leaves x) ≡ cond t true (has leaves x)) [ true ↦ refl | false ↦ refl ]
  | false ↦ has-without leaf leaves x
]

step_is : LeavesDecide → LeavesComeBack → (top : ℕ) (new : LeafTiles) (there rows : List ℕ) (leaf : ℕ) → rows ≡ cover top there → cover top (as_in new (leaves_under top rows) leaf) ≡ cover top (as_in new there leaf)
step_is decide back top new there rows leaf is =
    decide top (as_in new (leaves_under top rows) leaf) (as_in new there leaf) (λ x below.
    has-as_in new (leaves_under top rows) leaf x
    ∙ ap (λ b. cond (leaf == x) (is_some (value_at leaf new)) b) (ap (λ r. has (leaves_under top r) x) is ∙ come_back decide back top there x below)
    ∙ sym (has-as_in new there leaf x))

pub taken_in : LeavesDecide → LeavesComeBack → (top : ℕ) (new : LeafTiles) (there rows : List ℕ) (leaf : ℕ) → rows ≡ cover top there → is_some (value_at leaf new) ≡ true
    → cover top (leaf ∷ leaves_under top rows) ≡ cover top (as_in new there leaf)
taken_in decide back top new there rows leaf is has_it =
    ap (λ b. cover top (cond b (leaf ∷ leaves_under top rows) (without leaf (leaves_under top rows)))) (sym has_it) ∙ step_is decide back top new there rows leaf is

pub taken_out : LeavesDecide → LeavesComeBack → (top : ℕ) (new : LeafTiles) (there rows : List ℕ) (leaf : ℕ) → rows ≡ cover top there → is_some (value_at leaf new) ≡ false
    → cover top (without leaf (leaves_under top rows)) ≡ cover top (as_in new there leaf)
taken_out decide back top new there rows leaf is lacks_it =
    ap (λ b. cover top (cond b (leaf ∷ leaves_under top rows) (without leaf (leaves_under top rows)))) (sym lacks_it) ∙ step_is decide back top new there rows leaf is

-- ---- several, one after another

has-all_as_in : (new : LeafTiles) (moved leaves : List ℕ) (x : ℕ) → has (all_as_in new leaves moved) x ≡ cond (has moved x) (is_some (value_at x new)) (has leaves x)
has-all_as_in new [] leaves x = refl
has-all_as_in new (leaf ∷ moved) leaves x =
    has-all_as_in new moved (as_in new leaves leaf) x
    ∙ ap (λ b. cond (has moved x) (is_some (value_at x new)) b) (has-as_in new leaves leaf x)
    ∙ chosen (has moved x)
  where
    chosen : (b : Bool) → cond b (is_some (value_at x new)) (cond (leaf == x) (is_some (value_at leaf new)) (has leaves x)) ≡ cond ((leaf == x) || b) (is_some (value_at x new)) (has leaves x)
    chosen true = elim (leaf == x) as (λ t. is_some (value_at x new) ≡ cond (t || true) (is_some (value_at x new)) (has leaves x)) [ true ↦ refl | false ↦ refl ]
    chosen false = elim (leaf == x) as (λ t. (leaf == x) ≡ t → cond t (is_some (value_at leaf new)) (has leaves x) ≡ cond (t || false) (is_some (value_at x new)) (has leaves x)) [
      | true ↦ λ e. ap (λ k. is_some (value_at k new)) (eqb-true leaf x e)
      | false ↦ λ e. refl
    ] refl

-- a number that isn't selected fails the test, or isn't in the list
unselected : (t : ℕ → Bool) (xs : List ℕ) (x : ℕ) (Q : Type 0) → has (filter t xs) x ≡ false → (t x ≡ false → Q) → ((Contains xs x → ⊥) → Q) → Q
unselected t [] x Q lacks fails apart = apart (λ there. absurd (omega (arith, there.1)))
unselected t (y ∷ ys) x Q lacks fails apart = elim (cases_eq y x) [
  | inl same ↦ elim (t y) as (λ b. t y ≡ b → Q) [
    | true ↦ λ e. let here : has (filter t (y ∷ ys)) x ≡ true = rw e (ap (λ b. b || has (filter t ys) x) (eq-eqb y x same)) in absurd (true≢false (sym here ∙ lacks))
    | false ↦ λ e. fails (ap t (sym same) ∙ e)
  ] refl
  | inr other ↦
      let elsewhere : (y == x) ≡ false = grind (arith, nat_tests) in
      let rest : has (filter t ys) x ≡ false = elim (t y) as (λ b. t y ≡ b → has (filter t ys) x ≡ false) [
        | true ↦ λ e. let same : has (filter t (y ∷ ys)) x ≡ has (filter t ys) x = rw e (ap (λ b. b || has (filter t ys) x) elsewhere) in sym same ∙ lacks
        | false ↦ λ e. let same : has (filter t (y ∷ ys)) x ≡ has (filter t ys) x = rw e refl in sym same ∙ lacks
      ] refl in
      unselected t ys x Q rest fails (λ no. apart (λ there. no (Contains-tail y ys x other there)))
]

same_presence : (old new : LeafTiles) (leaf : ℕ) → comes_or_goes old new leaf ≡ false → is_some (value_at leaf old) ≡ is_some (value_at leaf new)
same_presence old new leaf e = same (is_some (value_at leaf old)) (is_some (value_at leaf new)) e
  where
    same : (a b : Bool) → cond a (not b) b ≡ false → a ≡ b
    same true true e = refl
    same true false e = e
    same false b e = sym e

-- the cover after those that came or went is that of the new leaves
pub moved_cover : LeavesDecide → (top : ℕ) (old new : LeafTiles) (touched : List ℕ) → SameBut touched old new
    → cover top (all_as_in new (keys_of old) (filter (comes_or_goes old new) touched)) ≡ cover top (keys_of new)
moved_cover decide top old new touched same =
    decide top (all_as_in new (keys_of old) (filter (comes_or_goes old new) touched)) (keys_of new) (λ x below.
    has-all_as_in new (filter (comes_or_goes old new) touched) (keys_of old) x ∙ either x ∙ sym (has_key x new))
  where
    either : (x : ℕ) → cond (has (filter (comes_or_goes old new) touched) x) (is_some (value_at x new)) (has (keys_of old) x) ≡ is_some (value_at x new)
    either x = elim (has (filter (comes_or_goes old new) touched) x) as (λ b. has (filter (comes_or_goes old new) touched) x ≡ b → cond b (is_some (value_at x new)) (has (keys_of old) x) ≡ is_some (value_at x new)) [
      | true ↦ λ e. refl
      | false ↦ λ e.
          has_key x old
          ∙ unselected (comes_or_goes old new) touched x (is_some (value_at x old) ≡ is_some (value_at x new)) e (same_presence old new x) (λ apart. ap is_some (sym (same x apart)))
    ] refl

-- one more of them
pub one_more_in : (new : LeafTiles) (there rest : List ℕ) (first i : ℕ) → i < length rest
    → as_in new (all_as_in new there (first ∷ take i rest)) (get_or rest i 0) ≡ all_as_in new there (first ∷ take (i + 1) rest)
one_more_in new there rest first i h = sym (fold_more (as_in new) (as_in new there first) rest i 0 h)

-- where none comes or goes it is that of the old leaves
pub unmoved_cover : LeavesDecide → (top : ℕ) (old new : LeafTiles) (touched moved : List ℕ) → SameBut touched old new → moved ≡ filter (comes_or_goes old new) touched → length moved ≡ 0
    → cover top (keys_of old) ≡ cover top (keys_of new)
unmoved_cover decide top old new touched moved same is none =
    ap (λ (found : List ℕ). cover top (all_as_in new (keys_of old) found)) (sym (empty moved none) ∙ is) ∙ moved_cover decide top old new touched same
  where
    empty : (xs : List ℕ) → length xs ≡ 0 → xs ≡ []
    empty [] e = refl
    empty (x ∷ xs) e = absurd (omega arith)
