-- Readings, one after another: those of a head and of its body, and those of one message after another.
use Rattle.std.proofs.Common.{◌≡◌, ℕ, ◌+◌, ◌-◌, ◌^◌, ◌<◌, ◌⊎◌, inl, inr, true, false, List, [], ◌∷◌, ◌++◌, length, Option, Some, None, refl, sym, ap, subst, ◌∙◌, arith, append_assoc}
use Rattle.std.specs.Prelude.{IfSome, nat_lt, if◌then◌else◌}
use Rattle.std.specs.List.{concat}
use Rattle.std.specs.Io.KnownBytes.{Consumes}
use Rattle.std.proofs.lemmas.List.{append-nil}
use Rattle.std.proofs.lemmas.List.Folds.{concat-append}
use Rattle.std.proofs.lemmas.Option.{none-some, same_Some}
use Rattle.survey_link.specs.Link.{readings_after, visible_count}
use Rattle.http_frame.specs.Readings.{EachNeeded, ReadsWhile}

-- ---- the number of readings

told_is : (n m : ℕ) → visible_count n ≡ Some m → m ≡ n
told_is n m = elim (nat_lt n (2 ^ 64 - 1)) as (λ b. (if b then Some n else None) ≡ Some m → m ≡ n) [
  | true ↦ λ e. sym (same_Some n m e)
  | false ↦ λ e. absurd (none-some m e)
]

count_more : (k : ℕ) (x y z : Option ℕ) → y ≡ readings_after 1 x → IfSome y (λ n. IfSome z (λ m. m ≡ n + k)) → (y ≡ None → z ≡ None) → IfSome x (λ n. IfSome z (λ m. m ≡ n + (k + 1)))
count_more k None y z e h none = tt
count_more k (Some n) None z e h none = rw (none refl) tt
count_more k (Some n) (Some j) None e h none = tt
count_more k (Some n) (Some j) (Some m) e h none = omega (arith, h, told_is (n + 1) j (sym e))

-- ---- the bytes left

consumes_none : (x : Option (List ℕ)) → Consumes x x []
consumes_none None = tt
consumes_none (Some xs) = refl

consumes_both : (x y z : Option (List ℕ)) (first second : List ℕ) → Consumes x y first → Consumes y z second → Consumes x z (first ++ second)
consumes_both None y z first second h k = tt
consumes_both (Some xs) None z first second h k = absurd h
consumes_both (Some xs) (Some ys) None first second h k = absurd k
consumes_both (Some xs) (Some ys) (Some zs) first second h k = h ∙ ap (λ rest. first ++ rest) k ∙ sym (append_assoc first second zs)

-- ---- readings

-- each of the pieces has some bytes
abbrev pub AllGave : List (List ℕ) → Type 0
AllGave [] = Unit {0}
AllGave (piece ∷ more) = (0 < length piece) × AllGave more

module _ {S : Type 0} (left : S → Option (List ℕ)) (readings : S → Option ℕ) where
  none_stays : (needs : List ℕ → Type 0) (held : List ℕ) (pieces : List (List ℕ)) (a b : S) → EachNeeded left readings needs held pieces a b → readings a ≡ None → readings b ≡ None
  none_stays needs held [] a b each none = ap readings each ∙ none
  none_stays needs held (piece ∷ more) a b each none =
      none_stays needs (held ++ piece) more each.2.0 b each.2.2 (each.2.1.counted ∙ ap (readings_after 1) none)

  pub counted_each : (needs : List ℕ → Type 0) (held : List ℕ) (pieces : List (List ℕ)) (a b : S) → EachNeeded left readings needs held pieces a b
      → IfSome (readings a) (λ n. IfSome (readings b) (λ m. m ≡ n + length pieces))
  counted_each needs held [] a b each = rw (ap readings each) (same (readings a))
    where
      same : (x : Option ℕ) → IfSome x (λ n. IfSome x (λ m. m ≡ n + 0))
      same None = tt
      same (Some n) = omega arith
  counted_each needs held (piece ∷ more) a b each =
      subst (λ k. IfSome (readings a) (λ n. IfSome (readings b) (λ m. m ≡ n + k))) (omega arith)
      (count_more (length more) (readings a) (readings each.2.0) (readings b) each.2.1.counted (counted_each needs (held ++ piece) more each.2.0 b each.2.2)
      (none_stays needs (held ++ piece) more each.2.0 b each.2.2))

  pub consumes_each : (needs : List ℕ → Type 0) (held : List ℕ) (pieces : List (List ℕ)) (a b : S) → EachNeeded left readings needs held pieces a b → Consumes (left a) (left b) (concat pieces)
  consumes_each needs held [] a b each = rw (ap left each) (consumes_none (left a))
  consumes_each needs held (piece ∷ more) a b each =
      consumes_both (left a) (left each.2.0) (left b) piece (concat more) each.2.1.given (consumes_each needs (held ++ piece) more each.2.0 b each.2.2)

  -- what was needed for one thing was needed for another
  pub each_for : (needs needs' : List ℕ → Type 0) (held held' : List ℕ) → ((came : List ℕ) → needs (held ++ came) → needs' (held' ++ came)) → (pieces : List (List ℕ)) (a b : S)
      → EachNeeded left readings needs held pieces a b → EachNeeded left readings needs' held' pieces a b
  each_for needs needs' held held' for [] a b each = each
  each_for needs needs' held held' for (piece ∷ more) a b each = (
    subst needs' (append-nil held') (for [] (subst needs (sym (append-nil held)) each.0)),
    each.1,
    (
      each.2.0,
      each.2.1,
      each_for needs needs' (held ++ piece) (held' ++ piece)
          (λ came needed. subst needs' (sym (append_assoc held' piece came)) (for (piece ++ came) (subst needs (append_assoc held piece came) needed)))
          more each.2.0 b each.2.2,
    ),
  )

  piece_gave : (needs : List ℕ → Type 0) (held piece : List ℕ) (more : List (List ℕ)) → needs held → (more ≡ []) ⊎ (0 < length piece) → (needs (held ++ concat (piece ∷ more)) → ⊥) → 0 < length piece
  piece_gave needs held piece more needed (inr some) enough = some
  piece_gave needs held [] more needed (inl last) enough =
      absurd (enough (subst (λ (r : List (List ℕ)). needs (held ++ concat r)) (sym last) (subst needs (sym (append-nil held)) needed)))
  piece_gave needs held (x ∷ piece) more needed (inl last) enough = omega arith

  -- where what came is enough, each reading gave some bytes
  pub all_gave : (needs : List ℕ → Type 0) (held : List ℕ) (pieces : List (List ℕ)) (a b : S) → EachNeeded left readings needs held pieces a b → (needs (held ++ concat pieces) → ⊥) → AllGave pieces
  all_gave needs held [] a b each enough = tt
  all_gave needs held (piece ∷ more) a b each enough = (
    piece_gave needs held piece more each.0 each.1 enough,
    all_gave needs (held ++ piece) more each.2.0 b each.2.2 (λ needed. enough (subst needs (append_assoc held piece (concat more)) needed)),
  )

  pub each_then : (needs : List ℕ → Type 0) (held : List ℕ) (pieces more : List (List ℕ)) (a b c : S) → EachNeeded left readings needs held pieces a b → AllGave pieces
      → EachNeeded left readings needs (held ++ concat pieces) more b c → EachNeeded left readings needs held (pieces ++ more) a c
  each_then needs held [] more a b c each gave later =
      subst (λ s. EachNeeded left readings needs held more s c) each (subst (λ bytes. EachNeeded left readings needs bytes more b c) (append-nil held) later)
  each_then needs held (piece ∷ pieces) more a b c each gave later = (
    each.0,
    inr gave.0,
    (
      each.2.0,
      each.2.1,
      each_then needs (held ++ piece) pieces more each.2.0 b c each.2.2 gave.1
          (subst (λ bytes. EachNeeded left readings needs bytes more b c) (sym (append_assoc held piece (concat pieces))) later),
    ),
  )

  -- readings that each gave some bytes, and then others
  abbrev pub reads_then : (needs : List ℕ → Type 0) (held came came' : List ℕ) (a b c : S) (first : ReadsWhile left readings needs held a b came) → AllGave first.pieces
      → ReadsWhile left readings needs (held ++ came) b c came' → ReadsWhile left readings needs held a c (came ++ came')
  reads_then needs held came came' a b c first gave second =
      let later : EachNeeded left readings needs (held ++ concat first.pieces) second.pieces b c
      = subst (λ (bytes : List ℕ). EachNeeded left readings needs (held ++ bytes) second.pieces b c) first.came_is second.each in
      let each : EachNeeded left readings needs held (first.pieces ++ second.pieces) a c = each_then needs held first.pieces second.pieces a b c first.each gave later in
      record {
        pieces = first.pieces ++ second.pieces;
        came_is = ap (λ bytes. bytes ++ came') first.came_is ∙ ap (λ bytes. concat first.pieces ++ bytes) second.came_is ∙ sym (concat-append first.pieces second.pieces);
        each = each;
        counted = counted_each needs held (first.pieces ++ second.pieces) a c each;
      }

  -- the same readings, for another need
  abbrev pub reads_for : (needs needs' : List ℕ → Type 0) (held held' came : List ℕ) → ((more : List ℕ) → needs (held ++ more) → needs' (held' ++ more)) → (a b : S)
      → ReadsWhile left readings needs held a b came → ReadsWhile left readings needs' held' a b came
  reads_for needs needs' held held' came for a b reads = record {
    pieces = reads.pieces;
    came_is = reads.came_is;
    each = each_for needs needs' held held' for reads.pieces a b reads.each;
    counted = reads.counted;
  }

  -- what came is enough, so each reading gave some bytes
  pub reads_gave : (needs : List ℕ → Type 0) (held came : List ℕ) (a b : S) (reads : ReadsWhile left readings needs held a b came) → (needs (held ++ came) → ⊥) → AllGave reads.pieces
  reads_gave needs held came a b reads enough =
      all_gave needs held reads.pieces a b reads.each (λ needed. enough (subst (λ bytes. needs (held ++ bytes)) (sym reads.came_is) needed))

  pub reads_consume : (needs : List ℕ → Type 0) (held came : List ℕ) (a b : S) → ReadsWhile left readings needs held a b came → Consumes (left a) (left b) came
  reads_consume needs held came a b reads = rw reads.came_is (consumes_each needs held reads.pieces a b reads.each)

  -- nothing was read
  abbrev pub reads_none : (needs : List ℕ → Type 0) (held : List ℕ) (s : S) → ReadsWhile left readings needs held s s []
  reads_none needs held s = record { pieces = []; came_is = refl; each = refl; counted = counted_each needs held [] s s refl }

pub all_gave_both : (pieces more : List (List ℕ)) → AllGave pieces → AllGave more → AllGave (pieces ++ more)
all_gave_both [] more first second = second
all_gave_both (piece ∷ pieces) more first second = (first.0, all_gave_both pieces more first.1 second)
