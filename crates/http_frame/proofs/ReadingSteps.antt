-- Readings one after another, each of them needed.
use Rattle.std.proofs.Common.{◌≡◌, ℕ, ◌+◌, ◌-◌, ◌^◌, ◌<◌, inl, inr, true, false, List, [], ◌∷◌, ◌++◌, length, Option, Some, None, refl, sym, ap, subst, ◌∙◌, arith, append_assoc, length-append}
use Rattle.std.specs.Prelude.{IfSome, nat_lt, if◌then◌else◌}
use Rattle.std.specs.List.{concat}
use Rattle.std.proofs.lemmas.List.{append-nil}
use Rattle.std.proofs.lemmas.List.Folds.{concat-append}
use Rattle.survey_link.specs.Link.{readings_after, visible_count}
use Rattle.http_frame.specs.Readings.{IsReading, EachNeeded, ReadsWhile}

-- ---- the number of readings

told_some : (n : ℕ) (P : ℕ → Type 0) → P n → IfSome (visible_count n) P
told_some n P p = elim (nat_lt n (2 ^ 64 - 1)) as (λ b. IfSome (if b then Some n else None) P) [ true ↦ p | false ↦ tt ]

counted_none : (a : Option ℕ) → IfSome a (λ n. IfSome a (λ m. m ≡ n + 0))
counted_none None = tt
counted_none (Some n) = omega arith

counted_more : (k : ℕ) (a b c : Option ℕ) → IfSome a (λ n. IfSome b (λ m. m ≡ n + k)) → c ≡ readings_after 1 b → IfSome a (λ n. IfSome c (λ m. m ≡ n + (k + 1)))
counted_more k None b c h e = tt
counted_more k (Some n) None c h e = rw e tt
counted_more k (Some n) (Some m) c h e = rw e (told_some (m + 1) (λ x. x ≡ n + (k + 1)) (omega arith))

-- ---- readings

-- bytes that grew by a piece grew by some bytes
pub gave_some : (held piece held' : List ℕ) → held' ≡ held ++ piece → length held < length held' → 0 < length piece
gave_some held piece held' grown more = omega (arith, ap length grown, length-append held piece)

-- each of the pieces has some bytes
abbrev pub AllGave : List (List ℕ) → Type 0
AllGave [] = Unit {0}
AllGave (piece ∷ more) = (0 < length piece) × AllGave more

module _ {S : Type 0} (left : S → Option (List ℕ)) (readings : S → Option ℕ) (needs : List ℕ → Type 0) where
  -- readings that all gave some bytes, so that another may follow
  pub record Filling (held held' : List ℕ) (old new : S) : Type 0 where
    pub pieces : List (List ℕ)
    pub grown : held' ≡ held ++ concat pieces
    pub each : EachNeeded left readings needs held pieces old new
    pub all_gave : AllGave pieces
    pub counted : IfSome (readings old) (λ n. IfSome (readings new) (λ m. m ≡ n + length pieces))

  all_gave_more : (pieces : List (List ℕ)) (piece : List ℕ) → AllGave pieces → 0 < length piece → AllGave (pieces ++ piece ∷ [])
  all_gave_more [] piece all some = (some, tt)
  all_gave_more (p ∷ pieces) piece all some = (all.0, all_gave_more pieces piece all.1 some)

  each_more : (held : List ℕ) (pieces : List (List ℕ)) (piece : List ℕ) (a b c : S) → EachNeeded left readings needs held pieces a b → AllGave pieces
      → needs (held ++ concat pieces) → IsReading left readings b c piece → EachNeeded left readings needs held (pieces ++ piece ∷ []) a c
  each_more held [] piece a b c each all needed reading =
      (subst needs (append-nil held) needed, inl refl, (c, subst (λ s. IsReading left readings s c piece) each reading, refl))
  each_more held (p ∷ pieces) piece a b c each all needed reading =
      (each.0, inr all.0, (each.2.0, each.2.1, each_more (held ++ p) pieces piece each.2.0 b c each.2.2 all.1 (subst needs (sym (append_assoc held p (concat pieces))) needed) reading))

  pub filling_none : (held : List ℕ) (s : S) → Filling held held s s
  filling_none held s = record { pieces = []; grown = sym (append-nil held); each = refl; all_gave = tt; counted = counted_none (readings s) }

  module _ (held held' held'' : List ℕ) (a b c : S) (piece : List ℕ) (before : Filling held held' a b) (needed : needs held')
      (reading : IsReading left readings b c piece) (grown : held'' ≡ held' ++ piece) where
    grown_now : held'' ≡ held ++ concat (before.pieces ++ piece ∷ [])
    grown_now =
        grown ∙ ap (λ bytes. bytes ++ piece) before.grown ∙ append_assoc held (concat before.pieces) piece
        ∙ ap (λ bytes. held ++ bytes) (sym (concat-append before.pieces (piece ∷ []) ∙ ap (λ bytes. concat before.pieces ++ bytes) (append-nil piece)))

    each_now : EachNeeded left readings needs held (before.pieces ++ piece ∷ []) a c
    each_now = each_more held before.pieces piece a b c before.each before.all_gave (subst needs before.grown needed) reading

    counted_now : IfSome (readings a) (λ n. IfSome (readings c) (λ m. m ≡ n + length (before.pieces ++ piece ∷ [])))
    counted_now =
        subst (λ k. IfSome (readings a) (λ n. IfSome (readings c) (λ m. m ≡ n + k))) (sym (length-append before.pieces (piece ∷ [])))
        (counted_more (length before.pieces) (readings a) (readings b) (readings c) before.counted reading.counted)

    -- another reading gave some bytes
    pub filling_more : 0 < length piece → Filling held held'' a c
    filling_more some = record {
      pieces = before.pieces ++ piece ∷ [];
      grown = grown_now;
      each = each_now;
      all_gave = all_gave_more before.pieces piece before.all_gave some;
      counted = counted_now;
    }

    -- the last reading, which may have given nothing
    pub filling_last : (came : List ℕ) × ReadsWhile left readings needs held a c came × (held'' ≡ held ++ came)
    filling_last = (
      concat (before.pieces ++ piece ∷ []),
      record { pieces = before.pieces ++ piece ∷ []; came_is = refl; each = each_now; counted = counted_now },
      grown_now,
    )

  pub filling_done : (held held' : List ℕ) (a b : S) → Filling held held' a b → (came : List ℕ) × ReadsWhile left readings needs held a b came × (held' ≡ held ++ came)
  filling_done held held' a b filling = (
    concat filling.pieces,
    record { pieces = filling.pieces; came_is = refl; each = filling.each; counted = filling.counted },
    filling.grown,
  )

  -- nothing was read
  pub reads_none : (held : List ℕ) (s : S) → ReadsWhile left readings needs held s s []
  reads_none held s = record { pieces = []; came_is = refl; each = refl; counted = counted_none (readings s) }

  -- nothing was read where nothing was needed
  each_full : (held came : List ℕ) (pieces : List (List ℕ)) (a b : S) → EachNeeded left readings needs held pieces a b → came ≡ concat pieces → (needs held → ⊥) → (b ≡ a) × (came ≡ [])
  each_full held came [] a b each is full = (each, is)
  each_full held came (piece ∷ more) a b each is full = absurd (full each.0)

  pub reads_full : (held came : List ℕ) (a b : S) → ReadsWhile left readings needs held a b came → (needs held → ⊥) → (b ≡ a) × (came ≡ [])
  reads_full held came a b reads full = each_full held came reads.pieces a b reads.each reads.came_is full
