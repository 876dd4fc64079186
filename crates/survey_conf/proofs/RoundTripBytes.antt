-- Bytes that stand at the front and at the end of a list, and what is left of a list without the blanks at its ends.
use Rattle.std.proofs.Common.{◌≡◌, ℕ, ◌+◌, ◌-◌, ◌≤◌, Bool, true, false, cond, List, [], ◌∷◌, ◌++◌, length, take, drop, reverse, refl, sym, ap, ◌∙◌, subst, arith}
use Rattle.std.specs.List.{AllByRecursion, prefix_len, suffix_len}
use Rattle.std.proofs.lemmas.List.{reverse-append, take_all, length-drop, length-take, length-reverse, length-append}
use Rattle.std.proofs.Math.Seq.{take-append_seam}
use Rattle.survey_conf.specs.Lines.{trimmed, is_blank}

-- ---- prefixes

pub prefix_len_past : {X : Type 0} (p : X → Bool) (xs ys : List X) → AllByRecursion (λ x. p x ≡ true) xs → prefix_len p (xs ++ ys) ≡ length xs + prefix_len p ys
prefix_len_past p [] ys h = omega arith
prefix_len_past p (x ∷ xs) ys h = rw h.0 (let e : prefix_len p (xs ++ ys) ≡ length xs + prefix_len p ys = prefix_len_past p xs ys h.1 in omega arith)

-- the first element is not in the prefix, and so there is none
pub prefix_len_none : {X : Type 0} (p : X → Bool) (x : X) (xs : List X) → p x ≡ false → prefix_len p (x ∷ xs) ≡ 0
prefix_len_none p x xs h = rw h

first_fails : (b : Bool) (m n : ℕ) → cond b (1 + m) 0 ≡ 0 → cond b (1 + n) 0 ≡ 0
first_fails true m n h = absurd (omega arith)
first_fails false m n h = refl

pub prefix_len_kept : {X : Type 0} (p : X → Bool) (xs ys : List X) → 1 ≤ length xs → prefix_len p xs ≡ 0 → prefix_len p (xs ++ ys) ≡ 0
prefix_len_kept p [] ys long none = absurd (omega arith)
prefix_len_kept p (x ∷ xs) ys long none = first_fails (p x) (prefix_len p xs) (prefix_len p (xs ++ ys)) none

-- no element but the last is at the end
pub suffix_len_kept : {X : Type 0} (p : X → Bool) (xs ys : List X) → 1 ≤ length ys → suffix_len p ys ≡ 0 → suffix_len p (xs ++ ys) ≡ 0
suffix_len_kept p xs ys long none =
    rw (reverse-append xs ys) (prefix_len_kept p (reverse ys) (reverse xs) (omega (arith, length-reverse ys)) none)

pub suffix_len_one : {X : Type 0} (p : X → Bool) (xs : List X) (y : X) → p y ≡ true → suffix_len p xs ≡ 0 → suffix_len p (xs ++ y ∷ []) ≡ 1
suffix_len_one p xs y h none = rw (reverse-append xs (y ∷ []), h) (omega arith)

-- a list whose elements all fail has no suffix
pub suffix_len_none : {X : Type 0} (p : X → Bool) (xs : List X) → AllByRecursion (λ x. p x ≡ false) xs → suffix_len p xs ≡ 0
suffix_len_none p [] h = refl
suffix_len_none p (x ∷ []) h = rw h.0
suffix_len_none p (x ∷ y ∷ xs) h = suffix_len_kept p (x ∷ []) (y ∷ xs) (omega arith) (suffix_len_none p (y ∷ xs) h.1)

-- ---- blanks at both ends

-- no blank stands at either end
pub record IsBare (bytes : List ℕ) : Type 0 where
  pub some : 1 ≤ length bytes
  pub front : prefix_len is_blank bytes ≡ 0
  pub back : suffix_len is_blank bytes ≡ 0

abbrev without_back : List ℕ → List ℕ
without_back bytes = take (length bytes - suffix_len is_blank bytes) bytes

trimmed_is : (bytes rest : List ℕ) → drop (prefix_len is_blank bytes) bytes ≡ rest → trimmed bytes ≡ without_back rest
unfolding trimmed
trimmed_is bytes rest e = ap without_back e

take_front : (n : ℕ) (xs ys : List ℕ) → n ≡ length xs → take n (xs ++ ys) ≡ xs
take_front n xs ys e = rw e (take-append_seam xs ys)

pub trimmed_bare : (bytes : List ℕ) → IsBare bytes → trimmed bytes ≡ bytes
trimmed_bare bytes h =
    trimmed_is bytes bytes (rw h.front refl)
    ∙ take_all (length bytes - suffix_len is_blank bytes) bytes (let none = h.back in omega arith)

-- one blank before or behind
pub trimmed_before : (bytes : List ℕ) → IsBare bytes → trimmed (32 ∷ bytes) ≡ bytes
trimmed_before bytes h =
    let one : 1 + prefix_len is_blank bytes ≡ 1 = (let none = h.front in omega arith) in
    trimmed_is (32 ∷ bytes) bytes (rw one refl)
    ∙ take_all (length bytes - suffix_len is_blank bytes) bytes (let none = h.back in omega arith)

pub trimmed_behind : (bytes : List ℕ) → IsBare bytes → trimmed (bytes ++ 32 ∷ []) ≡ bytes
trimmed_behind bytes h =
    let front : prefix_len is_blank (bytes ++ 32 ∷ []) ≡ 0 = prefix_len_kept is_blank bytes (32 ∷ []) h.some h.front in
    let back : suffix_len is_blank (bytes ++ 32 ∷ []) ≡ 1 = suffix_len_one is_blank bytes 32 refl h.back in
    trimmed_is (bytes ++ 32 ∷ []) (bytes ++ 32 ∷ []) (rw front refl)
    ∙ take_front (length (bytes ++ 32 ∷ []) - suffix_len is_blank (bytes ++ 32 ∷ [])) bytes (32 ∷ []) (omega (arith, length-append bytes (32 ∷ [])))

-- what is trimmed to itself is bare
no_more : (l p s w t : ℕ) → 1 ≤ l → w ≡ l - p → t ≤ w - s → t ≡ l → (p ≡ 0) × (s ≡ 0)
no_more l p s w t long rest least same = (omega arith, omega arith)

bare_at : (bytes rest : List ℕ) (p : ℕ) → 1 ≤ length bytes → prefix_len is_blank bytes ≡ p → drop p bytes ≡ rest → without_back rest ≡ bytes → IsBare bytes
bare_at bytes rest p long front e same =
    let none = no_more (length bytes) p (suffix_len is_blank rest) (length rest) (length (without_back rest)) long
    (sym (ap length e) ∙ length-drop p bytes) (omega (arith, length-take (length rest - suffix_len is_blank rest) rest)) (ap length same) in
    let all : rest ≡ bytes = sym e ∙ ap (λ (n : ℕ). drop n bytes) none.0 in
    record { some = long; front = front ∙ none.0; back = subst (λ (b : List ℕ). suffix_len is_blank b ≡ 0) all none.1 }

pub bare_trimmed : (bytes : List ℕ) → 1 ≤ length bytes → trimmed bytes ≡ bytes → IsBare bytes
bare_trimmed bytes long e =
    let rest : List ℕ = drop (prefix_len is_blank bytes) bytes in
    bare_at bytes rest (prefix_len is_blank bytes) long refl refl (sym (trimmed_is bytes rest refl) ∙ e)
