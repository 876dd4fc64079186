-- The strays of a list of paths, path by path.
use Rattle.std.proofs.Common.{◌≡◌, ℕ, ◌||◌, Bool, true, false, List, [], ◌∷◌, ◌++◌, Option, Some, None, refl, sym, ap, ◌∙◌, subst, arith, map, length, ◌⊎◌, inl, inr}
use Rattle.std.specs.Prelude.{All, IfSome, IsSome, is_some}
use Rattle.std.specs.List.{cons_option}
use Rattle.std.specs.Ordering.{nat_cmp, eq_by_cmp}
use Rattle.std.specs.Cmp.Lexicographic.{slice_cmp}
use Rattle.std.specs.FinMap.{get}
use Rattle.std.proofs.lemmas.List.{map-append, append-nil}
use Rattle.std.proofs.lemmas.List.Elements.{All-push, All-weaker}
use Rattle.survey_link.specs.Shelf.{ShelfFiles}
use Rattle.tile_path.specs.Spelling.{IsPath, spelling}
use Rattle.tile_path.specs.declared.path.Path.{Path}
use Rattle.shelf_io.specs.Listed.{is_among, AreStrays}
use Rattle.shelf_io.proofs.ListedLemmas.{same_text, among_more}

or_true : (a b : Bool) → (a || b) ≡ true → (a ≡ true) ⊎ (b ≡ true)
or_true true b e = inl refl
or_true false b e = inr e

or_first : (a b : Bool) → a ≡ true → (a || b) ≡ true
or_first a b e = grind arith

or_second : (a b : Bool) → b ≡ true → (a || b) ≡ true
or_second a b e = grind arith

-- a text that is among texts and one more is among the texts, or is that one
pub among_cases : (texts : List (List ℕ)) (text other : List ℕ) → is_among (texts ++ text ∷ []) other ≡ true → (is_among texts other ≡ true) ⊎ (other ≡ text)
among_cases texts text other e =
    elim (or_true (is_among texts other) (eq_by_cmp (slice_cmp nat_cmp) other text) (sym (among_more texts text other) ∙ e)) [
      | inl before ↦ inl before
      | inr same ↦ inr ((same_text other text).0 same)
    ]

among_before : (texts : List (List ℕ)) (text other : List ℕ) → is_among texts other ≡ true → is_among (texts ++ text ∷ []) other ≡ true
among_before texts text other e = among_more texts text other ∙ or_first (is_among texts other) (eq_by_cmp (slice_cmp nat_cmp) other text) e

among_last : (texts : List (List ℕ)) (text other : List ℕ) → other ≡ text → is_among (texts ++ text ∷ []) other ≡ true
among_last texts text other e = among_more texts text other ∙ or_second (is_among texts other) (eq_by_cmp (slice_cmp nat_cmp) other text) ((same_text other text).1 e)

not_none : {X : Type 0} (o : Option X) → IsSome o → o ≡ None → ⊥
not_none None some none = cc
not_none (Some x) some none = cc

-- one path more
pub stray_next : (survey : ShelfFiles) (texts more : List (List ℕ)) (strays next : List Path) (text : List ℕ) (o : Option Path) → more ≡ texts ++ text ∷ []
    → IfSome o IsPath → IfSome o (λ path. spelling path ≡ text) → IfSome o (λ path. get survey (spelling path) ≡ None)
    → (is_some o ≡ false → (path : Path) → IsPath path → spelling path ≡ text → IsSome (get survey (spelling path)))
    → AreStrays survey texts strays → next ≡ strays ++ cons_option o [] → AreStrays survey more next
stray_next survey texts more strays next text None e is spelled lacking none found there =
    subst (λ ts. AreStrays survey ts next) (sym e) (subst (AreStrays survey (texts ++ text ∷ [])) (sym (there ∙ append-nil strays)) (record {
      paths = found.paths;
      lacking = found.lacking;
      listed = All-weaker (λ path. is_among texts (spelling path) ≡ true) (λ path. is_among (texts ++ text ∷ []) (spelling path) ≡ true) (λ path h. among_before texts text (spelling path) h) strays found.listed;
      every = λ path is_path among absent. elim (among_cases texts text (spelling path) among) [
        | inl before ↦ found.every path is_path before absent
        | inr same ↦ absurd (not_none (get survey (spelling path)) (none refl path is_path same) absent)
      ];
    }))
stray_next survey texts more strays next text (Some p) e is spelled lacking none found there =
    subst (λ ts. AreStrays survey ts next) (sym e) (subst (AreStrays survey (texts ++ text ∷ [])) (sym there) (record {
      paths = All-push IsPath strays p found.paths is;
      lacking = All-push (λ path. get survey (spelling path) ≡ None) strays p found.lacking lacking;
      listed = All-push (λ path. is_among (texts ++ text ∷ []) (spelling path) ≡ true) strays p
          (All-weaker (λ path. is_among texts (spelling path) ≡ true) (λ path. is_among (texts ++ text ∷ []) (spelling path) ≡ true) (λ path h. among_before texts text (spelling path) h) strays found.listed)
          (among_last texts text (spelling p) spelled);
      every = λ path is_path among absent.
          ap (λ ts. is_among ts (spelling path)) (map-append spelling strays (p ∷ []))
          ∙ elim (among_cases texts text (spelling path) among) [
            | inl before ↦ among_before (map spelling strays) (spelling p) (spelling path) (found.every path is_path before absent)
            | inr same ↦ among_last (map spelling strays) (spelling p) (spelling path) (same ∙ sym spelled)
          ];
    }))
