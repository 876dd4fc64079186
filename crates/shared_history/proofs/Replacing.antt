-- Operations that are whole new values.
use Rattle.std.proofs.Common.{◌≡◌, List, [], ◌∷◌, ◌++◌, fold, Result, Ok, Err, subst, sym, ◌∙◌, arith}
use Rattle.std.specs.Prelude.{All, MatchResult, OnOk}
use Rattle.std.proofs.lemmas.List.Elements.{All-tail, All-nil}
use Rattle.std.proofs.lemmas.List.Sums.{fold_push}

-- what holds of a value, and of each that replaces it, holds of the last of them
pub replaced_keep : {X : Type 0} (P : X → Type 0) (applied : X → X → X) → ((x y : X) → applied x y ≡ y) → (ops : List X) (x : X) → P x → All P ops → P (fold applied x ops)
replaced_keep P applied replaced [] x now all = now
replaced_keep P applied replaced (y ∷ ops) x now all =
    replaced_keep P applied replaced ops (applied x y) (subst P (sym (replaced x y)) (all 0 y (omega arith))) (All-tail P y ops all)

-- the last of them is what is there then
pub last_there : {X : Type 0} (state : X → X) (applied : X → X → X) → ((x : X) → state x ≡ x) → ((x y : X) → applied x y ≡ y) → (ops : List X) (x last next : X)
    → state next ≡ fold applied (state x) (ops ++ last ∷ []) → next ≡ last
last_there state applied whole replaced ops x last next is =
    sym (whole next) ∙ (is ∙ (fold_push applied (state x) ops last ∙ replaced (fold applied (state x) ops) last))

-- what is known of each Ok
pub where_ok : {A E : Type 0} {P Q : Type 0} (R : Type 0) (result : Result A E) → (P → Q) → MatchResult result (λ _. P) (λ _. R) → OnOk result Q
where_ok R (Ok _) then is = then is
where_ok R (Err _) then is = tt

-- what holds of each before holds of each afterwards, where these are none at Ok and the same at Err
pub kept_or_none : {X A E : Type 0} (P : X → Type 0) (Q R : Type 0) (result : Result A E) (before after : List X) → All P before
    → MatchResult result (λ _. Q × (after ≡ [])) (λ _. R × (after ≡ before)) → All P after
kept_or_none P Q R (Ok _) before after all is = subst (All P) (sym is.1) (All-nil P)
kept_or_none P Q R (Err _) before after all is = subst (All P) (sym is.1) all
