-- A line that is a number in plain decimals, and one that tells which state was pinned.
use Rattle.std.proofs.Common.{◌≡◌, ℕ, List, [], ◌∷◌, ◌++◌, Bool, sym, ap, ◌∙◌}
use Rattle.std.specs.Prelude.{IsTrue}
use Rattle.std.specs.Str.{bytes_eq}
use Rattle.std.proofs.lemmas.List.{append_cancel_left, append_cancel_right}
use Rattle.std.proofs.lemmas.Slice.Eq.{bytes_eq-Decides}

-- the line is what stands before its end, and the end
pub line_is : (line digits number : List ℕ) (r : Bool) → line ≡ digits ++ 10 ∷ [] → r ≡ bytes_eq digits number → (IsTrue r → line ≡ number ++ 10 ∷ []) × (line ≡ number ++ 10 ∷ [] → IsTrue r)
line_is line digits number r is same = (
  λ yes. is ∙ ap (λ ds. ds ++ 10 ∷ []) ((bytes_eq-Decides digits number).0 (sym same ∙ yes)),
  λ e. same ∙ (bytes_eq-Decides digits number).1 (append_cancel_right digits number (10 ∷ []) (sym is ∙ e)),
)

-- the body is its first word and the line
pub body_is : (body word line number : List ℕ) (r : Bool) → body ≡ word ++ line → (IsTrue r → line ≡ number) × (line ≡ number → IsTrue r)
    → (IsTrue r → body ≡ word ++ number) × (body ≡ word ++ number → IsTrue r)
body_is body word line number r is judged = (
  λ yes. is ∙ ap (λ l. word ++ l) (judged.0 yes),
  λ e. judged.1 (append_cancel_left word line number (sym is ∙ e)),
)
