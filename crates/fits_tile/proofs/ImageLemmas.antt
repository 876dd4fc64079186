-- A file that fills its room.
use Rattle.std.proofs.Common.{◌≡◌, ℕ, List, ◌++◌, length, take, drop, ap, ◌∙◌, arith}
use Rattle.std.proofs.lemmas.List.{take_at, drop_all, append-nil}

pub fills-room : (out items text : List ℕ) (n : ℕ) → length out ≡ n → length items ≡ n → out ≡ text ++ drop n items → take n (out ++ drop (length out) items) ≡ text
fills-room out items text n written room is =
    take_at out (drop (length out) items) n written
    ∙ is
    ∙ ap (λ ys. text ++ ys) (drop_all n items (omega arith))
    ∙ append-nil text
