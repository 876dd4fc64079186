-- What several writes in a row do to the bytes that a sink holds.
use Rattle.std.proofs.Common.{◌≡◌, ℕ, ◌-◌, List, [], ◌++◌, Option, length, take, drop, refl, sym, ap, ◌∙◌, append_assoc, arith, take-append-drop}
use Rattle.std.specs.Io.KnownBytes.{Appends}
use Rattle.std.proofs.KnownBytes.{Appends-nil, Appends-trans}
use Rattle.survey_link.specs.Link.{AppendsPrefix}
use Rattle.survey_link.proofs.Prefixes.{prefix_from_appends}
use Rattle.std.proofs.lemmas.List.{take_all, length-drop}

-- the first of these bytes were written, and the rest is still to be written
pub record Wrote (old new : Option (List ℕ)) (bytes rest : List ℕ) : Type 0 where
  pub done : List ℕ
  pub whole : bytes ≡ done ++ rest
  pub appended : Appends old new done

pub wrote_none : (old : Option (List ℕ)) (bytes : List ℕ) → Wrote old old bytes bytes
wrote_none old bytes = record { done = []; whole = refl; appended = Appends-nil old }

-- a slice from m on, as the code takes it
pub from_there : (xs : List ℕ) (m : ℕ) → take (length xs - m) (drop m xs) ≡ drop m xs
from_there xs m = take_all (length xs - m) (drop m xs) (omega (arith, length-drop m xs))

pub wrote_next : (old mid new : Option (List ℕ)) (bytes rest : List ℕ) (m : ℕ) → Wrote old mid bytes rest → Appends mid new (take m rest) → Wrote old new bytes (drop m rest)
wrote_next old mid new bytes rest m before now = record {
  done = before.done ++ take m rest;
  whole = before.whole ∙ ap (λ l. before.done ++ l) (sym (take-append-drop m rest)) ∙ sym (append_assoc before.done (take m rest) (drop m rest));
  appended = Appends-trans old mid new before.done (take m rest) before.appended now;
}

pub wrote_more : (old mid new : Option (List ℕ)) (bytes rest : List ℕ) (m : ℕ) → Wrote old mid bytes rest
    → Appends mid new (take m rest) → Wrote old new bytes (take (length rest - m) (drop m rest))
wrote_more old mid new bytes rest m before now = rw from_there (wrote_next old mid new bytes rest m before now)

pub wrote_prefix : (old new : Option (List ℕ)) (bytes rest : List ℕ) → Wrote old new bytes rest → AppendsPrefix old new bytes
wrote_prefix old new bytes rest w = rw w.whole (prefix_from_appends old new w.done rest w.appended)
