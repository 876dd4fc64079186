-- What was appended to known bytes, in one piece or in several.
use Rattle.std.proofs.Common.{ℕ, List, ◌++◌, Option, Some, None, sym, arith, append_assoc, length-append}
use Rattle.std.specs.Io.KnownBytes.{Appends}
use Rattle.std.proofs.Math.Seq.{take-append_seam}
use Rattle.survey_link.specs.Link.{AppendsPrefix}

-- what was appended is a prefix appended, of these bytes and any more
pub prefix_from_appends : (old new : Option (List ℕ)) (done rest : List ℕ) → Appends old new done → AppendsPrefix old new (done ++ rest)
prefix_from_appends None new done rest h = tt
prefix_from_appends (Some xs) None done rest h = absurd h
prefix_from_appends (Some xs) (Some ys) done rest h = (
  rw h (omega (arith, length-append xs done)),
  rw h (rw (← append_assoc) (sym (take-append_seam (xs ++ done) rest))),
)
