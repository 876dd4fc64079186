-- The texts of the refusals. This project's profile.
use Rattle.std.specs.Prelude.{ℕ, List, ◌++◌, codes, decimal}
use Rattle.past_reads.specs.declared.refusal.PastRefusal.{PastRefusal}
use Rattle.past_reads.specs.declared.refusal.PastRefusal.TheVariants.{TooNew, Split, OutOfMemory}

abbrev pub past_refusal_text : PastRefusal → List ℕ
past_refusal_text (TooNew edits) = codes "there are " ++ decimal edits ++ codes " edits"
past_refusal_text (Split k) = codes "edit " ++ decimal k ++ codes " isn't the last of its batch"
past_refusal_text OutOfMemory = codes "out of memory"
