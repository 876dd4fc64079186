-- The texts of the refusals. This project's profile.
use Rattle.std.specs.Prelude.{ℕ, List, codes}
use Rattle.coverage_moc.specs.declared.refusal.CoverRefusal.{CoverRefusal}
use Rattle.coverage_moc.specs.declared.refusal.CoverRefusal.TheVariants.{NotCover, OutOfMemory}

abbrev pub refusal_text : CoverRefusal → List ℕ
refusal_text NotCover = codes "not a coverage file"
refusal_text OutOfMemory = codes "out of memory"
