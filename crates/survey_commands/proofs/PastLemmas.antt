-- What `past` flushes, and what it reads where nothing is opened.
use Rattle.std.proofs.Common.{◌≢◌, ℕ, inl, inr, List, [], Option, Some, None, refl}
use Rattle.std.specs.Io.KnownBytes.{Consumes}
use Rattle.command_output.specs.Output.{SinkBytes, Says}
use Rattle.past_session.specs.Run.{FlushesAll}
use Rattle.shelf_io.specs.declared.refusal.LoadRefusal.{LoadRefusal}
use Rattle.shelf_io.specs.declared.refusal.LoadRefusal.TheVariants.{NoConf, Conf, Tile, TooMany, ShelfFault, OutOfMemory}
use Rattle.survey_commands.specs.Survey.{SaysWhy}

-- nothing was read
pub consumes_none : (left : Option (List ℕ)) → Consumes left left []
consumes_none None = tt
consumes_none (Some xs) = refl

module _ (status : ℕ) (sink sink' : SinkBytes) (other : status ≢ 6) where
  by_line : (own : ℕ) (line : List ℕ) → Says own line status sink sink' → FlushesAll sink sink'
  by_line own line (inl said) = inl said.1.flushed
  by_line own line (inr (inl failed)) = absurd (other failed.0)
  by_line own line (inr (inr memory_faults)) = inr memory_faults.1

  -- what is said was flushed
  pub says_flushed : (refusal : LoadRefusal) → SaysWhy refusal status sink sink' → FlushesAll sink sink'
  says_flushed NoConf said = by_line 2 _ said
  says_flushed (Conf fault) said = by_line 2 _ said
  says_flushed (Tile cell fault) said = by_line 3 _ said
  says_flushed (TooMany leaves) said = by_line 3 _ said
  says_flushed ShelfFault said = inr said.1
  says_flushed OutOfMemory said = inr said.1
