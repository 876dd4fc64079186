use Rattle.std.proofs.lemmas.List.{take-replicate}
use Rattle.generation.proofs.files.zero_bytes.Goals as goal

pub returns : goal.returns
returns c = take-replicate c.args.count 2880 0 c.requires
