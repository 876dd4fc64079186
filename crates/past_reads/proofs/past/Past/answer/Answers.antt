use Rattle.std.proofs.Common.{◌∙◌}
use Rattle.tile_path.specs.Spelling.{spelling}
use Rattle.past_reads.proofs.Answering.{found_given, refused_given}
use Rattle.past_reads.proofs.past.Past.answer.Goals as goal

pub returns-in-Ok-clause-answered : goal.returns-in-Ok-clause-answered
returns-in-Ok-clause-answered g c =
    let journal = c.args.journal.now in
    found_given c.args.self.now.conf journal.opening journal.batches c.args.read.now.k (spelling c.args.read.now.path) c.deref.result.now c.copy.result
    (c.deref.ensures ∙ c.in-Ok.ensures.found) c.in-Ok.ensures.whole c.copy.ensures.file c.copy.ensures.memory

pub returns-in-Err-clause-answered : goal.returns-in-Err-clause-answered
returns-in-Err-clause-answered g c =
    let journal = c.args.journal.now in
    refused_given c.args.self.now.conf journal.opening journal.batches c.args.read.now.k (spelling c.args.read.now.path) c.in-Err.refusal c.in-Err.ensures.refused
