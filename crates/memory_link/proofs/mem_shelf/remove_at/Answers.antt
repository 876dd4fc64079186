use Rattle.memory_link.proofs.Paths.{files-removed}
use Rattle.memory_link.proofs.mem_shelf.remove_at.Goals as goal

pub returns-clause-done : goal.returns-clause-done
returns-clause-done c = files-removed c.args.path.now c.args.files.now c.remove.new.self c.remove.ensures.updates
