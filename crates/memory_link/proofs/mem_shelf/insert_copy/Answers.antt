use Rattle.std.proofs.Common.{string_bytes}
use Rattle.memory_link.proofs.Paths.{files-inserted}
use Rattle.memory_link.proofs.mem_shelf.insert_copy.Goals as goal

pub returns-clause-done : goal.returns-clause-done
returns-clause-done c =
    let inserted = files-inserted (string_bytes c.in_ok-key.key) c.args.files.now c.insert.new.self c.in_ok-copy.copy c.in_ok-insert.ensures.updates in
    rw (c.in_ok-key.ensures.ok, c.in_ok-copy.ensures.items) at inserted
