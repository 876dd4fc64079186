use Rattle.std.proofs.Common.{arith, ◌≤◌, length, take}
use Rattle.std.proofs.lemmas.Grind.{common_steps}
use Rattle.http_frame.proofs.Taken.{read_at}
use Rattle.http_frame.proofs.fill.read_behind.Goals as goal

pub returns-clause-read : goal.returns-clause-read
returns-clause-read g c =
    let fits : c.in_ok-count.count ≤ length c.read.new.buf = grind (arith, common_steps) in
    record {
      more = take c.in_ok-count.count c.read.new.buf;
      grown = read_at c.args.bytes.now c.read.new.buf _ c.args.at c.in_ok-count.count (omega (arith, c.requires)) fits;
      consumed = c.in_ok-count.ensures.taken;
    }
