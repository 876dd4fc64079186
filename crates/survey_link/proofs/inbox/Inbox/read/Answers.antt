use Rattle.std.proofs.Common.{arith, take, length, ◌≤◌, ◌-◌, ◌≡◌}
use Rattle.std.proofs.lemmas.Result.{err_from_is_err_and}
use Rattle.std.proofs.lemmas.Grind.{common_steps}
use Rattle.std.proofs.lemmas.List.{length-take-le}
use Rattle.survey_link.proofs.Held.{kept_in, grown_in}
use Rattle.survey_link.proofs.inbox.Inbox.read.Goals as goal

pub returns-in_err-count-clause-kept : goal.returns-in_err-count-clause-kept
returns-in_err-count-clause-kept g c =
    let p = err_from_is_err_and c.from_residual.result c.from_residual.ensures.1 in
    let size : length c.read.new.buf ≡ c.args.limit - c.args.self.now.end = grind (arith, common_steps) in
    let before : c.args.self.now.end ≤ c.args.limit = omega (arith, c.requires.room) in
    rw p.1 (
      kept_in c.args.self.now.bytes c.deref_mut.result.now c.read.new.buf c.args.self.now.start c.args.self.now.end c.args.limit c.deref_mut.ensures.value c.args.self.now.ordered before c.requires.within size,
      c.in_err-count.ensures.kept,
    )

pub returns-clause-read : goal.returns-clause-read
returns-clause-read g c =
    let size : length c.read.new.buf ≡ c.args.limit - c.args.self.now.end = grind (arith, common_steps) in
    let before : c.args.self.now.end ≤ c.args.limit = omega (arith, c.requires.room) in
    let fits : c.in_ok-count.count ≤ length c.read.new.buf = grind (arith, common_steps) in (
      take c.in_ok-count.count c.read.new.buf,
      length-take-le c.in_ok-count.count c.read.new.buf fits,
      grown_in c.args.self.now.bytes c.deref_mut.result.now c.read.new.buf c.args.self.now.start c.args.self.now.end c.args.limit c.deref_mut.ensures.value c.args.self.now.ordered before c.requires.within size c.in_ok-count.count (omega (arith, size, fits)),
      c.in_ok-count.ensures.taken,
    )
