use Rattle.std.proofs.Common.{arith, ◌≡◌, ◌-◌}
use Rattle.std.proofs.lemmas.List.{take_rest}
use Rattle.memchr.specs.Find.{OccursAt, Nowhere}
use Rattle.http_frame.specs.Next.{head_end}
use Rattle.http_frame.proofs.HeadEnds.{head_found, head_missing}
use Rattle.http_frame.proofs.fill.head_length.Goals as goal

pub returns-in_err-found-clause-none : goal.returns-in_err-found-clause-none
returns-in_err-found-clause-none c = λ _.
    let from : c.saturating_sub-from.result ≡ c.args.searched - 3 = c.saturating_sub-from.ensures in
    let none : Nowhere (OccursAt c.args.held.now head_end) 0 c.saturating_sub-from.result = rw from c.requires.none in
    head_missing c.args.held.now c.saturating_sub-from.result (omega (arith, from, c.requires.searched)) none
    (rw (take_rest c.args.held.now c.saturating_sub-from.result) at (c.in_err-found.ensures))

pub returns-clause-found : goal.returns-clause-found
returns-clause-found c =
    let from : c.saturating_sub-from.result ≡ c.args.searched - 3 = c.saturating_sub-from.ensures in
    let none : Nowhere (OccursAt c.args.held.now head_end) 0 c.saturating_sub-from.result = rw from c.requires.none in
    let found = rw (take_rest c.args.held.now c.saturating_sub-from.result) at (c.in_ok-found.ensures) in
    head_found c.args.held.now c.saturating_sub-from.result (omega (arith, from, c.requires.searched)) none c.in_ok-found.found c.requires.most found.1 found.0.before
