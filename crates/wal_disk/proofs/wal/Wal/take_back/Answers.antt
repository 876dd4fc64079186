use Rattle.std.proofs.Common.{arith, ◌∙◌, length, ◌≡◌, ◌+◌, ◌-◌}
use Rattle.wal_disk.specs.Shut.{with_record}
use Rattle.wal_disk.proofs.Gates.{ready_of, nothing_staged, length-with, on_ok}
use Rattle.wal_disk.proofs.wal.Wal.take_back.Goals as goal

pub returns-clause-taken : goal.returns-clause-taken
returns-clause-taken g c = λ front body staged count.
    let long : length (with_record front body) ≡ length front + 1 + length body = length-with front body in
    let end : c.args.self.now.end - c.args.count ≡ length front = omega (arith, long, staged.end, count) in
    on_ok _ _ c.shut_gate.result (λ again. record {
      end = c.shut_gate.ensures.places.0 ∙ end;
      next = omega (arith, end, c.shut_gate.ensures.places.1);
      each = again.each;
      there = nothing_staged front _ again.shut;
    }) (c.shut_gate.ensures.shut front body (record { end = end; each = λ after left. ready_of front body after (staged.each after left); there = ready_of front body _ staged.there.shut }))

pub returns-clause-unsure : goal.returns-clause-unsure
returns-clause-unsure g c = λ front body staged count.
    let long : length (with_record front body) ≡ length front + 1 + length body = length-with front body in
    let end : c.args.self.now.end - c.args.count ≡ length front = omega (arith, long, staged.end, count) in
    c.shut_gate.ensures.unsure front body (record { end = end; each = λ after left. ready_of front body after (staged.each after left); there = ready_of front body _ staged.there.shut })
