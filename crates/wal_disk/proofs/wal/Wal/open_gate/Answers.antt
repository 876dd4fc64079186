use Rattle.std.proofs.Common.{arith, sym, subst, ◌∙◌, List, ℕ, length, ◌≡◌, ◌+◌}
use Rattle.wal_disk.specs.Shut.{Shut, with_record}
use Rattle.wal_disk.proofs.Gates.{ready_torn_at, opened_at, each_ready, only_shut, only_ready, ready_either, ready_staged, nothing_staged, length-with}
use Rattle.wal_disk.proofs.wal.Wal.open_gate.Goals as goal

pub returns-in-Ok-sync-clause-kept : goal.returns-in-Ok-sync-clause-kept
returns-in-Ok-sync-clause-kept g c = λ front body closed.
    let ready = ready_torn_at front body _ _ c.args.self.now.end closed.staged.end closed.ready c.in-Ok.ensures.others in
    let shut = opened_at front body _ c.args.self.now.end closed.staged.end ready (c.in-Ok.ensures.written (omega arith)) in
    let long : length (with_record front body) ≡ length front + 1 + length body = length-with front body in
    record {
      end = closed.staged.next ∙ sym long;
      next = omega (arith, long, closed.staged.next);
      each = only_shut (with_record front body) _ _ c.in-Ok-sync.ensures.durable shut;
      there = nothing_staged (with_record front body) _ (subst (λ (f : List ℕ). Shut (with_record front body) f) (sym c.in-Ok-sync.ensures.seen) shut);
    }

pub returns-in-Err-sync-clause-stopped : goal.returns-in-Err-sync-clause-stopped
returns-in-Err-sync-clause-stopped g c = λ front body closed after left.
    ready_either front body after (each_ready front body c.args.self.now.end _ _ closed.staged.end (only_ready front body _ _ closed.only closed.ready) c.in-Ok.ensures.crash after (c.in-Err-sync.ensures.crash after left))

pub returns-in-Ok-shut_gate-clause-stopped : goal.returns-in-Ok-shut_gate-clause-stopped
returns-in-Ok-shut_gate-clause-stopped g c = λ front body closed.
    let again = c.in-Ok-shut_gate.ensures.shut front body (record {
      end = closed.staged.end;
      each = each_ready front body c.args.self.now.end _ _ closed.staged.end (only_ready front body _ _ closed.only closed.ready) c.in-Err.ensures.crash;
      there = ready_torn_at front body _ _ c.args.self.now.end closed.staged.end closed.ready c.in-Err.ensures.others;
    }) in
    record {
      end = c.in-Ok-shut_gate.ensures.places.0 ∙ closed.staged.end;
      next = c.in-Ok-shut_gate.ensures.places.1 ∙ closed.staged.next;
      each = again.each;
      there = ready_staged front body _ again.ready again.shut;
    }
