use Rattle.std.proofs.Common.{arith, sym, subst, List, ℕ}
use Rattle.wal_disk.specs.Shut.{Shut, IsReady}
use Rattle.wal_disk.proofs.Gates.{ready_torn_at, shut_again_at, each_ready, only_shut, ready_either}
use Rattle.wal_disk.proofs.wal.Wal.shut_gate.Goals as goal

pub returns-in-Ok-sync-clause-shut : goal.returns-in-Ok-sync-clause-shut
returns-in-Ok-sync-clause-shut g c = λ front body gated.
    let ready = ready_torn_at front body _ _ c.args.self.now.end gated.end gated.there c.in-Ok.ensures.others in
    let shut = shut_again_at front body _ c.args.self.now.end gated.end ready (c.in-Ok.ensures.written (omega arith)) in
    record {
      each = only_shut front _ _ c.in-Ok-sync.ensures.durable shut;
      shut = subst (λ (f : List ℕ). Shut front f) (sym c.in-Ok-sync.ensures.seen) shut;
      ready = subst (λ (f : List ℕ). IsReady front body f) (sym c.in-Ok-sync.ensures.seen) ready;
    }

pub returns-in-Err-sync-clause-unsure : goal.returns-in-Err-sync-clause-unsure
returns-in-Err-sync-clause-unsure g c = λ front body gated after left.
    ready_either front body after (each_ready front body c.args.self.now.end _ _ gated.end gated.each c.in-Ok.ensures.crash after (c.in-Err-sync.ensures.crash after left))

pub returns-in-Err-clause-unsure : goal.returns-in-Err-clause-unsure
returns-in-Err-clause-unsure g c = λ front body gated after left.
    ready_either front body after (each_ready front body c.args.self.now.end _ _ gated.end gated.each c.in-Err.ensures.crash after left)
