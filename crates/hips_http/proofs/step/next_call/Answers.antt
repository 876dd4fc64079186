use Rattle.std.proofs.Common.{ℕ, List, Option, subst}
use Rattle.hips_http.specs.Paths.{IsOfKind, call_of}
use Rattle.hips_http.specs.Progress.{HasFile}
use Rattle.hips_http.proofs.PathLemmas.{call_known}
use Rattle.hips_http.proofs.step.next_call.Goals as goal

pub returns-in-Ok-clause-read : goal.returns-in-Ok-clause-read
returns-in-Ok-clause-read g c = record {
  head = c.in-Ok.ensures.read c.requires.turn;
  kind = c.path_kind-kind.result;
  of_kind = subst (λ (path : Option (List ℕ)). IsOfKind c.args.top path c.path_kind-kind.result) c.path.ensures c.path_kind-kind.ensures;
  call_is = c.call_of.ensures;
}

pub returns-in-Ok-clause-leaf : goal.returns-in-Ok-clause-leaf
returns-in-Ok-clause-leaf g c = rw c.call_of.ensures (call_known c.args.top _ c.in-Ok.request.method c.path_kind-kind.result c.path_kind-kind.ensures).0

pub returns-in-Ok-clause-file : goal.returns-in-Ok-clause-file
returns-in-Ok-clause-file g c =
    rw c.call_of.ensures (subst (λ (path : Option (List ℕ)). HasFile path (call_of c.in-Ok.request.method c.path_kind-kind.result)) c.path.ensures
    (call_known c.args.top _ c.in-Ok.request.method c.path_kind-kind.result c.path_kind-kind.ensures).1)
