use Rattle.std.proofs.Common.{rules, [], ◌≡◌, ap, ◌∙◌, Err, refl}
use Rattle.std.proofs.lemmas.Result.{err_from_is_err_and}
use Rattle.survey_link.specs.Inbox.{held}
use Rattle.shelf_io.proofs.LoadLemmas.{if_err_from}
use Rattle.hips_mirror.specs.declared.refusal.MirrorRefusal.TheVariants.{OutOfMemory}
use Rattle.hips_mirror.specs.Mirror.{Refuses, at_pin, TrueOf}
use Rattle.hips_mirror.proofs.ToldLemmas.{true_of_all}
use Rattle.hips_mirror.proofs.OrderLemmas.{nothing_sent, goes_of, not_of_shelf, order_of, sent_of, flushed_of, copied_of, refused_of, steps_from}
use Rattle.hips_mirror.proofs.copying.copy.Goals as goal

pub returns-in_err-received-clause-order : goal.returns-in_err-received-clause-order
returns-in_err-received-clause-order g c =
    let none = err_from_is_err_and c.from_residual.result c.from_residual.ensures.1 in
    ([], nothing_sent g.S.Source g.K.Sink _ c.from_residual.result (none.1 ∙ ap Err none.2))

pub returns-clause-order : goal.returns-clause-order
returns-clause-order g c =
    let goes = goes_of g.S.Source g.K.Sink _ _ c.copy_from.result c.copy_from.ensures.copied c.copy_from.ensures.refused in
    let begins = ap (λ h. record { src = c.args.src.now; sink = c.args.sink.now; held = h }) c.in_ok-received.ensures in
    let src : c.src-1.given.0 ≡ c.copy_from.new.peer.src.now = search rules in
    let sink : c.sink-1.given.0 ≡ c.copy_from.new.peer.sink.now = search rules in
    rw (src, sink)
    (held c.copy_from.new.peer.received.now.inbox, order_of g.S.Source g.K.Sink _ _ _ begins c.copy_from.result c.copy_from.ensures.copied c.copy_from.ensures.refused)

pub returns-clause-sent : goal.returns-clause-sent
returns-clause-sent g c =
    let goes = goes_of g.S.Source g.K.Sink _ _ c.copy_from.result c.copy_from.ensures.copied c.copy_from.ensures.refused in
    let begins = ap (λ h. record { src = c.args.src.now; sink = c.args.sink.now; held = h }) c.in_ok-received.ensures in
    let sink : c.sink-1.given.0 ≡ c.copy_from.new.peer.sink.now = search rules in
    rw sink (sent_of g.S.Source g.K.Sink _ _ _ begins c.copy_from.result c.copy_from.ensures.copied)

pub returns-clause-flushed : goal.returns-clause-flushed
returns-clause-flushed g c =
    let goes = goes_of g.S.Source g.K.Sink _ _ c.copy_from.result c.copy_from.ensures.copied c.copy_from.ensures.refused in
    let begins = ap (λ h. record { src = c.args.src.now; sink = c.args.sink.now; held = h }) c.in_ok-received.ensures in
    let sink : c.sink-1.given.0 ≡ c.copy_from.new.peer.sink.now = search rules in
    rw sink (flushed_of g.S.Source g.K.Sink _ _ _ begins c.copy_from.result c.copy_from.ensures.copied)

pub returns-clause-steps : goal.returns-clause-steps
returns-clause-steps g c = steps_from c.copy_from.result _ (g.S.Source.left c.args.src.now) _ _ c.in_ok-received.ensures c.copy_from.ensures.steps

pub returns-clause-copied : goal.returns-clause-copied
returns-clause-copied g c =
    let begins = ap (λ h. record { src = c.args.src.now; sink = c.args.sink.now; held = h }) c.in_ok-received.ensures in
    copied_of g.S.Source g.K.Sink _ _ _ begins c.copy_from.result c.copy_from.ensures.copied refl

pub returns-clause-refused : goal.returns-clause-refused
returns-clause-refused g c =
    let begins = ap (λ h. record { src = c.args.src.now; sink = c.args.sink.now; held = h }) c.in_ok-received.ensures in
    refused_of g.S.Source g.K.Sink _ _ _ begins c.copy_from.result c.copy_from.ensures.refused refl

pub returns-in_err-received-clause-refused : goal.returns-in_err-received-clause-refused
returns-in_err-received-clause-refused g c =
    if_err_from (λ why. TrueOf (g.S.Source.left c.args.src.now) (λ bytes. Refuses bytes why)) c.from_residual.result OutOfMemory (err_from_is_err_and c.from_residual.result c.from_residual.ensures.1)
    (true_of_all (g.S.Source.left c.args.src.now) (λ bytes. Refuses bytes OutOfMemory) (λ bytes. at_pin tt))

pub returns-clause-no_shelf : goal.returns-clause-no_shelf
returns-clause-no_shelf g c = not_of_shelf g.S.Source g.K.Sink _ _ c.copy_from.result c.copy_from.ensures.refused

pub returns-clause-read_fault : goal.returns-clause-read_fault
returns-clause-read_fault g c =
    let goes = goes_of g.S.Source g.K.Sink _ _ c.copy_from.result c.copy_from.ensures.copied c.copy_from.ensures.refused in
    let src : c.src-1.given.0 ≡ c.copy_from.new.peer.src.now = search rules in
    rw src goes.source

pub returns-clause-write_fault : goal.returns-clause-write_fault
returns-clause-write_fault g c =
    let goes = goes_of g.S.Source g.K.Sink _ _ c.copy_from.result c.copy_from.ensures.copied c.copy_from.ensures.refused in
    let sink : c.sink-1.given.0 ≡ c.copy_from.new.peer.sink.now = search rules in
    rw sink goes.sink
