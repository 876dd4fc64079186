use Rattle.std.proofs.Common.{[], subst, sym, append-nil}
use Rattle.survey_link.specs.Link.{AppendsPrefix}
use Rattle.survey_link.proofs.Prefixes.{prefix_from_appends}
use Rattle.mirror_frame.specs.Requests.{request_bytes}
use Rattle.mirror_frame.proofs.Exchanges.{on_err}
use Rattle.mirror_frame.proofs.ask.send.Goals as goal

pub returns-in-Ok-clause-part : goal.returns-in-Ok-clause-part
returns-in-Ok-clause-part g c =
    let bytes = request_bytes c.args.ask.now in
    let before = g.K.Sink.held c.args.sink.now in
    on_err c.flush.result _
    (subst (λ held. AppendsPrefix before held bytes) (sym c.flush.ensures.kept)
    (subst (AppendsPrefix before (g.K.Sink.held c.write_request.new.sink)) (append-nil bytes) (prefix_from_appends _ _ bytes [] (c.in-Ok.ensures.sent))))
