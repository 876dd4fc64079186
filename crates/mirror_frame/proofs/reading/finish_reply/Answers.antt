use Rattle.std.proofs.Common.{◌≡◌, ◌++◌, ◌∙◌, ◌<◌, refl, sym, ap, subst, arith, length, drop}
use Rattle.std.proofs.lemmas.List.{with_items_is}
use Rattle.survey_link.specs.Inbox.{held}
use Rattle.mirror_frame.proofs.Replies.{judged, cut_reply, cut_while}
use Rattle.mirror_frame.proofs.reading.finish_reply.Goals as goal

pub returns-in-Ok-true-clause-read : goal.returns-in-Ok-true-clause-read
returns-in-Ok-true-clause-read g c =
    let value = c.deref_mut.ensures.value in
    let whole = c.resize.new.self.ok.0 in
    let size : length c.deref_mut.result.now ≡ c.args.begun.head.length = ap length value ∙ sym whole ∙ c.in_ok-resize.ensures.len in
    let body = with_items_is c.resize.new.self c.take_exact.new.out (c.take_exact.ensures.len ∙ ap length value ∙ sym whole) in
    let needed = c.take_exact.ensures.needed in
    let is : c.take_exact.new.out ++ held c.take_exact.new.inbox ≡ drop c.args.begun.end (held c.args.inbox.now) ++ needed.0
    = needed.2 (c.in-Ok-true.is ∙ rw c.in-Ok-true.field-0-test refl) ∙ ap (λ bytes. bytes ++ needed.0) c.give.ensures.rest in
    rw body (
      needed.0,
      cut_while _ _ c.args.due (held c.args.inbox.now) c.args.begun.end _ _ c.requires.begun (held c.give.new.self) c.give.ensures.rest _ size _ _ needed.0 needed.1,
      judged c.args.due (held c.args.inbox.now) needed.0 c.args.begun.end _ _ c.requires.begun c.take_exact.new.out (held c.take_exact.new.inbox) (c.take_exact.ensures.len ∙ size) is
          _ c.judge_body.result (rw (c.deref.ensures.value, body) at c.judge_body.ensures.told) (rw (c.deref.ensures.value, body) at c.judge_body.ensures.wrong),
    )

pub returns-in-Ok-false-clause-read : goal.returns-in-Ok-false-clause-read
returns-in-Ok-false-clause-read g c =
    let size : length c.deref_mut.result.now ≡ c.args.begun.head.length = ap length c.deref_mut.ensures.value ∙ sym c.resize.new.self.ok.0 ∙ c.in_ok-resize.ensures.len in
    let needed = c.take_exact.ensures.needed in
    let ended = c.in-Ok-false.is ∙ rw c.in-Ok-false.field-0-test refl in
    let short : length (held c.give.new.self ++ needed.0) < length c.deref_mut.result.now = needed.3 (λ e. cc) in (
      needed.0,
      cut_while _ _ c.args.due (held c.args.inbox.now) c.args.begun.end _ _ c.requires.begun (held c.give.new.self) c.give.ensures.rest _ size _ _ needed.0 needed.1,
      (
        cut_reply c.args.due (held c.args.inbox.now) needed.0 c.args.begun.end _ _ c.requires.begun
            (subst (λ bytes. length (bytes ++ needed.0) < c.args.begun.head.length) c.give.ensures.rest (omega (arith, short, size))),
        (c.take_exact.ensures.cut ended).end,
      ),
    )

pub returns-in-Err-clause-read : goal.returns-in-Err-clause-read
returns-in-Err-clause-read g c =
    let size : length c.deref_mut.result.now ≡ c.args.begun.head.length = ap length c.deref_mut.ensures.value ∙ sym c.resize.new.self.ok.0 ∙ c.in_ok-resize.ensures.len in
    let needed = c.take_exact.ensures.needed in (
      needed.0,
      cut_while _ _ c.args.due (held c.args.inbox.now) c.args.begun.end _ _ c.requires.begun (held c.give.new.self) c.give.ensures.rest _ size _ _ needed.0 needed.1,
      tt,
    )
