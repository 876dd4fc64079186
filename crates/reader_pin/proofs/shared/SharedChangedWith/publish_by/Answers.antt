use Rattle.reader_pin.proofs.SharedLemmas.{result_later, steps_of_both}
use Rattle.reader_pin.proofs.shared.SharedChangedWith.publish_by.Goals as goal

pub returns-clause-published : goal.returns-clause-published
returns-clause-published g c =
    rw (← c.self.view_is) (result_later c.self.inside.sight c.look.new.self c.publish.new.self c.publish.result c.state-last.ensures.legal c.look.ensures c.publish.ensures.published)

pub returns-clause-steps : goal.returns-clause-steps
returns-clause-steps g c =
    rw (← c.self.view_is)
    (steps_of_both c.more_touched_is_more_work.ensures c.self.inside.sight c.look.new.self c.publish.new.self c.publish.result c.args.steps.now c.build_pending.new.steps c.publish.new.steps
    c.state-last.ensures.legal c.look.ensures c.publish.ensures.published c.in_ok-built.ensures.steps c.publish.ensures.steps)
