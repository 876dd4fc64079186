use Rattle.std.proofs.Common.{◌/◌, length, ap, sym, ◌∙◌, add_comm}
use Rattle.leaf_probe.specs.Merging.{tiles_made, steps_after}
use Rattle.leaf_probe.specs.Probe.{shape_of, leaves_read, records_under}
use Rattle.leaf_probe.specs.Records.{record_length}
use Rattle.leaf_probe.proofs.CountLemmas.{steps_sum}
use Rattle.leaf_probe.proofs.probing.probe.Goals as goal

pub returns-in-Ok-clause-counted : goal.returns-in-Ok-clause-counted
returns-in-Ok-clause-counted g c = λ input e.
    let made = tiles_made (shape_of c.args.asked.now) (leaves_read c.args.asked.now input) c.args.asked.now.order c.args.asked.now.npix in
    let read = records_under c.args.asked.now input (length input / record_length c.args.asked.now.n) in
    c.in_ok-tile.ensures.counted (leaves_read c.args.asked.now input) (c.in_ok-leaves.ensures.leaves input e)
    ∙ ap (steps_after made) (c.in_ok-leaves.ensures.counted input e)
    ∙ sym (steps_sum made read c.args.steps.now) ∙ ap (λ m. steps_after m c.args.steps.now) (add_comm made read)
