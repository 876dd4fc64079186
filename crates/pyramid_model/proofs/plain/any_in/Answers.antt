use Rattle.std.proofs.Common.{rules, ◌∙◌}
use Rattle.pyramid_model.proofs.LeafLemmas.{first_there, list_any-same, contains-range}
use Rattle.pyramid_model.proofs.plain.any_in.Goals as goal

pub returns : goal.returns
returns c = c.is_some.ensures ∙ first_there _ c.args.leaves.now.entries _ _ c.next.result (λ x. (x.0.now, x.1.now)) c.next.ensures.steps (c.range.ensures.between (search rules))
    ∙ list_any-same _ _ (λ e. contains-range c.args.first c.args.end e.0) c.args.leaves.now.entries
