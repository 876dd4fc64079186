use Rattle.std.proofs.Common.{◌∙◌, sym, true≢false}
use Rattle.coverage_moc.specs.Cover.{leaves_under}
use Rattle.coverage_moc.proofs.TreeLemmas.{up-itself}
use Rattle.coverage_moc.proofs.CanonLemmas.{canonical_from_all, all_maximal}
use Rattle.coverage_moc.proofs.tree.is_canonical.Goals as goal

pub returns-then-is_ascending : goal.returns-then-is_ascending
returns-then-is_ascending c = (
  λ h. canonical_from_all c.args.top c.args.rows.now c.requires (c.is_ascending.ensures.0 c.if-is_ascending.true) (c.are_maximal.ensures.0 h),
  λ e. c.are_maximal.ensures.1 (all_maximal c.args.top c.args.rows.now (leaves_under c.args.top c.args.rows.now) e),
)

pub returns-else-is_ascending : goal.returns-else-is_ascending
returns-else-is_ascending c = (
  λ h. absurd (true≢false (sym h ∙ c.if-is_ascending.false)),
  λ e. c.is_ascending.ensures.1 (up-itself c.args.top c.args.rows.now (leaves_under c.args.top c.args.rows.now) e),
)
