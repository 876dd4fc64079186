use Rattle.std.proofs.Common.{◌≡◌, ◌∙◌, List, ℕ, sym, ap, true≢false}
use Rattle.coverage_moc.specs.Cover.{cover, leaves_under}
use Rattle.coverage_moc.specs.CoverFile.{IsCoverFile, moc_file}
use Rattle.coverage_moc.proofs.CanonLemmas.{cover_few}
use Rattle.coverage_moc.proofs.FileLemmas.{rows_of_cover, holds_cover}
use Rattle.coverage_moc.proofs.TreeLemmas.{is_cover}
use Rattle.coverage_moc.proofs.file.is_cover_file.Goals as goal

pub is_file_of-requires-clause-few : goal.is_file_of-requires-clause-few
is_file_of-requires-clause-few c = cover_few c.args.top c.of-rows.result (leaves_under c.args.top c.of-rows.result) c.requires (c.is_canonical.ensures.0 c.if-is_canonical.true)

pub returns-then-is_canonical : goal.returns-then-is_canonical
returns-then-is_canonical c = (
  λ h. (leaves_under c.args.top c.of-rows.result, ap (moc_file c.args.top) (sym (c.is_canonical.ensures.0 c.if-is_canonical.true)) ∙ c.is_file_of.ensures.0 h),
  λ file. c.is_file_of.ensures.1 (ap (moc_file c.args.top) (c.of-rows.ensures.rows (cover c.args.top file.0) (rows_of_cover c.args.top file.0 c.requires) (holds_cover c.made_cards_are_cards.ensures c.args.top file.0 c.args.bytes.now c.requires file.1)) ∙ file.1),
)

pub returns-else-is_canonical : goal.returns-else-is_canonical
returns-else-is_canonical c = (
  λ h. absurd (true≢false (sym h ∙ c.if-is_canonical.false)),
  λ file. c.is_canonical.ensures.1 (is_cover c.args.top c.of-rows.result file.0 (c.of-rows.ensures.rows (cover c.args.top file.0) (rows_of_cover c.args.top file.0 c.requires) (holds_cover c.made_cards_are_cards.ensures c.args.top file.0 c.args.bytes.now c.requires file.1))),
)
