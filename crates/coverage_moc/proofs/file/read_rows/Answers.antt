use Rattle.std.proofs.Common.{◌≡◌, ◌∙◌, List, ℕ}
use Rattle.std.proofs.lemmas.Result.{IfOk-weaker}
use Rattle.coverage_moc.specs.Cover.{cover}
use Rattle.coverage_moc.specs.CoverFile.{moc_file}
use Rattle.coverage_moc.proofs.FileLemmas.{rows_of_cover, holds_cover}
use Rattle.coverage_moc.proofs.file.read_rows.Goals as goal

pub returns : goal.returns
returns c = IfOk-weaker c.to_vec.result (λ read. read.items ≡ c.of.result)
    (λ rows. (leaves : List ℕ) → moc_file c.args.top (cover c.args.top leaves) ≡ c.args.bytes.now → rows.items ≡ cover c.args.top leaves)
    (λ read is leaves e. is ∙ c.of.ensures.rows (cover c.args.top leaves) (rows_of_cover c.args.top leaves c.requires) (holds_cover c.made_cards_are_cards.ensures c.args.top leaves c.args.bytes.now c.requires e))
    c.to_vec.ensures
