use Rattle.std.proofs.Common.{◌≡◌, ◌∙◌, ◌+◌, ◌*◌, ◌-◌, ◌<◌, ◌^◌, ℕ, List, length, sym, ap, subst, true≢false, arith, take, drop, ◌++◌, eqb, true}
use Rattle.std.proofs.lemmas.Bool.Decides.{Decides-eqb}
use Rattle.std.proofs.lemmas.Slice.Eq.{slice_eq-Decides}
use Rattle.std.proofs.lemmas.List.{length-take-le}
use Rattle.std.specs.List.{list_all}
use Rattle.fits_header.specs.Cards.{whole_blocks}
use Rattle.fits_header.specs.FitsFile.{header_text}
use Rattle.coverage_moc.specs.CoverFile.{primary_cards, table_cards}
use Rattle.coverage_moc.proofs.FileLemmas.{file_length, file_front, file_decided}
use Rattle.coverage_moc.proofs.file.is_file_of.Goals as goal

pub returns-then-bytes-whole_blocks : goal.returns-then-bytes-whole_blocks
returns-then-bytes-whole_blocks c = (
  λ h. absurd (true≢false (sym h)),
  λ e.
      let len : length c.args.bytes.now ≡ 5760 + whole_blocks (8 * length c.args.rows.now) = file_length c.made_cards_are_cards.ensures c.args.top c.args.rows.now c.args.bytes.now (omega arith) c.requires.few e in
      absurd (c.if-bytes-whole_blocks.true (len ∙ ap (λ n. 5760 + whole_blocks (8 * n)) (sym c.len-len.ensures) ∙ ap (λ n. 5760 + n) (sym c.whole_blocks.ensures.len))),
)

pub slice_bounds-eq-end : goal.slice_bounds-eq-end
slice_bounds-eq-end c = let front : length (take 5760 c.args.bytes.now) ≡ 5760 = length-take-le 5760 c.args.bytes.now (omega arith) in omega arith

pub returns-then-eq : goal.returns-then-eq
returns-then-eq c =
    let same = slice_eq-Decides Decides-eqb (take 5760 c.args.bytes.now) c.headers-headers.result c.eq.result c.eq.ensures in
    file_decided c.made_cards_are_cards.ensures c.args.top c.args.rows.now c.args.bytes.now c.are_zero.result (omega arith) c.requires.few
    (c.if-bytes-whole_blocks.false ∙ ap (λ n. 5760 + n) (c.whole_blocks.ensures.len ∙ ap (λ n. whole_blocks (8 * n)) c.len-len.ensures))
    (same.0 c.if-eq.true ∙ c.headers-headers.ensures ∙ ap (λ n. header_text primary_cards ++ header_text (table_cards c.args.top n)) c.len.ensures)
    c.requires.written
    (c.are_zero.ensures ∙ ap (λ n. list_all (λ byte. eqb byte 0) (take (length c.args.bytes.now - (5760 + 8 * n)) (drop (5760 + 8 * n) c.args.bytes.now))) c.len-len.ensures)

pub returns-else-eq : goal.returns-else-eq
returns-else-eq c =
    let same = slice_eq-Decides Decides-eqb (take 5760 c.args.bytes.now) c.headers-headers.result c.eq.result c.eq.ensures in (
      λ h. absurd (true≢false (sym h ∙ c.if-eq.false)),
      λ e. same.1 (file_front c.made_cards_are_cards.ensures c.args.top c.args.rows.now c.args.bytes.now (omega arith) c.requires.few e
          ∙ ap (λ n. header_text primary_cards ++ header_text (table_cards c.args.top n)) (sym c.len.ensures) ∙ sym c.headers-headers.ensures),
    )
