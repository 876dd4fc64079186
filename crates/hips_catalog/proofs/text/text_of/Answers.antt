use Rattle.std.proofs.Common.{◌≡◌, ◌≢◌, ℕ, List, [], ◌∷◌, ◌++◌, map, length, refl, sym, ap, ◌∙◌}
use Rattle.std.proofs.lemmas.List.Folds.{flat_map-map}
use Rattle.std.specs.Prelude.{Some}
use Rattle.std.specs.Arc.{arc_value}
use Rattle.std.specs.Borrow.{Bor}
use Rattle.std.specs.declared.sync.Arc.{Arc}
use Rattle.std.specs.declared.alloc.Global.{Global}
use Rattle.std.specs.List.{flat_map}
use Rattle.hips_catalog.specs.Rows.{Source}
use Rattle.hips_catalog.specs.Tiles.{sources}
use Rattle.hips_catalog.specs.TileText.{head_line, source_line, text_of}
use Rattle.hips_catalog.proofs.Shared.{length_map}
use Rattle.hips_catalog.proofs.text.text_of.Goals as goal

some_text : (ss : List Source) → length ss ≢ 0 → Some (head_line ++ flat_map source_line ss) ≡ text_of ss
some_text [] n = absurd (n refl)
some_text (s ∷ ss) n = refl

-- the lines of shared rows
lines : (rows : List (Arc Source Global)) (items : List (Bor (Arc Source Global))) → map (λ item. item.now) items ≡ rows → flat_map (λ row. source_line (arc_value row.now)) items ≡ flat_map source_line (sources rows)
lines rows items e =
    sym (ap (λ ys. flat_map source_line (sources ys)) (sym e) ∙ flat_map-map source_line arc_value (map (λ item. item.now) items) ∙ flat_map-map (λ row. source_line (arc_value row)) (λ item. item.now) items)

pub returns : goal.returns
returns c =
    let lines_are : List ℕ = flat_map source_line (sources c.args.rows.now) in
    ap Some (c.in_ok-push_lines.ensures
    ∙ ap (λ rows. c.extend_from_slice.new.self.items ++ flat_map (λ row. source_line (arc_value row.now)) rows) c.deref.ensures.value
    ∙ ap (λ ys. c.extend_from_slice.new.self.items ++ ys) (lines c.args.rows.now c.in_ok-rows.rows.items c.in_ok-rows.ensures)
    ∙ ap (λ ys. ys ++ lines_are) (c.in_ok-extend_from_slice.ensures.items ∙ ap (λ ys. ys ++ head_line) c.new-text.ensures.items))
    ∙ some_text (sources c.args.rows.now) (λ e. c.if-len-eq0.false (c.len.ensures ∙ sym (length_map arc_value c.args.rows.now) ∙ e))
