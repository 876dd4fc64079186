use Rattle.std.proofs.Common.{◌≡◌, sym, ◌∙◌, ap, List, ℕ, ◌++◌, map, rules, arith}
use Rattle.std.specs.List.{range_with_len}
use Rattle.tile_pixels.specs.Stored.{stored_bytes}
use Rattle.tile_pixels.specs.StoredLaws.{stored_bytes-nil}
use Rattle.survey_make.specs.Script.{number_at}
use Rattle.survey_make.proofs.EditLemmas.{numbers-more, numbers-all}
use Rattle.survey_make.proofs.edit.stored_numbers.Goals as goal

pub loop-s-init : goal.loop-s-init
loop-s-init c = rw (stored_bytes-nil 16) (search rules)

pub loop-s-preserved : goal.loop-s-preserved
loop-s-preserved c =
    let so_far : List ℕ = stored_bytes 16 (map (number_at c.args.x) (range_with_len 0 c.loop-s.s)) in
    c.in_ok-extend_from_slice.ensures.items ∙ ap (λ (bytes : List ℕ). bytes ++ c.to_be_bytes.result) c.loop-s.invariant
    ∙ (ap (λ (bytes : List ℕ). so_far ++ bytes) c.to_be_bytes.ensures ∙ sym (numbers-more c.args.x c.loop-s.s))

pub returns : goal.returns
returns c =
    let all : c.loop-s.s ≡ 1024 = omega arith in
    c.loop-s.invariant ∙ (ap (λ (n : ℕ). stored_bytes 16 (map (number_at c.args.x) (range_with_len 0 n))) all ∙ ap (stored_bytes 16) (sym (numbers-all c.args.x)))
