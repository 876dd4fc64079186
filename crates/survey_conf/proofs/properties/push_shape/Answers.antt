use Rattle.std.proofs.Common.{◌≡◌, ℕ, ◌^◌, List, ◌++◌, codes, decimal, ap, ◌∙◌}
use Rattle.std.proofs.lemmas.Result.{on_ok_weaker}
use Rattle.pyramid_model.specs.Shape.{PyramidShape}
use Rattle.survey_conf.specs.Keys.{name}
use Rattle.survey_conf.specs.Properties.{line}
use Rattle.survey_conf.specs.declared.key.Key.{Key}
use Rattle.survey_conf.specs.declared.key.Key.TheVariants.{HipsOrder, HipsOrderMin, HipsTileWidth, HipsTileFormat}
use Rattle.survey_conf.proofs.Written.{in_four}
use Rattle.survey_conf.proofs.properties.push_shape.Goals as goal

number_line : (after before : List ℕ) (k : Key) (m n : ℕ) → after ≡ before ++ line (name k, decimal m) → m ≡ n → after ≡ before ++ line (name k, decimal n)
number_line after before k m n e same = e ∙ ap (λ (x : ℕ). before ++ line (name k, decimal x)) same

pub returns : goal.returns
returns c =
    let shape : PyramidShape = c.args.shape in
    let start : List ℕ = c.args.text.now.items in
    let one : List ℕ = c.push_number.new.text.items in
    let two : List ℕ = c.push_number-2.new.text.items in
    let three : List ℕ = c.push_number-3.new.text.items in
    on_ok_weaker c.push_key.result
    (λ last. in_four start one two three c.push_key.new.text.items
    (line (name HipsOrder, decimal shape.top)) (line (name HipsOrderMin, decimal shape.low)) (line (name HipsTileWidth, decimal (2 ^ shape.n))) (line (name HipsTileFormat, codes "fits"))
    (number_line one start HipsOrder c.from.result shape.top c.in_ok-push_number.ensures (c.from.ensures ∙ ap (λ (s : PyramidShape). s.top) c.shape.view_is))
    (number_line two one HipsOrderMin c.from-2.result shape.low c.in_ok-push_number-2.ensures (c.from-2.ensures ∙ ap (λ (s : PyramidShape). s.low) c.shape.view_is))
    (number_line three two HipsTileWidth c.tile_width.result (2 ^ shape.n) c.in_ok-push_number-3.ensures c.tile_width.ensures)
    last)
    c.push_key.ensures
