use Rattle.std.proofs.Common.{◌≡◌, ◌++◌, drop, OnOk, subst, ap}
use Rattle.std.specs.List.{flat_map}
use Rattle.pyramid_model.specs.Shape.{PyramidShape}
use Rattle.survey_conf.specs.Description.{Description}
use Rattle.std.proofs.lemmas.Result.{on_ok_weaker}
use Rattle.survey_conf.specs.Properties.{hips_pairs, line}
use Rattle.survey_conf.proofs.Written.{in_three}
use Rattle.survey_conf.proofs.properties.push_hips_keys.Goals as goal

pub returns : goal.returns
returns c = on_ok_weaker c.push_shape.result
    (λ last. in_three (hips_pairs c.args.conf.now) c.args.text.now.items c.push_names.new.text.items c.push_release.new.text.items c.push_shape.new.text.items
    c.in_ok-push_names.ensures c.in_ok-push_release.ensures last)
    (subst (λ (shape : PyramidShape). OnOk c.push_shape.result (c.push_shape.new.text.items ≡ c.push_release.new.text.items ++ flat_map line (drop 7 (hips_pairs (record c.args.conf.now { shape = shape })))))
    (ap (λ (d : Description). d.shape) c.conf.view_is) c.push_shape.ensures)
