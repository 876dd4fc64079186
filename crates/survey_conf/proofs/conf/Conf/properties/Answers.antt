use Rattle.std.proofs.Common.{ℕ, List, ◌++◌, codes, ap, ◌∙◌}
use Rattle.std.specs.List.{flat_map}
use Rattle.survey_conf.specs.Description.{Description}
use Rattle.survey_conf.specs.Properties.{line}
use Rattle.survey_conf.proofs.Written.{whole_text}
use Rattle.survey_conf.proofs.conf.Conf.properties.Goals as goal

pub returns : goal.returns
returns c =
    whole_text c.args.self.now c.args.leaves c.in_ok-text.text.items c.push_hips_keys.new.text.items c.push_extras.new.text.items c.push_survey_keys.new.text.items c.push_version.new.text.items c.push_line.new.text.items
    c.in_ok-text.ensures.items
    c.in_ok-push_hips_keys.ensures
    (c.in_ok-push_extras.ensures ∙ ap (λ (d : Description). c.push_hips_keys.new.text.items ++ flat_map line d.extras) c.self.view_is)
    c.in_ok-push_survey_keys.ensures
    c.in_ok-push_version.ensures
    (c.in_ok-push_line.ensures ∙ ap (λ (digits : List ℕ). c.push_version.new.text.items ++ line (codes "survey_leaves", digits)) (c.as_bytes.ensures.value ∙ c.format.ensures.text))
