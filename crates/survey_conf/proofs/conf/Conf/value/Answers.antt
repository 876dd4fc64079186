use Rattle.std.proofs.Common.{Some, sym, ap, ◌∙◌}
use Rattle.std.specs.Map.{lookup}
use Rattle.std.specs.Option.{option_map, option_copied}
use Rattle.std.specs.Str.{bytes_eq}
use Rattle.survey_conf.proofs.ExtraLemmas.{lookup-extras_view, value-extra}
use Rattle.survey_conf.proofs.conf.Conf.value.Goals as goal

pub returns-in-Some-get : goal.returns-in-Some-get
returns-in-Some-get c =
    ap Some c.as_slice-in-Some-get.ensures.value
    ∙ ap (λ r. option_map (λ v. v.items) (option_copied r)) (sym c.in-Some-get.is)
    ∙ ap (option_map (λ v. v.items)) c.get.ensures.value
    ∙ sym (lookup-extras_view c.args.key.now c.self.inside.extras.entries)
    ∙ ap (λ d. lookup (bytes_eq c.args.key.now) d.extras) c.self.view_is
    ∙ sym (value-extra c.args.self.now c.args.key.now (sym c.of.ensures ∙ c.in-None.is))

pub returns-in-None-get : goal.returns-in-None-get
returns-in-None-get c =
    ap (λ r. option_map (λ v. v.items) (option_copied r)) (sym c.in-None-get.is)
    ∙ ap (option_map (λ v. v.items)) c.get.ensures.value
    ∙ sym (lookup-extras_view c.args.key.now c.self.inside.extras.entries)
    ∙ ap (λ d. lookup (bytes_eq c.args.key.now) d.extras) c.self.view_is
    ∙ sym (value-extra c.args.self.now c.args.key.now (sym c.of.ensures ∙ c.in-None.is))
