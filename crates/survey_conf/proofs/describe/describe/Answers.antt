use Rattle.std.proofs.Common.{sym, subst}
use Rattle.survey_conf.specs.Description.{IsDescription}
use Rattle.survey_conf.specs.EntriesView.{entries_view}
use Rattle.survey_conf.proofs.DescribedLemmas.{distinct-described, same-description}
use Rattle.survey_conf.proofs.describe.describe.Goals as goal

pub extras-requires : goal.extras-requires
extras-requires c = distinct-described (entries_view c.args.entries.now.entries) c.requires.kept

pub invariant_of-result : goal.invariant_of-result
invariant_of-result c =
    subst IsDescription (sym (same-description (entries_view c.args.entries.now.entries) _
    c.in_ok-creator_did.ensures c.in_ok-obs_title.ensures c.in_ok-hips_release_date.ensures c.in_ok-hips_status.ensures
    c.shape.ensures c.scale.ensures c.zero.ensures c.version.ensures c.in_ok-extras.ensures)) c.requires.kept

pub returns : goal.returns
returns c =
    same-description (entries_view c.args.entries.now.entries) _
    c.in_ok-creator_did.ensures c.in_ok-obs_title.ensures c.in_ok-hips_release_date.ensures c.in_ok-hips_status.ensures
    c.shape.ensures c.scale.ensures c.zero.ensures c.version.ensures c.in_ok-extras.ensures
