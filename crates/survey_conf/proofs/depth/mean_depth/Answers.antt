use Rattle.std.proofs.Common.{w64}
use Rattle.std.specs.Prelude.{FitsSigned}
use Rattle.std.proofs.lemmas.Int.{to_z-of_z}
use Rattle.survey_conf.specs.EntriesView.{entries_view}
use Rattle.survey_conf.proofs.DepthLemmas.{blank-from_depth, depth-parts}
use Rattle.survey_conf.proofs.depth.mean_depth.Goals as goal

pub returns : goal.returns
returns c =
    let fits : FitsSigned w64 c.blank.result = record { sfits = c.blank.type_inv } in
    let known = simp to_z-of_z at c.new.ensures.known in
    let blank = simp to_z-of_z at c.new.ensures.blank in
    depth-parts (entries_view c.args.entries.now.entries) c.bitpix.result c.blank.result c.new.result c.bitpix.ensures c.blank.ensures
    (blank-from_depth (entries_view c.args.entries.now.entries) c.bitpix.result c.blank.result c.new.result c.bitpix.ensures c.blank.ensures known)
    c.new.ensures.bitpix blank
