use Rattle.std.proofs.Common.{◌∙◌}
use Rattle.reader_pin.proofs.SightLemmas.{first_survey}
use Rattle.reader_pin.proofs.SoloLemmas.{first-state}
use Rattle.reader_pin.proofs.survey.open_shared.Goals as goal

pub open-requires-clause-legal : goal.open-requires-clause-legal
open-requires-clause-legal g c = first_survey c.args.state (first-state c.args.state (λ none. c.edits-first.ensures.first (c.edits-first.ensures.count ∙ none)) c.requires.first)
