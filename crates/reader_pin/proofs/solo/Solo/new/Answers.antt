use Rattle.std.proofs.Common.{◌≡◌, List, [], ◌∷◌, ◌++◌, ap, ◌∙◌}
use Rattle.survey_core.specs.History.{opening_state}
use Rattle.survey_core.specs.State.{survey_state}
use Rattle.reader_pin.specs.declared.mark.Mark.{Mark}
use Rattle.reader_pin.specs.declared.held.Held.TheVariants.{Nothing}
use Rattle.reader_pin.specs.Solo.{mark_of, solo_content}
use Rattle.reader_pin.proofs.SoloLemmas.{first-state, opened-solo, opened-content}
use Rattle.reader_pin.proofs.solo.Solo.new.Goals as goal

pub invariant_of-result : goal.invariant_of-result
invariant_of-result c =
    let first : survey_state c.args.state ≡ opening_state = first-state c.args.state (λ e. c.of.ensures.first (ap (λ (m : Mark). m.edits) c.of.ensures.mark ∙ e)) c.requires.first in
    let items : c.push.new.self.items ≡ mark_of c.args.state ∷ [] = c.in_ok-push.ensures.items ∙ (ap (λ (marks : List Mark). marks ++ c.of.result ∷ []) c.new-seen.ensures.items ∙ ap (λ (m : Mark). m ∷ []) c.of.ensures.mark) in
    rw items (opened-solo c.args.state first)

pub returns : goal.returns
returns c =
    let first : survey_state c.args.state ≡ opening_state = first-state c.args.state (λ e. c.of.ensures.first (ap (λ (m : Mark). m.edits) c.of.ensures.mark ∙ e)) c.requires.first in
    let items : c.push.new.self.items ≡ mark_of c.args.state ∷ [] = c.in_ok-push.ensures.items ∙ (ap (λ (marks : List Mark). marks ++ c.of.result ∷ []) c.new-seen.ensures.items ∙ ap (λ (m : Mark). m ∷ []) c.of.ensures.mark) in
    ap (λ (marks : List Mark). solo_content c.args.state marks Nothing) items ∙ opened-content c.args.state first
