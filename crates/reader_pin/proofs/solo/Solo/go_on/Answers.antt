use Rattle.std.proofs.Common.{◌≡◌, List, [], ◌∷◌, ◌++◌, ap, ◌∙◌}
use Rattle.survey_core.specs.State.{StateContent}
use Rattle.reader_pin.specs.declared.mark.Mark.{Mark}
use Rattle.reader_pin.specs.declared.held.Held.{Held}
use Rattle.reader_pin.specs.Held.{held_behind}
use Rattle.reader_pin.specs.Solo.{mark_of, solo_content}
use Rattle.reader_pin.proofs.SoloLemmas.{went}
use Rattle.reader_pin.proofs.solo.Solo.go_on.Goals as goal

pub invariant_of-self-2 : goal.invariant_of-self-2
invariant_of-self-2 c =
    let seen : List Mark = c.self.inside.seen.items in
    let w = went c.self.inside.last c.args.next seen c.self.inside.held c.args.self.now c.self.view_is c.self.invariant c.of.ensures.state c.requires.conf c.requires.opening c.requires.step in
    let items : c.push.new.self.items ≡ seen ++ mark_of c.args.next ∷ [] = c.in_ok-push.ensures.items ∙ ap (λ (m : Mark). seen ++ m ∷ []) c.of.ensures.mark in
    let held : c.behind.result ≡ held_behind c.self.inside.last c.self.inside.held = c.behind.ensures ∙ (ap (λ (s : StateContent). held_behind s c.replace-held.result) c.replace-last.ensures.value ∙ ap (held_behind c.self.inside.last) c.replace-held.ensures.value) in
    rw (c.replace-last.ensures.after, items, held) w.solo

pub returns-clause-went : goal.returns-clause-went
returns-clause-went c =
    let seen : List Mark = c.self.inside.seen.items in
    let w = went c.self.inside.last c.args.next seen c.self.inside.held c.args.self.now c.self.view_is c.self.invariant c.of.ensures.state c.requires.conf c.requires.opening c.requires.step in
    let items : c.push.new.self.items ≡ seen ++ mark_of c.args.next ∷ [] = c.in_ok-push.ensures.items ∙ ap (λ (m : Mark). seen ++ m ∷ []) c.of.ensures.mark in
    let held : c.behind.result ≡ held_behind c.self.inside.last c.self.inside.held = c.behind.ensures ∙ (ap (λ (s : StateContent). held_behind s c.replace-held.result) c.replace-last.ensures.value ∙ ap (held_behind c.self.inside.last) c.replace-held.ensures.value) in
    ap (λ (s : StateContent). solo_content s c.push.new.self.items c.behind.result) c.replace-last.ensures.after
    ∙ (ap (λ (marks : List Mark). solo_content c.args.next marks c.behind.result) items
    ∙ (ap (λ (h : Held StateContent). solo_content c.args.next (seen ++ mark_of c.args.next ∷ []) h) held ∙ w.content))

pub returns-clause-legal : goal.returns-clause-legal
returns-clause-legal c =
    let seen : List Mark = c.self.inside.seen.items in
    let w = went c.self.inside.last c.args.next seen c.self.inside.held c.args.self.now c.self.view_is c.self.invariant c.of.ensures.state c.requires.conf c.requires.opening c.requires.step in
    let items : c.push.new.self.items ≡ seen ++ mark_of c.args.next ∷ [] = c.in_ok-push.ensures.items ∙ ap (λ (m : Mark). seen ++ m ∷ []) c.of.ensures.mark in
    rw (c.replace-last.ensures.after, items) w.solo.legal
