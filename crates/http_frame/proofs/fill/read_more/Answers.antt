use Rattle.std.proofs.Common.{arith, ◌≡◌, ◌++◌, ◌<◌, [], length, ap, ◌∙◌, refl}
use Rattle.std.proofs.lemmas.Grind.{common_steps}
use Rattle.std.proofs.lemmas.List.{append-nil, nil_from_length}
use Rattle.survey_link.specs.Inbox.{held}
use Rattle.http_frame.proofs.fill.read_more.Goals as goal

pub returns-else-is_empty-clause-stop : goal.returns-else-is_empty-clause-stop
returns-else-is_empty-clause-stop g c =
    let read = c.in-Ok.ensures.read in
    let none : read.0 ≡ [] = nil_from_length read.0 (omega (arith, read.1, c.if-count-gt0.false)) in
    let same : held c.read.new.self ≡ held c.args.buffer.now = read.2 ∙ ap (λ more. held c.move_to_front.new.self ++ more) none ∙ append-nil (held c.move_to_front.new.self) ∙ c.move_to_front.ensures.same in
    let some : 0 < length (held c.read.new.self) = grind (arith, common_steps) in
    let zero : c.in-Ok.count ≡ 0 = omega (arith, c.if-count-gt0.false) in
    (some, rw same c.requires.needed, c.in-Ok.ensures.end (rw zero refl))

pub returns-in-Err-clause-stop : goal.returns-in-Err-clause-stop
returns-in-Err-clause-stop g c =
    let same : held c.read.new.self ≡ held c.args.buffer.now = c.in-Err.ensures.kept.0 ∙ c.move_to_front.ensures.same in
    rw same c.requires.needed
