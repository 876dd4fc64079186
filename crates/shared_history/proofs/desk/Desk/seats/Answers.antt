use Rattle.std.proofs.Common.{◌≡◌, [], ◌∷◌, ◌++◌, ap}
use Rattle.std.proofs.lemmas.List.Elements.{All-push}
use Rattle.shared_history.proofs.Keeping.{numbers_more}
use Rattle.shared_history.proofs.desk.Desk.seats.Goals as goal

pub loop-number-preserved : goal.loop-number-preserved
loop-number-preserved g c =
    let seat = c.in_ok-seat.field-0 in
    let before = c.loop-number.seats.items in
    let items : c.push.new.self.items ≡ before ++ seat ∷ [] = c.in_ok-push.ensures.items in
    rw items (
      numbers_more (λ s. s.number) before seat c.loop-number.number c.loop-number.invariant.0 (ap (λ s. s.number) c.in_ok-seat.ensures),
      All-push (λ s. s.seen ≡ c.args.self.now.newest) before seat c.loop-number.invariant.1 (ap (λ s. s.seen) c.in_ok-seat.ensures),
    )
