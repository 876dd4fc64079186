use Rattle.std.proofs.Common.{◌≡◌, ◌<◌, ◌≤◌, ap, subst, arith, length}
use Rattle.std.proofs.lemmas.List.{length-map}
use mathlib.Core.List.{IsPrefix}
use Rattle.shared_history.specs.Book.{owners_of}
use Rattle.shared_history.specs.Histories.{places_of}
use Rattle.shared_history.proofs.Beginnings.{prefix_shorter, prefix_whole}
use Rattle.shared_history.proofs.Keeping.{begins_owners, some_entry, same_history, goes_on}
use Rattle.shared_history.proofs.page.Page.newer.Goals as goal

pub returns-then-other-self-2-clause-more : goal.returns-then-other-self-2-clause-more
returns-then-other-self-2-clause-more g c =
    let mine = c.self.inside.past.log in
    let theirs = c.other.inside.past.log in
    let both = c.learn.new.self.log in
    let this : IsPrefix mine both = subst (λ l. IsPrefix l both) (ap (λ s. s.log) c.again-both.ensures) c.learn.ensures.2 in
    let as_long : length theirs ≡ length mine = omega (arith, c.self.invariant.count, c.other.invariant.count, length-map mine (λ entry. entry.state), length-map theirs (λ entry. entry.state)) in
    let begins : IsPrefix theirs mine = prefix_shorter theirs mine both c.learn.ensures.3 this (omega (arith, as_long)) in
    rw (← c.self.view_is, ← c.other.view_is) (same_history g.L.Law.legal mine theirs _ _ c.self.invariant.seen c.other.invariant.seen (prefix_whole theirs mine begins (omega (arith, as_long))))

pub made_by-theirs-requires : goal.made_by-theirs-requires
made_by-theirs-requires g c =
    let mine = c.self.inside.past.log in
    let theirs = c.other.inside.past.log in
    let both = c.learn.new.self.log in
    let this : IsPrefix mine both = subst (λ l. IsPrefix l both) (ap (λ s. s.log) c.again-both.ensures) c.learn.ensures.2 in
    let fewer : length mine ≤ length theirs = omega (arith, c.self.invariant.count, c.other.invariant.count, length-map mine (λ entry. entry.state), length-map theirs (λ entry. entry.state)) in
    let begins : IsPrefix mine theirs = prefix_shorter mine theirs both this c.learn.ensures.3 fewer in
    let seats = (begins_owners mine theirs (some_entry g.L.Law.legal mine _ c.self.invariant.seen) begins).1 in
    rw (← c.other.view_is) (rw seats (rw (← c.self.view_is) at c.requires.seated))

pub returns-clause-more : goal.returns-clause-more
returns-clause-more g c =
    let mine = c.self.inside.past.log in
    let theirs = c.other.inside.past.log in
    let both = c.learn.new.self.log in
    let this : IsPrefix mine both = subst (λ l. IsPrefix l both) (ap (λ s. s.log) c.again-both.ensures) c.learn.ensures.2 in
    let fewer : length mine < length theirs = omega (arith, c.self.invariant.count, c.other.invariant.count, length-map mine (λ entry. entry.state), length-map theirs (λ entry. entry.state)) in
    let begins : IsPrefix mine theirs = prefix_shorter mine theirs both this c.learn.ensures.3 (omega (arith, fewer)) in
    let made_mine = rw (← c.self.view_is) at c.made_by-mine.ensures in
    let made_theirs = rw (← c.other.view_is) at c.made_by-theirs.ensures in
    let same : length (places_of c.args.seat (owners_of theirs)) ≡ length (places_of c.args.seat (owners_of mine)) = omega (arith, made_mine, made_theirs) in
    (ap (λ page. page.history) c.in_ok-again.ensures, rw (← c.self.view_is, ← c.other.view_is) (goes_on g.L.Law.legal c.args.seat mine theirs _ _ c.self.invariant.seen begins fewer same))
