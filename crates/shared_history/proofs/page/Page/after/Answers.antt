use Rattle.std.proofs.Common.{◌≡◌, ◌+◌, ◌<◌, ◌^◌, [], ◌∷◌, ◌++◌, slice_set, ap, ◌∙◌, rules, arith}
use Rattle.std.specs.Prelude.{slice_index}
use Rattle.std.specs.Arc.{arc_value}
use Rattle.shared_history.proofs.Keeping.{made_fits, kept_page}
use Rattle.shared_history.proofs.page.Page.after.Goals as goal

pub one_more-requires-clause-fits : goal.one_more-requires-clause-fits
one_more-requires-clause-fits g c =
    let below = rw (← c.self.view_is) at c.requires.seated in
    let fits = made_fits g.L.Law.legal _ _ _ c.args.seat c.self.invariant below in
    let more : c.in_ok-count.count ≡ c.self.inside.count + 1 = search rules in
    let small : c.in_ok-count.count < 2 ^ 64 = search rules in
    rw (c.as_slice.ensures.value, c.deref.ensures) (omega (arith, fits, more, small))

pub invariant_of-page : goal.invariant_of-page
invariant_of-page g c =
    let more : c.in_ok-count.count ≡ c.self.inside.count + 1 = search rules in
    let below = rw (← c.self.view_is) at c.requires.seated in
    let legal = rw (← c.self.view_is) at c.requires.legal in
    let made = ap (λ v. v.items) c.in_ok-made.ensures.ok ∙ (c.in_ok-one_more.ensures ∙ ap (λ xs. slice_set xs c.args.seat (slice_index xs c.args.seat + 1)) (c.as_slice.ensures.value ∙ ap (λ v. v.items) c.deref.ensures)) in
    let log = c.append.ensures.added c.if-not-append.false ∙ (ap (λ s. s.log ++ c.new-entry.result ∷ []) c.again-past.ensures ∙ ap (λ e. c.self.inside.past.log ++ e ∷ []) c.new-entry.ensures) in
    kept_page g.L.Law.legal _ _ _ _ _ _ _ _ _ c.args.seat c.self.invariant below legal more made log (c.into_state.ensures ∙ ap (λ e. e.state) c.new-entry.ensures)

pub invariant_of-copy : goal.invariant_of-copy
invariant_of-copy g c =
    let more : c.in_ok-count.count ≡ c.self.inside.count + 1 = search rules in
    let below = rw (← c.self.view_is) at c.requires.seated in
    let legal = rw (← c.self.view_is) at c.requires.legal in
    let same : arc_value c.in_ok-same.same ≡ arc_value c.args.next = search rules in
    let same_made : arc_value c.in_ok-same_made.same_made ≡ arc_value c.in_ok-made.made = search rules in
    let made = ap (λ v. v.items) (same_made ∙ c.in_ok-made.ensures.ok) ∙ (c.in_ok-one_more.ensures ∙ ap (λ xs. slice_set xs c.args.seat (slice_index xs c.args.seat + 1)) (c.as_slice.ensures.value ∙ ap (λ v. v.items) c.deref.ensures)) in
    let log = ap (λ s. s.log) c.again.ensures ∙ (c.append.ensures.added c.if-not-append.false ∙ (ap (λ s. s.log ++ c.new-entry.result ∷ []) c.again-past.ensures ∙ ap (λ e. c.self.inside.past.log ++ e ∷ []) c.new-entry.ensures)) in
    kept_page g.L.Law.legal _ _ _ _ _ _ _ _ _ c.args.seat c.self.invariant below legal more made log same
