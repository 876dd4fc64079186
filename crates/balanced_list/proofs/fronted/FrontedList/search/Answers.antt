use Rattle.std.proofs.Common.{◌≡◌, ℕ, ◌+◌, ◌<◌, ◌≤◌, List, [], ◌++◌, length, sym, ap, ◌∙◌, subst, arith}
use Rattle.std.specs.Prelude.{slice_get, Some, option_copied}
use Rattle.balanced_list.specs.Search.{leading, HoldsAtFirst}
use Rattle.balanced_list.proofs.Halves.{holds_in_front, holds_in_rest, leads_into_rest, leads_in_front, get_in_front, past_the_last, stands_within}
use Rattle.balanced_list.proofs.fronted.FrontedList.search.Goals as goal

pub returns-then-place-gt0-clause-leading : goal.returns-then-place-gt0-clause-leading
returns-then-place-gt0-clause-leading g c = λ h.
    let test = g.P.Probe.past c.args.probe.now in
    let front = c.self.inside.front in
    let rest = c.self.inside.rest in
    let both : HoldsAtFirst test (front ++ rest) = subst (HoldsAtFirst test) (sym c.self.view_is) h in
    let place : c.search-place.result.0 ≡ leading test rest = c.search-place.ensures.leading (holds_in_rest test front rest both) in
    let apart : c.len-apart.result ≡ length front = c.len-apart.ensures in
    let some = c.if-place-gt0.true in
    let all = leads_into_rest test front rest both (omega (arith, some, place)) in
    let sum : c.len-apart.result + c.search-place.result.0 ≡ leading test (front ++ rest) = omega (arith, apart, place, all) in
    sum ∙ ap (leading test) c.self.view_is

pub returns-in-Some-clause-leading : goal.returns-in-Some-clause-leading
returns-in-Some-clause-leading g c = λ h.
    let test = g.P.Probe.past c.args.probe.now in
    let front = c.self.inside.front in
    let rest = c.self.inside.rest in
    let both : HoldsAtFirst test (front ++ rest) = subst (HoldsAtFirst test) (sym c.self.view_is) h in
    let place : c.search-place.result.0 ≡ leading test rest = c.search-place.ensures.leading (holds_in_rest test front rest both) in
    let near : c.search-near.result.0 ≡ leading test front = c.search-near.ensures.leading (holds_in_front test front rest both) in
    let none = c.if-place-gt0.false in
    let all = leads_in_front test front rest (omega (arith, none, place)) in
    near ∙ sym all ∙ ap (leading test) c.self.view_is

pub returns-in-Some-clause-item : goal.returns-in-Some-clause-item
returns-in-Some-clause-item g c =
    let front = c.self.inside.front in
    let rest = c.self.inside.rest in
    let near = c.search-near.result.0 in
    let there : Some c.in-Some.item.now ≡ slice_get front near = ap option_copied (sym c.in-Some.is) ∙ c.search-near.ensures.item in
    there ∙ sym (get_in_front front rest near (stands_within front near c.in-Some.item.now (sym there))) ∙ ap (λ items. slice_get items near) c.self.view_is

pub returns-in-None-clause-leading : goal.returns-in-None-clause-leading
returns-in-None-clause-leading g c = λ h.
    let test = g.P.Probe.past c.args.probe.now in
    let front = c.self.inside.front in
    let rest = c.self.inside.rest in
    let both : HoldsAtFirst test (front ++ rest) = subst (HoldsAtFirst test) (sym c.self.view_is) h in
    let place : c.search-place.result.0 ≡ leading test rest = c.search-place.ensures.leading (holds_in_rest test front rest both) in
    let near : c.search-near.result.0 ≡ leading test front = c.search-near.ensures.leading (holds_in_front test front rest both) in
    let within : c.search-near.result.0 ≤ length front = c.search-near.ensures.within in
    let past : length front ≤ c.search-near.result.0 = past_the_last front c.search-near.result.0 (sym c.search-near.ensures.item ∙ ap option_copied c.in-None.is) in
    let apart : c.len-apart.result ≡ length front = c.len-apart.ensures in
    let none = c.if-place-gt0.false in
    let all = leads_in_front test front rest (omega (arith, none, place)) in
    let here : c.len-apart.result ≡ leading test front = omega (arith, apart, near, within, past) in
    here ∙ sym all ∙ ap (leading test) c.self.view_is
