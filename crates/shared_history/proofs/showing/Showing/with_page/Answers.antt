use Rattle.std.proofs.Common.{◌≡◌, drop, fold, All, ap, ◌∙◌, subst, sym}
use Rattle.std.proofs.lemmas.List.Elements.{All-push}
use Rattle.shared_history.specs.declared.page.Page.{Page}
use Rattle.shared_history.proofs.Replacing.{replaced_keep, last_there, where_ok, kept_or_none}
use Rattle.shared_history.proofs.showing.Showing.with_page.Goals as goal

pub publish_as-writer-requires : goal.publish_as-writer-requires
publish_as-writer-requires g c next is views named there =
    let P : Page g.row.S.Denot g.row.L.Denot → Type 0 = λ page. page.book ≡ g.J.Naming.book in
    let shown = c.append.new.self.desk.shown.value in
    let before = drop c.self.inside.writer.behind c.self.inside.writer.log.items in
    let all : All P (drop c.append.new.self.behind c.append.new.self.log.items) =
    subst (All P) (sym c.in-Ok.ensures.pending) (All-push P before c.args.page c.self.invariant c.requires) in
    let state : P (g.bound-4.state shown) = subst P (sym (g.bound-3-met.whole shown)) named in
    let last : P (g.bound-4.state next) = subst P (sym is) (replaced_keep P g.bound-4.applied g.bound-3-met.replaced _ _ state all) in
    let found : P next = subst P (g.bound-3-met.whole next) last in
    (tt, found, found)

pub invariant_of-result : goal.invariant_of-result
invariant_of-result g c =
    let P : Page g.row.S.Denot g.row.L.Denot → Type 0 = λ page. page.book ≡ g.J.Naming.book in
    let before = drop c.self.inside.writer.behind c.self.inside.writer.log.items in
    let all : All P (drop c.append.new.self.behind c.append.new.self.log.items) =
    subst (All P) (sym c.in-Ok.ensures.pending) (All-push P before c.args.page c.self.invariant c.requires) in
    kept_or_none P _ _ c.publish_as-writer.result.1 _ _ all c.publish_as-writer.ensures.values

pub returns-in-Ok-clause-shown : goal.returns-in-Ok-clause-shown
returns-in-Ok-clause-shown g c =
    let before = drop c.self.inside.writer.behind c.self.inside.writer.log.items in
    let shown = c.append.new.self.desk.shown.value in
    let next = c.publish_as-writer.result.0.desk.shown.value in
    where_ok _ c.publish_as-writer.result.1
    (λ is. ap (λ (page : Page g.row.S.Denot g.row.L.Denot). page.history)
    (last_there g.bound-4.state g.bound-4.applied g.bound-3-met.whole g.bound-3-met.replaced before shown c.args.page next (is.0 ∙ ap (fold g.bound-4.applied (g.bound-4.state shown)) c.in-Ok.ensures.pending)))
    c.publish_as-writer.ensures.values
