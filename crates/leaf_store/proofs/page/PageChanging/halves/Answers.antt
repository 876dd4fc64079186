use Rattle.std.proofs.Common.{◌≡◌, ℕ, List, take, drop, ◌∙◌, ap, subst}
use Rattle.std.specs.List.{AllZip}
use Rattle.std.specs.Arc.{arc_value}
use Rattle.std.specs.declared.sync.Arc.{Arc}
use Rattle.std.proofs.Common.{Global}
use Rattle.leaf_store.proofs.Pages.{halved_pairs, halved_sound}
use Rattle.leaf_store.proofs.page.PageChanging.halves.Goals as goal

pub returns-clause-pairs : goal.returns-clause-pairs
returns-clause-pairs g c =
    let P : List (ℕ × Arc g.row.T.Denot Global) → Type 0 = λ l. AllZip (λ e f. (f.0 ≡ e.0) × (arc_value f.1 ≡ arc_value e.1)) l c.in_ok-front.front.items in
    let Q : List (ℕ × Arc g.row.T.Denot Global) → Type 0 = λ l. AllZip (λ e f. (f.0 ≡ e.0) × (arc_value f.1 ≡ arc_value e.1)) l c.in_ok-back.back.items in
    halved_pairs c.args.self.now.pairs.items c.in_ok-front.front.items c.in_ok-back.back.items c.args.middle
    (subst P (c.split_at.ensures.front ∙ ap (take c.args.middle) c.deref.ensures.value) c.in_ok-front.ensures.items)
    (subst Q (c.split_at.ensures.back ∙ ap (drop c.args.middle) c.deref.ensures.value) c.in_ok-back.ensures.items)

pub returns-clause-sound : goal.returns-clause-sound
returns-clause-sound g c =
    let P : List (ℕ × Arc g.row.T.Denot Global) → Type 0 = λ l. AllZip (λ e f. (f.0 ≡ e.0) × (arc_value f.1 ≡ arc_value e.1)) l c.in_ok-front.front.items in
    let Q : List (ℕ × Arc g.row.T.Denot Global) → Type 0 = λ l. AllZip (λ e f. (f.0 ≡ e.0) × (arc_value f.1 ≡ arc_value e.1)) l c.in_ok-back.back.items in
    halved_sound c.args.self.now.pairs.items c.in_ok-front.front.items c.in_ok-back.back.items c.args.middle
    (subst P (c.split_at.ensures.front ∙ ap (take c.args.middle) c.deref.ensures.value) c.in_ok-front.ensures.items)
    (subst Q (c.split_at.ensures.back ∙ ap (drop c.args.middle) c.deref.ensures.value) c.in_ok-back.ensures.items)
    c.requires.sound
