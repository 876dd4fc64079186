use Rattle.std.proofs.Common.{◌≡◌, ℕ, List, [], ◌∷◌, ◌++◌, sym, ◌∙◌, ap, subst}
use Rattle.std.specs.Arc.{arc_value}
use Rattle.leaf_store.specs.Store.{IsAscending}
use Rattle.leaf_store.specs.Entries.{pairs_of}
use Rattle.leaf_store.proofs.Pages.{ascending_one}
use Rattle.leaf_store.proofs.page.PageChanging.one.Goals as goal

pub returns-clause-sound : goal.returns-clause-sound
returns-clause-sound g c =
    let items : c.push.new.self.items ≡ (c.args.key, c.args.value) ∷ [] = c.in_ok-push.ensures.items ∙ ap (λ l. l ++ (c.args.key, c.args.value) ∷ []) c.new-pairs.ensures.items in
    let P : List (ℕ × g.row.T.Denot) → Type 0 = λ l. IsAscending l in
    subst P (sym (ap pairs_of items)) (ascending_one c.args.key (arc_value c.args.value))
