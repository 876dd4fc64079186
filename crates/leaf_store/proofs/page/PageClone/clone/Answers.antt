use Rattle.std.proofs.Common.{◌≡◌, ℕ, List, sym, subst}
use Rattle.std.specs.Arc.{arc_value}
use Rattle.std.proofs.lemmas.List.Elements.{length_all_zip}
use Rattle.leaf_store.specs.Store.{IsAscending}
use Rattle.leaf_store.proofs.Pages.{cloned_pairs}
use Rattle.leaf_store.proofs.page.PageClone.clone.Goals as goal

pub returns : goal.returns
returns g c =
    let P : List (ℕ × g.row.T.Denot) → Type 0 = λ l. IsAscending l in
    record {
      cases = (
        cloned_pairs c.args.self.now.pairs.items c.in_ok-clone.field-0.items c.in_ok-clone.ensures.cases.0,
        sym (length_all_zip (λ e f. (f.0 ≡ e.0) × (arc_value f.1 ≡ arc_value e.1)) c.args.self.now.pairs.items c.in_ok-clone.field-0.items c.in_ok-clone.ensures.cases.0),
        λ sound. subst P (sym (cloned_pairs c.args.self.now.pairs.items c.in_ok-clone.field-0.items c.in_ok-clone.ensures.cases.0)) sound,
      );
    }
