use Rattle.std.proofs.Common.{◌≡◌, true, false, subst, sym}
use Rattle.std.specs.Prelude.{slice_get, Some}
use Rattle.balanced_list.specs.Search.{leading, HoldsAtFirst}
use Rattle.hips_catalog.specs.Rows.{Source, is_better}
use Rattle.hips_catalog.proofs.tile.seek.Goals as goal

pub returns-in-Some-clause-place : goal.returns-in-Some-clause-place
returns-in-Some-clause-place c =
    subst (λ ys. HoldsAtFirst (λ s. is_better s c.args.row.now) ys → c.seek.result.0 ≡ leading (λ s. is_better s c.args.row.now) ys) (sym c.in-Some.ensures) c.seek.ensures.place

pub returns-in-Some-clause-yes : goal.returns-in-Some-clause-yes
returns-in-Some-clause-yes c =
    subst (λ ys. c.seek.result.1 ≡ true → (s : Source) × (slice_get ys c.seek.result.0 ≡ Some s) × (is_better s c.args.row.now ≡ false) × (is_better c.args.row.now s ≡ false)) (sym c.in-Some.ensures) c.seek.ensures.yes

pub returns-in-Some-clause-no : goal.returns-in-Some-clause-no
returns-in-Some-clause-no c =
    subst (λ ys. c.seek.result.1 ≡ false → ¬ (slice_get ys c.seek.result.0 ≡ Some c.args.row.now)) (sym c.in-Some.ensures) c.seek.ensures.no
