use Rattle.std.proofs.Common.{◌≡◌, ℕ, ◌≤◌, length, sym, ap, ◌∙◌, subst, arith}
use Rattle.std.specs.Prelude.{IfSome, slice_get, All, List, [], ◌<◌}
use Rattle.std.specs.List.{filter_map}
use Rattle.std.specs.Result.{result_err}
use Rattle.std.proofs.lemmas.Result.{err_from_is_err_and}
use Rattle.healpix_nested.specs.Cells.{cell_count}
use Rattle.shelf_io.specs.Opening.{conf_on, leaves_on, leaf_tile, leaf_refusal, opening, IsRefusedBy}
use Rattle.shelf_io.proofs.LoadLemmas.{if_err_from, count_refused, leaves_refused, all_opened, charge_within}
use Rattle.shelf_io.proofs.loading.read_survey.Goals as goal

pub read_leaves-requires-clause-cells : goal.read_leaves-requires-clause-cells
read_leaves-requires-clause-cells g c =
    let top : c.shape.inside.top ≡ c.in_ok-conf.conf.shape.top = ap (λ s. s.top) c.shape.view_is ∙ ap (λ s. s.top) c.shape-shape.ensures.shape in
    let P : ℕ → List ℕ → Type 0 = λ t xs. All (λ leaf. leaf < cell_count t) xs in
    subst (P c.in_ok-conf.conf.shape.top) (sym c.deref.ensures.value) (subst (λ t. P t c.in_ok-numbers.numbers.items) top c.in_ok-numbers.ensures.cells)

pub returns-in_err-judge_count-clause-refused : goal.returns-in_err-judge_count-clause-refused
returns-in_err-judge_count-clause-refused g c =
    let d = c.in_ok-conf.conf in
    let top : c.shape.inside.top ≡ d.shape.top = ap (λ s. s.top) c.shape.view_is ∙ ap (λ s. s.top) c.shape-shape.ensures.shape in
    let numbers = c.in_ok-numbers.numbers.items in
    let counted : c.len.result ≡ length numbers = omega arith in
    let listed = subst (λ o. IfSome o (λ fs. numbers ≡ leaves_on fs c.shape.inside.top)) c.read_conf.ensures.kept c.in_ok-numbers.ensures.listed in
    if_err_from (λ refusal. IfSome (g.H.Shelf.files c.args.shelf.now) (λ files. IsRefusedBy (result_err (opening files)) refusal))
    c.from_residual-in_err-judge_count.result c.in_err-judge_count.field-0.0 (err_from_is_err_and c.from_residual-in_err-judge_count.result c.from_residual-in_err-judge_count.ensures.1)
    (count_refused d c.shape-shape.result c.shape.inside.top c.len.result numbers c.shape-shape.ensures.shape top counted (g.H.Shelf.files c.args.shelf.now) c.in_err-judge_count.field-0.0
    c.in_ok-conf.ensures.conf listed c.in_err-judge_count.ensures)

pub returns-in_err-leaves-clause-refused : goal.returns-in_err-leaves-clause-refused
returns-in_err-leaves-clause-refused g c =
    let d = c.in_ok-conf.conf in
    let top : c.shape.inside.top ≡ d.shape.top = ap (λ s. s.top) c.shape.view_is ∙ ap (λ s. s.top) c.shape-shape.ensures.shape in
    let numbers = c.in_ok-numbers.numbers.items in
    let counted : c.len.result ≡ length numbers = omega arith in
    let listed = subst (λ o. IfSome o (λ fs. numbers ≡ leaves_on fs c.shape.inside.top)) c.read_conf.ensures.kept c.in_ok-numbers.ensures.listed in
    if_err_from (λ refusal. IfSome (g.H.Shelf.files c.args.shelf.now) (λ files. IsRefusedBy (result_err (opening files)) refusal))
    c.from_residual-in_err-leaves.result c.in_err-leaves.field-0.0 (err_from_is_err_and c.from_residual-in_err-leaves.result c.from_residual-in_err-leaves.ensures.1)
    (leaves_refused d c.shape-shape.result c.shape.inside.top c.len.result numbers c.shape-shape.ensures.shape top counted (g.H.Shelf.files c.args.shelf.now) c.in_err-leaves.field-0.0
    c.in_ok-conf.ensures.conf listed c.in_ok-judge_count.ensures
    (subst (λ o. IfSome o (λ fs. IsRefusedBy (slice_get (filter_map (leaf_refusal fs d) numbers) 0) c.in_err-leaves.field-0.0)) (c.shelf_leaves.ensures.kept ∙ c.read_conf.ensures.kept)
    (subst (λ xs. IfSome (g.H.Shelf.files c.shelf_leaves.new.shelf) (λ fs. IsRefusedBy (slice_get (filter_map (leaf_refusal fs d) xs) 0) c.in_err-leaves.field-0.0)) c.deref.ensures.value c.in_err-leaves.ensures.refused)))

pub returns-clause-opened : goal.returns-clause-opened
returns-clause-opened g c =
    let d = c.in_ok-conf.conf in
    let top : c.shape.inside.top ≡ d.shape.top = ap (λ s. s.top) c.shape.view_is ∙ ap (λ s. s.top) c.shape-shape.ensures.shape in
    let numbers = c.in_ok-numbers.numbers.items in
    let counted : c.len.result ≡ length numbers = omega arith in
    let listed = subst (λ o. IfSome o (λ fs. numbers ≡ leaves_on fs c.shape.inside.top)) c.read_conf.ensures.kept c.in_ok-numbers.ensures.listed in
    all_opened d c.shape-shape.result c.shape.inside.top c.len.result numbers c.shape-shape.ensures.shape top counted (g.H.Shelf.files c.args.shelf.now) c.in_ok-leaves.leaves
    c.in_ok-conf.ensures.conf listed c.in_ok-judge_count.ensures
    (subst (λ o. IfSome o (λ fs. filter_map (leaf_refusal fs d) numbers ≡ [])) (c.shelf_leaves.ensures.kept ∙ c.read_conf.ensures.kept)
    (subst (λ xs. IfSome (g.H.Shelf.files c.shelf_leaves.new.shelf) (λ fs. filter_map (leaf_refusal fs d) xs ≡ [])) c.deref.ensures.value c.in_ok-leaves.ensures.sound))
    (subst (λ o. IfSome o (λ fs. c.in_ok-leaves.leaves ≡ filter_map (leaf_tile fs d) numbers)) (c.shelf_leaves.ensures.kept ∙ c.read_conf.ensures.kept)
    (subst (λ xs. IfSome (g.H.Shelf.files c.shelf_leaves.new.shelf) (λ fs. c.in_ok-leaves.leaves ≡ filter_map (leaf_tile fs d) xs)) c.deref.ensures.value c.in_ok-leaves.ensures.tiles))

pub returns-clause-charge : goal.returns-clause-charge
returns-clause-charge g c =
    let short : length c.in_ok-leaves.leaves ≤ c.len.result = omega (arith, c.in_ok-leaves.ensures.count) in
    charge_within c.shape-shape.result c.in_ok-conf.conf.shape c.len.result c.in_ok-leaves.leaves c.shape-shape.ensures.shape c.in_ok-judge_count.ensures short c.in_ok-leaves.ensures.fits
