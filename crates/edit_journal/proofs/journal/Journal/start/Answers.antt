use Rattle.std.proofs.Common.{◌≡◌, ℕ, ◌≤◌, ◌<◌, ◌*◌, ◌^◌, ◌-◌, [], min, length, sym, ap, ◌∙◌, subst, arith}
use Rattle.std.specs.Arc.{arc_value}
use Rattle.std.proofs.lemmas.Result.{err_from_is_err_and}
use Rattle.edit_journal.specs.Leaves.{charge_of}
use Rattle.edit_journal.specs.Faults.{most_charge}
use Rattle.edit_journal.proofs.CheckLemmas.{charge_of_all}
use Rattle.edit_journal.proofs.KeptLemmas.{kept_start}
use Rattle.edit_journal.proofs.journal.Journal.start.Goals as goal

-- the charge as it is counted
counted : (count each len charge all : ℕ) → count ≡ len → charge ≡ min (count * each) (2 ^ 64 - 1) → all ≡ len * each → charge ≡ min all (2 ^ 64 - 1)
counted count each len charge all is_count is_charge is_all = is_charge ∙ ap (λ n. min (n * each) (2 ^ 64 - 1)) is_count ∙ ap (λ n. min n (2 ^ 64 - 1)) (sym is_all)

pub returns-then-charge-gt-MOST_CHARGE-clause-refused : goal.returns-then-charge-gt-MOST_CHARGE-clause-refused
returns-then-charge-gt-MOST_CHARGE-clause-refused c =
    let all : charge_of c.args.leaves [] ≡ length c.args.leaves * c.leaf_charge.result = charge_of_all c.args.shape c.args.leaves c.leaf_charge.result c.leaf_charge.ensures.tiles c.requires.fits.tiles in
    let charge : c.saturating_mul-charge.result ≡ min (charge_of c.args.leaves []) (2 ^ 64 - 1) = counted c.len.result c.leaf_charge.result (length c.args.leaves) c.saturating_mul-charge.result (charge_of c.args.leaves []) c.len.ensures.pairs c.saturating_mul-charge.ensures all in
    (omega arith, c.len-then-charge-gt-MOST_CHARGE.ensures.pairs)

pub returns-in_err-new-clause-refused : goal.returns-in_err-new-clause-refused
returns-in_err-new-clause-refused c =
    let all : charge_of c.args.leaves [] ≡ length c.args.leaves * c.leaf_charge.result = charge_of_all c.args.shape c.args.leaves c.leaf_charge.result c.leaf_charge.ensures.tiles c.requires.fits.tiles in
    let charge : c.saturating_mul-charge.result ≡ min (charge_of c.args.leaves []) (2 ^ 64 - 1) = counted c.len.result c.leaf_charge.result (length c.args.leaves) c.saturating_mul-charge.result (charge_of c.args.leaves []) c.len.ensures.pairs c.saturating_mul-charge.ensures all in
    let small : charge_of c.args.leaves [] ≤ most_charge = omega arith in
    let p = err_from_is_err_and c.from_residual.result c.from_residual.ensures.1 in rw (p.1, p.2) small

pub returns-in_err-share-clause-refused : goal.returns-in_err-share-clause-refused
returns-in_err-share-clause-refused c =
    let all : charge_of c.args.leaves [] ≡ length c.args.leaves * c.leaf_charge.result = charge_of_all c.args.shape c.args.leaves c.leaf_charge.result c.leaf_charge.ensures.tiles c.requires.fits.tiles in
    let charge : c.saturating_mul-charge.result ≡ min (charge_of c.args.leaves []) (2 ^ 64 - 1) = counted c.len.result c.leaf_charge.result (length c.args.leaves) c.saturating_mul-charge.result (charge_of c.args.leaves []) c.len.ensures.pairs c.saturating_mul-charge.ensures all in
    let small : charge_of c.args.leaves [] ≤ most_charge = omega arith in
    let p = err_from_is_err_and c.from_residual-in_err-share.result c.from_residual-in_err-share.ensures.1 in rw (p.1, p.2) small

pub returns-in_err-opening-clause-refused : goal.returns-in_err-opening-clause-refused
returns-in_err-opening-clause-refused c =
    let all : charge_of c.args.leaves [] ≡ length c.args.leaves * c.leaf_charge.result = charge_of_all c.args.shape c.args.leaves c.leaf_charge.result c.leaf_charge.ensures.tiles c.requires.fits.tiles in
    let charge : c.saturating_mul-charge.result ≡ min (charge_of c.args.leaves []) (2 ^ 64 - 1) = counted c.len.result c.leaf_charge.result (length c.args.leaves) c.saturating_mul-charge.result (charge_of c.args.leaves []) c.len.ensures.pairs c.saturating_mul-charge.ensures all in
    let small : charge_of c.args.leaves [] ≤ most_charge = omega arith in
    let p = err_from_is_err_and c.from_residual-in_err-opening.result c.from_residual-in_err-opening.ensures.1 in rw (p.1, p.2) small

pub invariant_of-result : goal.invariant_of-result
invariant_of-result c =
    let all : charge_of c.args.leaves [] ≡ length c.args.leaves * c.leaf_charge.result = charge_of_all c.args.shape c.args.leaves c.leaf_charge.result c.leaf_charge.ensures.tiles c.requires.fits.tiles in
    let charge : c.saturating_mul-charge.result ≡ min (charge_of c.args.leaves []) (2 ^ 64 - 1) = counted c.len.result c.leaf_charge.result (length c.args.leaves) c.saturating_mul-charge.result (charge_of c.args.leaves []) c.len.ensures.pairs c.saturating_mul-charge.ensures all in
    kept_start c.args.shape c.args.leaves (arc_value c.in_ok-opening.opening) c.in_ok-new.field-0 c.in_ok-share.field-0 c.saturating_mul-charge.result c.in_ok-opening.ensures c.in_ok-new.ensures c.in_ok-share.ensures.same c.requires.fits (omega arith) (omega arith)

pub returns-clause-charge : goal.returns-clause-charge
returns-clause-charge c =
    let all : charge_of c.args.leaves [] ≡ length c.args.leaves * c.leaf_charge.result = charge_of_all c.args.shape c.args.leaves c.leaf_charge.result c.leaf_charge.ensures.tiles c.requires.fits.tiles in
    let charge : c.saturating_mul-charge.result ≡ min (charge_of c.args.leaves []) (2 ^ 64 - 1) = counted c.len.result c.leaf_charge.result (length c.args.leaves) c.saturating_mul-charge.result (charge_of c.args.leaves []) c.len.ensures.pairs c.saturating_mul-charge.ensures all in
    omega arith
