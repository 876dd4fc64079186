use Rattle.std.proofs.Common.{◌∙◌, ◌⊎◌, inl, inr, ℕ, ◌+◌, ◌*◌, ◌^◌, ◌<◌, ◌≤◌, ◌&&◌, ◌||◌, ltb, List, Vec, Global, take, get_or, sym, ap, subst, take_all, true≢false}
use Rattle.std.proofs.lemmas.Bool.{cases_lt}
use Rattle.healpix_nested.specs.Cells.{uniq_number}
use Rattle.coverage_moc.specs.Cover.{has, IsAscending}
use Rattle.coverage_moc.proofs.LeafLemmas.{OwnUpTo, own_none, own_more, own_other}
use Rattle.coverage_moc.proofs.leaves.put_own.Goals as goal
use Rattle.coverage_moc.proofs.leaves.put_own.Goals.{then-own+in_ok-put_row, else-own}

pub loop-row-init : goal.loop-row-init
loop-row-init c = (c.requires.ascending, own_none c.args.order c.args.rows.now c.args.under.now.items)

pub loop-row-preserved : goal.loop-row-preserved
loop-row-preserved c =
    let first = c.first_number-first.result in
    let row = get_or c.args.rows.now c.loop-row.row-index 0 in
    let Kept : Vec ℕ Global → Type 0 = λ v. IsAscending v.items × OwnUpTo c.args.order (take (c.loop-row.row-index + 1) c.args.rows.now) c.args.under.now.items v.items in
    elim c.if-own.branch [
      | then-own+in_ok-put_row w ↦
          let between = c.is_between-own.ensures.0 w.if-own.true in
          subst Kept (sym w.under-is) (
            w.in_ok-put_row.ensures.ascending,
            own_more c.args.order first c.args.rows.now c.args.under.now.items c.loop-row.under.items w.put_row.new.rows.items c.loop-row.row-index c.first_number-first.ensures.number c.loop-row-test.true between.0 between.1 w.in_ok-put_row.ensures.put c.loop-row.invariant.1,
          )
      | else-own w ↦
          let out : (row < first) ⊎ (4 * first ≤ row) = elim (cases_lt row first) [
            | inl lt ↦ inl lt
            | inr ge ↦ elim (cases_lt row (4 * first)) [
              | inl lt ↦ absurd (true≢false (sym (c.is_between-own.ensures.1 (ge, lt)) ∙ w.if-own.false))
              | inr past ↦ inr past
            ]
          ] in
          subst Kept (sym w.under-is) (
            c.loop-row.invariant.0,
            own_other c.args.order first c.args.rows.now c.args.under.now.items c.loop-row.under.items c.loop-row.row-index c.first_number-first.ensures.number c.loop-row-test.true out c.loop-row.invariant.1,
          )
    ]

pub returns-clause-own : goal.returns-clause-own
returns-clause-own c = λ p.
    c.loop-row.invariant.1 p
    ∙ ap (λ (zs : List ℕ). has c.args.under.now.items p || (ltb p (12 * 4 ^ c.args.order) && has zs (uniq_number c.args.order p))) (take_all c.loop-row.row-index c.args.rows.now c.loop-row-test.false)
