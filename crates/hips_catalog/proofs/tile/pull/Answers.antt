use Rattle.std.proofs.Common.{◌≡◌, ℕ, ◌+◌, ◌<◌, List, [], ◌∷◌, length, refl, ap, subst, sym, ◌∙◌, arith}
use Rattle.std.specs.Prelude.{slice_get, IsSome}
use Rattle.std.specs.Arc.{arc_value}
use Rattle.hips_catalog.specs.Rows.{Source}
use Rattle.hips_catalog.specs.Tiles.{rows_at}
use Rattle.hips_catalog.proofs.Full.{insert_some, still_full_two}
use Rattle.hips_catalog.proofs.tile.pull.Goals as goal

no_first : (ss : List Source) → ss ≡ [] → IsSome (slice_get ss 0) → ⊥
no_first ss e h = let g : IsSome {T = Source} (slice_get {X = Source} [] 0) = subst (λ ys. IsSome (slice_get ys 0)) e h in absurd (grind (arith, g))

has_some : (ss : List Source) → IsSome (slice_get ss 0) → 0 < length ss
has_some [] h = absurd (no_first [] refl h)
has_some (s ∷ ss) h = omega arith

deeper : (j k : ℕ) (P : Type 0) → j ≡ k + 1 → ¬ ((j ≡ k) × P)
deeper j k P e h = let f : j ≡ k = h.0 in absurd (omega (arith, e, f))

higher : (j k : ℕ) (P : Type 0) → j ≡ k + 1 → ¬ ((k ≡ j) × P)
higher j k P e h = let f : k ≡ j = h.0 in absurd (omega (arith, e, f))

pub with_place-upper-requires-clause-some : goal.with_place-upper-requires-clause-some
with_place-upper-requires-clause-some c = let h : c.args.i < length (rows_at c.args.tiles.now c.args.cell.order c.args.cell.npix) = c.requires.place in omega (arith, h)

pub with_place-lower-requires-clause-some : goal.with_place-lower-requires-clause-some
with_place-lower-requires-clause-some c = has_some (rows_at c.args.tiles.now c.args.child.order c.args.child.npix) c.requires.first

pub exchange-best-requires-clause-some : goal.exchange-best-requires-clause-some
exchange-best-requires-clause-some c =
    let e = c.take-dead.ensures.others c.args.child.order c.args.child.npix (deeper c.args.child.order c.args.cell.order (c.args.child.npix ≡ c.args.cell.npix) c.requires.orders) in
    subst (λ ys. 0 < length ys) (sym e) (has_some (rows_at c.args.tiles.now c.args.child.order c.args.child.npix) c.requires.first)

pub returns-clause-full : goal.returns-clause-full
returns-clause-full c =
    let apart = deeper c.args.child.order c.args.cell.order (c.args.child.npix ≡ c.args.cell.npix) c.requires.orders in
    still_full_two c.args.tiles.now c.put.new.tiles c.args.cell c.args.child
    (c.put.ensures.cells ∙ c.exchange-best.ensures.cells ∙ c.take-dead.ensures.cells)
    (λ j q n m. c.put.ensures.others j q n ∙ c.exchange-best.ensures.others j q m ∙ c.take-dead.ensures.others j q n)
    (subst (λ ys. 0 < length ys) (sym c.put.ensures.rows) (insert_some _ _ (arc_value c.exchange-best.result)))
    (subst (λ ys. 0 < length ys) (sym (c.put.ensures.others c.args.child.order c.args.child.npix apart ∙ c.exchange-best.ensures.rows)) (omega arith))
