use Rattle.std.proofs.Common.{◌≡◌, ℕ, ◌+◌, ◌≤◌, ◌<◌, List, length, take, refl, ap, subst, sym, ◌∙◌, arith}
use Rattle.std.specs.Prelude.{slice_get, Some}
use Rattle.std.specs.Arc.{arc_value}
use Rattle.std.specs.List.{insert}
use Rattle.balanced_list.specs.Search.{leading}
use Rattle.hips_catalog.specs.Rows.{Source, is_better, placed}
use Rattle.hips_catalog.specs.Tiles.{sources, rows_at, HasNewRows}
use Rattle.hips_catalog.proofs.Places.{insert_placed}
use Rattle.hips_catalog.proofs.Full.{placed_length, insert_last, take_some, still_full}
use Rattle.hips_catalog.proofs.Listed.{leading_within}
use Rattle.hips_catalog.proofs.tile.offer_to.Goals as goal

at_end : (x : Source) (ss : List Source) (i n : ℕ) → i ≡ leading (λ s. is_better s x) ss → i ≡ n → length ss ≤ n → (take n (placed x ss) ≡ ss) × (slice_get (placed x ss) n ≡ Some x)
at_end x ss i n p e r =
    let w : leading (λ s. is_better s x) ss ≤ length ss = leading_within (λ s. is_better s x) ss in
    let l : length ss ≡ n = omega (arith, p, e, w, r) in
    let q : insert ss n x ≡ placed x ss = ap (λ m. insert ss m x) (sym e ∙ p) ∙ insert_placed x ss in
    let h = insert_last x ss n l in
    (ap (take n) (sym q) ∙ h.0, ap (λ ys. slice_get ys n) (sym q) ∙ h.1)

pub returns-then-i-room-clause-rows : goal.returns-then-i-room-clause-rows
returns-then-i-room-clause-rows c =
    sym (at_end (arc_value c.args.row) (rows_at c.args.tiles.now c.args.cell.order c.args.cell.npix) c.args.i c.args.room c.requires.place c.if-i-room.true c.requires.room).0

pub returns-then-i-room-clause-out : goal.returns-then-i-room-clause-out
returns-then-i-room-clause-out c =
    sym (at_end (arc_value c.args.row) (rows_at c.args.tiles.now c.args.cell.order c.args.cell.npix) c.args.i c.args.room c.requires.place c.if-i-room.true c.requires.room).1

pub put_among-last-requires-clause-place : goal.put_among-last-requires-clause-place
put_among-last-requires-clause-place c =
    c.requires.place ∙ ap (leading (λ s. is_better s (arc_value c.args.row))) c.lift-tile.ensures.rows

pub put_among-last-requires-clause-room : goal.put_among-last-requires-clause-room
put_among-last-requires-clause-room c =
    subst (λ ys. length ys ≤ c.args.room) c.lift-tile.ensures.rows c.requires.room

done : (c : goal.Joined-tile-2) → HasNewRows c.args.cell (sources c.put_among-last.new.rows) c.args.tiles.now c.swap.new.self
done c =
    subst (λ tiles. HasNewRows c.args.cell (sources c.put_among-last.new.rows) c.args.tiles.now tiles) (sym c.swap.ensures.items)
    (c.lift-tile.ensures.back (record { cell = c.lift-tile.result.cell; rows = c.put_among-last.new.rows }) refl)

pub returns-clause-rows : goal.returns-clause-rows
returns-clause-rows c =
    (done c).rows_are ∙ c.put_among-last.ensures.rows
    ∙ ap (λ ys. take c.args.room (placed (arc_value c.args.row) ys)) (sym c.lift-tile.ensures.rows)

pub returns-clause-out : goal.returns-clause-out
returns-clause-out c =
    c.put_among-last.ensures.out
    ∙ ap (λ ys. slice_get (placed (arc_value c.args.row) ys) c.args.room) (sym c.lift-tile.ensures.rows)

pub returns-clause-others : goal.returns-clause-others
returns-clause-others c = (done c).others

pub returns-clause-listed : goal.returns-clause-listed
returns-clause-listed c = (done c).listed

some_placed : (x : Source) (ss after : List Source) (n : ℕ) → 0 < n → after ≡ take n (placed x ss) → 0 < length after
some_placed x ss after n h e =
    let p : length (placed x ss) ≡ length ss + 1 = placed_length x ss in
    subst (λ ys. 0 < length ys) (sym e) (take_some n (placed x ss) h (omega (arith, p)))

pub returns-clause-full : goal.returns-clause-full
returns-clause-full c =
    still_full c.args.tiles.now c.swap.new.self c.args.cell.order c.args.cell.npix (done c).cells (done c).others
    (some_placed (arc_value c.args.row) (sources c.lift-tile.result.rows) _ c.args.room c.requires.some ((done c).rows_are ∙ c.put_among-last.ensures.rows))
