use Rattle.std.proofs.Common.{◌≡◌, ℕ, ◌+◌, ◌≤◌, ◌<◌, List, length, take, ap, sym, ◌∙◌, arith}
use Rattle.std.proofs.lemmas.List.{take_all}
use Rattle.std.proofs.lemmas.Option.{slice_get_past, slice_get-get_or}
use Rattle.std.specs.Prelude.{slice_get, slice_index_or, Some, None}
use Rattle.std.specs.Arc.{arc_value}
use Rattle.std.specs.declared.sync.Arc.{Arc}
use Rattle.std.specs.declared.alloc.Global.{Global}
use Rattle.std.specs.List.{insert, remove}
use Rattle.balanced_list.specs.Search.{leading}
use Rattle.hips_catalog.specs.Rows.{Source, is_better, placed}
use Rattle.hips_catalog.specs.Tiles.{sources}
use Rattle.hips_catalog.proofs.Places.{insert_placed}
use Rattle.hips_catalog.proofs.Full.{placed_length, cut_last}
use Rattle.hips_catalog.proofs.Listed.{leading_within}
use Rattle.hips_catalog.proofs.Shared.{insert_map, remove_map, index_map, length_map}
use Rattle.hips_catalog.proofs.tile.put_among.Goals as goal

cut_rows : (x : Source) (ss after last : List Source) (n : ℕ) → after ≡ placed x ss → length ss ≤ n → n < length after → last ≡ remove after n → last ≡ take n (placed x ss)
cut_rows x ss after last n a r m e =
    let p : length (placed x ss) ≡ length ss + 1 = placed_length x ss in
    let l : length after ≡ length (placed x ss) = ap length a in
    e ∙ cut_last after n (omega (arith, p, l, r, m)) ∙ ap (take n) a

cut_out : (x y : Source) (ss after : List Source) (n : ℕ) → after ≡ placed x ss → n < length after → y ≡ slice_index_or after n y → Some y ≡ slice_get (placed x ss) n
cut_out x y ss after n a m e = ap Some e ∙ sym (slice_get-get_or after n y m) ∙ ap (λ ys. slice_get ys n) a

whole_rows : (x : Source) (ss after : List Source) (n : ℕ) → after ≡ placed x ss → length after ≤ n → (after ≡ take n (placed x ss)) × (None ≡ slice_get (placed x ss) n)
whole_rows x ss after n a m = (sym (take_all n after m) ∙ ap (take n) a, sym (slice_get_past after n m) ∙ ap (λ ys. slice_get ys n) a)

-- what the rows are once the row is among them
grown : (rows after : List (Arc Source Global)) (row : Arc Source Global) (i : ℕ) → after ≡ insert rows i row → i ≡ leading (λ s. is_better s (arc_value row)) (sources rows) →
    sources after ≡ placed (arc_value row) (sources rows)
grown rows after row i e p =
    ap sources e ∙ insert_map arc_value rows i row ∙ ap (λ m. insert (sources rows) m (arc_value row)) p ∙ insert_placed (arc_value row) (sources rows)

longer : (rows : List (Arc Source Global)) (count n : ℕ) → count ≡ length rows → n < count → n < length (sources rows)
longer rows count n e h = let l : length (sources rows) ≡ length rows = length_map arc_value rows in omega (arith, e, l, h)

no_longer : (rows : List (Arc Source Global)) (count n : ℕ) → count ≡ length rows → count ≤ n → length (sources rows) ≤ n
no_longer rows count n e h = let l : length (sources rows) ≡ length rows = length_map arc_value rows in omega (arith, e, l, h)

pub insert-requires-clause-place : goal.insert-requires-clause-place
insert-requires-clause-place c =
    let p : c.args.i ≡ leading (λ s. is_better s (arc_value c.args.row)) (sources c.args.rows.now) = c.requires.place in
    let w : leading (λ s. is_better s (arc_value c.args.row)) (sources c.args.rows.now) ≤ length (sources c.args.rows.now) = leading_within (λ s. is_better s (arc_value c.args.row)) (sources c.args.rows.now) in
    let l : length (sources c.args.rows.now) ≡ length c.args.rows.now = length_map arc_value c.args.rows.now in
    omega (arith, p, w, l)

pub returns-then-len-room-clause-rows : goal.returns-then-len-room-clause-rows
returns-then-len-room-clause-rows c =
    cut_rows (arc_value c.args.row) (sources c.args.rows.now) (sources c.insert.new.self) (sources c.remove.new.self) c.args.room
    (grown c.args.rows.now c.insert.new.self c.args.row c.args.i c.insert.ensures c.requires.place) c.requires.room (longer c.insert.new.self c.len.result c.args.room c.len.ensures c.if-len-room.true)
    (ap sources c.remove.ensures.items ∙ remove_map arc_value c.insert.new.self c.args.room)

pub returns-then-len-room-clause-out : goal.returns-then-len-room-clause-out
returns-then-len-room-clause-out c =
    cut_out (arc_value c.args.row) (arc_value c.remove.result) (sources c.args.rows.now) (sources c.insert.new.self) c.args.room
    (grown c.args.rows.now c.insert.new.self c.args.row c.args.i c.insert.ensures c.requires.place) (longer c.insert.new.self c.len.result c.args.room c.len.ensures c.if-len-room.true)
    (ap arc_value c.remove.ensures.item ∙ sym (index_map arc_value c.insert.new.self c.args.room c.remove.result))

pub returns-else-len-room-clause-rows : goal.returns-else-len-room-clause-rows
returns-else-len-room-clause-rows c =
    (whole_rows (arc_value c.args.row) (sources c.args.rows.now) (sources c.insert.new.self) c.args.room
    (grown c.args.rows.now c.insert.new.self c.args.row c.args.i c.insert.ensures c.requires.place) (no_longer c.insert.new.self c.len.result c.args.room c.len.ensures c.if-len-room.false)).0

pub returns-else-len-room-clause-out : goal.returns-else-len-room-clause-out
returns-else-len-room-clause-out c =
    (whole_rows (arc_value c.args.row) (sources c.args.rows.now) (sources c.insert.new.self) c.args.room
    (grown c.args.rows.now c.insert.new.self c.args.row c.args.i c.insert.ensures c.requires.place) (no_longer c.insert.new.self c.len.result c.args.room c.len.ensures c.if-len-room.false)).1
