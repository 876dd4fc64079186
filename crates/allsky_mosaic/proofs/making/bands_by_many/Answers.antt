use Rattle.std.proofs.Common.{◌≡◌, ◌-◌, ◌<◌, List, ℕ, Vec, Global, get_or, length, ap, sym, ◌∙◌, subst, arith}
use Rattle.std.specs.Prelude.{IfOk}
use Rattle.std.proofs.lemmas.Result.{IfOk-at_ok}
use Rattle.allsky_mosaic.specs.Cells.{AreBands}
use Rattle.allsky_mosaic.proofs.BandLemmas.{two_runs}
use Rattle.allsky_mosaic.proofs.making.bands_by_many.Goals as goal

pub loop-next-preserved : goal.loop-next-preserved
loop-next-preserved g c =
    let up : ℕ = c.loop-next.next-index in
    let long : length c.deref-next-items.result.now ≡ 29 = c.deref-next-items.ensures.len ∙ c.in_ok-made.ensures.count in
    let within : up < 29 = omega arith in
    let item = c.next-item.result in
    let P = λ (band : Vec ℕ Global). AreBands c.args.form.now.depth c.args.form.now.n c.args.tiles.now (28 - up) 1 band.items in
    let Q : List ℕ → Type 0 = λ bytes. AreBands c.args.form.now.depth c.args.form.now.n c.args.tiles.now (28 - up) 1 bytes in
    let is = c.next-item.is ∙ ap (λ xs. get_or xs up item) c.deref-next-items.ensures.value in
    let made : IfOk item P = subst (λ r. IfOk r P) (sym is) (c.in_ok-made.ensures.bands up item within) in
    two_runs c.args.form.now.depth c.args.form.now.n 28 up 1 c.args.tiles.now c.loop-next.raw.items c.deref.result.now c.extend_from_slice.new.self.items c.requires.tiles.known c.in_ok-extend_from_slice-in-Ok.ensures.items c.loop-next.invariant
    (subst Q (sym c.deref.ensures.value) (IfOk-at_ok P c.in-Ok.is made))

pub returns : goal.returns
returns g c =
    let long : length c.deref-next-items.result.now ≡ 29 = c.deref-next-items.ensures.len ∙ c.in_ok-made.ensures.count in
    let all : c.loop-next.next-index ≡ 29 = omega arith in
    let P : ℕ → Type 0 = λ count. AreBands c.args.form.now.depth c.args.form.now.n c.args.tiles.now 28 count c.loop-next.raw.items in
    subst P all c.loop-next.invariant
