use Rattle.std.proofs.Common.{◌≡◌, ◌||◌, Bool, true, false, IsTrue, ◌∙◌, refl, below_more}
use Rattle.tile_pixels.proofs.means.holds.Goals as goal

neither : (a b : Bool) → (a || b) ≡ false → (a ≡ false) × (b ≡ false)
neither true b e = cc
neither false b e = (refl, e)

not_true : (b : Bool) → b ≡ false → IsTrue b → ⊥
not_true true e h = cc
not_true false e h = cc

pub loop-place-preserved : goal.loop-place-preserved
loop-place-preserved g c = λ none.
    let parts : (c.loop-place.found ≡ false) × (c.same-found.result ≡ false) = neither c.loop-place.found c.same-found.result none in
    below_more _ _ (c.loop-place.invariant parts.0) (λ e. not_true c.same-found.result parts.1 (c.same-found.ensures.1 (c.read.ensures ∙ e)))
