use Rattle.std.proofs.Common.{◌≡◌, List, ℕ, ◌++◌, sym, ap, subst, ◌∙◌}
use Rattle.allsky_mosaic.specs.Patch.{WasMosaic}
use Rattle.allsky_mosaic.proofs.patching.patch.Goals as goal

pub patch_in_place-requires-clause-old : goal.patch_in_place-requires-clause-old
patch_in_place-requires-clause-old c =
    let copy : c.deref_mut.result.now ≡ c.args.old.now = c.deref_mut.ensures.value ∙ c.in_ok-extend_from_slice.ensures.items ∙ ap (λ (bytes : List ℕ). bytes ++ c.args.old.now) c.in_ok-raw.ensures.items in
    subst (WasMosaic c.args.depth c.args.n c.args.touched.now c.args.tiles.now) (sym copy) c.requires.old
