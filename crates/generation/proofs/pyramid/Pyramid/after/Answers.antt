use Rattle.std.proofs.Common.{subst, sym}
use Rattle.generation.specs.Files.{leaf_map}
use Rattle.generation.specs.Kept.{AllKept, AllStood, SameBut}
use Rattle.generation.proofs.Pyramids.{fits_shape, kept_after}
use Rattle.generation.proofs.Stood.{stood_after}
use Rattle.generation.proofs.pyramid.Pyramid.after.Goals as goal

pub levels_above-requires-clause-numbers : goal.levels_above-requires-clause-numbers
levels_above-requires-clause-numbers g c κs within =
    fits_shape c.self.inside.shape c.args.changes.leaves (rw (← c.self.view_is) at c.requires.fits) c.requires.tiles

pub levels_above-requires-clause-before : goal.levels_above-requires-clause-before
levels_above-requires-clause-before g c κs within =
    let shape = c.self.inside.shape in
    let new = c.args.changes.leaves in
    let same : SameBut c.args.changes.touched.items c.self.inside.leaves new = rw (← c.self.view_is) at c.requires.same in
    let kept : AllKept shape (leaf_map new) c.args.changes.touched.items c.self.inside.levels.items =
    kept_after shape c.self.inside.leaves new c.args.changes.touched.items c.self.invariant.known
    (fits_shape shape new (rw (← c.self.view_is) at c.requires.fits) c.requires.tiles) same c.self.inside.levels.items c.self.invariant.levels_are in
    subst (λ touched. AllKept shape (leaf_map new) touched c.deref.result.now) (sym c.deref-2.ensures.value)
    (subst (λ levels. AllKept shape (leaf_map new) c.args.changes.touched.items levels) (sym c.deref.ensures.value) kept)

pub levels_above-requires-clause-stood : goal.levels_above-requires-clause-stood
levels_above-requires-clause-stood g c κs within =
    let shape = c.self.inside.shape in
    let new = c.args.changes.leaves in
    let same : SameBut c.args.changes.touched.items c.self.inside.leaves new = rw (← c.self.view_is) at c.requires.same in
    let stood : AllStood shape (leaf_map new) c.args.changes.touched.items c.self.inside.levels.items =
    stood_after shape c.self.inside.leaves new c.args.changes.touched.items c.self.inside.levels.items c.self.invariant.known c.self.invariant.numbers
    (fits_shape shape new (rw (← c.self.view_is) at c.requires.fits) c.requires.tiles) same c.self.invariant.levels_are in
    subst (λ touched. AllStood shape (leaf_map new) touched c.deref.result.now) (sym c.deref-2.ensures.value)
    (subst (λ levels. AllStood shape (leaf_map new) c.args.changes.touched.items levels) (sym c.deref.ensures.value) stood)

pub invariant_of-result : goal.invariant_of-result
invariant_of-result g c =
    let fits = rw (← c.self.view_is) at c.requires.fits in
    record {
      known = c.self.invariant.known;
      fits = fits;
      numbers = fits_shape c.self.inside.shape c.args.changes.leaves fits c.requires.tiles;
      tiles = c.requires.tiles;
      levels_are = c.in_ok-levels.ensures.levels;
    }
