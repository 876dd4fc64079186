use Rattle.std.proofs.Common.{◌≡◌, ℕ, ◌+◌, ◌-◌, drop, ◌∙◌, subst, sym, arith}
use Rattle.std.specs.Prelude.{All, IfSome, IsSome, Some, slice_get}
use Rattle.std.specs.FinMap.{get}
use Rattle.tile_path.specs.Spelling.{spelling}
use Rattle.generation.specs.Files.{paths_in, files_in}
use Rattle.shelf_io.specs.Writing.{with_paths}
use Rattle.shelf_io.proofs.WriteLemmas.{written_next, there_next, others_trans}
use Rattle.shelf_io.proofs.exporting.write_all.Goals as goal

pub loop-i-preserved : goal.loop-i-preserved
loop-i-preserved g c =
    let start = g.H.Shelf.files c.args.shelf.now in
    let old = g.H.Shelf.files c.loop-i.shelf in
    let survey = files_in c.args.generation.now in
    let paths = paths_in c.args.generation.now in
    let same : c.loop-i.i ≡ c.loop-i.i - 1 + 1 = omega arith in
    let at : slice_get paths (c.loop-i.i - 1) ≡ Some c.unwrap-path.result = sym c.path.ensures.path ∙ c.unwrap-path.ensures in
    record {
      written = written_next survey paths (c.loop-i.i - 1) c.unwrap-path.result start old (g.H.Shelf.files c.settle_file.new.shelf) at
          (subst (λ n. old ≡ with_paths survey (drop n paths) start) same c.loop-i.invariant.written) c.in_ok-settle_file.ensures.written;
      there = there_next survey paths (c.loop-i.i - 1) c.unwrap-path.result at
          (subst (λ o. IfSome o (λ path. IsSome (get survey (spelling path)))) c.unwrap-path.ensures c.path.ensures.there)
          (let P : ℕ → Type 0 = λ n. All (λ path. IsSome (get survey (spelling path))) (drop n paths) in subst P same c.loop-i.invariant.there);
      others = others_trans start old (g.H.Shelf.files c.settle_file.new.shelf) c.loop-i.invariant.others c.settle_file.ensures.others;
      faults = c.in_ok-settle_file.ensures.faults ∙ c.loop-i.invariant.faults;
      below = omega (arith, c.loop-i.invariant.below);
      room = c.loop-i.invariant.room;
    }
