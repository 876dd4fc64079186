use Rattle.std.proofs.Common.{◌≡◌, refl, None}
use Rattle.std.specs.FinMap.{get}
use Rattle.generation.specs.Files.{leaf_map, files_in}
use Rattle.generation.proofs.NoFile.{no_file}
use Rattle.past_session.proofs.file.send_file.Goals as goal

pub returns-in-None-clause-sends : goal.returns-in-None-clause-sends
returns-in-None-clause-sends g c =
    let generation = c.args.generation.now in
    let kept = rw (c.deref.ensures, c.conf.ensures.conf) at c.shape-orders.ensures.kept in
    let none : get (files_in generation) c.args.path.now ≡ None
    = no_file generation.conf (leaf_map generation.leaves) c.args.path.now kept.shape.greatest_top kept.shape.low_order (λ path known spelled. c.in-None.ensures.none refl path known spelled) in
    rw none c.send_absent.ensures.sends

pub returns-in-None-clause-fails : goal.returns-in-None-clause-fails
returns-in-None-clause-fails g c =
    let generation = c.args.generation.now in
    let kept = rw (c.deref.ensures, c.conf.ensures.conf) at c.shape-orders.ensures.kept in
    let none : get (files_in generation) c.args.path.now ≡ None
    = no_file generation.conf (leaf_map generation.leaves) c.args.path.now kept.shape.greatest_top kept.shape.low_order (λ path known spelled. c.in-None.ensures.none refl path known spelled) in
    rw none c.send_absent.ensures.fails
