use Rattle.std.proofs.Common.{refl}
use Rattle.hips_mirror.proofs.MirrorLemmas.{mirror_copied, mirror_steps, mirror_last, shelf_refused, shelf_touched, shelf_alone}
use Rattle.hips_mirror.proofs.OrderLemmas.{whole_anyhow}
use Rattle.hips_mirror.proofs.copying.mirror.Goals as goal

pub returns-in-Ok-clause-copied : goal.returns-in-Ok-clause-copied
returns-in-Ok-clause-copied g c =
    mirror_copied c.in-Ok.generation (g.S.Source.left c.args.src.now) (g.K.Sink.held c.args.sink.now) (g.K.Sink.held c.copy.new.sink) c.in-Ok.ensures.copied c.in-Ok.ensures.sent
    c.put_files.result _ _ _ _ c.put_files.ensures.count c.put_files.ensures.replaced c.in-Ok.ensures.few

pub returns-in-Ok-clause-refused : goal.returns-in-Ok-clause-refused
returns-in-Ok-clause-refused g c = shelf_refused (g.S.Source.left c.args.src.now) c.put_files.result c.put_files.ensures.refused

pub returns-in-Ok-clause-untouched : goal.returns-in-Ok-clause-untouched
returns-in-Ok-clause-untouched g c = shelf_touched _ _ c.put_files.result c.put_files.ensures.refused

pub returns-in-Ok-clause-last : goal.returns-in-Ok-clause-last
returns-in-Ok-clause-last g c =
    mirror_last c.in-Ok.generation (g.S.Source.left c.args.src.now) (g.K.Sink.held c.args.sink.now) (g.K.Sink.held c.copy.new.sink) c.in-Ok.ensures.copied c.in-Ok.ensures.sent
    c.put_files.result _ _ c.put_files.ensures.others

pub returns-in-Ok-clause-steps : goal.returns-in-Ok-clause-steps
returns-in-Ok-clause-steps g c =
    mirror_steps c.in-Ok.generation (g.S.Source.left c.args.src.now) (g.K.Sink.held c.args.sink.now) (g.K.Sink.held c.copy.new.sink) c.in-Ok.ensures.copied c.in-Ok.ensures.sent
    c.put_files.result _ _ c.in-Ok.ensures.few

pub returns-in-Ok-clause-order : goal.returns-in-Ok-clause-order
returns-in-Ok-clause-order g c = (c.in-Ok.ensures.order.0, whole_anyhow g.S.Source g.K.Sink _ _ c.put_files.result c.in-Ok.ensures.order.1)

pub returns-in-Ok-clause-read_fault : goal.returns-in-Ok-clause-read_fault
returns-in-Ok-clause-read_fault g c = rw (shelf_alone c.put_files.result c.put_files.ensures.refused).0 c.in-Ok.ensures.read_fault

pub returns-in-Ok-clause-write_fault : goal.returns-in-Ok-clause-write_fault
returns-in-Ok-clause-write_fault g c = rw (shelf_alone c.put_files.result c.put_files.ensures.refused).1 c.in-Ok.ensures.write_fault

pub returns-in-Err-clause-shelf_fault : goal.returns-in-Err-clause-shelf_fault
returns-in-Err-clause-shelf_fault g c = rw c.in-Err.ensures.no_shelf refl
