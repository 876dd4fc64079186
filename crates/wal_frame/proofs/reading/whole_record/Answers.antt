use Rattle.std.proofs.Common.{refl, ap, take, drop, List, ℕ, ◌∙◌}
use Rattle.std.proofs.lemmas.List.{take_rest}
use Rattle.wal_frame.specs.Told.{record_of}
use Rattle.wal_frame.proofs.Records.{whole_in_steps}
use Rattle.wal_frame.proofs.reading.whole_record.Goals as goal

pub returns : goal.returns
returns c =
    let n : ℕ = c.length_at-length.result in
    let behind = take_rest c.args.bytes.now 18 in
    whole_in_steps c.args.shape c.args.bytes.now c.split_at.result.0.now c.split_at.result.1.now n c.length_at.result _ (record_of c.in_ok-record.record)
    c.length_at-length.ensures c.length_at.ensures c.if-length-length_at.false refl (c.split_at.ensures.front ∙ ap (λ (t : List ℕ). take n t) behind) (c.split_at.ensures.back ∙ ap (λ (t : List ℕ). drop n t) behind) c.in_ok-record.ensures
