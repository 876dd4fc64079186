use Rattle.std.proofs.Common.{◌≡◌, ◌+◌, ◌++◌, [], take, get_or, arith, ◌∙◌}
use Rattle.std.proofs.lemmas.Grind.{common_steps}
use Rattle.survey_link.specs.Link.{parts_bytes}
use Rattle.memory_link.proofs.Room.{fits_step}
use Rattle.memory_link.proofs.mem_sink.extend_within.Goals as goal

pub loop-part-preserved : goal.loop-part-preserved
loop-part-preserved c =
    let i = c.loop-part.part-index in
    let next : parts_bytes (take (i + 1) c.args.parts) ≡ parts_bytes (take i c.args.parts) ++ (get_or c.args.parts i (record { ref_ptr = (0, 0); now = [] })).now = grind (arith, common_steps) in
    let items = rw c.unwrap.ensures at c.extend_from_slice.ensures.items in
    record {
      bytes = rw next (fits_step c.args.room c.args.bytes.now.items (parts_bytes (take i c.args.parts)) _ c.loop-part.bytes.items _ c.len.result c.min-count.result
          c.loop-part.invariant.bytes (c.len.ensures ∙ c.loop-part.bytes.ok.0) c.min-count.ensures items);
      held = grind (arith, common_steps);
      capacity = grind (arith, common_steps);
    }
