use Rattle.std.proofs.Common.{◌≡◌, ◌-◌, ◌++◌, ◌∙◌, take, length, arith, refl}
use Rattle.std.proofs.lemmas.List.{take-append-le}
use Rattle.survey_link.specs.Link.{parts_bytes}
use Rattle.memory_link.proofs.Room.{taken_is}
use Rattle.memory_link.proofs.mem_sink.MemSinkSink.write_parts.Goals as goal

pub returns-clause-given : goal.returns-clause-given
returns-clause-given c =
    let old = c.self.inside.bytes.items in
    let new = c.extend_within.new.bytes.items in
    let before : c.len-held.result ≡ length old = c.len-held.ensures ∙ c.self.inside.bytes.ok.0 in
    let after : c.len.result ≡ length new = c.len.ensures ∙ c.extend_within.new.bytes.ok.0 in
    let grown : new ≡ old ++ take (c.len.result - c.len-held.result) (parts_bytes c.args.parts) =
    rw (before, after) (taken_is c.self.inside.room old new (parts_bytes c.args.parts) (omega (arith, c.self.invariant.0, c.self.inside.bytes.ok.0)) c.extend_within.ensures.bytes) in
    let front : take c.self.inside.flush_end (old ++ take (c.len.result - c.len-held.result) (parts_bytes c.args.parts)) ≡ take c.self.inside.flush_end old =
    take-append-le c.self.inside.flush_end old _ (omega (arith, c.self.invariant.2, c.self.inside.bytes.ok.0)) in
    rw (← c.self.view_is, grown, front, c.in_ok-make_if.ensures.counted) refl
