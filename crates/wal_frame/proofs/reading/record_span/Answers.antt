use Rattle.std.proofs.Common.{arith, rules, ◌≡◌, ◌+◌, ◌∙◌, refl, List, ℕ, sym, false, length, take}
use Rattle.wal_frame.specs.Reading.{ends_here, first_length}
use Rattle.wal_frame.proofs.Alone.{begins_as, head_is_enough, payload_is_enough, too_long}
use Rattle.wal_frame.proofs.reading.record_span.Goals as goal

pub returns-then-ends_here-clause-span : goal.returns-then-ends_here-clause-span
returns-then-ends_here-clause-span c = λ bytes front size. sym (c.if-ends_here.ensures.end bytes (begins_as bytes c.args.head.now front) size)

pub returns-then-length-length_at-clause-span : goal.returns-then-length-length_at-clause-span
returns-then-length-length_at-clause-span c = λ bytes front size.
    let on : ends_here bytes ≡ false = sym (c.if-ends_here.ensures.end bytes (begins_as bytes c.args.head.now front) size) in
    head_is_enough bytes c.args.head.now front on (λ same. c.if-length-length_at.true (c.length_at-length.ensures ∙ same ∙ sym c.length_at.ensures))

pub returns-then-length-most_payload-clause-span :
    goal.returns-then-length-most_payload-clause-span
returns-then-length-most_payload-clause-span c = λ bytes front size.
    let on : ends_here bytes ≡ false = sym (c.if-ends_here.ensures.end bytes (begins_as bytes c.args.head.now front) size) in
    (c.malformed_at.ensures, too_long bytes c.args.head.now front on c.args.shape (record { known = search rules; bitpix = search rules }) (omega (arith, c.if-length-most_payload.true, c.most_payload.ensures.length, c.length_at-length.ensures)))

pub returns-clause-span : goal.returns-clause-span
returns-clause-span c = λ bytes front size.
    let on : ends_here bytes ≡ false = sym (c.if-ends_here.ensures.end bytes (begins_as bytes c.args.head.now front) size) in
    let count : c.record_length.result ≡ 18 + first_length c.args.head.now = omega (arith, c.record_length.ensures.length, c.length_at-length.ensures) in
    rw count (payload_is_enough bytes c.args.head.now front on (sym c.length_at-length.ensures ∙ c.if-length-length_at.false ∙ c.length_at.ensures))

pub returns-clause-within : goal.returns-clause-within
returns-clause-within c =
    omega (arith, c.record_length.ensures.length, c.length_at-length.ensures, c.if-ends_here.ensures.whole refl (sym c.length_at-length.ensures ∙ c.if-length-length_at.false ∙ c.length_at.ensures))
