use Rattle.std.proofs.Common.{arith, ◌≡◌, ◌≤◌, length, sym, ap, length-append}
use Rattle.percent_encoding.specs.Percent.{percent_decode}
use Rattle.percent_encoding.proofs.PercentLemmas.{length-percent_decode}
use Rattle.http_frame.proofs.frame.decode.Goals as goal

pub push_reserved-requires : goal.push_reserved-requires
push_reserved-requires c =
    let shorter : length (percent_decode c.args.encoded.now) ≤ length c.args.encoded.now = (length-percent_decode c.args.encoded.now).0 in
    let whole = ap length c.loop-byte.invariant.decoded in
    let parts = length-append c.loop-byte.path.items (percent_decode c.loop-byte.byte-iterator.bytes.now) in
    let step = ap length c.in-Some.ensures.steps in
    let count : length c.loop-byte.path.items ≡ c.loop-byte.path.len = sym c.loop-byte.path.ok.0 in
    omega (arith, shorter, whole, parts, step, count, c.requires, c.loop-byte.invariant.capacity, c.clear.ensures.capacity)
