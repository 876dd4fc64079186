use Rattle.std.proofs.Common.{◌≡◌, ◌<◌, ◌≤◌, ◌+◌, ◌*◌, ◌^◌, ◌-◌, subst, arith}
use Rattle.hips_catalog.proofs.Heads.{with_one_more, has_room}
use Rattle.hips_catalog.proofs.headed_row.+head_on.Goals as goal

pub overflow_mul-before : goal.overflow_mul-before
overflow_mul-before t c =
    let some : 0 < c.args.count = omega (arith, c.if-count-eq0.false) in
    let room : c.args.before * 256 + 0 < 2 ^ 64 = has_room (c.args.before * 256 + 0) (c.args.count - 1) (with_one_more c.args.before 0 c.args.count some (omega arith) c.requires.fits) in
    omega (arith, room)

pub overflow_add-before : goal.overflow_add-before
overflow_add-before t c =
    let some : 0 < c.args.count = omega (arith, c.if-count-eq0.false) in
    let byte : c.from.result < 256 = omega (arith, c.from.ensures) in
    let room : c.args.before * 256 + c.from.result < 2 ^ 64 = has_room (c.args.before * 256 + c.from.result) (c.args.count - 1) (with_one_more c.args.before c.from.result c.args.count some byte c.requires.fits) in
    omega (arith, room)

pub head_on-requires : goal.head_on-requires
head_on-requires t c =
    let some : 0 < c.args.count = omega (arith, c.if-count-eq0.false) in
    let byte : c.from.result < 256 = omega (arith, c.from.ensures) in
    (omega (arith, some, c.decreases), (omega (arith, c.requires.few), with_one_more c.args.before c.from.result c.args.count some byte c.requires.fits))

pub overflow_mul-before-in-None : goal.overflow_mul-before-in-None
overflow_mul-before-in-None t c =
    let some : 0 < c.args.count = omega (arith, c.if-count-eq0.false) in
    let room : c.args.before * 256 + 0 < 2 ^ 64 = has_room (c.args.before * 256 + 0) (c.args.count - 1) (with_one_more c.args.before 0 c.args.count some (omega arith) c.requires.fits) in
    omega (arith, room)

pub head_on-requires-in-None : goal.head_on-requires-in-None
head_on-requires-in-None t c =
    let some : 0 < c.args.count = omega (arith, c.if-count-eq0.false) in
    let same : c.args.before * 256 + 0 + 1 ≡ c.args.before * 256 + 1 = omega arith in (
      omega (arith, some, c.decreases),
      (
        omega (arith, c.requires.few),
        subst (λ n. n * 256 ^ (c.args.count - 1) ≤ 2 ^ 64) same (with_one_more c.args.before 0 c.args.count some (omega arith) c.requires.fits),
      ),
    )
