use Rattle.std.proofs.Common.{◌≡◌, ◌-◌, ◌^◌, ◌∙◌, refl, arith, pos}
use Rattle.std.proofs.lemmas.Int.{ints}
use Rattle.std.specs.Int.{from_bool}
use Rattle.parent_rule.specs.Kept.{count_kept}
use Rattle.parent_rule.proofs.FourNumbers.{kept_mean, room_of_four}
use Rattle.parent_rule.proofs.mean_of_kept.mean_of_kept.Goals as goal
use Rattle.parent_rule.proofs.mean_of_kept.mean_of_kept.Goals.{After-total-count}

counts : (g : _) (c : After-total-count g) → g.N.Sum.Number.value c.total-count.result ≡ pos (count_kept c.args.kept.a c.args.kept.b c.args.kept.c c.args.kept.d)
counts g c = c.total-count.ensures ∙ rw (c.one_if.ensures, c.one_if-2.ensures, c.one_if-3.ensures, c.one_if-4.ensures) refl

pub mean_of_sum-requires-clause-room : goal.mean_of_sum-requires-clause-room
mean_of_sum-requires-clause-room g c =
    rw (counts g c, c.total-sum.ensures)
    (room_of_four (2 ^ g.N.PixelNumber.bits - 1) (from_bool c.args.kept.a) (from_bool c.args.kept.b) (from_bool c.args.kept.c) (from_bool c.args.kept.d) _ _ _ _ c.counted.ensures.room c.counted-2.ensures.room c.counted-3.ensures.room c.counted-4.ensures.room)

pub returns-clause-mean : goal.returns-clause-mean
returns-clause-mean g c = λ some.
    let before = (goal.at.returns-clause-mean g c).After-total-count in
    let count = counts g before in
    let mean = c.mean_of_sum.ensures.is (rw count (omega (arith, ints))) in
    kept_mean g.N.PixelNumber.raise c.args.kept.a c.args.kept.b c.args.kept.c c.args.kept.d _ _ _ _ _ _ _ _ _
    c.counted.ensures.raised c.counted-2.ensures.raised c.counted-3.ensures.raised c.counted-4.ensures.raised some
    (c.lowered-mean.ensures ∙ rw (c.total-sum.ensures, count) at mean)
