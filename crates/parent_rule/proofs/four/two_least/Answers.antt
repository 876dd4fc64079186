use Rattle.std.proofs.Common.{◌≡◌, ◌∙◌}
use Rattle.std.specs.Int.{int_min, int_max}
use Rattle.parent_rule.proofs.MedianCases.{value_min, value_max, first_of, second_of, first_in_order, second_in_order}
use Rattle.parent_rule.proofs.four.two_least.Goals as goal

pub returns-clause-first : goal.returns-clause-first
returns-clause-first g c =
    let value = g.N.PixelNumber.value in
    let min = value_min g.N.Ord.cmp value g.met.N.PixelNumber.in_order in
    let low : value c.min-low.result ≡ int_min (value c.args.c) (value c.args.d) = min c.args.c c.args.d c.min-low.result c.min-low.ensures in
    let least : value c.min-least.result ≡ int_min (value c.args.b) (value c.min-low.result) = min c.args.b c.min-low.result c.min-least.result c.min-least.ensures in
    let first : value c.min.result ≡ int_min (value c.args.a) (value c.min-least.result) = min c.args.a c.min-least.result c.min.result c.min.ensures in
    let is : value c.min.result ≡ first_of (value c.args.a) (value c.args.b) (value c.args.c) (value c.args.d) = cc in
    is ∙ first_in_order (value c.args.a) (value c.args.b) (value c.args.c) (value c.args.d)

pub returns-clause-second : goal.returns-clause-second
returns-clause-second g c =
    let value = g.N.PixelNumber.value in
    let min = value_min g.N.Ord.cmp value g.met.N.PixelNumber.in_order in
    let max = value_max g.N.Ord.cmp value g.met.N.PixelNumber.in_order in
    let low : value c.min-low.result ≡ int_min (value c.args.c) (value c.args.d) = min c.args.c c.args.d c.min-low.result c.min-low.ensures in
    let high : value c.max-high.result ≡ int_max (value c.args.c) (value c.args.d) = max c.args.c c.args.d c.max-high.result c.max-high.ensures in
    let least : value c.min-least.result ≡ int_min (value c.args.b) (value c.min-low.result) = min c.args.b c.min-low.result c.min-least.result c.min-least.ensures in
    let upper : value c.min-upper.result ≡ int_min (value c.args.b) (value c.max-high.result) = min c.args.b c.max-high.result c.min-upper.result c.min-upper.ensures in
    let middle : value c.max-middle.result ≡ int_max (value c.min-low.result) (value c.min-upper.result) = max c.min-low.result c.min-upper.result c.max-middle.result c.max-middle.ensures in
    let below : value c.min-below.result ≡ int_min (value c.args.a) (value c.max-middle.result) = min c.args.a c.max-middle.result c.min-below.result c.min-below.ensures in
    let second : value c.max.result ≡ int_max (value c.min-least.result) (value c.min-below.result) = max c.min-least.result c.min-below.result c.max.result c.max.ensures in
    let is : value c.max.result ≡ second_of (value c.args.a) (value c.args.b) (value c.args.c) (value c.args.d) = cc in
    is ∙ second_in_order (value c.args.a) (value c.args.b) (value c.args.c) (value c.args.d)
