use Rattle.std.proofs.Common.{◌≡◌, length, arith, []}
use Rattle.survey_link.proofs.FourParts.{drop_four, bytes_of_four}
use Rattle.survey_link.proofs.parts.rest_of.Goals as goal

pub returns : goal.returns
returns c =
    let four : length c.args.parts ≡ 4 = omega arith in
    rw (bytes_of_four c.args.parts (record { ref_ptr = (0, 0); now = [] }) four, c.without-count.ensures.rest, c.without-count-2.ensures.rest, c.without-count-3.ensures.rest, c.without.ensures.rest, c.without-count-3.ensures.more, c.without-count-2.ensures.more, c.without-count.ensures.more) (drop_four c.args.count _ _ _ _)
