use Rattle.std.proofs.Common.{◌∙◌}
use Rattle.parent_rule.specs.Depth.{greatest_number}
use Rattle.parent_rule.specs.declared.combine.Combine.TheVariants.{Mean}
use Rattle.parent_rule.proofs.FourNumbers.{Flagged, none_kept, some_from, mean_of_rest, room_above, one_more}
use Rattle.parent_rule.proofs.four.mean_of_some.Goals as goal

pub returns-then-is_none : goal.returns-then-is_none
returns-then-is_none g c =
    none_kept Mean _ _ _ _ _ c.args.kept.a c.args.kept.b c.args.kept.c c.args.kept.d
    (record { first = c.requires.a; second = c.requires.b; third = c.requires.c; fourth = c.requires.d }) (c.mean_of_kept-mean.ensures.none.0 c.if-is_none.true)

pub returns-else-is_none : goal.returns-else-is_none
returns-else-is_none g c =
    let value = g.N.PixelNumber.value in
    let bits = g.N.PixelNumber.bits in
    let some = some_from _ _ c.mean_of_kept-mean.ensures.none.1 c.if-is_none.false in
    let is = c.mean_of_kept-mean.ensures.mean some in
    let flagged : Flagged (value c.args.blank) (value c.args.a) (value c.args.b) (value c.args.c) (value c.args.d) c.args.kept.a c.args.kept.b c.args.kept.c c.args.kept.d =
    record { first = c.requires.a; second = c.requires.b; third = c.requires.c; fourth = c.requires.d } in
    c.beside_blank-mean.ensures
    ∙ one_more (value c.mean_of_kept-mean.result.0) (value c.args.blank) (greatest_number bits)
    (room_above bits _ _ _ _ _ _ _ _ _ _ flagged some is c.wide.ensures.number c.wide-2.ensures.number c.wide-3.ensures.number c.wide-4.ensures.number)
    ∙ mean_of_rest _ _ _ _ _ _ _ _ _ _ flagged some is
