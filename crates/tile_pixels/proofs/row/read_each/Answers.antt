use Rattle.std.proofs.Common.{◌≡◌, ◌/◌, length, rules, ◌∙◌, arith, w64, to_z, of_z}
use Rattle.std.proofs.lemmas.Int.{to_z-of_z}
use Rattle.tile_pixels.specs.Stored.{stored_at}
use Rattle.tile_pixels.proofs.Rows.{read_more, read_all, All-read}
use Rattle.tile_pixels.proofs.RowAbove.{place_fits}
use Rattle.tile_pixels.proofs.row.read_each.Goals as goal

pub read-requires : goal.read-requires
read-requires g c = place_fits c.loop-i.i (length c.args.numbers.now) (g.N.PixelNumber.bits / 8) _ (omega arith) c.requires

pub loop-i-preserved : goal.loop-i-preserved
loop-i-preserved g c =
    let i = c.loop-i.i in
    let back : to_z w64 (of_z w64 c.wide.result) ≡ c.wide.result = to_z-of_z w64 _ (search rules) in
    read_more (stored_at g.N.PixelNumber.bits c.args.bytes.now) c.loop-i.numbers i (to_z w64 (of_z w64 c.wide.result)) (omega arith) (back ∙ c.wide.ensures.value ∙ c.read.ensures) c.loop-i.invariant

pub returns : goal.returns
returns g c =
    let done : length c.loop-i.numbers ≡ c.loop-i.i = omega arith in
    let same : length c.loop-i.numbers ≡ length c.args.numbers.now = omega arith in
    record {
      numbers = read_all g.N.PixelNumber.bits c.args.bytes.now c.loop-i.numbers c.loop-i.i (length c.args.numbers.now) done same c.loop-i.invariant;
      range = All-read g.N.PixelNumber.bits c.args.bytes.now c.loop-i.numbers c.loop-i.i g.met.N.Stored.known c.type_inv.bytes done c.loop-i.invariant;
    }
