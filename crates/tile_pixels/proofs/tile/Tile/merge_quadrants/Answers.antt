use Rattle.std.proofs.Common.{rules, ◌/◌, ◌∙◌, ap, length}
use Rattle.std.specs.Prelude.{IsTrue}
use Rattle.parent_rule.specs.Depth.{is_bitpix}
use Rattle.tile_pixels.proofs.Halves.{Halves, length_of_halves, numbers_from-raw}
use Rattle.tile_pixels.proofs.tile.Tile.merge_quadrants.Goals as goal

pub of_raw-requires-clause-raw : goal.of_raw-requires-clause-raw
of_raw-requires-clause-raw c =
    length_of_halves c.args.n (c.args.depth.bitpix / 8) _ _ _ c.requires.least_n (ap length c.in_ok-raw.ensures.items) c.in_ok-append_rows.ensures.length c.in_ok-append_rows-2.ensures.length

pub returns : goal.returns
returns c =
    let known : IsTrue (is_bitpix c.args.depth.bitpix) = search rules in
    record {
      tile = λ tiles over.
          let halves : Halves c.args.depth c.args.n tiles c.in_ok-raw.raw.items c.append_rows.new.raw.items c.append_rows-2.new.raw.items = record {
            least_n = c.requires.least_n;
            greatest_n = c.requires.greatest_n;
            known = known;
            start_is = c.in_ok-raw.ensures.items;
            lower = c.in_ok-append_rows.ensures.bytes tiles.second tiles.fourth over.second over.fourth;
            upper = c.in_ok-append_rows-2.ensures.bytes tiles.first tiles.third over.first over.third;
            lower_numbers = c.in_ok-append_rows.ensures.range tiles.second tiles.fourth over.second over.fourth;
            upper_numbers = c.in_ok-append_rows-2.ensures.range tiles.first tiles.third over.first over.third;
          } in
          c.of_raw.ensures.tile ∙ ap (λ ns. record { depth = c.args.depth; n = c.args.n; numbers = ns }) (numbers_from-raw c.args.depth c.args.n tiles _ _ _ halves);
    }
