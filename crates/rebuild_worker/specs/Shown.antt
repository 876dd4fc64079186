-- A `Named` as contracts see it: its shared tile counts as the tile itself.
use Rattle.std.specs.Prelude.{List, map, option_map}
use Rattle.std.specs.Arc.{arc_value}
use Rattle.rebuild_worker.specs.declared.named.Named.{Named}
use Rattle.rebuild_worker.specs.Level.{NamedTile}

abbrev pub shown : Named → NamedTile
shown named = record { order = named.order; npix = named.npix; tile = option_map arc_value named.tile }

abbrev pub all_shown : List Named → List NamedTile
all_shown level = map shown level
