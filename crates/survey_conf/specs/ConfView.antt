-- What a `Conf` says, wherever its texts lie in memory.
use Rattle.std.specs.Prelude.{ℕ, List, map, Vec}
use Rattle.std.specs.declared.alloc.Global.{Global}
use Rattle.survey_conf.specs.Description.{Description}
use Rattle.survey_conf.specs.declared.conf.Conf.TheInside.{Inside}

abbrev pub extras_view : List (Vec ℕ Global × Vec ℕ Global) → List (List ℕ × List ℕ)
extras_view es = map (λ e. (e.0.items, e.1.items)) es

abbrev pub conf_view : Inside → Description
conf_view c = record {
  creator_did = c.creator_did.items;
  obs_title = c.obs_title.items;
  hips_release_date = c.hips_release_date.items;
  hips_status = c.hips_status.items;
  shape = c.shape;
  bscale = c.bscale;
  bzero = c.bzero;
  version = c.version;
  extras = extras_view c.extras.entries;
}
