use Rattle.std.proofs.Common.{refl, rules}
use Rattle.hips_http.proofs.PathLemmas.{path_read, no_leaf_path}
use Rattle.hips_http.proofs.call.text_kind.Goals as goal

pub returns-in-None : goal.returns-in-None
returns-in-None c = record {
  publish = search rules;
  pin = search rules;
  unpin = search rules;
  batch = search rules;
  leaf = no_leaf_path c.args.top c.args.path.now c.read-file.result c.read-file.ensures.inverse (c.in-None.ensures.none refl);
  file_is = path_read c.args.path.now c.read-file.result c.read-file.ensures.path c.read-file.ensures.spelled c.read-file.ensures.none;
}
