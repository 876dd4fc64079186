use Rattle.std.proofs.Common.{rules, ◌≡◌, false, string_bytes}
use Rattle.std.proofs.lemmas.Fn.{All-from_retain}
use Rattle.std_link.specs.ShelfPath.{is_left_over}
use Rattle.std_link.proofs.here.Here.paths.Goals as goal

pub returns : goal.returns
returns g c = All-from_retain _ (λ path. is_left_over (string_bytes path) ≡ false) _ (λ x b f' k. search rules) _ _ c.retain.ensures.filtered
