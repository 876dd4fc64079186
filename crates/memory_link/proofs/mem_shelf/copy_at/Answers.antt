use Rattle.std.proofs.Common.{Some, sym, ap, ◌∙◌, option_map}
use Rattle.memory_link.proofs.Paths.{get-files}
use Rattle.memory_link.proofs.mem_shelf.copy_at.Goals as goal

pub returns-in-None : goal.returns-in-None
returns-in-None c = ap (option_map (λ v. v.items)) c.in-None.ensures.value ∙ sym (get-files c.args.files.now c.args.path.now)

pub returns-in_ok-copy-in-Some : goal.returns-in_ok-copy-in-Some
returns-in_ok-copy-in-Some c =
    ap Some (c.in_ok-copy-in-Some.ensures.items ∙ c.as_slice.ensures.value)
    ∙ ap (option_map (λ v. v.items)) c.in-Some.ensures.value ∙ sym (get-files c.args.files.now c.args.path.now)
