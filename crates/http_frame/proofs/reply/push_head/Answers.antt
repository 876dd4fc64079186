use Rattle.std.proofs.Common.{◌≡◌, [], arith, append_assoc}
use Rattle.std.proofs.lemmas.Grind.{common_steps}
use Rattle.http_frame.specs.Reply.{reply_head}
use Rattle.http_frame.proofs.reply.push_head.Goals as goal

pub returns : goal.returns
unfolding reply_head
returns c =
    let empty : c.args.text.now.items ≡ [] = grind (arith, common_steps) in
    rw (
      c.push-4.ensures.bytes,
      c.push-3.ensures.bytes,
      c.close_line.ensures.line,
      c.push_state.ensures.line,
      c.push_length.ensures.line,
      c.push-2.ensures.bytes,
      c.type_line.ensures.line,
      c.push.ensures.bytes,
      c.allow_line.ensures.line,
      c.push_status.ensures.line,
      empty,
    )
    (simp append_assoc)
