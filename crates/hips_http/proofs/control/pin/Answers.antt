use Rattle.std.proofs.Common.{◌≡◌, ap, ◌∙◌}
use Rattle.reader_pin.specs.Board.{last_seen}
use Rattle.hips_http.specs.Replies.{pinned}
use Rattle.hips_http.proofs.Calls.{pinned_serves}
use Rattle.hips_http.proofs.control.pin.Goals as goal

pub returns : goal.returns
returns g c = λ request steps.
    let board = g.B.Board.content c.hold.new.self in
    let tip : c.tip.result ≡ (last_seen board).tip = c.tip.ensures.tip ∙ ap (λ state. state.tip) c.last.ensures.last in
    let told : c.pinned.result ≡ pinned (last_seen board).tip = c.pinned.ensures ∙ ap pinned tip in
    rw told (pinned_serves _ _ _ steps c.pin.ensures c.hold.ensures request)
