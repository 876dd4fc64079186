use Rattle.std.proofs.Common.{[], ◌++◌, ap}
use Rattle.std.specs.Prelude.{codes}
use Rattle.httparse.specs.Ascii.{crlf_bytes}
use Rattle.tile_path.specs.Spelling.{spelling}
use Rattle.mirror_frame.proofs.Exchanges.{five_parts}
use Rattle.mirror_frame.proofs.ask.write_get.Goals as goal

pub returns-clause-part : goal.returns-clause-part
returns-clause-part g c =
    let path = spelling c.args.path.now in
    let text = five_parts path (codes " HTTP/1.1") crlf_bytes (codes "Host: mirror" ++ crlf_bytes) [] crlf_bytes in
    rw (ap (λ r. codes "GET /" ++ r) text) (rw c.write_into-len.ensures.front at c.write_all_parts.ensures.part)
