use Rattle.std.proofs.Common.{sym}
use Rattle.catalog_command.specs.Lines.{most_bytes}
use Rattle.catalog_command.proofs.Feeds.{feed_in_front}
use Rattle.catalog_command.proofs.lines.told.Goals as goal

pub returns-in-Some-place_of-clause-found : goal.returns-in-Some-place_of-clause-found
returns-in-Some-place_of-clause-found c = λ left.
    feed_in_front most_bytes c.args.held.now c.in-Some-place_of.count c.if-held-lt-MOST_BYTES.false (sym c.in-Some-place_of.ensures)
