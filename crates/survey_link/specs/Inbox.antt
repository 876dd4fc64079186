-- What a clause reads of an inbox.
use Rattle.std.specs.Prelude.{ℕ, ◌-◌, List, length, slice_range}
use Rattle.survey_link.specs.declared.inbox.Inbox.{Inbox}

-- the bytes that were read and not yet given
abbrev pub held : Inbox → List ℕ
held b = slice_range b.bytes.items b.start b.end

-- the last n bytes that were given
abbrev pub given : ℕ → Inbox → List ℕ
given n b = slice_range b.bytes.items (b.start - n) b.start

-- how many bytes it has room for
abbrev pub size : Inbox → ℕ
size b = length b.bytes.items
