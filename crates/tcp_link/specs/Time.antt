-- How long a request or a reply may still take.
use Rattle.std.specs.Prelude.{ℕ, ◌+◌, ◌-◌, ◌*◌, ◌/◌, min, zero, suc}
use Rattle.std.specs.Duration.{max_nanos}

-- the whole seconds that so many bytes add, one for each `pace`; none where that is 0
abbrev pub seconds_earned : ℕ → ℕ → ℕ
seconds_earned zero bytes = 0
seconds_earned (suc n) bytes = bytes / suc n

-- the nanoseconds left of `base` and the seconds that the bytes add, at most the longest time that std can hold
abbrev pub nanos_left : ℕ → ℕ → ℕ → ℕ → ℕ
nanos_left base pace bytes elapsed = min (base + seconds_earned pace bytes * 1_000_000_000) max_nanos - elapsed
