-- How many workers share the merges of one order. This project's profile.
use Rattle.std.specs.Prelude.{ℕ, ◌/◌, ◌^◌, ◌≤◌, min, max}

-- so many merges of tiles of 4^n pixels repay a worker: 65,536 pixels, and one merge at least
abbrev pub merges_of_a_worker : ℕ → ℕ
merges_of_a_worker n = max 1 (65536 / 4 ^ n)

-- as many as there are processors, as far as the merges repay them; but two where there are two merges, and never more than
-- there are merges
abbrev pub workers_on : ℕ → ℕ → ℕ → ℕ
workers_on processors merges n = min merges (max 2 (min processors (merges / merges_of_a_worker n)))

-- so many merges repay so many workers: one, or no more than there may be on as many processors
abbrev pub AreRepaid : ℕ → ℕ → ℕ → Type 0
AreRepaid workers merges n = workers ≤ max 1 (workers_on workers merges n)
