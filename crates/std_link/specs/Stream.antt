-- A stream of the outside, as the program sees it.
use Rattle.std.specs.Prelude.{ℕ, refl}
use Rattle.std.specs.Coded.{Coded, code_by, coded×, coded_ℕ}

-- the reader or writer, and how often it has failed
pub record StreamState (S : Type 0) : Type 0 where
  pub stream : S
  pub faults : ℕ

-- a stream's state is stored as the pair of its fields
abbrev pub stream_code : {S : Type 0} → Coded S → Coded (StreamState S)
stream_code {S} code = code_by (S × ℕ) (coded× code coded_ℕ) (λ s. (s.stream, s.faults)) (λ p. record { stream = p.0; faults = p.1 }) (λ _. refl)
