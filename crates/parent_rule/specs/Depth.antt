-- The stored numbers of a survey: how wide they are, which one says that a pixel is blank, and how four of them are
-- combined. BITPIX and BLANK are those of FITS 4.0 (sections 4.4.1.1 and 4.4.2.5).
use Rattle.std.specs.Prelude.{ℕ, ◌-◌, ◌^◌, Bool, ◌||◌, ◌==◌, if◌then◌else◌, ℤ, pos, negsuc, ◌≤ℤ◌}
use Rattle.parent_rule.specs.declared.combine.Combine.{Combine}

-- the numbers of a survey, as contracts see a `Depth`
pub record PixelDepth : Type 0 where
  pub bitpix : ℕ
  pub blank : ℤ
  pub combine : Combine

-- the widths of an integer image
abbrev pub is_bitpix : ℕ → Bool
is_bitpix bits = bits == 8 || bits == 16 || bits == 32 || bits == 64

-- 8 bits hold 0 to 255, more bits hold two's complement
abbrev pub least_number : ℕ → ℤ
least_number bits = if bits == 8 then pos 0 else negsuc (2 ^ (bits - 1) - 1)

abbrev pub greatest_number : ℕ → ℤ
greatest_number bits = if bits == 8 then pos 255 else pos (2 ^ (bits - 1) - 1)

-- v is a number of that many bits
pub record IsNumber (bits : ℕ) (v : ℤ) : Type 0 where
  pub low : least_number bits ≤ℤ v
  pub high : v ≤ℤ greatest_number bits
