use Rattle.std.proofs.Common.{◌≡◌, ℕ, length, pos, drop, ◌∙◌, ap, refl, arith}
use Rattle.std.proofs.Math.Nat.{mul_comm}
use Rattle.tile_pixels.specs.Stored.{number_from}
use Rattle.tile_pixels.proofs.Rows.{read_all}
use Rattle.tile_pixels.proofs.row.read_64.Goals as goal

pub returns-clause-numbers : goal.returns-clause-numbers
returns-clause-numbers c =
    let bytes = c.args.bytes.now in
    let numbers = c.read_i64_into.new.dst in
    let same : length numbers ≡ length c.args.numbers.now = omega arith in
    read_all 64 bytes numbers (length numbers) (length c.args.numbers.now) refl same
    (λ k h. c.read_i64_into.ensures (pos 0) k h ∙ ap (λ (n : ℕ). number_from 64 (drop n bytes)) (mul_comm 8 k))
