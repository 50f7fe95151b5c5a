-- Bits that tell of 64 rows at a time.
use Rattle.std.specs.Prelude.{ℕ, Bool, ◌==◌}
use Rattle.std.specs.Int.{bit_at}

-- the bit of this index is 1
abbrev pub has_bit : ℕ → ℕ → Bool
has_bit bits i = bit_at bits i == 1
