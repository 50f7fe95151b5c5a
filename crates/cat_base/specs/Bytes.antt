-- How numbers and byte strings are spelled in files.
use Rattle.std.specs.Prelude.{◌≢◌, ℕ, List, ◌++◌, length}
use Rattle.std.specs.Int.{w32, w64, to_be_bytes}

-- a number of 32 bits, the high byte first
abbrev pub spelled_u32 : ℕ → List ℕ
spelled_u32 n = to_be_bytes w32 n

-- a number of 64 bits, the high byte first
abbrev pub spelled_u64 : ℕ → List ℕ
spelled_u64 n = to_be_bytes w64 n

-- a length of 32 bits, and then that many bytes
abbrev pub spelled_bytes : List ℕ → List ℕ
spelled_bytes bs = spelled_u32 (length bs) ++ bs

-- the bytes begin with no number that is spelled so
abbrev pub BeginsWithNo : (ℕ → List ℕ) → List ℕ → Type 0
BeginsWithNo spelled bytes = (n : ℕ) (rest : List ℕ) → bytes ≢ spelled n ++ rest
