-- Sets of numbers below 1,024 as 16 words of 64 bits. This project's own.
use Rattle.std.specs.Prelude.{ℕ, zero, suc, ◌+◌, ◌==◌, ◌/◌, ◌%◌, if◌then◌else◌, Bool, List, slice_index}
use Rattle.std.specs.Int.{bit_at}

-- whether a number is in the set
unfoldable pub has_bit : List ℕ → ℕ → Bool
has_bit row t = bit_at (slice_index row (t / 64)) (t % 64) == 1

-- how many numbers below n are in the set
abbrev pub rank_of : List ℕ → ℕ → ℕ
rank_of row zero = 0
rank_of row (suc n) = rank_of row n + (if has_bit row n then 1 else 0)
