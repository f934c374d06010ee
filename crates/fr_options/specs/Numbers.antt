-- Numbers as words write them.
use Rattle.std.specs.Prelude.{ℕ, nat_le, Bool, ◌&&◌, if◌then◌else◌, List, length, Option, Some, None}
use Rattle.std.specs.Str.{all_ascii_digits}
use Rattle.std.specs.Str.Parse.{digits_value}

-- one to ten digits, and nothing else
abbrev pub is_number : List ℕ → Bool
is_number text = nat_le 1 (length text) && nat_le (length text) 10 && all_ascii_digits text

-- a number from the least to the greatest one
abbrev pub number_between : ℕ → ℕ → List ℕ → Option ℕ
number_between least most text = if is_number text && nat_le least (digits_value 10 text) && nat_le (digits_value 10 text) most then Some (digits_value 10 text) else None
