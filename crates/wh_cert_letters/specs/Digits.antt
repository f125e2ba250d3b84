-- Which digits begin a number or go on one, byte by byte.
use Rattle.std.specs.Prelude.{ℕ, ◌+◌, ◌-◌, ◌*◌, ◌&&◌, nat_lt, nat_le, Bool}
use Rattle.wh_types.specs.Limits.{greatest_number, coefficient_end}
use Rattle.wh_text.specs.Chars.{is_digit}

-- the digit goes on the number n
abbrev pub goes_on : ℕ → ℕ → Bool
goes_on n b = is_digit b && (nat_lt 0 n && nat_le (10 * n + (b - 48)) greatest_number)

-- the digit begins a number of at least 1, or goes on the number n below 2^128
abbrev pub begins_big : ℕ → Bool
begins_big b = is_digit b && nat_lt 48 b

abbrev pub goes_on_big : ℕ → ℕ → Bool
goes_on_big n b = is_digit b && nat_lt (10 * n + (b - 48)) coefficient_end
