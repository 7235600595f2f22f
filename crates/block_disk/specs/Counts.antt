-- Counts of disk calls, which begin again at 0 after 2^64 - 1.
use Rattle.std.specs.Prelude.{ℕ, ◌+◌, ◌%◌, ◌^◌}

-- the count after one more call
abbrev pub next_count : ℕ → ℕ
next_count count = (count + 1) % 2 ^ 64
