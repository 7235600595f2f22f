-- What is drawn from a number.
use Rattle.std.specs.Prelude.{ℕ, zero, suc, ◌+◌, ◌*◌, ◌%◌, nat_lt, List, [], ◌∷◌, ◌++◌, if◌then◌else◌}
use Rattle.make_script.specs.declared.transaction.Transaction.{Transaction}

-- the draw after this one
abbrev pub next_draw : ℕ → ℕ
next_draw x = (75 * x + 74) % 65537

-- the other nodes in order, this place among them
abbrev pub other_node : ℕ → ℕ → ℕ
other_node root place = if nat_lt place root then place else place + 1

-- a transaction by its three draws: the first gives the node where it begins, the second another node, and the third the value
abbrev pub drawn : ℕ → ℕ → ℕ → ℕ → Transaction
drawn number first second third = record {
  number = number;
  root = 1 + first % 4;
  other = other_node (1 + first % 4) (1 + second % 3);
  value = third % 1000;
}

-- the transaction of this number, whose draws come after this one
abbrev pub drawn_after : ℕ → ℕ → Transaction
drawn_after number x = drawn number (next_draw x) (next_draw (next_draw x)) (next_draw (next_draw (next_draw x)))

-- the last draw of so many transactions, of this number
abbrev pub last_draw : ℕ → ℕ → ℕ
last_draw number zero = number
last_draw number (suc count) = next_draw (next_draw (next_draw (last_draw number count)))

-- so many transactions, of this number
abbrev pub transactions : ℕ → ℕ → List Transaction
transactions number zero = []
transactions number (suc count) = transactions number count ++ (drawn_after (count + 1) (last_draw number count) ∷ [])
