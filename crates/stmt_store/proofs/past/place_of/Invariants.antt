use Rattle.std.proofs.Common.{◌≡◌, ◌+◌, drop}
use Rattle.std.specs.List.{position_or_len}
use Rattle.stmt_store.specs.Past.{comes_first}
use Rattle.stmt_store.proofs.past.place_of.Given as goal

-- none of those so far
abbrev pub invariant-loop-place : goal.invariant-loop-place
invariant-loop-place l = position_or_len (comes_first l.key) l.rows ≡ l.place + position_or_len (comes_first l.key) (drop l.place l.rows)
