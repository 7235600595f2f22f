use Rattle.std.proofs.Common.{◌≡◌, ◌+◌, drop}
use Rattle.row_store.specs.Own.{changes_length}
use Rattle.row_store.proofs.lengths.changes_len.Given as goal

abbrev pub invariant-loop-change : goal.invariant-loop-change
invariant-loop-change l = l.bytes + changes_length (drop l.change-index l.changes) ≡ changes_length l.changes
