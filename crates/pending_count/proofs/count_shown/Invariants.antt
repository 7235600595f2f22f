use Rattle.std.proofs.Common.{◌≡◌, ◌≤◌, count_by, take}
use Rattle.std.specs.Prelude.{not}
use Rattle.redo_record.specs.declared.durable.KeptRow.{KeptRow}
use Rattle.pending_count.proofs.count_shown.Given as goal

-- the branches so far were counted
abbrev pub invariant-loop-branch : goal.invariant-loop-branch
invariant-loop-branch l = (l.count ≡ count_by (λ (s : KeptRow). not s.hidden) (take l.branch-index l.kept)) × (l.count ≤ l.branch-index)
