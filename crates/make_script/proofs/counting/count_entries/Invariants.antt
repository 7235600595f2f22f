use Rattle.std.proofs.Common.{◌≡◌, ◌≤◌, count_by, take}
use Rattle.make_script.specs.Summary.{is_of_kind}
use Rattle.make_script.proofs.counting.count_entries.Given as goal

-- the entries so far were counted
abbrev pub invariant-loop-entry : goal.invariant-loop-entry
invariant-loop-entry l = (l.count ≡ count_by (is_of_kind l.kind) (take l.entry-index l.book)) × (l.count ≤ l.entry-index)
