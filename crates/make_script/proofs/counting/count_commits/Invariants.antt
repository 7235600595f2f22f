use Rattle.std.proofs.Common.{◌≡◌, ◌≤◌}
use Rattle.make_script.specs.Summary.{commits_before}
use Rattle.make_script.proofs.counting.count_commits.Given as goal

-- the commands so far were counted
abbrev pub invariant-loop-place : goal.invariant-loop-place
invariant-loop-place l = (l.count ≡ commits_before l.end l.commands l.lines l.place) × (l.count ≤ l.place)
