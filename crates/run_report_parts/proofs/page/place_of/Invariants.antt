-- No line so far is of a later command.
use Rattle.std.proofs.Common.{◌≡◌, ◌+◌, drop, nat_lt}
use Rattle.std.specs.List.{position_or_len}
use Rattle.run_report_parts.proofs.page.place_of.Given as goal

abbrev pub invariant-loop-place : goal.invariant-loop-place
invariant-loop-place l = position_or_len (λ x. nat_lt l.command x.command) l.lines ≡ l.place + position_or_len (λ x. nat_lt l.command x.command) (drop l.place l.lines)
