-- The keys so far, and those of the calls to come.
use Rattle.std.proofs.Common.{◌≡◌, ◌++◌, drop}
use Rattle.run_report_parts.specs.Endings.{keys_of}
use Rattle.run_report_parts.proofs.calls.keys_at.Given as goal

abbrev pub invariant-loop-call : goal.invariant-loop-call
invariant-loop-call l = keys_of l.node l.calls ≡ l.keys.items ++ keys_of l.node (drop l.call-index l.calls)
