-- What was added, and what the rest of the words still adds, is what all of them add.
use Rattle.std.proofs.Common.{◌≡◌, ◌≤◌, ◌++◌, drop}
use Rattle.report.specs.Refusals.{filled}
use Rattle.report.proofs.refusals.put_filled.Given as goal

abbrev pub invariant-loop-byte : goal.invariant-loop-byte
invariant-loop-byte l = record {
  within : l.place ≤ l.byte-index;
  whole : l.out.items ++ filled l.args l.place (drop l.byte-index l.words) ≡ l.initial.out.items ++ filled l.args 0 l.words;
}
