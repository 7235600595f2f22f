-- What was added, and what the other names still add, is what all of them add.
use Rattle.std.proofs.Common.{◌≡◌, ◌+◌, ◌++◌, drop}
use Rattle.chart_text.specs.Plain.{names_from}
use Rattle.chart_text.proofs.plain_text.put_names.Given as goal

abbrev pub invariant-loop-name : goal.invariant-loop-name
invariant-loop-name l = record {
  counted : l.number ≡ l.name-index + 1;
  whole : l.out.items ++ names_from l.number (drop l.name-index l.names) ≡ l.initial.out.items ++ names_from 1 l.names;
}
