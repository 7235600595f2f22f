use Rattle.std.proofs.Common.{◌≡◌, take}
use Rattle.node_rules.specs.Marks.{keys_of_table}
use Rattle.node_calls.proofs.routing.keys_of_table.Given as goal

-- those of the keys so far
abbrev pub invariant-loop-key : goal.invariant-loop-key
invariant-loop-key l = l.rows.items ≡ keys_of_table l.table (take l.key-index l.keys)
