use Rattle.std.proofs.Common.{◌≡◌, ◌++◌, take}
use Rattle.sql_eval.specs.Rows.{keys_of as keys_in}
use Rattle.sql_eval.proofs.keys.view_and_locked.Given as goal

abbrev pub invariant-loop-key : goal.invariant-loop-key
invariant-loop-key l = l.keys.items ≡ keys_in l.view ++ take l.key-index l.locked
