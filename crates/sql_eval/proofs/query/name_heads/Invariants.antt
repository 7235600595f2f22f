use Rattle.std.proofs.Common.{◌≡◌, take}
use Rattle.sql_eval.proofs.query.name_heads.Given as goal

abbrev pub invariant-loop-name : goal.invariant-loop-name
invariant-loop-name l = l.heads.items ≡ take l.name-index l.names
