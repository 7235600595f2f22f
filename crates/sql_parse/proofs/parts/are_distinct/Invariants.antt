use Rattle.std.proofs.Common.{◌≡◌, length}
use Rattle.sql_statement.specs.Distinct.{are_distinct}
use Rattle.sql_parse.proofs.parts.are_distinct.Given as goal

-- the items that are left are as distinct as all are
abbrev pub invariant-loop-rest : goal.invariant-loop-rest
invariant-loop-rest g l = are_distinct g.C.Called.called l.rest ≡ are_distinct g.C.Called.called l.items

abbrev pub decreases-loop-rest : goal.decreases-loop-rest
decreases-loop-rest g l = length l.rest
