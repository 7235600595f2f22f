use Rattle.std.proofs.Common.{◌≡◌, map, find, is_none, drop}
use Rattle.sql_check.specs.Columns.{place_of as place_in, cond_column}
use Rattle.sql_check.proofs.naming.unknown_in_conds.Given as goal

-- the name is among those that are left
abbrev pub invariant-loop-cond : goal.invariant-loop-cond
invariant-loop-cond l = find (λ name. is_none (place_in l.table name)) (map cond_column l.conds) ≡ find (λ name. is_none (place_in l.table name)) (map cond_column (drop l.cond-index l.conds))
