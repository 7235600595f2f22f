use Rattle.std.proofs.Common.{◌≡◌, ◌∷◌, find, flat_map, is_none, drop}
use Rattle.sql_check.specs.Columns.{place_of as place_in, sum_columns}
use Rattle.sql_check.proofs.naming.unknown_in_sets.Given as goal

-- the name is among those that are left
abbrev pub invariant-loop-set : goal.invariant-loop-set
invariant-loop-set l = find (λ name. is_none (place_in l.table name)) (flat_map (λ s. s.column ∷ sum_columns s.to) l.sets) ≡ find (λ name. is_none (place_in l.table name)) (flat_map (λ s. s.column ∷ sum_columns s.to) (drop l.set-index l.sets))
