use Rattle.std.proofs.Common.{◌≡◌, find, flat_map, is_none, drop}
use Rattle.sql_check.specs.Columns.{place_of as place_in, term_columns}
use Rattle.sql_check.proofs.naming.unknown_in_steps.Given as goal

-- the name is among those that are left
abbrev pub invariant-loop-step : goal.invariant-loop-step
invariant-loop-step l = find (λ name. is_none (place_in l.table name)) (flat_map (λ p. term_columns p.term) l.steps) ≡ find (λ name. is_none (place_in l.table name)) (flat_map (λ p. term_columns p.term) (drop l.step-index l.steps))
