use Rattle.std.proofs.Common.{◌∷◌, is_none, find, flat_map, drop, ◌+◌, Option, List, ℕ, refl, sym, ap, ◌∙◌}
use Rattle.std.specs.Option.{option_copied}
use Rattle.sql_check.specs.Columns.{place_of as place_in, sum_columns}
use Rattle.sql_check.proofs.FindLemmas.{or_else_of, find-step}
use Rattle.sql_check.proofs.naming.unknown_in_sets.Goals as goal

pub returns-in-Some : goal.returns-in-Some
returns-in-Some c =
    let step = find-step (λ name. is_none (place_in c.args.table.now name)) (λ s. s.column ∷ sum_columns s.to) c.args.sets.now c.loop-set.set-index c.set-item.result c.loop-set-test.true c.set-item.is in
    rw (c.loop-set.invariant, step, ← c.unknown_in_set.ensures, c.in-Some.is) refl

pub loop-set-preserved : goal.loop-set-preserved
loop-set-preserved c =
    let step = find-step (λ name. is_none (place_in c.args.table.now name)) (λ s. s.column ∷ sum_columns s.to) c.args.sets.now c.loop-set.set-index c.set-item.result c.loop-set-test.true c.set-item.is in
    let others : Option (List ℕ) = find (λ name. is_none (place_in c.args.table.now name)) (flat_map (λ s. s.column ∷ sum_columns s.to) (drop (c.loop-set.set-index + 1) c.args.sets.now)) in
    c.loop-set.invariant ∙ step ∙ ap (λ (o : Option (List ℕ)). or_else_of o others) (sym c.unknown_in_set.ensures ∙ ap option_copied c.in_default.is)
