-- What is kept are the rows that satisfy the conditions.
use Rattle.std.proofs.Common.{List, filter, ap, ◌∙◌, rules}
use Rattle.std.proofs.lemmas.Fn.{filter_same}
use Rattle.sql_eval.specs.Data.{Cond}
use Rattle.sql_eval.specs.Meaning.{satisfies}
use Rattle.sql_eval.proofs.condition.found.Goals as goal

pub returns : goal.returns
returns c =
    filter_same _ (satisfies c.args.table.now c.conds_of-conds.result.now) _ (λ x b f' k. search rules) _ _ c.retain.ensures.filtered
    ∙ ap (λ (cs : List Cond). filter (satisfies c.args.table.now cs) c.args.rows.items) c.conds_of-conds.ensures
