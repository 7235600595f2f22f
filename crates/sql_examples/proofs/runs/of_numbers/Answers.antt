use Rattle.std.proofs.Common.{◌≡◌, true, List, length, position, ap, sym, subst, ◌∙◌}
use Rattle.std.specs.Str.{bytes_eq}
use Rattle.dtx_values.specs.declared.table.Column.{Column}
use Rattle.sql_eval.specs.Laws.{has_one_key}
use Rattle.sql_examples.proofs.Staff.{one_of_two, first_of_two}
use Rattle.sql_examples.proofs.runs.of_numbers.Goals as goal

pub returns-clause-one_key : goal.returns-clause-one_key
returns-clause-one_key c =
    subst (λ (cs : List Column). has_one_key (record { name = c.args.name; columns = cs }) ≡ true) (sym (c.of-columns.ensures ∙ c.in_ok-vec.ensures.items))
    (one_of_two c.args.name c.of_number-key.result c.of_number-number.result c.of_number-key.ensures.key c.of_number-number.ensures.key
    ((λ i. bytes_eq (c.of_number-number.ensures.name i) (c.of_number-key.ensures.name i)) ∙ c.requires))

pub returns-clause-columns : goal.returns-clause-columns
returns-clause-columns c = ap length (c.of-columns.ensures ∙ c.in_ok-vec.ensures.items)

pub returns-clause-key : goal.returns-clause-key
returns-clause-key c =
    ap (position (λ (d : Column). d.key)) (c.of-columns.ensures ∙ c.in_ok-vec.ensures.items)
    ∙ first_of_two c.of_number-key.result c.of_number-number.result c.of_number-key.ensures.key
