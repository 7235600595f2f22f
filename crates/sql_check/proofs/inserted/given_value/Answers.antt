-- The column that is given a value at this place has it, or the ones after it.
use Rattle.std.proofs.Common.{◌≡◌, ℕ, ◌+◌, List, drop, zip, sym, ap, ◌∙◌}
use Rattle.std.specs.Option.{option_copied}
use Rattle.sql_check.specs.Data.{Sum}
use Rattle.sql_check.specs.Columns.{given_columns}
use Rattle.sql_check.specs.Inserted.{given_value}
use Rattle.sql_check.specs.Sums.{sum_value}
use Rattle.sql_check.proofs.ZipLemmas.{zip-at}
use Rattle.sql_check.proofs.GivenLemmas.{given_here, given_later}
use Rattle.sql_check.proofs.inserted.given_value.Goals as goal

pub returns-then-is : goal.returns-then-is
returns-then-is c =
    let t = c.args.table.now in
    let names = given_columns t c.args.columns.now in
    let at = zip-at names c.args.values.now c.loop-place.place c.in-Some.name.now c.index-values-place.result (sym c.given_column.ensures ∙ ap option_copied c.in-Some.is) c.loop-place-test.true c.index-values-place.is in
    let due : given_value t (zip names c.args.values.now) c.args.column.now ≡ sum_value t c.no_row.result c.index-values-place.result =
    c.loop-place.invariant ∙ ap (λ (ps : List (List ℕ × Sum)). given_value t ps c.args.column.now) at
    ∙ given_here t c.in-Some.name.now c.args.column.now c.index-values-place.result (zip (drop (c.loop-place.place + 1) names) (drop (c.loop-place.place + 1) c.args.values.now)) (sym c.is.ensures ∙ c.if-is.true)
    ∙ ap (λ row. sum_value t row c.index-values-place.result) (sym c.no_row.ensures) in
    rw due c.sum_value.ensures

pub loop-place-preserved : goal.loop-place-preserved
loop-place-preserved c =
    let t = c.args.table.now in
    let names = given_columns t c.args.columns.now in
    let at = zip-at names c.args.values.now c.loop-place.place c.in-Some.name.now c.index-values-place.result (sym c.given_column.ensures ∙ ap option_copied c.in-Some.is) c.loop-place-test.true c.index-values-place.is in
    c.loop-place.invariant ∙ ap (λ (ps : List (List ℕ × Sum)). given_value t ps c.args.column.now) at
    ∙ given_later t c.in-Some.name.now c.args.column.now c.index-values-place.result (zip (drop (c.loop-place.place + 1) names) (drop (c.loop-place.place + 1) c.args.values.now)) (sym c.is.ensures ∙ c.if-is.false)
