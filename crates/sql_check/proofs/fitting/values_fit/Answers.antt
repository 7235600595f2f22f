-- The value at this place fits or does not, and as many are left to fit.
use Rattle.std.proofs.Common.{◌≡◌, sym, ap, ◌∙◌, arith}
use Rattle.std.specs.Option.{option_copied}
use Rattle.sql_check.specs.Columns.{given_columns}
use Rattle.sql_check.proofs.ZipLemmas.{zip-at}
use Rattle.sql_check.proofs.fitting.values_fit.Goals as goal

pub returns-then-not-sum_fits : goal.returns-then-not-sum_fits
returns-then-not-sum_fits c =
    let at = zip-at (given_columns c.args.table.now c.args.columns.now) c.args.values.now c.loop-place.place c.in-Some.name.now c.index-values-place.result (sym c.given_column.ensures ∙ ap option_copied c.in-Some.is) c.loop-place-test.true c.index-values-place.is in
    grind (arith, c.loop-place.invariant, at, c.column_of.ensures, c.sum_fits.ensures, c.if-not-sum_fits.true)

pub loop-place-preserved : goal.loop-place-preserved
loop-place-preserved c =
    let at = zip-at (given_columns c.args.table.now c.args.columns.now) c.args.values.now c.loop-place.place c.in-Some.name.now c.index-values-place.result (sym c.given_column.ensures ∙ ap option_copied c.in-Some.is) c.loop-place-test.true c.index-values-place.is in
    grind (arith, c.loop-place.invariant, at, c.column_of.ensures, c.sum_fits.ensures, c.if-not-sum_fits.false)
