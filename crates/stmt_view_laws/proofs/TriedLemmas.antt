-- The tried views, by computation.
use Rattle.std.proofs.Common.{refl, arith}
use Rattle.std.specs.List.Sorted.{IsStrictlySortedBy}
use Rattle.dtx_values.proofs.ValueOrder.{same_is}
use Rattle.sql_check.specs.Checks.{checked}
use Rattle.sql_eval.specs.Meaning.{examined, written, meant_over, meant}
use Rattle.stmt_run.specs.Run.{ran_over}
use Rattle.stmt_view_laws.specs.Views.{AgreeBut, IsView, SeesAlike}
use Rattle.stmt_view_laws.specs.RunLaws.{IsViewBeside}
use Rattle.stmt_view_laws.specs.TriedViews.{table, held_back, committed, doubtful, ground, row_at, TheTriedViews}

is_view : IsView table held_back
unfolding IsStrictlySortedBy
is_view = record { order = ((refl, tt), (tt, tt)); fit = ((refl, refl, refl), ((refl, refl, refl), tt)) }

is_view_left : IsView table committed
unfolding IsStrictlySortedBy
is_view_left = record { order = ((refl, (refl, tt)), ((refl, tt), (tt, tt))); fit = ((refl, refl, refl), ((refl, refl, refl), ((refl, refl, refl), tt))) }

agree : AgreeBut doubtful held_back committed
agree key certain = grind (arith, same_is, certain)

alike : SeesAlike (row_at 1) table doubtful doubtful held_back committed
unfolding examined
alike = record { one_key = refl; first = is_view; second = is_view_left; agree = agree; locks = (refl, (refl, tt)); avoids = (refl, tt) }

beside : IsViewBeside ground table doubtful committed
beside = record { one_key = refl; first = is_view; second = is_view_left; agree = agree; held = (refl, (refl, tt)) }

pub the_tried_views : TheTriedViews
unfolding checked examined written meant_over meant ran_over
the_tried_views = record {
  left = refl;
  alike = alike;
  beside = beside;
  first = refl;
  first_left = refl;
  counts = refl;
  counts_left = refl;
  misses = refl;
  examines = refl;
  reads = refl;
  refuses = refl;
}
