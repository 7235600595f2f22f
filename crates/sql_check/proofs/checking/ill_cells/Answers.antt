use Rattle.std.proofs.Common.{◌≡◌, Option, None, sym, ap, ◌∙◌}
use Rattle.sql_check.specs.Data.{Refusal}
use Rattle.sql_check.specs.Refusals.{else_refuse}
use Rattle.sql_check.proofs.checking.ill_cells.Goals as goal

second : (a b first then : Option Refusal) → first ≡ a → first ≡ None → then ≡ b → then ≡ else_refuse a b
second a b first then is none behind = behind ∙ ap (λ (r : Option Refusal). else_refuse r b) (sym none ∙ is)

pub returns : goal.returns
returns c =
    let due = second _ _ _ _ c.in_ok-refusal.ensures c.in_default.is c.in_ok-refusal-2.ensures in
    rw c.as_slice-columns.ensures at due
