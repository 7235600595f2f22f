use Rattle.std.proofs.Common.{ℕ, List, Option, length, slice_get, unwrap_or, refl, ap, sym, ◌∙◌}
use Rattle.dtx_values.specs.declared.value.Value.{Value}
use Rattle.dtx_values.specs.declared.value.Value.TheVariants.{Null}
use Rattle.sql_examples.proofs.runs.employed.Goals as goal

pub returns : goal.returns
returns c =
    let cells = c.of.ensures ∙ c.in_ok-cells.ensures.items in (
      c.in_ok-name.ensures,
      refl,
      (
        ap length cells ∙ sym c.requires.columns,
        ap (λ (place : Option ℕ). unwrap_or (slice_get c.of.result (unwrap_or place 0)) Null) c.requires.key ∙ ap (λ (cs : List Value). unwrap_or (slice_get cs 0) Null) cells,
        refl,
      ),
    )
