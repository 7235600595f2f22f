-- One assignment of several.
use Rattle.std.proofs.Common.{◌≡◌, ℕ, ◌+◌, ◌<◌, List, Result, Ok, Err, length, get_or, drop, sym, ap, ◌∙◌}
use Rattle.std.proofs.lemmas.List.{drop_more}
use Rattle.sql_eval.specs.Data.{Table, Row, Set, Refusal}
use Rattle.sql_eval.specs.Meaning.{set_one, set_all}
use Rattle.sql_eval.specs.declared.sql_err.SqlErr.{SqlErr}
use Rattle.sql_eval.specs.declared.sql_err.SqlErr.TheVariants.{Refused, NoMemory}
use Rattle.sql_eval.specs.Outcomes.{FailsOn}

-- the assignments from i on, where the first comes to this
pub set_all-step : (t : Table) (before after : Row) (sets : List Set) (i : ℕ) (s : Set) (due : Result Row Refusal) → i < length sets → s ≡ get_or sets i s → set_one t before after s ≡ due
    → set_all t before (Ok after) (drop i sets) ≡ set_all t before due (drop (i + 1) sets)
set_all-step t before after sets i s due h is one =
    ap (set_all t before (Ok after)) (drop_more sets i s h)
    ∙ ap (λ (x : Set). set_all t before (set_one t before after x) (drop (i + 1) sets)) (sym is)
    ∙ ap (λ (r : Result Row Refusal). set_all t before r (drop (i + 1) sets)) one

-- what one assignment fails with, all fail with
pub set_all-fails : (e : SqlErr) (t : Table) (before after : Row) (sets : List Set) (i : ℕ) (s : Set) → i < length sets → s ≡ get_or sets i s → FailsOn e (set_one t before after s)
    → set_all t before (Ok before) sets ≡ set_all t before (Ok after) (drop i sets) → FailsOn e (set_all t before (Ok before) sets)
set_all-fails (Refused r) t before after sets i s h is one so_far = so_far ∙ set_all-step t before after sets i s (Err r) h is one
set_all-fails NoMemory t before after sets i s h is one so_far = tt
