-- Advice as bytes.
use Rattle.std.specs.Prelude.{ℕ, Option, Some, None, ⊤}
use Rattle.dtx_values.specs.declared.advice.Advice.{Advice}
use Rattle.dtx_values.specs.declared.advice.Advice.TheVariants as advices
use Rattle.byte_format.specs.Format.{Format}
use Rattle.byte_format.specs.Number.{empty}
use Rattle.byte_format.specs.Choice.{choice, kind, no_kind}

-- which byte names the advice
abbrev pub advice_kind : Option Advice → ℕ
advice_kind None = 0
advice_kind (Some advices.Commit) = 1
advice_kind (Some advices.Rollback) = 2

-- whether there is no advice
abbrev pub no_advice_of : Option Advice → Option ⊤
no_advice_of None = Some tt
no_advice_of _ = None

-- whether the advice is to commit
abbrev pub commit_advice_of : Option Advice → Option ⊤
commit_advice_of (Some advices.Commit) = Some tt
commit_advice_of _ = None

-- whether the advice is to roll back
abbrev pub rollback_advice_of : Option Advice → Option ⊤
rollback_advice_of (Some advices.Rollback) = Some tt
rollback_advice_of _ = None

-- the advice: no field, whichever it is
abbrev pub advice_kinds : ℕ → Format (Option Advice)
advice_kinds =
    kind 0 (λ u. None) no_advice_of empty
    (kind 1 (λ u. Some advices.Commit) commit_advice_of empty
    (kind 2 (λ u. Some advices.Rollback) rollback_advice_of empty no_kind))

-- the advice: 0 for none, 1 to commit, 2 to roll back
abbrev pub advice_format : Format (Option Advice)
advice_format = choice advice_kind advice_kinds
