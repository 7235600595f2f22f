-- The branches that an image keeps, as bytes.
use Rattle.std.specs.Prelude.{ℕ, ◌<◌, ◌==◌, ◌&&◌, Bool, true, if◌then◌else◌, List, length, Option, Some, None, IfSome, ⊤}
use Rattle.dtx_values.specs.declared.advice.Advice.{Advice}
use Rattle.dtx_values.specs.declared.row.Change.{Change}
use Rattle.tran_ids.specs.declared.branch.BranchId.{BranchId}
use Rattle.redo_record.specs.declared.decision.Decision.{Decision}
use Rattle.redo_record.specs.declared.record.Toward.{Toward}
use Rattle.redo_record.specs.declared.image.KeptState.{KeptState}
use Rattle.redo_record.specs.declared.image.KeptState.TheVariants as states
use Rattle.redo_record.specs.declared.image.KeptItem.{KeptItem}
use Rattle.byte_format.specs.Format.{Format}
use Rattle.byte_format.specs.Number.{empty, number8, number32, number48, flag}
use Rattle.byte_format.specs.Part.{pair, optional, recast, mapped, tested}
use Rattle.byte_format.specs.Several.{counted}
use Rattle.byte_format.specs.Choice.{choice, kind, no_kind}
use Rattle.field_codec.specs.Advice.{advice_format}
use Rattle.field_codec.specs.Change.{change_format}
use Rattle.field_codec.specs.Text.{comment_format}
use Rattle.redo_codec.specs.Decision.{decision_format}
use Rattle.redo_codec.specs.Sealed.{toward_at, toward_number, leads, head_format, tree_format}

-- ---- the state

-- which byte names the state
abbrev pub state_kind : KeptState → ℕ
state_kind states.Sealed = 1
state_kind states.Committed = 2
state_kind states.ForcedCommit = 3
state_kind states.ForcedRollback = 4

-- whether it is this state
abbrev pub sealed_of : KeptState → Option ⊤
sealed_of states.Sealed = Some tt
sealed_of _ = None

abbrev pub committed_of : KeptState → Option ⊤
committed_of states.Committed = Some tt
committed_of _ = None

abbrev pub forced_commit_of : KeptState → Option ⊤
forced_commit_of states.ForcedCommit = Some tt
forced_commit_of _ = None

abbrev pub forced_rollback_of : KeptState → Option ⊤
forced_rollback_of states.ForcedRollback = Some tt
forced_rollback_of _ = None

-- the state: no field, whichever it is
abbrev pub state_kinds : ℕ → Format KeptState
state_kinds =
    kind 1 (λ u. states.Sealed) sealed_of empty
    (kind 2 (λ u. states.Committed) committed_of empty
    (kind 3 (λ u. states.ForcedCommit) forced_commit_of empty
    (kind 4 (λ u. states.ForcedRollback) forced_rollback_of empty no_kind)))

-- the state: 1 prepared, 2 committed, 3 forced to commit, 4 forced to roll back
abbrev pub state_format : Format KeptState
state_format = choice state_kind state_kinds

-- ---- the way to the commit point site

-- 255 is the site itself; each other number is that of a neighbour, as in the record of a prepared branch
abbrev pub way_at : ℕ → Option Toward
way_at n = if n == 255 then None else Some (toward_at n)

-- the number that says so
abbrev pub way_number : Option Toward → ℕ
way_number None = 255
way_number (Some toward) = toward_number toward

-- a neighbour has a number below 255
abbrev pub IsWay : Option Toward → Type 0
IsWay way = IfSome way (λ toward. toward_number toward < 255)

-- the neighbour on the way to the site, and none at the site
abbrev pub way_format : Format (Option Toward)
way_format = recast IsWay way_at way_number number8

-- the way leads to a parent or a child that there is, or nowhere
abbrev pub way_leads : Option Toward → Option BranchId → ℕ → Bool
way_leads None parent children = true
way_leads (Some toward) parent children = leads toward parent children

-- ---- a kept branch

-- so many changes are held back by a branch in this state: only one in doubt holds any
abbrev pub may_hold : KeptState → ℕ → Bool
may_hold states.Sealed changes = true
may_hold _ changes = changes == 0

-- the way of a kept branch leads somewhere, and it holds changes back only in doubt
abbrev pub is_kept : KeptItem → Bool
is_kept x = way_leads x.toward x.parent (length x.children) && may_hold x.state (length x.changes)

-- the advice and the comment
abbrev pub note_format : Format (Option Advice × List ℕ)
note_format = pair advice_format comment_format

-- the decision where it is known, the SCN of the commit, and whether the branch is mixed, has forgotten and is hidden
abbrev pub outcome_format : Format (Option Decision × (ℕ × (Bool × (Bool × Bool))))
outcome_format = pair (optional decision_format) (pair number48 (pair flag (pair flag flag)))

-- the note, the outcome, and what is held back
abbrev pub end_format : Format ((Option Advice × List ℕ) × ((Option Decision × (ℕ × (Bool × (Bool × Bool)))) × List Change))
end_format = pair note_format (pair outcome_format (counted number32 change_format))

-- a kept branch: its fields in order
abbrev pub item_format : Format KeptItem
item_format = tested is_kept (mapped
    (λ x. record { me = x.0.0; root = x.0.1.0; scn = x.0.1.1; state = x.1.0; toward = x.1.1.0; parent = x.1.1.1.0.0; children = x.1.1.1.0.1; advice = x.1.1.1.1.0.0; comment = x.1.1.1.1.0.1; decision = x.1.1.1.1.1.0.0; number = x.1.1.1.1.1.0.1.0; mixed = x.1.1.1.1.1.0.1.1.0; forgot = x.1.1.1.1.1.0.1.1.1.0; hidden = x.1.1.1.1.1.0.1.1.1.1; changes = x.1.1.1.1.1.1 })
    (λ s. ((s.me, (s.root, s.scn)), (s.state, (s.toward, ((s.parent, s.children), ((s.advice, s.comment), ((s.decision, (s.number, (s.mixed, (s.forgot, s.hidden)))), s.changes)))))))
    (pair head_format (pair state_format (pair way_format (pair tree_format end_format)))))
