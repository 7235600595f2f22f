-- What each record makes of the rows of kept branches.
use Rattle.std.specs.Prelude.{ℕ, ◌&&◌, not, Bool, true, false, if◌then◌else◌, List, Some}
use Rattle.tran_ids.specs.Branch.{same, put_by_branch}
use Rattle.redo_record.specs.Data.{BranchId, Decision, RedoRecord, State, KeptRow}
use Rattle.redo_record.specs.Data.decisions
use Rattle.redo_record.specs.Data.records
use Rattle.redo_record.specs.Data.states
use Rattle.redo_record.specs.Lists.{change_where, drop_where}
use Rattle.redo_record.specs.Rows.{sealed_as, decided_as, has_neighbors}

-- whether a kept branch has this id
abbrev pub stands_at : BranchId → KeptRow → Bool
stands_at b s = same s.me b

-- with one more kept branch
abbrev pub add_kept : List KeptRow → KeptRow → List KeptRow
add_kept ks x = put_by_branch (λ y. y.me) ks x

-- a decided branch is kept where it has neighbours
abbrev pub keep_decided : List KeptRow → KeptRow → List KeptRow
keep_decided ks x = if has_neighbors x then add_kept ks x else ks

-- a branch that has committed at this SCN
abbrev pub ended_commit : ℕ → KeptRow → KeptRow
ended_commit n x = record x { state = states.Committed; decision = Some (decisions.Commit n) }

-- Ended: a committed branch stays kept, one that rolled back does not
abbrev pub ended : List KeptRow → BranchId → Decision → List KeptRow
ended ks b (decisions.Commit n) = change_where (stands_at b) (ended_commit n) ks
ended ks b decisions.Rollback = drop_where (stands_at b) ks

-- the state of a branch that was forced
abbrev pub forced_state : Decision → State
forced_state (decisions.Commit n) = states.ForcedCommit n
forced_state decisions.Rollback = states.ForcedRollback

-- a forced branch: its decision stays unknown
abbrev pub in_state : State → KeptRow → KeptRow
in_state state x = record x { state = state }

-- Forced: the branch stays kept, whatever it was forced to
abbrev pub forced : List KeptRow → BranchId → Decision → List KeptRow
forced ks b d = change_where (stands_at b) (in_state (forced_state d)) ks

-- a hidden row that is found mixed is shown again
abbrev pub met_as : Decision → Bool → KeptRow → KeptRow
met_as d mixed x = record x { decision = Some d; mixed = mixed; hidden = x.hidden && not mixed }

-- Met: a forced branch learns the decision; its row goes with a rollback, unless it is mixed
abbrev pub met : List KeptRow → BranchId → Decision → Bool → List KeptRow
met ks b d true = change_where (stands_at b) (met_as d true) ks
met ks b (decisions.Commit n) false = change_where (stands_at b) (met_as (decisions.Commit n) false) ks
met ks b decisions.Rollback false = drop_where (stands_at b) ks

-- a branch that has forgotten
abbrev pub forgot_as : KeptRow → KeptRow
forgot_as x = record x { forgot = true }

-- a branch that forgets and is not mixed
abbrev pub is_done : BranchId → KeptRow → Bool
is_done b x = same x.me b && not x.mixed

-- Forgot: a row goes when its branch forgets, unless it is mixed
abbrev pub forgotten : List KeptRow → BranchId → List KeptRow
forgotten ks b = change_where (stands_at b) forgot_as (drop_where (is_done b) ks)

-- a branch whose row is hidden
abbrev pub hidden_as : KeptRow → KeptRow
hidden_as x = record x { hidden = true }

-- Hidden: the branch stays kept
abbrev pub hidden : List KeptRow → BranchId → List KeptRow
hidden ks b = change_where (stands_at b) hidden_as ks

-- the kept branches after one record
unfoldable pub kept_after : List KeptRow → RedoRecord → List KeptRow
kept_after ks (records.Sealed r) = add_kept ks (sealed_as r)
kept_after ks (records.Decided r) = keep_decided ks (decided_as r)
kept_after ks (records.Ended b d) = ended ks b d
kept_after ks (records.Forced b d given) = forced ks b d
kept_after ks (records.Met b d mixed) = met ks b d mixed
kept_after ks (records.Forgot b) = forgotten ks b
kept_after ks (records.Hidden b) = hidden ks b
kept_after ks _ = ks
