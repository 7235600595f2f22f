-- What an accepted run of a statement has met at its table, by the book and the branch history as they stood before its turn: the
-- statement is right by itself, no key that it examines is in doubt, and no key that it writes was changed by another live branch. (SQL
-- Language Reference; Database Administrator's Guide, "Distributed Transactions Concepts": locks of in-doubt transactions.)
use Rattle.std.specs.Prelude.{◌≡◌, ℕ, ◌+◌, true, false, List, nat_lt, slice_get, Some, None}
use Rattle.dtx_values.specs.Limits.{changes_limit}
use Rattle.sql_check.specs.Checks.{checked}
use Rattle.row_locks.specs.Back.{is_changed_in}
use Rattle.row_store.specs.Own.{changes_length}
use Rattle.node_rules.specs.Data.{Value, Answer, BranchId, Change, Done, Place}
use Rattle.node_rules.specs.Meaning.{Changes, written}
use Rattle.node_rules.specs.Words.{same}
use Rattle.run_rules.specs.Branches.{Run, Seen, Trail, is_live_at, own_at, own_changes, read_at_at, seen_at}
use Rattle.run_rules.specs.Data.{Happening}
use Rattle.run_rules.specs.Data.happenings
use Rattle.run_rules.specs.Each.{AtEach}
use Rattle.run_rules.specs.Facts.{Facts, outcome_at}
use Rattle.run_rules.specs.Lawful.{History, IsLawfulRun}
use Rattle.run_rules.specs.Runs.{run_in, answered_by, is_accepted, meaning, view_by}
use Rattle.run_rules.specs.Trail.{with_begun}
use Rattle.run_claims.specs.Meanings.{IsInDoubt, examined_by}

-- the keys that a run writes
abbrev pub written_by : Facts → Trail → Run → List Value
written_by f tr r = written r.statement r.table (view_by f.book r.branch (read_at_at tr r.branch) (own_at tr r.branch) r.table.name)

-- Another live branch of the node of a branch has changed a key.
pub record IsChangedByAnother (tr : Trail) (me : BranchId) (table : List ℕ) (key : Value) : Type 0 where
  pub other : Seen
  pub began : seen_at tr other.me ≡ Some other
  pub live : is_live_at me.node other ≡ true
  pub apart : same other.me me ≡ false
  pub changed : is_changed_in (own_changes other) table key ≡ true

-- A run has no cause to be refused for its text, for a key in doubt, for a row that another live branch has changed, or for the size of
-- its branch's changes.
pub record MeetsNobody (f : Facts) (tr : Trail) (r : Run) : Type 0 where
  pub right : checked r.statement r.table ≡ None
  pub certain : (i : ℕ) (key : Value) → slice_get (examined_by f tr r) i ≡ Some key → IsInDoubt f r.branch.node r.table.name key → ⊥
  pub free : (i : ℕ) (key : Value) → slice_get (written_by f tr r) i ≡ Some key → IsChangedByAnother tr r.branch r.table.name key → ⊥
  pub small : (d : Done) (n : ℕ) (cs : List Change) → meaning f.book (read_at_at tr r.branch) (own_at tr r.branch) r ≡ Changes d n cs
      → nat_lt changes_limit (changes_length (own_at tr r.branch) + changes_length cs) ≡ false

-- the run of a turn, where it was accepted
abbrev pub AcceptedMeetsNobody : List Place → Facts → Trail → Happening → Type 0
AcceptedMeetsNobody places f tr (happenings.Turn u) = (r : Run) (a : Answer) → run_in f (with_begun f tr u) u ≡ Some r → answered_by (outcome_at places f u) ≡ Some a → is_accepted (Some a) ≡ true → MeetsNobody f tr r
AcceptedMeetsNobody places f tr _ = Unit {0}

-- In every lawful run each accepted run of a statement does so: no change is made to a key in doubt, and two live branches
-- never change one key.
abbrev pub AcceptedRunsMeetNobody : Type 0
AcceptedRunsMeetNobody = (t : History) → IsLawfulRun t → AtEach AcceptedMeetsNobody t
