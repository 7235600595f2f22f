-- Two live branches of a node never have changed one key. (Database Administrator's Guide, "Distributed Transactions Concepts": row
-- locks.)
use Rattle.std.specs.Prelude.{◌≡◌, ℕ, true, List, Some}
use Rattle.row_locks.specs.Back.{is_changed_in}
use Rattle.node_rules.specs.Data.{Place, Value}
use Rattle.run_rules.specs.Branches.{Seen, Trail, is_live_at, own_changes, seen_at}
use Rattle.run_rules.specs.Data.{Happening}
use Rattle.run_rules.specs.Data.happenings
use Rattle.run_rules.specs.Each.{AtEach}
use Rattle.run_rules.specs.Facts.{Facts}
use Rattle.run_rules.specs.Lawful.{History, IsLawfulRun}

-- A branch is live at a node by the branch history, and has changed a key.
pub record HasChanged (tr : Trail) (n : ℕ) (table : List ℕ) (key : Value) (s : Seen) : Type 0 where
  pub began : seen_at tr s.me ≡ Some s
  pub live : is_live_at n s ≡ true
  pub changed : is_changed_in (own_changes s) table key ≡ true

-- where a turn comes to a node, two that have changed one key there are one
abbrev pub ChangeApart : List Place → Facts → Trail → Happening → Type 0
ChangeApart places f tr (happenings.Turn u) = (table : List ℕ) (key : Value) (s q : Seen) → HasChanged tr u.node table key s → HasChanged tr u.node table key q → s.me ≡ q.me
ChangeApart places f tr _ = Unit {0}

-- In every lawful run it is so.
abbrev pub LivesChangeApart : Type 0
LivesChangeApart = (t : History) → IsLawfulRun t → AtEach ChangeApart t
