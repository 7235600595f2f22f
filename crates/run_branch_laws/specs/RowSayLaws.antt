-- Who acknowledges a commit, and who tells a rollback.
use Rattle.std.specs.Prelude.{◌≡◌, ℕ, ◌⊎◌, false, List, Some}
use Rattle.std.specs.List.{AllByRecursion}
use Rattle.commit_forget.specs.Beyond.{is_neighbor}
use Rattle.agreement.specs.Events.{Decided, Event, Send_commit, exit, Has, Gone}
use Rattle.node_rules.specs.Data.{BranchId, Kind, KeptRow, Place}
use Rattle.node_rules.specs.Data.kinds
use Rattle.node_rules.specs.Words.{item_at}
use Rattle.node_rules.specs.NodeState.{NodeState, kept_row_id}
use Rattle.run_rules.specs.Data.{Happening, Command}
use Rattle.run_rules.specs.Data.happenings
use Rattle.run_rules.specs.Facts.{Facts, node_at, facts_after}
use Rattle.run_rules.specs.Lawful.{History, IsLawfulRun}
use Rattle.run_base_laws.specs.RunEvents.{with_exits}
use Rattle.run_base_laws.specs.EventLaws.{AtEachEvent}
use Rattle.run_branch_laws.specs.TowardLaws.{IsRowLike, AllAcked}

-- nothing of a branch is kept, or it decided
abbrev pub IsOver : List Event → BranchId → Type 0
IsOver t b = Gone t b ⊎ ((n : ℕ) × (exit t b ≡ Some (Decided n)))

-- by its row all beyond acknowledged; or it is over, and the receiver told it a commit
abbrev pub AckIs : List Event → List KeptRow → BranchId → BranchId → Type 0
AckIs t ks b f = ((s : KeptRow) × IsRowLike ks b s × AllAcked t s) ⊎ (IsOver t b × ((n : ℕ) × Has (Send_commit f b n) t))

-- its sender is over; or by its row the receiver is neither its parent nor one of its children
abbrev pub RollbackIs : List Event → List KeptRow → BranchId → BranchId → Type 0
RollbackIs t ks e d = IsOver t e ⊎ ((s : KeptRow) × (item_at kept_row_id ks e ≡ Some s) × (is_neighbor s d ≡ false))

-- An Ack by the events and the rows before the turn, a rollback by those rows and the events with the turn's record and exits.
abbrev pub SaysByRow : List Event → List Event → List KeptRow → BranchId → BranchId → Kind → Type 0
SaysByRow t r ks from to kinds.Ack = AckIs t ks from to
SaysByRow t r ks from to kinds.Rollback = RollbackIs r ks from to
SaysByRow t r ks from to kinds.RolledBack = RollbackIs r ks from to
SaysByRow t r ks from to _ = Unit {0}

-- each message of a turn is so
abbrev pub TellsByRow : List Place → List Command → Facts → List Event → Happening → Type 0
TellsByRow places asked f t (happenings.Turn u) =
    (k : NodeState) → node_at f u.node ≡ Some k → AllByRecursion (λ m. SaysByRow t (with_exits f (facts_after places asked f (happenings.Turn u)) u t) k.stored.durable.kept m.from m.to m.kind) u.sent
TellsByRow places asked f t _ = Unit {0}

-- In every lawful run commits are acknowledged, and rollbacks told, so.
abbrev pub TurnsTellByRows : Type 0
TurnsTellByRows = (t : History) → IsLawfulRun t → AtEachEvent (TellsByRow t.places t.commands) t
