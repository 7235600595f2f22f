-- The roots of sessions between their calls: a session that waits for no answer has a root that works, so COMMIT finds it working.
use Rattle.std.specs.Prelude.{◌≡◌, ℕ, List, IfSome, Option, Some}
use Rattle.node_rules.specs.Data.{Place, Input}
use Rattle.node_rules.specs.Data.phases
use Rattle.node_rules.specs.declared.session.PendingCall.TheVariants as pending
use Rattle.node_rules.specs.NodeState.{NodeState}
use Rattle.node_rules.specs.Sessions.{session_at}
use Rattle.node_rules.specs.Client.{root_at}
use Rattle.node_core.specs.Able.{BringsCommit}
use Rattle.run_rules.specs.Data.{Took, Happening}
use Rattle.run_rules.specs.Data.happenings
use Rattle.run_rules.specs.Facts.{Facts, node_at}
use Rattle.run_rules.specs.Lawful.{History, IsLawfulRun, Comes, facts_at}
use Rattle.run_base_laws.specs.NodeLaws.{AtEachFact, OfEachNode}

-- the live root of each session without a pending call is working
abbrev pub RestingWork : NodeState → Type 0
RestingWork k = (n : ℕ) → (session_at k.sessions n).call ≡ pending.NoCall → IfSome (root_at k n) (λ x. x.live.phase ≡ phases.Working)

-- In every lawful run it is so at each node that is up.
abbrev pub RootsWork : Type 0
RootsWork = OfEachNode (λ p rs k. RestingWork k)

-- So in every lawful run a COMMIT that may come finds the live root of its session working.
abbrev pub CommitsFindWork : Type 0
CommitsFindWork = (t : History) → IsLawfulRun t → (n : ℕ) (k : NodeState) → node_at (facts_at t) n ≡ Some k → (input : Input) (took : Option Took) → Comes (facts_at t) k n input took → BringsCommit k input

-- a turn whose input is a COMMIT finds it so
abbrev pub FindsWork : List Place → Facts → Happening → Type 0
FindsWork places f (happenings.Turn u) = (k : NodeState) → node_at f u.node ≡ Some k → BringsCommit k u.input
FindsWork places f _ = Unit {0}

-- In every lawful run each turn does.
abbrev pub TurnsFindWork : Type 0
TurnsFindWork = (t : History) → IsLawfulRun t → AtEachFact FindsWork t
