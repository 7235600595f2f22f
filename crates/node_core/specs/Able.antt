-- What a node needs for its next turn.
use Rattle.std.specs.Prelude.{◌≡◌, ℕ, ◌-◌, ◌^◌, ◌<◌, ◌≤◌, length, max, IfSome}
use Rattle.std.specs.List.{AllByRecursion}
use Rattle.dtx_values.specs.Limits.{link_limit, node_limit}
use Rattle.node_rules.specs.Data.{Stmt, Place, Input}
use Rattle.node_rules.specs.Data.stmts
use Rattle.node_rules.specs.Data.inputs
use Rattle.node_rules.specs.Data.phases
use Rattle.node_rules.specs.NodeState.{NodeState}
use Rattle.node_rules.specs.Client.{root_at}
use Rattle.node_rules.specs.Turn.{kind_scn}
use Rattle.node_ready_laws.specs.Ready.{IsReady, IsExpected}
use Rattle.node_undo_laws.specs.Kept.{HasUndo}

-- the greatest session, transaction and call number that a node may have given out: 2 ^ 32 - 66
abbrev pub given_limit : ℕ
given_limit = 4294967230

-- A node that can take a turn: it is ready and keeps its undo, it is one of few nodes and has few links, and the numbers that it has
-- given out and its clock are below their limits.
pub record IsAble (p : Place) (k : NodeState) : Type 0 where
  pub ready : IsReady p k
  pub undo : HasUndo p k
  pub nodes : length p.names ≤ node_limit
  pub links : p.links ≤ link_limit
  pub opens : length k.opens ≤ given_limit
  pub seqs : AllByRecursion (λ s. s.seq ≤ given_limit) k.sessions
  pub calls : AllByRecursion (λ w. AllByRecursion (λ c. c ≤ given_limit) w.calls) k.works
  pub clock : k.clock < 2 ^ 48 - 1

-- the SCNs that a message brings are below the greatest one
abbrev pub BringsScns : Input → Type 0
BringsScns (inputs.Message m) = max m.scn (kind_scn m.kind) < 2 ^ 48 - 1
BringsScns _ = Unit {0}

-- a COMMIT comes to a live root while that works: none is pending, and nobody has sent it Prepare
abbrev pub EndsWork : NodeState → ℕ → Stmt → Type 0
EndsWork k n (stmts.Commit comment) = IfSome (root_at k n) (λ x. x.live.phase ≡ phases.Working)
EndsWork k n _ = Unit {0}

-- so it is with a call that is one
abbrev pub BringsCommit : NodeState → Input → Type 0
BringsCommit k (inputs.Call n s) = IfSome s (EndsWork k n)
BringsCommit k _ = Unit {0}

-- A node that can take this in its next turn.
pub record MayTake (p : Place) (k : NodeState) (input : Input) : Type 0 where
  pub able : IsAble p k
  pub expected : IsExpected input
  pub scns : BringsScns input
  pub commit : BringsCommit k input
