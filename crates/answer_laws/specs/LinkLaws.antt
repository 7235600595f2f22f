-- Which link the refusals DTX-03 and DTX-08 name: the one that the name of the statement's table stands for, at the node of its
-- session; or that of the child that ROLLBACK TO waits for. (Database Administrator's Guide, "Distributed Transactions Concepts": database links.)
use Rattle.std.specs.Prelude.{◌≡◌, ◌⊎◌, ℕ, List, slice_get, Option, Some}
use Rattle.session_tree.specs.Live.{edge_at}
use Rattle.node_rules.specs.Data.{BranchId, Edge, Stmt}
use Rattle.node_rules.specs.Data.stmts
use Rattle.node_rules.specs.Names.{Behind, named_by, ref_of}
use Rattle.node_rules.specs.NodeState.{NodeState, Branch, branch_at}
use Rattle.run_rules.specs.Data.{Turn}
use Rattle.run_rules.specs.Data.happenings
use Rattle.run_rules.specs.Each.{facts_upto}
use Rattle.run_rules.specs.Facts.{node_at}
use Rattle.run_rules.specs.Lawful.{History, IsLawfulRun}
use Rattle.run_claims.specs.Places.{catalog_at}
use Rattle.answer_laws.specs.EndLaws.{LastCall}
use Rattle.answer_laws.specs.StatementEnds.{StatementPends, link_waited}

-- The last call of a session, up to a moment, is of a statement whose table is behind this link.
pub record IsLinkOfCall (t : History) (node session now : ℕ) (link : List ℕ) : Type 0 where
  pub call : LastCall t node session now
  pub statement : Stmt
  pub its : call.text ≡ Some statement
  pub table : List ℕ
  pub named : named_by (catalog_at t now node) (ref_of statement) ≡ Behind link table

-- The last call of a session, up to a moment, is ROLLBACK TO, and this is the link of a child of the branch.
pub record IsLinkOfBack (t : History) (node session now : ℕ) (o : Option Branch) (link : List ℕ) : Type 0 where
  pub call : LastCall t node session now
  pub name : List ℕ
  pub its : call.text ≡ Some (stmts.RollbackTo name)
  pub branch : Branch
  pub is_it : o ≡ Some branch
  pub number : ℕ
  pub edge : Edge
  pub at : edge_at branch.live number ≡ Some edge
  pub link_is : edge.link ≡ link

-- a statement that waits as a turn comes to its node is the last call of its session, and waits for the link of its table; ROLLBACK
-- TO waits for the link of a child
abbrev pub StatementsHaveTheirLinks : History → Type 0
StatementsHaveTheirLinks t = (i : ℕ) (u : Turn) → slice_get t.trace i ≡ Some (happenings.Turn u) → (k : NodeState) → node_at (facts_upto t i) u.node ≡ Some k
    → (g : BranchId) → StatementPends k g → IsLinkOfCall t u.node g.session i (link_waited (branch_at k g)) ⊎ IsLinkOfBack t u.node g.session i (branch_at k g) (link_waited (branch_at k g))

-- In every lawful run it is so.
abbrev pub StatementsWaitForTheirLinks : Type 0
StatementsWaitForTheirLinks = (t : History) → IsLawfulRun t → StatementsHaveTheirLinks t
