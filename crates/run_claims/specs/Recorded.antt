-- Statements that are done once a record of their own is written: CREATE, ALTER SYSTEM, COMMIT FORCE, ROLLBACK FORCE and the
-- purges. (SQL Language Reference: CREATE TABLE, CREATE DATABASE LINK, CREATE SYNONYM; Database Administrator's Guide,
-- "Managing Distributed Transactions": manually overriding in-doubt transactions, purging pending rows, DBMS_TRANSACTION,
-- disabling and enabling RECO.)
use Rattle.std.specs.Prelude.{◌≡◌, ℕ, ◌+◌, ◌⊎◌, Bool, true, false, List, [], ◌∷◌, find, Some, None, Ok}
use Rattle.node_rules.specs.Data.{Table, Link, Synonym, Stmt, Done, BranchId, RedoRecord, KeptRow, Place}
use Rattle.node_rules.specs.Data.decisions
use Rattle.node_rules.specs.Data.dones
use Rattle.node_rules.specs.Data.params
use Rattle.node_rules.specs.Data.records
use Rattle.node_rules.specs.Data.stmts
use Rattle.node_rules.specs.Force.{branch_to_force, may_purge}
use Rattle.node_rules.specs.NodeState.{NodeState}

-- whether a statement is done once a record of its own is written
abbrev pub is_recorded : Stmt → Bool
is_recorded (stmts.CreateTable t) = true
is_recorded (stmts.CreateLink l) = true
is_recorded (stmts.CreateSynonym y) = true
is_recorded (stmts.Recovery on) = true
is_recorded (stmts.SetStrength strength) = true
is_recorded (stmts.CommitForce id scn) = true
is_recorded (stmts.RollbackForce id) = true
is_recorded (stmts.PurgeMixed id) = true
is_recorded (stmts.PurgeLost id) = true
is_recorded _ = false

-- whether a record is that of a statement
abbrev pub is_of_statement : RedoRecord → Bool
is_of_statement (records.Table t) = true
is_of_statement (records.Link l) = true
is_of_statement (records.Synonym y) = true
is_of_statement (records.Param p) = true
is_of_statement (records.Forced b d given) = true
is_of_statement (records.Hidden b) = true
is_of_statement _ = false

-- The record of a statement at a node, and what its call is answered.
pub data Records (p : Place) (k : NodeState) : Stmt → RedoRecord → Done → Type 0 where
  A_table : (t : Table) → Records p k (stmts.CreateTable t) (records.Table t) dones.TableMade
  A_link : (l : Link) → Records p k (stmts.CreateLink l) (records.Link l) dones.LinkMade
  A_synonym : (y : Synonym) → Records p k (stmts.CreateSynonym y) (records.Synonym y) dones.SynonymMade
  A_setting : (on : Bool) → Records p k (stmts.Recovery on) (records.Param (params.Recovery on)) dones.SystemAltered
  A_strength : (strength : ℕ) → Records p k (stmts.SetStrength strength) (records.Param (params.Strength strength)) dones.SystemAltered
  A_commit_at : (id : List ℕ) (scn : ℕ) (b : BranchId) → branch_to_force p.names k.stored.durable.kept id ≡ Ok b
      → Records p k (stmts.CommitForce id (Some scn)) (records.Forced b (decisions.Commit scn) true) dones.Committed
  A_commit : (id : List ℕ) (b : BranchId) → branch_to_force p.names k.stored.durable.kept id ≡ Ok b
      → Records p k (stmts.CommitForce id None) (records.Forced b (decisions.Commit (k.clock + 1)) false) dones.Committed
  A_rollback : (id : List ℕ) (b : BranchId) → branch_to_force p.names k.stored.durable.kept id ≡ Ok b
      → Records p k (stmts.RollbackForce id) (records.Forced b decisions.Rollback false) dones.RolledBack
  A_mixed_row : (id : List ℕ) (s : KeptRow) → find (may_purge true id) k.stored.durable.kept ≡ Some s → Records p k (stmts.PurgeMixed id) (records.Hidden s.me) dones.Purged
  A_lost_row : (id : List ℕ) (s : KeptRow) → find (may_purge false id) k.stored.durable.kept ≡ Some s → Records p k (stmts.PurgeLost id) (records.Hidden s.me) dones.Purged

-- one of these is this record
abbrev pub IsOneOf : List RedoRecord → RedoRecord → Type 0
IsOneOf [] r = ⊥
IsOneOf (x ∷ xs) r = (x ≡ r) ⊎ IsOneOf xs r
