-- The claims, tried on single records and happenings: what a claim that is a little off would say otherwise.
use Rattle.std.specs.Prelude.{◌≡◌, ◌+◌, ℕ, Bool, true, false, List, Option, Ok, None}
use Rattle.run_rules.specs.Data.fates
use Rattle.node_rules.specs.Data.{BranchId, Decision, Place}
use Rattle.node_rules.specs.Data.decisions
use Rattle.node_rules.specs.Data.dones
use Rattle.node_rules.specs.Data.records
use Rattle.node_rules.specs.Data.stmts
use Rattle.node_rules.specs.Force.{branch_to_force}
use Rattle.node_rules.specs.NodeState.{NodeState}
use Rattle.run_rules.specs.Data.happenings
use Rattle.run_claims.specs.CommitCourse.{GoesWell}
use Rattle.run_claims.specs.Recorded.{is_recorded, is_of_statement, Records}
use Rattle.run_claims.specs.Undisturbed.{is_lost}

-- What each of these is, and is not.
pub record TheTriedClaims : Type 0 where
  -- no COMMIT is done by a record of its own, and COMMIT FORCE is
  pub commit : (comment : Option (List ℕ)) → is_recorded (stmts.Commit comment) ≡ false
  pub force : (id : List ℕ) (scn : Option ℕ) → is_recorded (stmts.CommitForce id scn) ≡ true
  -- the record of an outcome that a branch learned is no statement's
  pub learned : (b : BranchId) (d : Decision) → is_of_statement (records.Ended b d) ≡ false
  pub forced : (b : BranchId) (d : Decision) (given : Bool) → is_of_statement (records.Forced b d given) ≡ true
  -- COMMIT FORCE without an SCN takes one that is later than all that its node has seen
  pub later : (p : Place) (k : NodeState) (id : List ℕ) (b : BranchId) → branch_to_force p.names k.stored.durable.kept id ≡ Ok b
      → Records p k (stmts.CommitForce id None) (records.Forced b (decisions.Commit (k.clock + 1)) false) dones.Committed
  -- a command in which a message is lost or a node stops does not go well
  pub lost : (k : ℕ) → GoesWell (happenings.Lost k) → ⊥
  pub stopped : (n : ℕ) → GoesWell (happenings.Stopped n) → ⊥
  -- a message that was delivered is not lost
  pub delivered : is_lost fates.Delivered ≡ false
