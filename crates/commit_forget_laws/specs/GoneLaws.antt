-- Where each sealed branch of a transaction has ended with commit, all its messages came, and no node has stopped, no node
-- knows anything of its branches any more that are not live: those beyond acknowledged first, farthest from the site first,
-- and all forgot, the site first. So it is of an undisturbed COMMIT. (Database Administrator's Guide, "Distributed Transactions
-- Concepts": forget phase.)
use Rattle.std.specs.Prelude.{◌≡◌, ◌≢◌, ℕ, Some, None}
use Rattle.std.specs.List.{AllByRecursion}
use Rattle.node_rules.specs.Data.{BranchId}
use Rattle.node_rules.specs.NodeState.{NodeState, live_at}
use Rattle.node_rules.specs.Turn.{Is_gone, status_of}
use Rattle.run_rules.specs.Births.{Born, births_of}
use Rattle.run_base_laws.specs.BirthLaws.{Began}
use Rattle.run_rules.specs.Data.fates
use Rattle.run_rules.specs.Facts.{node_at}
use Rattle.run_rules.specs.Lawful.{History, IsLawfulRun, facts_at}
use Rattle.commit_laws.specs.StillLaws.{DroppedNone}
use Rattle.run_claims.specs.Undisturbed.{Commit, Undisturbed, SealIsEnded, branches_in, stand_at}
use Rattle.commit_laws.specs.WaitLaws.{NodeHasStopped}

-- All messages of the branches of a transaction came, no node of them has stopped since they began, and each of its seals
-- has its Ended commit.
pub record AllEnded (t : History) (root : BranchId) : Type 0 where
  pub messages : AllByRecursion (λ x. (b : Born) → Began (births_of t) b → b.me ≡ x.msg.from → b.root ≡ root → x.fate ≡ fates.Delivered) (facts_at t).net.packets
  pub up : (b : Born) → Began (births_of t) b → b.root ≡ root → NodeHasStopped (facts_at t) b.me → ⊥
  pub ended : AllByRecursion (SealIsEnded (facts_at t).book root) (facts_at t).book

-- No node keeps a row of a transaction, and each of its branches that is not live is gone.
pub record RowsAreGone (t : History) (root : BranchId) : Type 0 where
  pub rows : (n : ℕ) (k : NodeState) → node_at (facts_at t) n ≡ Some k → AllByRecursion (λ s. s.root ≢ root) k.stored.durable.kept
  pub gone : (b : Born) → Began (births_of t) b → b.root ≡ root → (k : NodeState) → node_at (facts_at t) b.me.node ≡ Some k → live_at k b.me ≡ None → status_of k b.me ≡ Is_gone

-- In every lawful run it is so of such a transaction.
abbrev pub EndedRowsGo : Type 0
EndedRowsGo = (t : History) → IsLawfulRun t → (root : BranchId) → AllEnded t root → RowsAreGone t root

-- So where none of its branches is live any more the nodes know nothing of them.
abbrev pub EndedBranchesGo : Type 0
EndedBranchesGo = (t : History) → IsLawfulRun t → (root : BranchId) → AllEnded t root
    → ((b : Born) → Began (births_of t) b → b.root ≡ root → (k : NodeState) → node_at (facts_at t) b.me.node ≡ Some k → live_at k b.me ≡ None)
    → AllByRecursion (λ b. stand_at (facts_at t) b ≡ Some Is_gone) (branches_in (births_of t) root)

-- So it is of an undisturbed COMMIT, where none of its branches below the root was dropped, and each seal has ended with commit.
abbrev pub UndisturbedRowsGo : Type 0
UndisturbedRowsGo = (t : History) → IsLawfulRun t → (c : Commit t.places t.commands t.trace) → Undisturbed t.places t.commands t.trace c → DroppedNone t c.root
    → AllByRecursion (SealIsEnded (facts_at t).book c.root) (facts_at t).book → RowsAreGone t c.root
