-- What an Ack and a Forgotten have done that were delivered, and what a branch that has forgotten was told and has told. By
-- the forest that the Prepares of the run make, Acks come from the neighbours beyond and Forgotten from toward. (Database
-- Administrator's Guide, "Distributed Transactions Concepts": commit phase and forget phase.)
use Rattle.std.specs.Prelude.{◌≡◌, ◌<◌, ◌⊎◌, Bool, true, false, Some}
use Rattle.std.specs.List.{AllByRecursion}
use Rattle.commit_forget.specs.Beyond.{beyond}
use Rattle.agreement.specs.Events.{Quiet, Forget, Send_forgotten, Beyond, exit, Has}
use Rattle.node_rules.specs.Data.{BranchId, Kind, KeptRow}
use Rattle.node_rules.specs.Data.kinds
use Rattle.node_rules.specs.NodeState.{NodeState}
use Rattle.run_rules.specs.Data.fates
use Rattle.run_rules.specs.Facts.{Facts, node_at, records_at}
use Rattle.run_base_laws.specs.InTurnLaws.{said_in}
use Rattle.run_rules.specs.Lawful.{History, IsLawfulRun, facts_at, boots}
use Rattle.run_base_laws.specs.RunEvents.{events_of}
use Rattle.run_branch_laws.specs.WalkLaws.{was_sent}
use Rattle.tree_laws.specs.Forests.{forest_of}
use Rattle.commit_laws.specs.WaitLaws.{NodeHasStopped}
use Rattle.commit_forget_laws.specs.RowLaws.{is_ack, IsSealed}

-- whether a message is Forgotten
abbrev pub is_forgotten : Kind → Bool
is_forgotten kinds.Forgotten = true
is_forgotten _ = false

-- a row holds the Ack of a neighbour that it names as one beyond
abbrev pub HoldsAck : BranchId → KeptRow → Type 0
HoldsAck x s = AllByRecursion (λ y. y.branch ≡ x → y.acked ≡ true) (beyond s)

-- the row of a branch holds it, where there is one, or the node has stopped since the branch began
abbrev pub IsNoted : Facts → BranchId → BranchId → Type 0
IsNoted f x b = (k : NodeState) → node_at f b.node ≡ Some k → (b.boot < boots (records_at f b.node)) ⊎ AllByRecursion (λ s. s.me ≡ b → HoldsAck x s) k.stored.durable.kept

-- In every lawful run an Ack that was delivered, of a sealed neighbour beyond, is held.
abbrev pub AcksAreNoted : Type 0
AcksAreNoted = (t : History) → IsLawfulRun t
    → AllByRecursion (λ x. x.fate ≡ fates.Delivered → is_ack x.msg.kind ≡ true → Beyond (forest_of t) x.msg.from x.msg.to → IsSealed (events_of t) x.msg.from → IsNoted (facts_at t) x.msg.from x.msg.to) (facts_at t).net.packets

-- In every lawful run a sealed branch to which Forgotten was delivered from toward has forgotten, or its node has stopped.
abbrev pub ForgottensAreHeard : Type 0
ForgottensAreHeard = (t : History) → IsLawfulRun t
    → AllByRecursion (λ x. x.fate ≡ fates.Delivered → is_forgotten x.msg.kind ≡ true → Beyond (forest_of t) x.msg.to x.msg.from → IsSealed (events_of t) x.msg.to
    → Has (Forget x.msg.to) (events_of t) ⊎ NodeHasStopped (facts_at t) x.msg.to) (facts_at t).net.packets

-- a branch told each neighbour beyond that it has forgotten, unless that is gone without changes
abbrev pub ToldForgotten : History → BranchId → Type 0
ToldForgotten t b = (x : BranchId) → Beyond (forest_of t) x b → (was_sent is_forgotten (said_in (facts_at t)) b x ≡ true) ⊎ (exit (events_of t) x ≡ Some Quiet)

-- In every lawful run a branch that has forgotten told so, or its node has stopped since the branch began.
abbrev pub ForgetsAreTold : Type 0
ForgetsAreTold = (t : History) → IsLawfulRun t → (b : BranchId) → Has (Forget b) (events_of t) → ToldForgotten t b ⊎ NodeHasStopped (facts_at t) b

-- In every lawful run a sealed branch that has forgotten was told Forgotten by toward.
abbrev pub ForgetsComeFromToward : Type 0
ForgetsComeFromToward = (t : History) → IsLawfulRun t → (b : BranchId) → Has (Forget b) (events_of t) → IsSealed (events_of t) b → Has (Send_forgotten ((forest_of t).toward b) b) (events_of t)
