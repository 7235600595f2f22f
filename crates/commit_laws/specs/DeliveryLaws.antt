-- What a message that was delivered has done: it came to its receiver in a turn, Prepare leaves no working branch, and an
-- answer to Prepare leaves no branch that waits for it. (Database Administrator's Guide, "Distributed Transactions
-- Concepts": prepare phase.)
use Rattle.std.specs.Prelude.{◌≡◌, ◌≢◌, Bool, true, false, List, ◌∷◌, ◌++◌, Some}
use Rattle.std.specs.List.{AllByRecursion}
use Rattle.node_rules.specs.Data.{BranchId, Kind, Live, Msg}
use Rattle.node_rules.specs.Data.inputs
use Rattle.node_rules.specs.Data.kinds
use Rattle.node_rules.specs.Data.phases
use Rattle.node_rules.specs.NodeState.{NodeState, live_at}
use Rattle.node_rules.specs.Prepare.{is_awaited}
use Rattle.run_rules.specs.Data.{Turn, Happening}
use Rattle.run_rules.specs.Data.fates
use Rattle.run_rules.specs.Data.happenings
use Rattle.run_rules.specs.Facts.{Facts, node_at}
use Rattle.run_base_laws.specs.FreezeLaws.{was_asked}
use Rattle.run_base_laws.specs.InTurnLaws.{said_in}
use Rattle.run_rules.specs.Lawful.{History, IsLawfulRun, facts_at}
use Rattle.run_rules.specs.Trail.{is_prepare}

-- A message came to its receiver's node in a turn.
pub record CameInTurn (trace : List Happening) (m : Msg) : Type 0 where
  pub before : List Happening
  pub turn : Turn
  pub later : List Happening
  pub is : before ++ happenings.Turn turn ∷ later ≡ trace
  pub input : turn.input ≡ inputs.Message m
  pub here : turn.node ≡ m.to.node

-- In every lawful run each message that was delivered did.
abbrev pub DeliveriesCame : Type 0
DeliveriesCame = (t : History) → IsLawfulRun t → AllByRecursion (λ x. x.fate ≡ fates.Delivered → CameInTurn t.trace x.msg) (facts_at t).net.packets

-- a branch is not working, where it is live
abbrev pub IsBusy : Facts → BranchId → Type 0
IsBusy f b = (k : NodeState) (l : Live) → node_at f b.node ≡ Some k → live_at k b ≡ Some l → l.phase ≢ phases.Working

-- In every lawful run a branch to which Prepare was delivered is not working.
abbrev pub PreparesAreHeard : Type 0
PreparesAreHeard = (t : History) → IsLawfulRun t → AllByRecursion (λ x. x.fate ≡ fates.Delivered → is_prepare x.msg.kind ≡ true → IsBusy (facts_at t) x.msg.to) (facts_at t).net.packets

-- whether a message is an answer to Prepare of a branch that goes on: Prepared, ReadOnly or Ready
abbrev pub is_answer : Kind → Bool
is_answer kinds.Prepared = true
is_answer kinds.ReadOnly = true
is_answer kinds.Ready = true
is_answer _ = false

-- In every lawful run the receiver of such an answer asked for it.
abbrev pub AnswersWereAsked : Type 0
AnswersWereAsked = (t : History) → IsLawfulRun t → AllByRecursion (λ x. is_answer x.msg.kind ≡ true → was_asked (said_in (facts_at t)) x.msg.to x.msg.from ≡ true) (facts_at t).net.packets

-- a branch waits for no answer of this child, where it is live
abbrev pub HasAnswerOf : Facts → BranchId → BranchId → Type 0
HasAnswerOf f p c = (k : NodeState) (l : Live) → node_at f p.node ≡ Some k → live_at k p ≡ Some l → AllByRecursion (λ e. e.peer ≡ c → is_awaited e.vote ≡ false) l.edges

-- In every lawful run a branch to which an answer was delivered waits for that child no more.
abbrev pub AnswersAreHeard : Type 0
AnswersAreHeard = (t : History) → IsLawfulRun t → AllByRecursion (λ x. x.fate ≡ fates.Delivered → is_answer x.msg.kind ≡ true → HasAnswerOf (facts_at t) x.msg.to x.msg.from) (facts_at t).net.packets
