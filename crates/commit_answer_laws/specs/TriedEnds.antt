-- The laws of COMMIT's answers, tried on the run of two nodes, whose site is the root at A: given up while B has not answered it
-- is rolled back; given up once A has decided it is known; and once B's Ack has come it is complete.
use Rattle.std.specs.Prelude.{◌≡◌, ℕ, List, [], ◌∷◌, take, Option, Some, None}
use Rattle.node_rules.specs.Data.{Answer}
use Rattle.node_rules.specs.Data.inputs
use Rattle.node_rules.specs.declared.session.Finished.{Finished}
use Rattle.node_rules.specs.declared.session.PendingCall.{PendingCall}
use Rattle.node_rules.specs.declared.session.PendingCall.TheVariants as pending
use Rattle.node_rules.specs.NodeState.{NodeState, TurnOutput}
use Rattle.node_rules.specs.Sessions.{session_at, commit_complete, tran_refusal}
use Rattle.run_rules.specs.Facts.{Facts, first_facts, facts_of, node_at, outcome_at}
use Rattle.run_branch_laws.specs.TriedRun.{places, takes, played, coming, turn_by, a}

-- the facts after so many happenings of the run
abbrev pub facts_when : ℕ → Facts
facts_when i = facts_of places [] (first_facts places) (played (first_facts places) (take i coming))

-- the pending call of session 1 at A
abbrev pub call_in : Option NodeState → PendingCall
call_in None = pending.NoCall
call_in (Some k) = (session_at k.sessions 1).call

-- the calls that a turn ends
abbrev pub ended_in : Option TurnOutput → List Finished
ended_in None = []
ended_in (Some o) = o.ended

-- the calls that end where the COMMIT is given up then
abbrev pub given_up : ℕ → List Finished
given_up i = ended_in (outcome_at places (facts_when i) (turn_by (facts_when i) 1 (inputs.GiveUp 1) None))

-- and where the message of a number comes then
abbrev pub ended_by : ℕ → ℕ → List Finished
ended_by i k = ended_in (outcome_at places (facts_when i) (takes k (facts_when i)))

-- an answer to session 1
abbrev pub answered : Answer → List Finished
answered x = (record { session = 1; answer = x }) ∷ []

pub record TheTriedEnds : Type 0 where
  pub pends : call_in (node_at (facts_when 10) 1) ≡ pending.Commit
  pub rolled_back : given_up 10 ≡ answered (tran_refusal 2050 a)
  pub still : call_in (node_at (facts_when 12) 1) ≡ pending.Commit
  pub known : given_up 12 ≡ answered (tran_refusal 2053 a)
  pub complete : ended_by 13 8 ≡ answered commit_complete
