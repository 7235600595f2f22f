-- Why the COMMIT of a transaction ends, and how it is answered: by what stood at its root's node, by what came, and by the record
-- that was written. (Database Administrator's Guide, "Distributed Transactions Concepts": prepare, commit and forget phases;
-- Error Messages: ORA-02050, ORA-02053, ORA-02054.)
use Rattle.std.specs.List.{list_any}
use Rattle.run_rules.specs.Trail.{is_quiet}
use Rattle.std.specs.Prelude.{◌≡◌, ◌⊎◌, Bool, true, false, List, [], ◌∷◌, Option, Some, None}
use Rattle.node_rules.specs.Data.{Answer, BranchId, Decision, Input, Live, Place, RedoRecord, KeptRow, Decided, Msg}
use Rattle.node_rules.specs.Data.decisions
use Rattle.node_rules.specs.Data.inputs
use Rattle.node_rules.specs.Data.kinds
use Rattle.node_rules.specs.Data.records
use Rattle.node_rules.specs.declared.session.Finished.{Finished}
use Rattle.node_rules.specs.declared.session.PendingCall.TheVariants as pending
use Rattle.node_rules.specs.Commit.{knows_commit}
use Rattle.node_rules.specs.Inputs.{Came}
use Rattle.node_rules.specs.NodeState.{NodeState, TurnOutput, live_at, kept_row_at}
use Rattle.node_rules.specs.Sessions.{session_at, commit_complete, tran_refusal}
use Rattle.node_rules.specs.Turn.{turn_of}
use Rattle.run_rules.specs.Data.{Happening}
use Rattle.run_rules.specs.Data.happenings
use Rattle.run_rules.specs.Facts.{Facts, place_at, node_at}
use Rattle.run_rules.specs.Lawful.{History, IsLawfulRun}
use Rattle.run_base_laws.specs.NodeLaws.{AtEachFact}

-- whether a branch's row knows the commit
abbrev pub row_knows : Option KeptRow → Bool
row_knows None = false
row_knows (Some s) = knows_commit s.decision

-- A live root rolls back, or leaves for it had no changes to commit: no record is written, and it does not say ReadOnly.
pub record LeavesUnrecorded (k after : NodeState) (wrote : Option RedoRecord) (sent : List Msg) (g : BranchId) : Type 0 where
  pub live : Live
  pub there : live_at k g ≡ Some live
  pub gone : live_at after g ≡ None
  pub unwritten : wrote ≡ None
  pub silent : list_any (is_quiet g) sent ≡ false

-- Why the COMMIT of the root g ends, with this answer.
pub data CommitEnd (k : NodeState) (input : Input) (after : NodeState) (wrote : Option RedoRecord) (sent : List Msg) (g : BranchId) (a : Answer) : Type 0 where
  Has_decided : (r : Decided) (l : Live) → live_at k g ≡ Some l → wrote ≡ Some (records.Decided r) → r.me ≡ g → a ≡ commit_complete → CommitEnd k input after wrote sent g a  -- the root is the site, and alone
  Has_no_site : LeavesUnrecorded k after wrote sent g → a ≡ commit_complete → CommitEnd k input after wrote sent g a
  Has_forgotten : (s : KeptRow) → kept_row_at k g ≡ Some s → wrote ≡ Some (records.Forgot g) → a ≡ commit_complete → CommitEnd k input after wrote sent g a
  Hears_abort : (from : BranchId) → Came input from g kinds.Abort → LeavesUnrecorded k after wrote sent g → a ≡ tran_refusal 2050 g → CommitEnd k input after wrote sent g a
  Is_given_up : input ≡ inputs.GiveUp g.session → LeavesUnrecorded k after wrote sent g → a ≡ tran_refusal 2050 g → CommitEnd k input after wrote sent g a
  Ends_back : wrote ≡ Some (records.Ended g decisions.Rollback) → a ≡ tran_refusal 2050 g → CommitEnd k input after wrote sent g a
  Meets_back : (mixed : Bool) → wrote ≡ Some (records.Met g decisions.Rollback mixed) → a ≡ tran_refusal 2050 g → CommitEnd k input after wrote sent g a
  Is_known : input ≡ inputs.GiveUp g.session → live_at k g ≡ None → row_knows (kept_row_at k g) ≡ true → a ≡ tran_refusal 2053 g → CommitEnd k input after wrote sent g a
  Is_in_doubt : input ≡ inputs.GiveUp g.session → live_at k g ≡ None → row_knows (kept_row_at k g) ≡ false → a ≡ tran_refusal 2054 g → CommitEnd k input after wrote sent g a
  Is_forced : (d : Decision) (given : Bool) → wrote ≡ Some (records.Forced g d given) → a ≡ tran_refusal 2054 g → CommitEnd k input after wrote sent g a

-- a call ends so
abbrev pub EndsCall : Finished → List Finished → Type 0
EndsCall f [] = ⊥
EndsCall f (x ∷ xs) = (x ≡ f) ⊎ EndsCall f xs

-- The COMMIT of g is pending at its node.
pub record CommitPends (k : NodeState) (g : BranchId) : Type 0 where
  pub root : (session_at k.sessions g.session).root ≡ Some g
  pub call : (session_at k.sessions g.session).call ≡ pending.Commit

-- a COMMIT that was pending and ends in a turn does so for a reason
abbrev pub EndsForReason : NodeState → Input → TurnOutput → Type 0
EndsForReason k input o = (g : BranchId) (a : Answer) → CommitPends k g → EndsCall (record { session = g.session; answer = a }) o.ended → CommitEnd k input o.after o.wrote o.sent g a

abbrev pub TurnsEndCommits : List Place → Facts → Happening → Type 0
TurnsEndCommits places f (happenings.Turn u) = (k : NodeState) → node_at f u.node ≡ Some k → EndsForReason k u.input (turn_of (place_at places u.node) k u.input)
TurnsEndCommits places f _ = Unit {0}

-- In every lawful run.
abbrev pub CommitsEndSo : Type 0
CommitsEndSo = (t : History) → IsLawfulRun t → AtEachFact TurnsEndCommits t
