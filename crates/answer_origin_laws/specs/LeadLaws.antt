-- The run that a call of a branch was answered by: the call brought a statement to the branch, which led over links and
-- children to the table where it ran. (Database Administrator's Guide, "Distributed Transactions Concepts": session trees,
-- local and global coordinators.)
use Rattle.std.specs.Prelude.{◌≡◌, ◌≢◌, ℕ, ◌<◌, ◌≤◌, ◌⊎◌, true, false, List, ◌∷◌, slice_get, Option, Some, None}
use Rattle.node_rules.specs.Data.{Advice, Answer, BranchId, Live, Place, ReplyFields, Stmt}
use Rattle.node_rules.specs.Data.inputs
use Rattle.node_rules.specs.Data.kinds
use Rattle.node_rules.specs.Data.stmts
use Rattle.node_rules.specs.Data.tasks
use Rattle.node_rules.specs.Inputs.{Came}
use Rattle.node_rules.specs.NodeState.{NodeState, TurnOutput, live_at, work_at}
use Rattle.net_bag.specs.Net.{packet_at}
use Rattle.run_rules.specs.Branches.{Run, Seen, Trail, root_at, seen_at, origin_at}
use Rattle.run_rules.specs.Data.{Finished, Packet, Took, Turn, Happening}
use Rattle.run_rules.specs.Data.happenings
use Rattle.run_rules.specs.Each.{AtEach}
use Rattle.run_rules.specs.Facts.{Facts, node_at, outcome_at}
use Rattle.run_rules.specs.Lawful.{History, IsLawfulRun, facts_at}
use Rattle.run_claims.specs.Places.{LeadsTo, RanAt}
use Rattle.run_rules.specs.Runs.{is_of_rows, run_in, is_accepted}
use Rattle.run_rules.specs.Trail.{with_begun, trail_after}
use Rattle.tree_trail_laws.specs.ChildLaws.{trail_at}
use Rattle.answer_origin_laws.specs.ReplyLaws.{went_back, WentBack}

-- A call of a branch was answered so by a run: an Exec of its number brought the branch a statement, not after the run, and
-- the statement led there.
pub record AnsweredBy (t : History) (b : BranchId) (call : ℕ) (a : Answer) (r : Run) : Type 0 where
  pub ran : RanAt t r a
  pub moment : ℕ
  pub turn : Turn
  pub there : slice_get t.trace moment ≡ Some (happenings.Turn turn)
  pub from : BranchId
  pub given : ℕ
  pub advice : Option Advice
  pub statement : Stmt
  pub came : Came turn.input from b (kinds.Exec call (tasks.Run given advice statement))
  pub before : moment ≤ r.moment
  pub leads : LeadsTo t r b statement

-- In every lawful run the run that a Reply comes from by the branch history, where it is no refusal, is one that its call led to;
-- but for the Reply to a BACK, which says that its branch went back.
abbrev pub RepliesLeadToRuns : Type 0
RepliesLeadToRuns = (t : History) → IsLawfulRun t → (number : ℕ) (x : Packet) → packet_at (facts_at t).net number ≡ Some x → (call : ℕ) (weight : Option ℕ) (count : ℕ) (a : Answer)
    → x.msg.kind ≡ kinds.Reply call weight count a → is_accepted (Some a) ≡ true → ((r : Run) × (origin_at (trail_at t) number ≡ Some r) × AnsweredBy t x.msg.from call a r) ⊎ WentBack t x.msg.from call a

-- So it is of the answer that a live branch below a root keeps for a call that comes again.
abbrev pub KeptAnswersLeadToRuns : Type 0
KeptAnswersLeadToRuns = (t : History) → IsLawfulRun t → (n : ℕ) (k : NodeState) → node_at (facts_at t) n ≡ Some k → (l : Live) → live_at k l.me ≡ Some l → l.parent ≢ None → (s : Seen) → seen_at (trail_at t) l.me ≡ Some s
    → (rf : ReplyFields) → (work_at k l.me).came.reply ≡ Some rf → is_accepted (Some rf.result) ≡ true → ((r : Run) × (s.answer ≡ Some r) × AnsweredBy t l.me (work_at k l.me).came.last_call rf.result r) ⊎ WentBack t l.me (work_at k l.me).came.last_call rf.result

-- no call of this session comes to this node after one moment, up to another
abbrev pub NoCallSince : History → ℕ → ℕ → ℕ → ℕ → Type 0
NoCallSince t node session from upto = (j : ℕ) → from < j → j ≤ upto → (u : Turn) → slice_get t.trace j ≡ Some (happenings.Turn u) → u.node ≡ node → (s : Option Stmt) → u.input ≡ inputs.Call session s → ⊥

-- The last call of a session, up to this moment, was answered so by a run: it brought a statement with a table to this root
-- of the session, not after the run, and the statement led there.
pub record CallAnsweredBy (t : History) (now node session : ℕ) (root : BranchId) (a : Answer) (r : Run) : Type 0 where
  pub ran : RanAt t r a
  pub moment : ℕ
  pub turn : Turn
  pub there : slice_get t.trace moment ≡ Some (happenings.Turn turn)
  pub statement : Stmt
  pub came : turn.input ≡ inputs.Call session (Some statement)
  pub rows : is_of_rows statement ≡ true
  pub here : turn.node ≡ node
  pub before : moment ≤ r.moment
  pub is_root : (root.node ≡ node) × (root.session ≡ session)
  pub leads : LeadsTo t r root statement
  pub soon : moment ≤ now
  pub last : NoCallSince t node session moment now

-- The last call of a session, up to this moment, was ROLLBACK TO.
pub record IsRollbackTo (t : History) (now node session : ℕ) : Type 0 where
  pub moment : ℕ
  pub turn : Turn
  pub there : slice_get t.trace moment ≡ Some (happenings.Turn turn)
  pub name : List ℕ
  pub came : turn.input ≡ inputs.Call session (Some (stmts.RollbackTo name))
  pub here : turn.node ≡ node
  pub soon : moment ≤ now
  pub last : NoCallSince t node session moment now

-- and this answer says that the transaction went back
abbrev pub RolledBackTo : History → ℕ → ℕ → ℕ → Answer → Type 0
RolledBackTo t now node session a = (a ≡ went_back) × IsRollbackTo t now node session

-- By the branch history after a turn, the transaction of a session is this root, and its last answer came from this run.
pub record IsTracedFor (places : List Place) (f : Facts) (tr : Trail) (u : Turn) (session : ℕ) (root : BranchId) (r : Run) : Type 0 where
  pub seen : Seen
  pub transaction : root_at (trail_after places f tr (happenings.Turn u)) u.node session ≡ Some seen
  pub is_me : seen.me ≡ root
  pub origin : seen.answer ≡ Some r

-- A turn that ends a call on a Reply, and not with a refusal: the run that the Reply comes from is one that the call led to,
-- from the root that is the session's transaction after the turn; or the call is ROLLBACK TO.
abbrev pub EndsAsReplied : History → List Place → Facts → Trail → Happening → Type 0
EndsAsReplied t places f tr (happenings.Turn u) =
    (o : TurnOutput) → outcome_at places f u ≡ Some o → (took : Took) → u.took ≡ Some took → (from to : BranchId) (call : ℕ) (weight : Option ℕ) (count : ℕ) (said : Answer) → Came u.input from to (kinds.Reply call weight count said)
    → (session : ℕ) (a : Answer) (more : List Finished) → o.ended ≡ (record { session = session; answer = a }) ∷ more → is_accepted (Some a) ≡ true
    → ((r : Run) × (root : BranchId) × (origin_at tr took.number ≡ Some r) × CallAnsweredBy t tr.moment u.node session root a r × (u.cut ≡ false → IsTracedFor places f tr u session root r)) ⊎ RolledBackTo t tr.moment u.node session a
EndsAsReplied t places f tr _ = Unit {0}

-- In every lawful run each turn does.
abbrev pub CallsEndAsReplied : Type 0
CallsEndAsReplied = (t : History) → IsLawfulRun t → AtEach (EndsAsReplied t) t

-- A turn that a client's statement with a table comes to, and that ends its call, not with a refusal: the statement ran in
-- it, at the root that is the session's transaction after the turn.
abbrev pub EndsInItsTurn : History → List Place → Facts → Trail → Happening → Type 0
EndsInItsTurn t places f tr (happenings.Turn u) =
    u.cut ≡ false → (o : TurnOutput) → outcome_at places f u ≡ Some o → (session : ℕ) (s : Stmt) → u.input ≡ inputs.Call session (Some s) → is_of_rows s ≡ true
    → (n : ℕ) (a : Answer) (more : List Finished) → o.ended ≡ (record { session = n; answer = a }) ∷ more → is_accepted (Some a) ≡ true
    → (r : Run) × (root : BranchId) × (run_in f (with_begun f tr u) u ≡ Some r) × CallAnsweredBy t tr.moment u.node n root a r × IsTracedFor places f tr u n root r
EndsInItsTurn t places f tr _ = Unit {0}

-- In every lawful run each turn does.
abbrev pub CallsEndAtOnce : Type 0
CallsEndAtOnce = (t : History) → IsLawfulRun t → AtEach (EndsInItsTurn t) t
