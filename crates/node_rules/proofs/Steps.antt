-- What a turn can be: changes of what the node keeps, and then a draft, each with what came to the node and what stood
-- there. Every law of turns goes through these steps.
use Rattle.std.specs.Prelude.{◌≡◌, ◌≢◌, ℕ, ◌+◌, ◌≤◌, ◌==◌, ◌&&◌, ◌⊎◌, Bool, true, false, List, [], ◌∷◌, find, length, flat_map, unwrap_or, is_none, is_some, Option, Some, None, Ok}
use Rattle.std.specs.List.{list_any}
use Rattle.node_rules.specs.Data.{Table, Link, Synonym, Stmt, Refusal, Answer, Done, Advice, BranchId, Decision, RedoRecord, KeptRow, Edge, Vote, Kind, Live, Act, Next, Place, Input, Opening, Going, Task, ReplyFields, Post}
use Rattle.node_rules.specs.Data.answers
use Rattle.node_rules.specs.Data.dones
use Rattle.node_rules.specs.Data.decisions
use Rattle.node_rules.specs.Data.records
use Rattle.node_rules.specs.Data.params
use Rattle.node_rules.specs.Data.states
use Rattle.node_rules.specs.Data.stmts
use Rattle.node_rules.specs.Data.inputs
use Rattle.node_rules.specs.Data.kinds
use Rattle.node_rules.specs.Data.votes
use Rattle.node_rules.specs.Data.phases
use Rattle.node_rules.specs.Data.walks
use Rattle.node_rules.specs.Data.acts
use Rattle.node_rules.specs.Data.nexts
use Rattle.node_rules.specs.Data.waiting
use Rattle.node_rules.specs.Data.tasks
use Rattle.node_rules.specs.Data.errands
use Rattle.node_rules.specs.Data.admits
use Rattle.node_rules.specs.Data.pending
use Rattle.session_tree.specs.Live.{is_branch, new_edge}
use Rattle.node_rules.specs.Inputs.{IsSession, Came, IsCall, Brings}
use Rattle.session_tree.specs.Tree.{weight, step}
use Rattle.node_rules.specs.Names.{Runs_here, Over, Through, Nowhere_to, way_of, passed_on}
use Rattle.node_rules.specs.Sessions.{session_at, with_call}
use Rattle.node_rules.specs.NodeState.{NodeState, TurnDraft, Branch, branch_at, with_branch, live_at, kept_row_at, with_kept_row, nothing, saying, ending, post}
use Rattle.node_rules.specs.Marks.{savepoint_at, node_back, branch_back, next_back}
use Rattle.node_rules.specs.Images.{images}
use Rattle.node_rules.specs.Calls.{answered, calls_over, less_room, opens_through, runs_here, takes_call, admit, with_edge, reply_of, hears_reply, reply_heard, replies, gone_reply, is_opening, opened_says, open_by, goes_back}
use Rattle.node_rules.specs.Prepare.{act_turn, drops, collecting, with_comment, voted, answers_first, all_answered, without_read_keys}
use Rattle.node_rules.specs.Commit.{next_turn, acked_by, ack_counts, all_acked, is_mixed, knows_commit, is_asked_again}
use Rattle.node_rules.specs.Recovery.{ask_answer, askings}
use Rattle.node_rules.specs.Force.{branch_to_force, forces, may_purge, hides}
use Rattle.node_rules.specs.Client.{begun_by, counted, is_write, root_at, did, writes, is_used, is_link, leaves, marked, statement_given_up, commit_given_up, advise}
use Rattle.node_rules.specs.Turn.{Is_gone, status_of}

-- the session's transaction has this root
abbrev pub HasRoot : NodeState → ℕ → BranchId → Type 0
HasRoot k n b = (session_at k.sessions n).root ≡ Some b

-- ---- statements

-- a statement that has a table
abbrev pub IsOfRows : Stmt → Type 0
IsOfRows (stmts.Insert table columns given) = Unit {0}
IsOfRows (stmts.Update table sets cs) = Unit {0}
IsOfRows (stmts.Delete table cs) = Unit {0}
IsOfRows (stmts.Select list table cs for_update) = Unit {0}
IsOfRows _ = ⊥

-- a statement begins a transaction, which reads at the clock where it is READ ONLY
pub data BeginsBy (clock : ℕ) : Stmt → Option ℕ → Type 0 where
  By_rows : (s : Stmt) → IsOfRows s → BeginsBy clock s None
  By_savepoint : (name : List ℕ) → BeginsBy clock (stmts.Savepoint name) None
  By_read_only : BeginsBy clock stmts.SetReadOnly (Some clock)

-- a statement that counts as a call of its transaction
abbrev pub IsCounted : Stmt → Type 0
IsCounted (stmts.Savepoint name) = Unit {0}
IsCounted (stmts.RollbackTo name) = Unit {0}
IsCounted s = IsOfRows s

-- A statement came to a live branch, with the room in the tree: by a call of the session at its root, which a READ ONLY
-- transaction may make, or by an Exec whose number comes for the first time.
pub data Asked (k : NodeState) (input : Input) : Branch → Stmt → ℕ → Type 0 where
  By_call : (n : ℕ) (x : Branch) (s : Stmt) → IsCall input n s → IsOfRows s → HasRoot k n x.live.me → (session_at k.sessions n).code ≡ None → branch_at k x.live.me ≡ Some x
      → (is_some x.live.read_at && is_write s) ≡ false → Asked k input x s 0
  By_exec : (x : Branch) (from : BranchId) (call given : ℕ) (advice : Option Advice) (s : Stmt) → Came input from x.live.me (kinds.Exec call (tasks.Run given advice s))
      → branch_at k x.live.me ≡ Some x → admit x.work.came call ≡ admits.Run → Asked k input (takes_call x call (tasks.Run given advice s)) s given

-- The child that a statement waits for is opened.
pub record Is_opened (k : NodeState) (input : Input) (x : Branch) (from : BranchId) (strength : ℕ) (g : Going) (link : List ℕ) : Type 0 where
  pub edge : ℕ
  pub came : Came input from x.live.me (kinds.Opened edge strength)
  pub live : branch_at k x.live.me ≡ Some x
  pub going : x.work.going ≡ Some g
  pub waits : g.waits ≡ waiting.ForOpened link
  pub new : (edge == length x.live.edges + 1) ≡ true

-- The Reply that a statement waits for comes from the child at place i.
pub record Is_answered (k : NodeState) (input : Input) (x : Branch) (weight : Option ℕ) (count : ℕ) (a : Answer) (i : ℕ) (e : Edge) : Type 0 where
  pub from : BranchId
  pub call : ℕ
  pub came : Came input from x.live.me (kinds.Reply call weight count a)
  pub live : branch_at k x.live.me ≡ Some x
  pub waits : reply_of x from call ≡ Some (i, e)

-- ---- going back to a savepoint

-- A live branch goes back to a step: by ROLLBACK TO at a root, or by a BACK whose number comes for the first time.
pub data Goes_to (k : NodeState) (input : Input) : Branch → ℕ → Type 0 where
  By_rollback_to : (n : ℕ) (x : Branch) (name : List ℕ) (step : ℕ) → IsCall input n (stmts.RollbackTo name) → HasRoot k n x.live.me → (session_at k.sessions n).code ≡ None
      → branch_at k x.live.me ≡ Some x → savepoint_at x.work.marks name ≡ Some step → Goes_to k input x step
  By_back : (x : Branch) (from : BranchId) (call keep : ℕ) → Came input from x.live.me (kinds.Exec call (tasks.GoBack keep)) → branch_at k x.live.me ≡ Some x
      → admit x.work.came call ≡ admits.Run → Goes_to k input (takes_call x call (tasks.GoBack keep)) keep

-- an answer that is no refusal
abbrev pub IsNoRefusal : Answer → Type 0
IsNoRefusal (answers.Refused r) = ⊥
IsNoRefusal _ = Unit {0}

-- A branch whose children from a number on are to go back: it went back itself, or a child before did and says so.
pub data Calls_back (k : NodeState) (input : Input) : Branch → ℕ → ℕ → Type 0 where
  Has_gone : (before : NodeState) (x : Branch) (step : ℕ) → Goes_to before input x step → k ≡ node_back before x step → Calls_back k input (branch_back before x step) step 1
  Has_heard : (x : Branch) (weight : Option ℕ) (count : ℕ) (a : Answer) (i : ℕ) (e : Edge) (g : Going) (step : ℕ) → Is_answered k input x weight count a i e → x.work.going ≡ Some g
      → g.errand ≡ errands.GoBack step → IsNoRefusal a → Calls_back k input (hears_reply x i weight count e) step (i + 1)

-- ---- the prepare phase

-- COMMIT at a root, or Prepare at another branch, begins the collect of a live branch.
pub data Collects (k : NodeState) (input : Input) (l : Live) (comment : List ℕ) : Bool → Type 0 where
  By_commit : (n : ℕ) (given : Option (List ℕ)) → IsCall input n (stmts.Commit given) → HasRoot k n l.me → (session_at k.sessions n).code ≡ None → l.read_at ≡ None → comment ≡ unwrap_or given [] → Collects k input l comment true
  By_prepare : (from : BranchId) (site_below : Bool) → Came input from l.me (kinds.Prepare site_below comment) → l.phase ≡ phases.Working → Collects k input l comment site_below

-- the message of an answer to Prepare
abbrev pub vote_kind : Vote → Option Kind
vote_kind votes.Prepared = Some kinds.Prepared
vote_kind votes.ReadOnly = Some kinds.ReadOnly
vote_kind votes.Ready = Some kinds.Ready
vote_kind votes.Abort = Some kinds.Abort
vote_kind _ = None

-- A child's first answer came to a collecting branch.
pub record Answers (input : Input) (l : Live) (from : BranchId) (v : Vote) (site_below : Bool) : Type 0 where
  pub kind : Kind
  pub is_vote : vote_kind v ≡ Some kind
  pub came : Came input from l.me kind
  pub collecting : l.phase ≡ phases.Collecting site_below
  pub first : list_any (answers_first from) l.edges ≡ true

-- What a branch does whose children have all answered, by its place in the tree.
pub data Collected (l : Live) : Bool → Act → Type 0 where
  Has_nothing : is_none (weight l) ≡ true → Collected l false acts.SayReadOnly
  Is_prepared : is_none (weight l) ≡ false → Collected l false acts.Seal
  Awaits_point : is_none l.parent ≡ false → Collected l true acts.SayReady
  Passes : (i : ℕ) → is_none l.parent ≡ true → step l ≡ walks.Down i → Collected l true (acts.SealAndPass i)
  Is_site : is_none l.parent ≡ true → step l ≡ walks.Here → Collected l true acts.Decide
  Has_no_site : is_none l.parent ≡ true → step l ≡ walks.Nowhere → Collected l true acts.Finish

-- What a branch that answered Ready does about CommitPoint.
pub data Pointed (l : Live) : Act → Type 0 where
  Points_on : (i : ℕ) → step l ≡ walks.Down i → Pointed l (acts.SealAndPass i)
  Points_here : step l ≡ walks.Here → Pointed l acts.Decide
  Points_nowhere : step l ≡ walks.Nowhere → Pointed l acts.Rest

-- Why a live branch, as it is now, acts so in its prepare phase.
pub data Acting (k : NodeState) (input : Input) : Live → Bool → Act → Type 0 where
  Asks_down : (l : Live) (comment : List ℕ) (site_below : Bool) (e : Edge) (es : List Edge) → live_at k l.me ≡ Some l → Collects k input l comment site_below → l.edges ≡ e ∷ es
      → Acting k input (collecting (with_comment l comment) site_below) site_below acts.AskDown
  Has_no_children : (l : Live) (comment : List ℕ) (site_below : Bool) (a : Act) → live_at k l.me ≡ Some l → Collects k input l comment site_below → l.edges ≡ []
      → Collected (collecting (with_comment l comment) site_below) site_below a → Acting k input (collecting (with_comment l comment) site_below) site_below a
  Hears_abort : (l : Live) (from : BranchId) (site_below : Bool) → live_at k l.me ≡ Some l → Answers input l from votes.Abort site_below
      → Acting k input (voted l from votes.Abort) site_below acts.Abandon
  Waits_on : (l : Live) (from : BranchId) (v : Vote) (site_below : Bool) → live_at k l.me ≡ Some l → Answers input l from v site_below → v ≢ votes.Abort → all_answered (voted l from v) ≡ false
      → Acting k input (voted l from v) site_below acts.Rest
  Hears_last : (l : Live) (from : BranchId) (v : Vote) (site_below : Bool) (a : Act) → live_at k l.me ≡ Some l → Answers input l from v site_below → v ≢ votes.Abort → all_answered (voted l from v) ≡ true
      → Collected (voted l from v) site_below a → Acting k input (voted l from v) site_below a
  At_point : (l : Live) (from : BranchId) (a : Act) → live_at k l.me ≡ Some l → Came input from l.me kinds.CommitPoint → l.phase ≡ phases.Ready → Pointed l a
      → Acting k input l true a

-- A rollback came to a live branch: Rollback, or RolledBack from its parent.
pub data Drops (input : Input) (l : Live) : Type 0 where
  By_rollback : (from : BranchId) → Came input from l.me kinds.Rollback → Drops input l
  By_parent : (from : BranchId) → Came input from l.me kinds.RolledBack → is_branch from l.parent ≡ true → Drops input l

-- ---- kept branches

-- a row of it is kept
abbrev pub IsKept : NodeState → KeptRow → Type 0
IsKept k s = kept_row_at k s.me ≡ Some s

-- the clock has met a commit's SCN
abbrev pub IsMet : ℕ → Decision → Type 0
IsMet clock (decisions.Commit n) = n ≤ clock
IsMet clock decisions.Rollback = Unit {0}

-- Why a kept branch, as its row stands now, does so next.
pub data Doing (clock : ℕ) (input : Input) (s : KeptRow) (from : BranchId) : Next → Type 0 where
  Stays : Doing clock input s from nexts.Rest
  Ends_so : (d : Decision) → Brings input from s.me d → is_branch from s.toward ≡ true → s.decision ≡ None → s.state ≡ states.Sealed → IsMet clock d → Doing clock input s from (nexts.End d)
  Meets_so : (d : Decision) → Brings input from s.me d → is_branch from s.toward ≡ true → s.decision ≡ None → s.state ≢ states.Sealed → s.state ≢ states.Committed → IsMet clock d
      → Doing clock input s from (nexts.Meet d (is_mixed s.state d))
  Acks_again : (n m : ℕ) → Came input from s.me (kinds.Committed m) → is_branch from s.toward ≡ true → s.decision ≡ Some (decisions.Commit n) → all_acked s ≡ true
      → Doing clock input s from nexts.SayAck
  Acks_on : Came input from s.me kinds.Ack → knows_commit s.decision ≡ true → s.forgot ≡ false → all_acked s ≡ true → is_none s.toward ≡ false → Doing clock input s from nexts.AckToward
  Forgets_first : Came input from s.me kinds.Ack → knows_commit s.decision ≡ true → s.forgot ≡ false → all_acked s ≡ true → is_none s.toward ≡ true → Doing clock input s from nexts.Forget
  Forgets_after : Came input from s.me kinds.Forgotten → knows_commit s.decision ≡ true → is_branch from s.toward ≡ true → s.forgot ≡ false → Doing clock input s from nexts.Forget
  Has_forgotten : Came input from s.me kinds.Ack → knows_commit s.decision ≡ true → s.forgot ≡ true → Doing clock input s from nexts.SayForgotten

-- ---- messages alone

-- Messages of a turn that changes nothing.
pub data Says (k : NodeState) (input : Input) : List Post → Type 0 where
  Gone_replies : (to from : BranchId) (call : ℕ) (task : Task) → Came input from to (kinds.Exec call task) → status_of k to ≡ Is_gone → Says k input (gone_reply to from call)
  Gone_aborts : (to from : BranchId) (site_below : Bool) (comment : List ℕ) → Came input from to (kinds.Prepare site_below comment) → status_of k to ≡ Is_gone → Says k input (post to from kinds.Abort)
  Gone_rolls_back : (to from : BranchId) → Came input from to kinds.CommitPoint ⊎ Came input from to kinds.Ask → status_of k to ≡ Is_gone → Says k input (post to from kinds.RolledBack)
  Gone_acks : (to from : BranchId) (n : ℕ) → Came input from to (kinds.Committed n) → status_of k to ≡ Is_gone → Says k input (post to from kinds.Ack)
  Gone_forgets : (to from : BranchId) → Came input from to kinds.Ack → status_of k to ≡ Is_gone → Says k input (post to from kinds.Forgotten)
  Replies_again : (x : Branch) (to : BranchId) (call : ℕ) (task : Task) (t : ReplyFields) → Came input to x.live.me (kinds.Exec call task)
      → branch_at k x.live.me ≡ Some x → x.work.came.last_call ≡ call → x.work.came.reply ≡ Some t → Says k input (replies x to t)
  Opened_again : (to : BranchId) (parent : BranchId) (edge : ℕ) (root : BranchId) (depth : ℕ) (read_at : Option ℕ) (o : Opening) → Came input parent to (kinds.Open edge root depth read_at)
      → find (is_opening parent edge) k.opens ≡ Some o → Says k input (opened_says o)
  Prepared_again : (s : KeptRow) (from : BranchId) (site_below : Bool) (comment : List ℕ) → Came input from s.me (kinds.Prepare site_below comment) → IsKept k s → is_asked_again s from ≡ true
      → Says k input (post s.me from kinds.Prepared)
  Knows_commit : (s : KeptRow) (from : BranchId) (n : ℕ) → Came input from s.me kinds.CommitPoint → IsKept k s → s.decision ≡ Some (decisions.Commit n) → Says k input (post s.me from (kinds.Committed n))
  Knows_rollback : (s : KeptRow) (from : BranchId) → Came input from s.me kinds.CommitPoint → IsKept k s → s.decision ≡ Some decisions.Rollback → Says k input (post s.me from kinds.RolledBack)
  Is_in_doubt : (l : Live) (from : BranchId) → Came input from l.me kinds.Ask → live_at k l.me ≡ Some l → is_branch from l.parent ≡ false → Says k input (post l.me from kinds.InDoubt)
  Tells : (s : KeptRow) (from : BranchId) → Came input from s.me kinds.Ask → IsKept k s → Says k input (post s.me from (ask_answer s from))
  Recovers : input ≡ inputs.Reco → Says k input (flat_map (λ a. a.says) (askings k))

-- ---- client calls

-- a record of the catalog or of a setting, by the statement that it is written for
pub data Makes (k : NodeState) : Stmt → RedoRecord → Done → Type 0 where
  Makes_table : (t : Table) → is_used k.stored.durable t.name ≡ false → Makes k (stmts.CreateTable t) (records.Table t) dones.TableMade
  Makes_link : (l : Link) → is_link k.stored.durable l.name ≡ false → Makes k (stmts.CreateLink l) (records.Link l) dones.LinkMade
  Makes_synonym : (y : Synonym) → is_used k.stored.durable y.name ≡ false → Makes k (stmts.CreateSynonym y) (records.Synonym y) dones.SynonymMade
  Sets_recovery : (on : Bool) → Makes k (stmts.Recovery on) (records.Param (params.Recovery on)) dones.SystemAltered
  Sets_strength : (strength : ℕ) → Makes k (stmts.SetStrength strength) (records.Param (params.Strength strength)) dones.SystemAltered

-- the purge of rows that are mixed, or else committed or forced
abbrev pub purge_of : Bool → List ℕ → Stmt
purge_of true id = stmts.PurgeMixed id
purge_of false id = stmts.PurgeLost id

-- a statement that is complete where the session has no live root
pub data Completes : Stmt → Done → Type 0 where
  Commits_nothing : (comment : Option (List ℕ)) → Completes (stmts.Commit comment) dones.Committed
  Rolls_nothing_back : Completes stmts.Rollback dones.RolledBack

-- Why a root ends at once, with its branch rolled back: ROLLBACK, or COMMIT of a READ ONLY transaction.
pub data EndsAtOnce (code : Option ℕ) (read_at : Option ℕ) : Stmt → Done → Type 0 where
  By_rollback_call : EndsAtOnce code read_at stmts.Rollback dones.RolledBack
  By_reading : (comment : Option (List ℕ)) (scn : ℕ) → code ≡ None → read_at ≡ Some scn → EndsAtOnce code read_at (stmts.Commit comment) dones.Committed

-- One turn, at a node that has received what came.
pub data Step (p : Place) (input : Input) : NodeState → TurnDraft → Type 0 where
  -- changes before a draft
  Begins : {k : NodeState} {d : TurnDraft} (n : ℕ) (s : Stmt) (read_at : Option ℕ) → IsCall input n s → BeginsBy k.clock s read_at → IsSession n → (session_at k.sessions n).root ≡ None
      → Step p input (begun_by p k n read_at None) d → Step p input k d
  Counts_call : {k : NodeState} {d : TurnDraft} (n : ℕ) (s : Stmt) → IsCall input n s → IsCounted s → Step p input (counted k n) d → Step p input k d
  Goes_back : {k : NodeState} (x : Branch) (step : ℕ) → Goes_to k input x step → Step p input (node_back k x step) (goes_back k x step) → Step p input k (goes_back k x step)
  Pends : {k : NodeState} {d : TurnDraft} (n : ℕ) (l : Live) (given : Option (List ℕ)) → IsCall input n (stmts.Commit given) → HasRoot k n l.me → live_at k l.me ≡ Some l → (session_at k.sessions n).code ≡ None → l.read_at ≡ None
      → Step p input (record k { sessions = with_call k.sessions n pending.Commit }) d → Step p input k d
  Lets_reads_go : {k : NodeState} {d : TurnDraft} (l : Live) (comment : List ℕ) (site_below : Bool) → live_at k l.me ≡ Some l → Collects k input l comment site_below
      → Step p input (without_read_keys k l.me) d → Step p input k d
  Counts_ack : {k : NodeState} {d : TurnDraft} (s : KeptRow) (from : BranchId) → IsKept k s → Came input from s.me kinds.Ack → ack_counts s from ≡ true
      → Step p input (with_kept_row k (acked_by s from)) d → Step p input k d
  -- nothing, or messages alone
  Rests : {k : NodeState} → Step p input k (nothing k)
  Sends : {k : NodeState} (says : List Post) → Says k input says → Step p input k (saying k says)
  -- statements
  Runs : {k : NodeState} (x : Branch) (s : Stmt) (given : ℕ) (t : Table) → Asked k input x s given → way_of p k.stored.durable x.live given s ≡ Runs_here t → Step p input k (runs_here p k x s t)
  Goes_nowhere : {k : NodeState} (x : Branch) (s : Stmt) (given : ℕ) (r : Refusal) → Asked k input x s given → way_of p k.stored.durable x.live given s ≡ Nowhere_to r → Step p input k (answered k x (answers.Refused r))
  Calls : {k : NodeState} (x : Branch) (s : Stmt) (given i : ℕ) (table : List ℕ) → Asked k input x s given → way_of p k.stored.durable x.live given s ≡ Over i table
      → Step p input k (calls_over k x i (errands.Statement (passed_on s table) given))
  Opens : {k : NodeState} (x : Branch) (s : Stmt) (given node : ℕ) (link table : List ℕ) → Asked k input x s given → way_of p k.stored.durable x.live given s ≡ Through node link table
      → Step p input k (opens_through k x node link (passed_on s table) given)
  Goes_on : {k : NodeState} (x : Branch) (from : BranchId) (strength : ℕ) (g : Going) (link : List ℕ) → Is_opened k input x from strength g link
      → Step p input k (calls_over k (with_edge x (new_edge from link strength)) (length x.live.edges + 1) (less_room g.errand))
  Hears_reply : {k : NodeState} (x : Branch) (weight : Option ℕ) (count : ℕ) (a : Answer) (i : ℕ) (e : Edge) → Is_answered k input x weight count a i e
      → Step p input k (reply_heard k (hears_reply x i weight count e) e.link a)
  Backs : {k : NodeState} (x : Branch) (step from i : ℕ) → Calls_back k input x step from → next_back x.work step from ≡ Some i → Step p input k (calls_over k x i (errands.GoBack step))
  Is_back : {k : NodeState} (x : Branch) (step from : ℕ) → Calls_back k input x step from → next_back x.work step from ≡ None → Step p input k (answered k x (answers.Did dones.RolledBack 0))
  Opens_branch : {k : NodeState} (to parent : BranchId) (edge : ℕ) (root : BranchId) (depth : ℕ) (read_at : Option ℕ) → Came input parent to (kinds.Open edge root depth read_at)
      → find (is_opening parent edge) k.opens ≡ None → Step p input k (open_by p k parent edge root depth read_at None)
  -- the prepare phase
  Acts : {k : NodeState} (l : Live) (site_below : Bool) (a : Act) → Acting k input l site_below a → Step p input k (act_turn k l site_below a)
  Drops_told : {k : NodeState} (l : Live) → live_at k l.me ≡ Some l → Drops input l → Step p input k (drops k l [])
  Drops_asked : {k : NodeState} (l : Live) (from : BranchId) → live_at k l.me ≡ Some l → Came input from l.me kinds.Ask → is_branch from l.parent ≡ true
      → Step p input k (drops k l (post l.me from kinds.RolledBack))
  -- kept branches
  Does : {k : NodeState} (s : KeptRow) (from : BranchId) (n : Next) → IsKept k s → Doing k.clock input s from n → Step p input k (next_turn k s from n)
  -- client calls
  Refuses : {k : NodeState} (n : ℕ) (s : Option Stmt) (r : Refusal) → input ≡ inputs.Call n s → Step p input k (ending k n (answers.Refused r))
  Completes_at_once : {k : NodeState} (n : ℕ) (s : Stmt) (d : Done) → IsCall input n s → Completes s d → root_at k n ≡ None → Step p input k (did k n d)
  Makes_record : {k : NodeState} (n : ℕ) (s : Stmt) (r : RedoRecord) (d : Done) → IsCall input n s → Makes k s r d → Step p input k (writes k n r d)
  Forces_given : {k : NodeState} (n : ℕ) (id : List ℕ) (m : ℕ) (b : BranchId) → IsCall input n (stmts.CommitForce id (Some m)) → branch_to_force p.names k.stored.durable.kept id ≡ Ok b
      → Step p input k (forces k n b (decisions.Commit m) true (answers.Did dones.Committed 0))
  Forces_commit : {k : NodeState} (n : ℕ) (id : List ℕ) (b : BranchId) → IsCall input n (stmts.CommitForce id None) → branch_to_force p.names k.stored.durable.kept id ≡ Ok b
      → Step p input k (forces (record k { clock = k.clock + 1 }) n b (decisions.Commit (k.clock + 1)) false (answers.Did dones.Committed 0))
  Forces_rollback : {k : NodeState} (n : ℕ) (id : List ℕ) (b : BranchId) → IsCall input n (stmts.RollbackForce id) → branch_to_force p.names k.stored.durable.kept id ≡ Ok b
      → Step p input k (forces k n b decisions.Rollback false (answers.Did dones.RolledBack 0))
  Hides : {k : NodeState} (n : ℕ) (mixed : Bool) (id : List ℕ) (s : KeptRow) → IsCall input n (purge_of mixed id) → find (may_purge mixed id) k.stored.durable.kept ≡ Some s
      → Step p input k (hides k n id (Some s))
  Advises : {k : NodeState} (n : ℕ) (a : Option Advice) → IsCall input n (stmts.Advise a) → Step p input k (advise k n a)
  Leaves : {k : NodeState} (n : ℕ) (s : Stmt) (d : Done) (x : Branch) → IsCall input n s → EndsAtOnce (session_at k.sessions n).code x.live.read_at s d → HasRoot k n x.live.me → branch_at k x.live.me ≡ Some x
      → Step p input k (leaves k n d x)
  Sets_read_only : {k : NodeState} (n : ℕ) → IsCall input n stmts.SetReadOnly → Step p input k (did k n dones.TransactionSet)
  Sets_savepoint : {k : NodeState} (n : ℕ) (x : Branch) (name : List ℕ) → IsCall input n (stmts.Savepoint name) → HasRoot k n x.live.me → (session_at k.sessions n).code ≡ None
      → branch_at k x.live.me ≡ Some x → Step p input k (did (with_branch k (marked k.sessions x name)) n dones.SavepointMade)
  -- calls that are given up
  Gives_up : {k : NodeState} (n : ℕ) (x : Branch) → input ≡ inputs.GiveUp n → HasRoot k n x.live.me → (session_at k.sessions n).call ≡ pending.Statement → branch_at k x.live.me ≡ Some x
      → Step p input k (statement_given_up k n (Some x))
  Gives_up_commit : {k : NodeState} (n : ℕ) (b : BranchId) (o : Option Live) → input ≡ inputs.GiveUp n → HasRoot k n b → (session_at k.sessions n).call ≡ pending.Commit → live_at k b ≡ o
      → Step p input k (commit_given_up k b o)
  -- checkpoints
  Images : {k : NodeState} → input ≡ inputs.Checkpoint → Step p input k (images k)
