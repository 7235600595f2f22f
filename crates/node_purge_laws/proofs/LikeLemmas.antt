-- Nodes that differ in which rows are hidden alone do the same about each message.
use Rattle.std.proofs.Common.{◌≡◌, ℕ, ◌+◌, ◌==◌, ◌&&◌, Bool, true, false, if◌then◌else◌, List, [], ◌∷◌, ◌++◌, map, filter, not, is_none, Option, Some, None, refl, sym, ap, subst, subst₂, ◌∙◌}
use Rattle.std.specs.Prelude.{is_some}
use Rattle.std.specs.List.{list_all, list_any}
use Rattle.session_tree.specs.Live.{is_branch, next_edge}
use Rattle.reco.specs.declared.told.Told.{Told}
use Rattle.reco.specs.declared.told.Told.TheVariants as tolds
use Rattle.redo_record.specs.Durable.{durable_after}
use Rattle.redo_record.specs.Kept.{kept_after}
use Rattle.commit_forget.specs.declared.next.Next.{Next}
use Rattle.commit_forget.specs.declared.next.Next.TheVariants as nexts
use Rattle.prepare_phase.specs.Acts.{first_act, answer_act, is_first_answer}
use Rattle.tran_ids.specs.Branch.{same}
use Rattle.tran_ids.specs.Listed.{item_at, put_item}
use Rattle.session_tree.specs.Tree.{step}
use Rattle.link_session.specs.Opens.{opening_of}
use Rattle.reco.specs.Asks.{to_each, to_one}
use Rattle.reco.specs.Told.{live_told}
use Rattle.node_rules.specs.Data.{Answer, Stmt, Table, TableRef, BranchId, Decision, RedoRecord, Durable, KeptRow, Live, Kind, Place, Vote, Phase, Act, Edge, Opening, Admit, Beyond, Post, Kid, Task}
use Rattle.node_rules.specs.declared.work.Going.{Going}
use Rattle.node_rules.specs.declared.work.Waits.{Waits}
use Rattle.node_rules.specs.declared.work.Errand.{Errand}
use Rattle.node_rules.specs.declared.work.Errand.TheVariants as errands
use Rattle.node_rules.specs.declared.work.Waits.TheVariants as waiting
use Rattle.node_rules.specs.declared.session.Session.{Session}
use Rattle.node_rules.specs.Data.answers
use Rattle.node_rules.specs.Data.decisions
use Rattle.node_rules.specs.Data.kinds
use Rattle.node_rules.specs.Data.records
use Rattle.node_rules.specs.Data.params
use Rattle.node_rules.specs.Data.votes
use Rattle.node_rules.specs.Data.phases
use Rattle.node_rules.specs.Data.acts
use Rattle.node_rules.specs.Data.admits
use Rattle.node_rules.specs.NodeState.{NodeState, TurnDraft, TurnOutput, Branch, nothing, saying, post, branch_at, kept_row_at, kept_row_id, with_kept_row, without_branch}
use Rattle.node_rules.specs.Records.{applied, with_record}
use Rattle.node_rules.specs.Refusals.{dtx}
use Rattle.node_rules.specs.Names.{Named, A_table, Behind, Unknown, Way, Runs_here, Over, Through, Nowhere_to, way_of, way_named, named_by, ref_named, table_named, table_of, ref_of, is_write}
use Rattle.node_rules.specs.Statement.{ran}
use Rattle.node_rules.specs.Calls.{goes, statement_at, open_by, opened_waits, opened_going, takes_call, exec_by, admit, reply_by, reply_of, gone_reply, backs_to, goes_back, task_at, hears_reply, back_heard, errand_heard, going_heard}
use Rattle.node_rules.specs.Prepare.{drops, act_turn, sealed_record, decided_record, without_read_keys, collecting, with_comment, prepare_in, answer_in, commit_point_in, voted, commit_point_act}
use Rattle.node_rules.specs.Commit.{beyond, parent_beyond, kid_beyond, next_on_decision, next_on_ack, next_on_forgotten, known_decision, decision_at, knows_commit, all_acked, passes, passes_commit, rollback_to, next_turn, on_decision, ack_counts, acked_by, counts_ack, on_ack, on_forgotten, commit_point_known, is_asked_again}
use Rattle.node_rules.specs.Recovery.{on_ask_told, ask_answer}
use Rattle.node_rules.specs.Turn.{BranchStatus, Is_live, Is_kept, Is_gone, kept_or_gone, live_or, status_of, kind_turn, stamped, output_of}
use Rattle.node_rules.specs.Data.tasks
use Rattle.node_rules.specs.Marks.{node_back, branch_back, next_back}
use Rattle.node_purge_laws.specs.PurgeLaws.{row_as, RowsLike, rows_of, with_rows, IsLike, written, ActsLike}
use Rattle.node_purge_laws.proofs.RowLikeLemmas.{FoundLike, found_like, put_like, kept_like}

-- ---- one row, hidden or not

module _ (s : KeptRow) (h : Bool) where
  parents_same : (o : Option BranchId) → parent_beyond (row_as s h) o ≡ parent_beyond s o
  parents_same None = refl
  parents_same (Some b) = refl

  pub beyond_same : beyond (row_as s h) ≡ beyond s
  unfolding beyond
  beyond_same = ap (λ bs. bs ++ map kid_beyond (filter (λ (c : Kid). not (is_branch c.branch s.toward)) s.children)) (parents_same s.parent)

  pub all_acked_same : all_acked (row_as s h) ≡ all_acked s
  all_acked_same = ap (λ bs. list_all (λ (b : Beyond). b.acked) bs) beyond_same

  known_same : (known d : Decision) → known_decision (row_as s h) known d ≡ known_decision s known d
  known_same (decisions.Commit m) (decisions.Commit n) = ap (λ q. if q then nexts.SayAck else nexts.Rest) all_acked_same
  known_same (decisions.Commit m) decisions.Rollback = refl
  known_same decisions.Rollback d = refl

  decision_same : (d : Decision) (o : Option Decision) → decision_at (row_as s h) d o ≡ decision_at s d o
  decision_same d None = refl
  decision_same d (Some known) = known_same known d

  next_same : (from : BranchId) (d : Decision) → next_on_decision (row_as s h) from d ≡ next_on_decision s from d
  unfolding next_on_decision
  next_same from d = ap (λ n. if is_branch from s.toward then n else nexts.Rest) (decision_same d s.decision)

  ack_same : next_on_ack (row_as s h) ≡ next_on_ack s
  unfolding next_on_ack
  ack_same = ap (λ q. if s.forgot then nexts.SayForgotten else (if q then (if is_none s.toward then nexts.Forget else nexts.AckToward) else nexts.Rest)) all_acked_same

  counts_same : (from : BranchId) → ack_counts (row_as s h) from ≡ ack_counts s from
  counts_same from = ap (λ bs. knows_commit s.decision && list_any (λ (b : Beyond). same b.branch from) bs) beyond_same

  forgotten_same : (from : BranchId) → next_on_forgotten (row_as s h) from ≡ next_on_forgotten s from
  unfolding next_on_forgotten
  forgotten_same from = refl

  commits_same : (n : ℕ) (bs : List Beyond) → passes_commit (row_as s h) n bs ≡ passes_commit s n bs
  commits_same n [] = refl
  commits_same n (b ∷ bs) = refl

  passes_same : (d : Decision) → passes (row_as s h) d ≡ passes s d
  passes_same (decisions.Commit n) = commits_same n (beyond (row_as s h)) ∙ ap (passes_commit s n) beyond_same
  passes_same decisions.Rollback = ap (λ bs. map (rollback_to s.me) bs) beyond_same

-- ---- names of tables

module _ (d : Durable) (ks : List KeptRow) where
  abbrev e : Durable
  e = record d { kept = ks }

  table_named_same : (name : List ℕ) (o : Option Table) → table_named e name o ≡ table_named d name o
  table_named_same name None = refl
  table_named_same name (Some t) = refl

  named_same : (ref : TableRef) (o : Option (List ℕ)) → ref_named e ref o ≡ ref_named d ref o
  named_same ref None = table_named_same ref.name (table_of d ref.name)
  named_same ref (Some link) = refl

  way_named_same : (p : Place) (l : Live) (given : ℕ) (n : Named) → way_named p e l given n ≡ way_named p d l given n
  way_named_same p l given Unknown = refl
  way_named_same p l given (A_table t) = refl
  way_named_same p l given (Behind link table) = refl

  way_same : (p : Place) (l : Live) (given : ℕ) (s : Stmt) → way_of p e l given s ≡ way_of p d l given s
  unfolding way_of
  way_same p l given s = ap (λ (w : Way). if is_some l.read_at && is_write s then Nowhere_to (dtx 21 []) else w) (way_named_same p l given (named_by e (ref_of s)) ∙ ap (way_named p d l given) (named_same (ref_of s) (ref_of s).link))

-- ---- drafts

-- Drafts that write, say and answer the same, and leave nodes that differ so.
pub record DraftsLike (d other : TurnDraft) : Type 0 where
  pub wrote : d.wrote ≡ other.wrote
  pub says : d.says ≡ other.says
  pub ended : d.ended ≡ other.ended
  pub after : IsLike d.after other.after

pub sessions_like : {k other : NodeState} (ss : List Session) → IsLike k other → IsLike (record k { sessions = ss }) (record other { sessions = ss })
sessions_like ss like = record { same = ap (λ (z : NodeState). record z { sessions = ss }) like.same; rows = like.rows }

module _ (k : NodeState) (ks : List KeptRow) (like : RowsLike (rows_of k) ks) where
  pub recorded : (r : RedoRecord) → IsLike (with_record k r) (with_record (with_rows k ks) r)
  unfolding applied durable_after kept_after
  recorded (records.Boot n) = record { same = refl; rows = like }
  recorded (records.Table t) = record { same = refl; rows = like }
  recorded (records.Link l) = record { same = refl; rows = like }
  recorded (records.Synonym y) = record { same = refl; rows = like }
  recorded (records.Param (params.Recovery on)) = record { same = refl; rows = like }
  recorded (records.Param (params.Strength n)) = record { same = refl; rows = like }
  recorded (records.Sealed r) = record { same = refl; rows = kept_like (rows_of k) ks (records.Sealed r) like }
  recorded (records.Decided r) = record { same = refl; rows = kept_like (rows_of k) ks (records.Decided r) like }
  recorded (records.Ended b d) = record { same = refl; rows = kept_like (rows_of k) ks (records.Ended b d) like }
  recorded (records.Forced b d given) = record { same = refl; rows = kept_like (rows_of k) ks (records.Forced b d given) like }
  recorded (records.Met b d mixed) = record { same = refl; rows = kept_like (rows_of k) ks (records.Met b d mixed) like }
  recorded (records.Forgot b) = record { same = refl; rows = kept_like (rows_of k) ks (records.Forgot b) like }
  recorded (records.Hidden b) = record { same = refl; rows = kept_like (rows_of k) ks (records.Hidden b) like }
  recorded (records.Image i) = record { same = refl; rows = like }

module _ (k : NodeState) (ks : List KeptRow) (like : RowsLike (rows_of k) ks) where
  abbrev other : NodeState
  other = with_rows k ks

  abbrev So : (NodeState → TurnDraft) → Type 0
  So f = DraftsLike (f k) (f other)

  pub rests : So nothing
  rests = record { wrote = refl; says = refl; ended = refl; after = record { same = refl; rows = like } }

  dropped : (l : Live) (first : List Post) → So (λ z. drops z l first)
  dropped l first = record { wrote = refl; says = refl; ended = refl; after = record { same = refl; rows = like } }

  said : (ps : List Post) → So (λ z. saying z ps)
  said ps = record { wrote = refl; says = refl; ended = refl; after = record { same = refl; rows = like } }

  pub either : (q : Bool) (f g : NodeState → TurnDraft) → So f → So g → So (λ z. if q then f z else g z)
  either true f g one two = one
  either false f g one two = two

  -- ---- the prepare phase

  pub act_like : (l : Live) (below : Bool) (a : Act) → So (λ z. act_turn z l below a)
  act_like l below acts.Rest = record { wrote = refl; says = refl; ended = refl; after = record { same = refl; rows = like } }
  act_like l below acts.AskDown = record { wrote = refl; says = refl; ended = refl; after = record { same = refl; rows = like } }
  act_like l below acts.SayReadOnly = record { wrote = refl; says = refl; ended = refl; after = record { same = refl; rows = like } }
  act_like l below acts.SayReady = record { wrote = refl; says = refl; ended = refl; after = record { same = refl; rows = like } }
  act_like l below acts.Finish = record { wrote = refl; says = refl; ended = refl; after = record { same = refl; rows = like } }
  act_like l below acts.Abandon = record { wrote = refl; says = refl; ended = refl; after = record { same = refl; rows = like } }
  act_like l below acts.Seal = record { wrote = refl; says = refl; ended = refl; after = recorded (without_branch k l.me) ks like (sealed_record k l None) }
  act_like l below (acts.SealAndPass i) = record { wrote = refl; says = refl; ended = refl; after = recorded (without_branch k l.me) ks like (sealed_record k l (Some i)) }
  act_like l below acts.Decide = record { wrote = refl; says = refl; ended = refl; after = sessions_like (act_turn k l below acts.Decide).after.sessions (recorded (without_branch (record k { clock = k.clock + 1 }) l.me) ks like (decided_record k l)) }

  answer_like : (l : Live) (from : BranchId) (v : Vote) (phase : Phase) → So (λ z. answer_in z l from v phase)
  answer_like l from v (phases.Collecting below) = either (is_first_answer l from) (λ z. act_turn z (voted l from v) below (answer_act (voted l from v) below v)) nothing (act_like (voted l from v) below (answer_act (voted l from v) below v)) rests
  answer_like l from v _ = rests

  point_like : (l : Live) (phase : Phase) → So (λ z. commit_point_in z l phase)
  point_like l phases.Ready = act_like l true (commit_point_act (step l))
  point_like l _ = rests

  ask_like : (l : Live) (from : BranchId) (t : Told) → So (λ z. on_ask_told z l from t)
  ask_like l from tolds.RollBackFirst = dropped l (post l.me from kinds.RolledBack)
  ask_like l from _ = record { wrote = refl; says = refl; ended = refl; after = record { same = refl; rows = like } }

  -- ---- statements

  open_like : (p : Place) (parent : BranchId) (edge : ℕ) (root : BranchId) (depth : ℕ) (read_at : Option ℕ) (o : Option Opening) → So (λ z. open_by p z parent edge root depth read_at o)
  open_like p parent edge root depth read_at (Some o) = record { wrote = refl; says = refl; ended = refl; after = record { same = refl; rows = like } }
  open_like p parent edge root depth read_at None = record { wrote = refl; says = refl; ended = refl; after = record { same = refl; rows = like } }

  waits_like : (x : Branch) (from : BranchId) (strength : ℕ) (g : Going) (w : Waits) → So (λ z. opened_waits z x from strength g w)
  waits_like x from strength g (waiting.ForReply i) = rests
  waits_like x from strength g (waiting.ForOpened link) = record { wrote = refl; says = refl; ended = refl; after = record { same = refl; rows = like } }

  going_like : (x : Branch) (from : BranchId) (edge strength : ℕ) (o : Option Going) → So (λ z. opened_going z x from edge strength o)
  going_like x from edge strength None = rests
  going_like x from edge strength (Some g) = either (edge == next_edge x.live) (λ z. opened_waits z x from strength g g.waits) nothing (waits_like x from strength g g.waits) rests

  goes_like : (p : Place) (x : Branch) (s : Stmt) (given : ℕ) (w : Way) → So (λ z. goes p z x s given w)
  unfolding ran
  goes_like p x s given (Runs_here t) = record { wrote = refl; says = refl; ended = refl; after = record { same = refl; rows = like } }
  goes_like p x s given (Nowhere_to r) = record { wrote = refl; says = refl; ended = refl; after = record { same = refl; rows = like } }
  goes_like p x s given (Over i table) = record { wrote = refl; says = refl; ended = refl; after = record { same = refl; rows = like } }
  goes_like p x s given (Through node link table) = record { wrote = refl; says = refl; ended = refl; after = record { same = refl; rows = like } }

  pub statement_like : (p : Place) (x : Branch) (s : Stmt) (given : ℕ) → So (λ z. statement_at p z x s given)
  statement_like p x s given =
      subst (λ w. DraftsLike (statement_at p k x s given) (goes p other x s given w)) (sym (way_same k.stored.durable ks p x.live given s)) (goes_like p x s given (way_of p k.stored.durable x.live given s))

  -- the children of a branch go back, whichever is called next
  from_like : (x : Branch) (step : ℕ) (next : Option ℕ) → So (λ z. backs_to z x step next)
  from_like x step None = record { wrote = refl; says = refl; ended = refl; after = record { same = refl; rows = like } }
  from_like x step (Some i) = record { wrote = refl; says = refl; ended = refl; after = record { same = refl; rows = like } }

  -- a branch goes back, whichever child it calls first
  backs_like : (x : Branch) (step : ℕ) (next : Option ℕ) → So (λ z. backs_to (node_back z x step) (branch_back z x step) step next)
  backs_like x step None = record { wrote = refl; says = refl; ended = refl; after = record { same = refl; rows = like } }
  backs_like x step (Some i) = record { wrote = refl; says = refl; ended = refl; after = record { same = refl; rows = like } }

  pub back_like : (x : Branch) (step : ℕ) → So (λ z. goes_back z x step)
  back_like x step = backs_like x step (next_back (branch_back k x step).work step 1)

  -- a Reply is heard, whatever is under way
  back_heard_like : (x : Branch) (step i : ℕ) (link : List ℕ) (a : Answer) → So (λ z. back_heard z x step i link a)
  back_heard_like x step i link (answers.Refused r) = record { wrote = refl; says = refl; ended = refl; after = record { same = refl; rows = like } }
  back_heard_like x step i link a = from_like x step (next_back x.work step (i + 1))

  going_heard_like : (x : Branch) (i : ℕ) (link : List ℕ) (a : Answer) (o : Option Going) → So (λ z. going_heard z x i link a o)
  going_heard_like x i link a None = rests
  going_heard_like x i link a (Some g) = by g.errand
    where
      by : (e : Errand) → So (λ z. errand_heard z x i link a e)
      by (errands.Statement s given) = record { wrote = refl; says = refl; ended = refl; after = record { same = refl; rows = like } }
      by (errands.GoBack step) = back_heard_like x step i link a

  reply_like : (x : Branch) (weight : Option ℕ) (count : ℕ) (a : Answer) (o : Option (ℕ × Edge)) → So (λ z. reply_by z x weight count a o)
  reply_like x weight count a None = rests
  reply_like x weight count a (Some ie) = going_heard_like (hears_reply x ie.0 weight count ie.1) ie.0 ie.1.link a x.work.going

  task_like : (p : Place) (x : Branch) (t : Task) → So (λ z. task_at p z x t)
  task_like p x (tasks.Run given advice s) = statement_like p x s given
  task_like p x (tasks.GoBack keep) = back_like x keep

  exec_like : (p : Place) (x : Branch) (from : BranchId) (call : ℕ) (t : Task) (a : Admit) → So (λ z. exec_by p z x from call t a)
  exec_like p x from call t admits.Ignore = rests
  exec_like p x from call t admits.Again = record { wrote = refl; says = refl; ended = refl; after = record { same = refl; rows = like } }
  exec_like p x from call t admits.Run = task_like p (takes_call x call t) t

-- it begins its collect where it works
prepare_like : (k : NodeState) (ks : List KeptRow) → RowsLike (rows_of k) ks → (l : Live) (below : Bool) (comment : List ℕ) (phase : Phase) → DraftsLike (prepare_in k l below comment phase) (prepare_in (with_rows k ks) l below comment phase)
prepare_like k ks like l below comment phases.Working = act_like (without_read_keys k l.me) ks like (collecting (with_comment l comment) below) below (first_act (collecting (with_comment l comment) below) below)
prepare_like k ks like l below comment _ = rests k ks like

-- ---- kept branches

next_like : (k : NodeState) (ks : List KeptRow) → RowsLike (rows_of k) ks → (s : KeptRow) (h : Bool) (from : BranchId) (n : Next) → DraftsLike (next_turn k s from n) (next_turn (with_rows k ks) (row_as s h) from n)
next_like k ks like s h from nexts.Rest = rests k ks like
next_like k ks like s h from (nexts.End d) = record { wrote = refl; says = sym (passes_same s h d); ended = refl; after = sessions_like (next_turn k s from (nexts.End d)).after.sessions (recorded k ks like (records.Ended s.me d)) }
next_like k ks like s h from (nexts.Meet d mixed) = record { wrote = refl; says = sym (passes_same s h d); ended = refl; after = sessions_like (next_turn k s from (nexts.Meet d mixed)).after.sessions (recorded k ks like (records.Met s.me d mixed)) }
next_like k ks like s h from nexts.AckToward = said k ks like (to_one s.me kinds.Ack s.toward)
next_like k ks like s h from nexts.Forget = record {
  wrote = refl;
  says = ap (λ bs. to_each s.me kinds.Forgotten (map (λ (b : Beyond). b.branch) bs)) (sym (beyond_same s h));
  ended = refl;
  after = sessions_like (next_turn k s from nexts.Forget).after.sessions (recorded k ks like (records.Forgot s.me));
}
next_like k ks like s h from nexts.SayForgotten = said k ks like (post s.me from kinds.Forgotten)
next_like k ks like s h from nexts.SayAck = said k ks like (post s.me from kinds.Ack)

decides_like : (k : NodeState) (ks : List KeptRow) → RowsLike (rows_of k) ks → (s : KeptRow) (h : Bool) (from : BranchId) (d : Decision) → DraftsLike (on_decision k s from d) (on_decision (with_rows k ks) (row_as s h) from d)
decides_like k ks like s h from d =
    subst (λ n. DraftsLike (on_decision k s from d) (next_turn (with_rows k ks) (row_as s h) from n)) (sym (next_same s h from d)) (next_like k ks like s h from (next_on_decision s from d))

forgets_like : (k : NodeState) (ks : List KeptRow) → RowsLike (rows_of k) ks → (s : KeptRow) (h : Bool) (from : BranchId) → DraftsLike (on_forgotten k s from) (on_forgotten (with_rows k ks) (row_as s h) from)
forgets_like k ks like s h from =
    subst (λ n. DraftsLike (on_forgotten k s from) (next_turn (with_rows k ks) (row_as s h) from n)) (sym (forgotten_same s h from)) (next_like k ks like s h from (next_on_forgotten s from))

-- an Ack that counts is noted in the row
counts_like : (k : NodeState) (ks : List KeptRow) → RowsLike (rows_of k) ks → (s : KeptRow) (h : Bool) (from : BranchId) → DraftsLike (counts_ack k s from) (counts_ack (with_rows k ks) (row_as s h) from)
counts_like k ks like s h from =
    subst (λ n. DraftsLike (counts_ack k s from) (next_turn (with_kept_row (with_rows k ks) (row_as s h)) (row_as s h) from n)) (sym (ack_same s h))
    (next_like (with_kept_row k s) (put_item kept_row_id ks (row_as s h)) (put_like (rows_of k) ks s (row_as s h) refl like) s h from (next_on_ack s))

ack_like : (k : NodeState) (ks : List KeptRow) → RowsLike (rows_of k) ks → (s : KeptRow) (h : Bool) (from : BranchId) → DraftsLike (on_ack k s from) (on_ack (with_rows k ks) (row_as s h) from)
ack_like k ks like s h from =
    subst (λ q. DraftsLike (on_ack k s from) (if q then counts_ack (with_rows k ks) (acked_by (row_as s h) from) from else nothing (with_rows k ks))) (sym (counts_same s h from)) (by (ack_counts s from))
  where
    by : (q : Bool) → DraftsLike (if q then counts_ack k (acked_by s from) from else nothing k) (if q then counts_ack (with_rows k ks) (acked_by (row_as s h) from) from else nothing (with_rows k ks))
    by true = counts_like k ks like (acked_by s from) h from
    by false = rests k ks like

known_like : (k : NodeState) (ks : List KeptRow) → RowsLike (rows_of k) ks → (s : KeptRow) (h : Bool) (from : BranchId) (o : Option Decision) → DraftsLike (commit_point_known k s from o) (commit_point_known (with_rows k ks) (row_as s h) from o)
known_like k ks like s h from None = rests k ks like
known_like k ks like s h from (Some (decisions.Commit n)) = said k ks like (post s.me from (kinds.Committed n))
known_like k ks like s h from (Some decisions.Rollback) = said k ks like (post s.me from kinds.RolledBack)

-- ---- each message

-- a branch is the same at both nodes, but for whether its row is hidden
pub data StandsLike : BranchStatus → BranchStatus → Type 0 where
  Both_live : (x : Branch) → StandsLike (Is_live x) (Is_live x)
  Both_kept : (s : KeptRow) (h : Bool) → StandsLike (Is_kept s) (Is_kept (row_as s h))
  Both_gone : StandsLike Is_gone Is_gone

module _ (p : Place) (k : NodeState) (ks : List KeptRow) (like : RowsLike (rows_of k) ks) (from to : BranchId) where
  abbrev KindLike : Kind → BranchStatus → BranchStatus → Type 0
  KindLike kind a b = DraftsLike (kind_turn p k from to kind a) (kind_turn p (with_rows k ks) from to kind b)

  pub kind_like : (kind : Kind) {a b : BranchStatus} → StandsLike a b → KindLike kind a b
  kind_like (kinds.Open edge root depth read_at) stands = open_like k ks like p from edge root depth read_at (opening_of k.opens from edge)
  kind_like (kinds.Opened edge strength) (Both_live x) = going_like k ks like x from edge strength x.work.going
  kind_like (kinds.Opened edge strength) (Both_kept s h) = rests k ks like
  kind_like (kinds.Opened edge strength) Both_gone = rests k ks like
  kind_like (kinds.Exec call task) (Both_live x) = exec_like k ks like p x from call task (admit x.work.came call)
  kind_like (kinds.Exec call task) (Both_kept y h) = rests k ks like
  kind_like (kinds.Exec call task) Both_gone = said k ks like (gone_reply to from call)
  kind_like (kinds.Reply call weight count a) (Both_live x) = reply_like k ks like x weight count a (reply_of x from call)
  kind_like (kinds.Reply call weight count a) (Both_kept s h) = rests k ks like
  kind_like (kinds.Reply call weight count a) Both_gone = rests k ks like
  kind_like (kinds.Prepare below comment) (Both_live x) = prepare_like k ks like x.live below comment x.live.phase
  kind_like (kinds.Prepare below comment) (Both_kept s h) = either k ks like (is_asked_again s from) (λ z. saying z (post s.me from kinds.Prepared)) nothing (said k ks like (post s.me from kinds.Prepared)) (rests k ks like)
  kind_like (kinds.Prepare below comment) Both_gone = said k ks like (post to from kinds.Abort)
  kind_like kinds.Prepared (Both_live x) = answer_like k ks like x.live from votes.Prepared x.live.phase
  kind_like kinds.Prepared (Both_kept s h) = rests k ks like
  kind_like kinds.Prepared Both_gone = rests k ks like
  kind_like kinds.ReadOnly (Both_live x) = answer_like k ks like x.live from votes.ReadOnly x.live.phase
  kind_like kinds.ReadOnly (Both_kept s h) = rests k ks like
  kind_like kinds.ReadOnly Both_gone = rests k ks like
  kind_like kinds.Ready (Both_live x) = answer_like k ks like x.live from votes.Ready x.live.phase
  kind_like kinds.Ready (Both_kept s h) = rests k ks like
  kind_like kinds.Ready Both_gone = rests k ks like
  kind_like kinds.Abort (Both_live x) = answer_like k ks like x.live from votes.Abort x.live.phase
  kind_like kinds.Abort (Both_kept s h) = rests k ks like
  kind_like kinds.Abort Both_gone = rests k ks like
  kind_like kinds.CommitPoint (Both_live x) = point_like k ks like x.live x.live.phase
  kind_like kinds.CommitPoint (Both_kept s h) = known_like k ks like s h from s.decision
  kind_like kinds.CommitPoint Both_gone = said k ks like (post to from kinds.RolledBack)
  kind_like (kinds.Committed n) (Both_live x) = rests k ks like
  kind_like (kinds.Committed n) (Both_kept s h) = decides_like k ks like s h from (decisions.Commit n)
  kind_like (kinds.Committed n) Both_gone = said k ks like (post to from kinds.Ack)
  kind_like kinds.RolledBack (Both_live x) = either k ks like (is_branch from x.live.parent) (λ z. drops z x.live []) nothing (dropped k ks like x.live []) (rests k ks like)
  kind_like kinds.RolledBack (Both_kept s h) = decides_like k ks like s h from decisions.Rollback
  kind_like kinds.RolledBack Both_gone = rests k ks like
  kind_like kinds.InDoubt stands = rests k ks like
  kind_like kinds.Ack (Both_live x) = rests k ks like
  kind_like kinds.Ack (Both_kept s h) = ack_like k ks like s h from
  kind_like kinds.Ack Both_gone = said k ks like (post to from kinds.Forgotten)
  kind_like kinds.Forgotten (Both_live x) = rests k ks like
  kind_like kinds.Forgotten (Both_kept s h) = forgets_like k ks like s h from
  kind_like kinds.Forgotten Both_gone = rests k ks like
  kind_like kinds.Rollback (Both_live x) = dropped k ks like x.live []
  kind_like kinds.Rollback (Both_kept s h) = decides_like k ks like s h from decisions.Rollback
  kind_like kinds.Rollback Both_gone = rests k ks like
  kind_like kinds.Ask (Both_live x) = ask_like k ks like x.live from (live_told x.live from)
  kind_like kinds.Ask (Both_kept s h) = said k ks like (post s.me from (ask_answer s from))
  kind_like kinds.Ask Both_gone = said k ks like (post to from kinds.RolledBack)

-- ---- where it stands

rows_stand : (o r : Option KeptRow) → FoundLike o r → StandsLike (kept_or_gone o) (kept_or_gone r)
rows_stand None None found = Both_gone
rows_stand None (Some y) found = absurd found
rows_stand (Some x) None found = absurd found
rows_stand (Some x) (Some y) found = subst (λ z. StandsLike (Is_kept x) (Is_kept z)) (sym found) (Both_kept x y.hidden)

live_stand : (b : Option Branch) (o r : Option KeptRow) → FoundLike o r → StandsLike (live_or b o) (live_or b r)
live_stand (Some x) o r found = Both_live x
live_stand None o r found = rows_stand o r found

pub stand_like : (k : NodeState) (ks : List KeptRow) → RowsLike (rows_of k) ks → (b : BranchId) → StandsLike (status_of k b) (status_of (with_rows k ks) b)
unfolding status_of
stand_like k ks like b = live_stand (branch_at k b) (kept_row_at k b) (item_at kept_row_id ks b) (found_like (rows_of k) ks b like)

-- ---- turns

clock_same : {k other : NodeState} → IsLike k other → k.clock ≡ other.clock
clock_same like = sym (ap (λ (z : NodeState). z.clock) like.same)

-- Turns that write the very same record, too.
pub record ActsSame (o other : TurnOutput) : Type 0 where
  pub wrote : o.wrote ≡ other.wrote
  pub like : ActsLike o other

pub acts_like : (d e : TurnDraft) → written d.wrote ≡ written e.wrote → d.says ≡ e.says → d.ended ≡ e.ended → IsLike d.after e.after → ActsLike (output_of d) (output_of e)
acts_like d e wrote says ended after = record {
  wrote = wrote;
  sent = subst₂ (λ c ps. map (stamped d.after.clock) d.says ≡ map (stamped c) ps) (clock_same after) says refl;
  ended = ended;
  after = after;
}

pub acts_same : (d e : TurnDraft) → DraftsLike d e → ActsSame (output_of d) (output_of e)
acts_same d e like = record { wrote = like.wrote; like = acts_like d e (ap written like.wrote) like.says like.ended like.after }
