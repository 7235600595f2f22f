-- A turn passes places of the branch that its input is about alone: each step writes the records of that branch, and says Ready
-- for no other.
use Rattle.std.proofs.Common.{◌≡◌, ℕ, ◌+◌, Bool, if◌then◌else◌, List, [], ◌∷◌, ◌++◌, length, map, flat_map, fold, Option, Some, None, sym, ap, subst, ◌∙◌}
use Rattle.std.specs.Prelude.{IfSome}
use Rattle.std.specs.List.{AllByRecursion}
use Rattle.std.proofs.lemmas.Bool.{cond_both}
use Rattle.tran_ids.specs.Branch.{branch_below, put_by_branch}
use Rattle.commit_forget.specs.Beyond.{beyond}
use Rattle.commit_forget.specs.declared.next.Next.TheVariants as nexts
use Rattle.reco.specs.declared.asking.Asking.{Asking}
use Rattle.reco.specs.Asks.{asking_id, asks_live, acks_again, missing, recovers, asks_kept, put_asking, stamped}
use Rattle.reco.specs.declared.told.Told.{Told}
use Rattle.reco.specs.declared.told.Told.TheVariants as tolds
use Rattle.reco.specs.Told.{told_kind, kept_told}
use Rattle.prepare_phase.specs.Records.{path_of, site_neighbors}
use Rattle.session_tree.specs.Live.{new_edge, children_of, peer_of}
use Rattle.session_tree.specs.Tree.{step}
use Rattle.node_rules.specs.Data.{Stmt, Answer, BranchId, Decision, RedoRecord, Done, KeptRow, Edge, Kind, Msg, Live, Act, Beyond, Place, Input, Post}
use Rattle.node_rules.specs.Data.answers
use Rattle.node_rules.specs.Data.decisions
use Rattle.node_rules.specs.Data.records
use Rattle.node_rules.specs.Data.kinds
use Rattle.node_rules.specs.Data.inputs
use Rattle.node_rules.specs.Data.stmts
use Rattle.node_rules.specs.Data.dones
use Rattle.node_rules.specs.declared.work.Errand.{Errand}
use Rattle.node_rules.specs.declared.work.Errand.TheVariants as errands
use Rattle.node_rules.specs.Data.acts
use Rattle.node_rules.specs.declared.session.PendingCall.TheVariants as pending
use Rattle.node_rules.specs.declared.session.Session.{Session}
use Rattle.node_rules.specs.Inputs.{Came, IsCall, Brings, Commit_came, Rollback_came, Rolled_back_came}
use Rattle.node_rules.specs.NodeState.{NodeState, TurnDraft, Branch, to_each, to_one}
use Rattle.node_rules.specs.Points.{is_ready}
use Rattle.node_rules.specs.Sessions.{session_at, with_call}
use Rattle.node_rules.specs.Names.{passed_on}
use Rattle.node_rules.specs.Statement.{ran, answer_of_run}
use Rattle.node_rules.specs.Calls.{answer_says, branch_ran, exec_to, less_room, with_edge, hears_reply, heard_answer}
use Rattle.node_rules.specs.Prepare.{prepares, to_children}
use Rattle.node_rules.specs.Commit.{passes_commit, rollback_to, passes}
use Rattle.node_rules.specs.Recovery.{askings}
use Rattle.node_rules.specs.Turn.{heard, draft_of, turn_of}
use Rattle.node_rules.proofs.Steps as steps
use Rattle.node_rules.proofs.Steps.{Step, Says, Acting, Collects, Doing, Makes, BeginsBy, IsOfRows, IsCounted, HasRoot}
use Rattle.node_rules.proofs.StandLemmas.{call_set}
use Rattle.node_rules.proofs.TurnLemmas.{step_of}
use Rattle.node_points.specs.Passing.{ready_sender, branch_of, turns, concerned, TurnsAreOfTheirBranch}

-- ---- what a turn says and writes

-- Ready is said for this branch alone
abbrev SaidFor : Option BranchId → BranchId → Kind → Type 0
SaidFor o from kinds.Ready = o ≡ Some from
SaidFor o from _ = Unit {0}

abbrev AllSaidFor : Option BranchId → List Post → Type 0
AllSaidFor o says = AllByRecursion (λ x. SaidFor o x.from x.kind) says

-- a record on which places depend is of this branch
abbrev WroteFor : Option BranchId → Option RedoRecord → Type 0
WroteFor o None = Unit {0}
WroteFor o (Some r) = IfSome (branch_of r) (λ b. o ≡ Some b)

abbrev DoneFor : Option BranchId → TurnDraft → Type 0
DoneFor o d = WroteFor o d.wrote × AllSaidFor o d.says

module _ (o : Option BranchId) where
  -- ---- lists of messages

  to_each_so : (me : BranchId) (kind : Kind) → SaidFor o me kind → (tos : List BranchId) → AllSaidFor o (to_each me kind tos)
  to_each_so me kind is [] = tt
  to_each_so me kind is (b ∷ bs) = (is, to_each_so me kind is bs)

  to_one_so : (me : BranchId) (kind : Kind) → SaidFor o me kind → (to : Option BranchId) → AllSaidFor o (to_one me kind to)
  to_one_so me kind is None = tt
  to_one_so me kind is (Some b) = (is, tt)

  both : (xs ys : List Post) → AllSaidFor o xs → AllSaidFor o ys → AllSaidFor o (xs ++ ys)
  both [] ys first second = second
  both (x ∷ xs) ys first second = (first.0, both xs ys first.1 second)

  prepares_so : (me : BranchId) (comment : List ℕ) (path : Option ℕ) (i : ℕ) (es : List Edge) → AllSaidFor o (prepares me comment path i es)
  prepares_so me comment path i [] = tt
  prepares_so me comment path i (e ∷ es) = (tt, prepares_so me comment path (i + 1) es)

  -- ---- decisions and recovery

  commit_so : (s : KeptRow) (n : ℕ) (bs : List Beyond) → AllSaidFor o (passes_commit s n bs)
  commit_so s n [] = to_one_so s.me kinds.Ack tt s.toward
  commit_so s n (b ∷ bs) = to_each_so s.me (kinds.Committed n) tt (map (λ c. c.branch) (b ∷ bs))

  rollbacks_so : (me : BranchId) (bs : List Beyond) → AllSaidFor o (map (rollback_to me) bs)
  rollbacks_so me [] = tt
  rollbacks_so me (b ∷ bs) = (cond_both b.is_parent kinds.RolledBack kinds.Rollback (SaidFor o me) (λ parent. tt) (λ child. tt), rollbacks_so me bs)

  passes_so : (s : KeptRow) (d : Decision) → AllSaidFor o (passes s d)
  passes_so s (decisions.Commit n) = commit_so s n (beyond s)
  passes_so s decisions.Rollback = rollbacks_so s.me (beyond s)

  told_so : (me : BranchId) (t : Told) → SaidFor o me (told_kind t)
  told_so me (tolds.Committed n) = tt
  told_so me tolds.RolledBack = tt
  told_so me tolds.RollBackFirst = tt
  told_so me tolds.InDoubt = tt

  recovers_so : (s : KeptRow) (d : Option Decision) → AllSaidFor o (recovers s d)
  recovers_so s None = to_one_so s.me kinds.Ask tt s.toward
  recovers_so s (Some (decisions.Commit n)) =
      both (missing s.me n (beyond s)) (acks_again s) (to_each_so s.me (kinds.Committed n) tt _) (cond_both _ (to_one s.me kinds.Ack s.toward) [] (AllSaidFor o) (λ all. to_one_so s.me kinds.Ack tt s.toward) (λ some. tt))
  recovers_so s (Some decisions.Rollback) = tt

  abbrev EachSaidFor : List Asking → Type 0
  EachSaidFor xs = AllByRecursion (λ a. AllSaidFor o a.says) xs

  each_with : (xs ys : List Asking) → EachSaidFor xs → EachSaidFor ys → EachSaidFor (xs ++ ys)
  each_with [] ys first second = second
  each_with (x ∷ xs) ys first second = (first.0, each_with xs ys first.1 second)

  lives_ask : (ls : List Live) → EachSaidFor (map asks_live ls)
  lives_ask [] = tt
  lives_ask (l ∷ ls) = (to_one_so l.me kinds.Ask tt l.parent, lives_ask ls)

  kept_ask : (ss : List KeptRow) → EachSaidFor (map asks_kept ss)
  kept_ask [] = tt
  kept_ask (s ∷ ss) = (recovers_so s s.decision, kept_ask ss)

  placed : (xs : List Asking) (x : Asking) → EachSaidFor xs → AllSaidFor o x.says → EachSaidFor (put_by_branch asking_id xs x)
  placed [] x all new = (new, tt)
  placed (y ∷ ys) x all new =
      cond_both (branch_below (asking_id x) (asking_id y)) (x ∷ y ∷ ys) (y ∷ put_by_branch asking_id ys x) EachSaidFor (λ here. (new, all)) (λ later. (all.0, placed ys x all.1 new))

  put_all : (xs ys : List Asking) → EachSaidFor xs → EachSaidFor ys → EachSaidFor (fold put_asking xs ys)
  put_all xs [] first second = first
  put_all xs (y ∷ ys) first second = put_all (put_asking xs y) ys (placed xs y first second.0) second.1

  all_said : (xs : List Asking) → EachSaidFor xs → AllSaidFor o (flat_map (λ a. a.says) xs)
  all_said [] all = tt
  all_said (x ∷ xs) all = both x.says (flat_map (λ a. a.says) xs) all.0 (all_said xs all.1)

  recovery_so : (k : NodeState) → AllSaidFor o (flat_map (λ a. a.says) (askings k))
  recovery_so k =
      all_said (askings k) (put_all [] (map asks_live k.lives ++ map asks_kept k.stored.durable.kept) tt
      (each_with (map asks_live k.lives) (map asks_kept k.stored.durable.kept) (lives_ask k.lives) (kept_ask k.stored.durable.kept)))

  -- ---- statements

  answer_so : (x : Branch) (a : Answer) (parent : Option BranchId) → AllSaidFor o (answer_says x a parent)
  answer_so x a None = tt
  answer_so x a (Some parent) = (tt, tt)

  exec_so : (ss : List Session) (x : Branch) (i : ℕ) (e : Errand) (peer : Option BranchId) → AllSaidFor o (exec_to ss x i e peer)
  exec_so ss x i e None = tt
  exec_so ss x i e (Some peer) = (tt, tt)

  -- ---- messages of a turn that changes nothing

  says_so : (k : NodeState) (input : Input) (says : List Post) → Says k input says → AllSaidFor o says
  says_so k input says (steps.Gone_replies to from call task came gone) = (tt, tt)
  says_so k input says (steps.Gone_aborts to from site_below comment came gone) = (tt, tt)
  says_so k input says (steps.Gone_rolls_back to from came gone) = (tt, tt)
  says_so k input says (steps.Gone_acks to from n came gone) = (tt, tt)
  says_so k input says (steps.Gone_forgets to from came gone) = (tt, tt)
  says_so k input says (steps.Replies_again x to call task t came live last answered) = (tt, tt)
  says_so k input says (steps.Opened_again to parent edge root depth read_at opening came found) = (tt, tt)
  says_so k input says (steps.Prepared_again s from site_below comment came kept asked) = (tt, tt)
  says_so k input says (steps.Knows_commit s from n came kept is) = (tt, tt)
  says_so k input says (steps.Knows_rollback s from came kept is) = (tt, tt)
  says_so k input says (steps.Is_in_doubt l from came live other) = (tt, tt)
  says_so k input says (steps.Tells s from came kept) = (told_so s.me (kept_told s from), tt)
  says_so k input says (steps.Recovers reco) = recovery_so k

  -- ---- the branch that an input is about

  -- a message is for this branch
  abbrev ToIt : Input → Type 0
  ToIt input = (from to : BranchId) (kind : Kind) → Came input from to kind → o ≡ Some to

  -- a COMMIT is of this root
  abbrev CommitOfIt : NodeState → Input → Type 0
  CommitOfIt k input = (n : ℕ) (given : Option (List ℕ)) (b : BranchId) → IsCall input n (stmts.Commit given) → HasRoot k n b → o ≡ Some b

  module _ (input : Input) (to_it : ToIt input) where
    collects_of : {k : NodeState} {l : Live} {comment : List ℕ} {site_below : Bool} → CommitOfIt k input → Collects k input l comment site_below → o ≡ Some l.me
    collects_of {l = l} commit (steps.By_commit n given call has code writer is) = commit n given l.me call has
    collects_of commit (steps.By_prepare from site_below came working) = to_it _ _ _ came

    acting_of : {k : NodeState} {l : Live} {site_below : Bool} {a : Act} → CommitOfIt k input → Acting k input l site_below a → o ≡ Some l.me
    acting_of commit (steps.Asks_down l comment site_below e es live begun has) = collects_of commit begun
    acting_of commit (steps.Has_no_children l comment site_below a live begun none collected) = collects_of commit begun
    acting_of commit (steps.Hears_abort l from site_below live answers) = to_it _ _ _ answers.came
    acting_of commit (steps.Waits_on l from v site_below live answers other some) = to_it _ _ _ answers.came
    acting_of commit (steps.Hears_last l from v site_below a live answers other all collected) = to_it _ _ _ answers.came
    acting_of commit (steps.At_point l from a live came ready pointed) = to_it _ _ _ came

    brings_of : {from to : BranchId} {d : Decision} → Brings input from to d → o ≡ Some to
    brings_of (Commit_came n came) = to_it _ _ _ came
    brings_of (Rollback_came came) = to_it _ _ _ came
    brings_of (Rolled_back_came came) = to_it _ _ _ came

    ended_of : (s : KeptRow) (d : Decision) → o ≡ Some s.me → WroteFor o (Some (records.Ended s.me d))
    ended_of s (decisions.Commit n) is = is
    ended_of s decisions.Rollback is = tt

    does_of : {clock : ℕ} {s : KeptRow} {from : BranchId} {d : Decision} → Doing clock input s from (nexts.End d) → o ≡ Some s.me
    does_of (steps.Ends_so d brings toward unknown sealed met) = brings_of brings

    forgets_of : {clock : ℕ} {s : KeptRow} {from : BranchId} → Doing clock input s from nexts.Forget → o ≡ Some s.me
    forgets_of (steps.Forgets_first came knows still all root) = to_it _ _ _ came
    forgets_of (steps.Forgets_after came knows toward still) = to_it _ _ _ came

    made_of : {k : NodeState} {s : Stmt} {r : RedoRecord} {d : Done} → Makes k s r d → WroteFor o (Some r)
    made_of (steps.Makes_table t free) = tt
    made_of (steps.Makes_link l free) = tt
    made_of (steps.Makes_synonym y free) = tt
    made_of (steps.Sets_recovery on) = tt
    made_of (steps.Sets_strength strength) = tt

    -- a statement that begins a transaction is no COMMIT
    no_commit : {clock : ℕ} {s : Stmt} {read_at : Option ℕ} (given : Option (List ℕ)) → BeginsBy clock s read_at → s ≡ stmts.Commit given → ⊥
    no_commit given (steps.By_rows s rows) is = subst IsOfRows is rows
    no_commit given (steps.By_savepoint name) is = absurd cc
    no_commit given steps.By_read_only is = absurd cc

    -- nor is one that counts
    none_counted : (s : Stmt) (given : Option (List ℕ)) → IsCounted s → s ≡ stmts.Commit given → ⊥
    none_counted s given counts is = subst IsCounted is counts

    -- a session that has this root has it while its COMMIT is pending
    still_root : (k : NodeState) (n m : ℕ) (b c : BranchId) → HasRoot k n b → n ≡ m → (session_at (with_call k.sessions n pending.Commit) m).root ≡ Some c → b ≡ c
    still_root k n m b c has is root =
        let same : session_at (with_call k.sessions n pending.Commit) n ≡ record (session_at k.sessions n) { call = pending.Commit } = call_set k.sessions n b pending.Commit has in
        let here : (session_at (with_call k.sessions n pending.Commit) n).root ≡ Some c = subst (λ j. (session_at (with_call k.sessions n pending.Commit) j).root ≡ Some c) (sym is) root in
        let both_are : Some b ≡ Some c = sym has ∙ sym (ap (λ (s : Session). s.root) same) ∙ here in
        cc

    -- ---- steps

    done_on : (p : Place) {k : NodeState} {d : TurnDraft} → CommitOfIt k input → Step p input k d → DoneFor o d
    done_on p commit (steps.Begins n s read_at call begins fit none step) =
        done_on p (λ m given b other has. absurd (no_commit given begins (let it : inputs.Call n (Some s) ≡ inputs.Call m (Some (stmts.Commit given)) = sym call ∙ other in cc))) step
    done_on p commit (steps.Counts_call n s call counts step) =
        done_on p (λ m given b other has. absurd (none_counted s given counts (let it : inputs.Call n (Some s) ≡ inputs.Call m (Some (stmts.Commit given)) = sym call ∙ other in cc))) step
    done_on p commit (steps.Goes_back x back goes step) = done_on p commit step
    done_on p commit (steps.Pends {k = k} n l given call has live code writer step) =
        done_on p (λ m other b called root.
        let it : inputs.Call n (Some (stmts.Commit given)) ≡ inputs.Call m (Some (stmts.Commit other)) = sym call ∙ called in
        let is : n ≡ m = cc in
        commit n given l.me call has ∙ ap (λ (c : BranchId). Some c) (still_root k n m l.me b has is root)) step
    done_on p commit (steps.Lets_reads_go l comment site_below live begun step) = done_on p commit step
    done_on p commit (steps.Counts_ack s from kept came counts step) = done_on p commit step
    done_on p commit steps.Rests = (tt, tt)
    done_on p commit (steps.Sends {k = k} says why) = (tt, says_so k input says why)
    done_on p commit (steps.Runs {k = k} x s given t asks way) =
        (tt, answer_so (branch_ran k.sessions x t (ran p k x.live.me s t)) (answer_of_run (ran p k x.live.me s t)) x.live.parent)
    done_on p commit (steps.Goes_nowhere x s given r asks way) = (tt, answer_so x (answers.Refused r) x.live.parent)
    done_on p commit (steps.Calls {k = k} x s given i table asks way) = (tt, exec_so k.sessions x i (errands.Statement (passed_on s table) given) (peer_of x.live i))
    done_on p commit (steps.Opens x s given node link table asks way) = (tt, (tt, tt))
    done_on p commit (steps.Goes_on {k = k} x from strength g link opened) =
        let y : Branch = with_edge x (new_edge from link strength) in
        (tt, exec_so k.sessions y (length x.live.edges + 1) (less_room g.errand) (peer_of y.live (length x.live.edges + 1)))
    done_on p commit (steps.Hears_reply x weight count a i e answers) =
        let y : Branch = hears_reply x i weight count e in
        (tt, answer_so y (heard_answer y.live e.link a) x.live.parent)
    done_on p commit (steps.Backs {k = k} x step from i calls is) = (tt, exec_so k.sessions x i (errands.GoBack step) (peer_of x.live i))
    done_on p commit (steps.Is_back x step from calls is) = (tt, answer_so x (answers.Did dones.RolledBack 0) x.live.parent)
    done_on p commit (steps.Opens_branch to parent edge root depth read_at came new) = (tt, (tt, tt))
    done_on p commit (steps.Acts l site_below acts.Rest why) = (tt, tt)
    done_on p commit (steps.Acts l site_below acts.AskDown why) = (tt, prepares_so l.me l.comment (path_of site_below (step l)) 1 l.edges)
    done_on p commit (steps.Acts l site_below acts.SayReady why) = (tt, to_one_so l.me kinds.Ready (acting_of commit why) l.parent)
    done_on p commit (steps.Acts l site_below acts.SayReadOnly why) = (tt, to_one_so l.me kinds.ReadOnly tt l.parent)
    done_on p commit (steps.Acts l site_below acts.Seal why) = (tt, to_one_so l.me kinds.Prepared tt l.parent)
    done_on p commit (steps.Acts l site_below (acts.SealAndPass i) why) = (tt, to_one_so l.me kinds.CommitPoint tt (peer_of l i))
    done_on p commit (steps.Acts {k = k} l site_below acts.Decide why) = (acting_of commit why, to_each_so l.me (kinds.Committed (k.clock + 1)) tt (site_neighbors l))
    done_on p commit (steps.Acts l site_below acts.Finish why) = (tt, tt)
    done_on p commit (steps.Acts l site_below acts.Abandon why) =
        (tt, both (to_one l.me kinds.Abort l.parent) (to_children l kinds.Rollback) (to_one_so l.me kinds.Abort tt l.parent) (to_each_so l.me kinds.Rollback tt (children_of l)))
    done_on p commit (steps.Drops_told l live drops) = (tt, to_each_so l.me kinds.Rollback tt (children_of l))
    done_on p commit (steps.Drops_asked l from live came parent) = (tt, (tt, to_each_so l.me kinds.Rollback tt (children_of l)))
    done_on p commit (steps.Does s from nexts.Rest kept why) = (tt, tt)
    done_on p commit (steps.Does s from nexts.AckToward kept why) = (tt, to_one_so s.me kinds.Ack tt s.toward)
    done_on p commit (steps.Does s from nexts.SayForgotten kept why) = (tt, (tt, tt))
    done_on p commit (steps.Does s from nexts.SayAck kept why) = (tt, (tt, tt))
    done_on p commit (steps.Does s from (nexts.End d) kept why) = (ended_of s d (does_of why), passes_so s d)
    done_on p commit (steps.Does s from (nexts.Meet d mixed) kept why) = (tt, passes_so s d)
    done_on p commit (steps.Does s from nexts.Forget kept why) = (forgets_of why, to_each_so s.me kinds.Forgotten tt _)
    done_on p commit (steps.Refuses n s r call) = (tt, tt)
    done_on p commit (steps.Completes_at_once n s d call complete none) = (tt, tt)
    done_on p commit (steps.Makes_record n s r d call makes) = (made_of makes, tt)
    done_on p commit (steps.Forces_given n id m b call named) = (tt, tt)
    done_on p commit (steps.Forces_commit n id b call named) = (tt, tt)
    done_on p commit (steps.Forces_rollback n id b call named) = (tt, tt)
    done_on p commit (steps.Hides n mixed id s call found) = (tt, tt)
    done_on p commit (steps.Advises n a call) = (tt, tt)
    done_on p commit (steps.Sets_read_only n call) = (tt, tt)
    done_on p commit (steps.Sets_savepoint n x name call has code live) = (tt, tt)
    done_on p commit (steps.Images is) = (tt, tt)
    done_on p commit (steps.Leaves n s d x call ends has live) = (tt, to_each_so x.live.me kinds.Rollback tt (children_of x.live))
    done_on p commit (steps.Gives_up n x gives has waits live) = (tt, tt)
    done_on p commit (steps.Gives_up_commit n b (Some l) gives has waits live) = (tt, to_each_so l.me kinds.Rollback tt (children_of l))
    done_on p commit (steps.Gives_up_commit n b None gives has waits none) = (tt, tt)

-- ---- turns

said_ready : (o : Option BranchId) (from b : BranchId) (kind : Kind) → SaidFor o from kind → (if is_ready kind then Some from else None) ≡ Some b → o ≡ Some b
said_ready o from b kinds.Ready so is = so ∙ is
said_ready o from b _ so is = absurd cc

sent_for : (o : Option BranchId) (scn : ℕ) (says : List Post) (b : BranchId) → AllSaidFor o says → ready_sender (map (stamped scn) says) ≡ Some b → o ≡ Some b
sent_for o scn [] b all is = absurd cc
sent_for o scn (x ∷ xs) b all is = said_ready o x.from b x.kind all.0 is

if_some : (o found : Option BranchId) (b : BranchId) → IfSome found (λ c. o ≡ Some c) → found ≡ Some b → o ≡ Some b
if_some o None b so is = absurd cc
if_some o (Some c) b so is = so ∙ is

turned_for : (o : Option BranchId) (scn : ℕ) (says : List Post) (w : Option RedoRecord) (b : BranchId) → WroteFor o w → AllSaidFor o says → turns (map (stamped scn) says) w ≡ Some b → o ≡ Some b
turned_for o scn says None b wrote all is = sent_for o scn says b all is
turned_for o scn says (Some r) b wrote all is = if_some o (branch_of r) b wrote is

message_of_it : (k : NodeState) (input : Input) → ToIt (concerned k input) input
message_of_it k (inputs.Message m) from to kind came =
    let it : inputs.Message m ≡ inputs.Message (record { from = from; to = to; scn = came.scn; kind = kind }) = came.is in
    let same : m ≡ record { from = from; to = to; scn = came.scn; kind = kind } = cc in
    ap (λ (x : Msg). Some x.to) same
message_of_it k (inputs.Call n s) from to kind came =
    let it : inputs.Call n s ≡ inputs.Message (record { from = from; to = to; scn = came.scn; kind = kind }) = came.is in
    absurd cc
message_of_it k (inputs.GiveUp n) from to kind came =
    let it : inputs.GiveUp n ≡ inputs.Message (record { from = from; to = to; scn = came.scn; kind = kind }) = came.is in
    absurd cc
message_of_it k inputs.Reco from to kind came =
    let it : inputs.Reco ≡ inputs.Message (record { from = from; to = to; scn = came.scn; kind = kind }) = came.is in
    absurd cc
message_of_it k inputs.Checkpoint from to kind came =
    let it : inputs.Checkpoint ≡ inputs.Message (record { from = from; to = to; scn = came.scn; kind = kind }) = came.is in
    absurd cc

commit_of_it : (k : NodeState) (input : Input) → CommitOfIt (concerned k input) (heard k input) input
commit_of_it k (inputs.Message m) n given b call has = absurd cc
commit_of_it k (inputs.Call m s) n given b call has =
    let it : inputs.Call m s ≡ inputs.Call n (Some (stmts.Commit given)) = call in
    let is : m ≡ n = cc in
    subst (λ j. (session_at k.sessions j).root ≡ Some b) (sym is) has
commit_of_it k (inputs.GiveUp m) n given b call has = absurd cc
commit_of_it k inputs.Reco n given b call has = absurd cc
commit_of_it k inputs.Checkpoint n given b call has = absurd cc

pub turns_are_of_their_branch : TurnsAreOfTheirBranch
unfolding turn_of
turns_are_of_their_branch p k input fit b is =
    let o = concerned k input in
    let done = done_on o input (message_of_it k input) p (commit_of_it k input) (step_of p k input fit) in
    let d = draft_of p k input in
    turned_for o d.after.clock d.says d.wrote b done.0 done.1 is
