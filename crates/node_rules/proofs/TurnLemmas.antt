-- Each turn is one of the steps: a lemma for each function of the rules, by its own clauses.
use Rattle.std.proofs.Common.{◌≡◌, ◌≤◌, ℕ, ◌+◌, ◌==◌, ◌&&◌, Bool, true, false, if◌then◌else◌, List, [], find, length, Option, Some, None, Result, Ok, Err, inl, inr, refl, sym, ap, subst, ◌∙◌, arith}
use Rattle.std.proofs.lemmas.Bool.{and_parts, cond_both}
use Rattle.std.proofs.lemmas.Bool.Decides.{nat_tests}
use Rattle.std.specs.List.{list_any}
use Rattle.std.specs.Prelude.{unwrap_or, is_some, nat_lt}
use Rattle.tran_ids.proofs.ListedLemmas.{put_found}
use Rattle.node_rules.specs.Data.{Refusal, Done, Answer, BranchId, Stmt, Decision, Place, RedoRecord, KeptRow, Vote, Edge, Phase, Live, Kind, Input, ReplyFields, Waits, Task, Errand, Going, Work, Admit, PendingCall, Opening}
use Rattle.node_rules.specs.Data.answers
use Rattle.node_rules.specs.Data.tasks
use Rattle.node_rules.specs.Data.errands
use Rattle.node_rules.specs.Data.dones
use Rattle.node_rules.specs.Data.stmts
use Rattle.node_rules.specs.Data.decisions
use Rattle.node_rules.specs.Data.votes
use Rattle.node_rules.specs.Data.phases
use Rattle.node_rules.specs.Data.kinds
use Rattle.node_rules.specs.Data.inputs
use Rattle.node_rules.specs.Data.waiting
use Rattle.node_rules.specs.Data.admits
use Rattle.node_rules.specs.Data.pending
use Rattle.session_tree.specs.Live.{is_branch}
use Rattle.node_rules.specs.NodeState.{NodeState, TurnDraft, Branch, nothing, saying, kept_row_id, live_at, branch_at}
use Rattle.node_rules.specs.Names.{Way, way_of, Runs_here, Over, Through, Nowhere_to}
use Rattle.node_rules.specs.Sessions.{session_at, with_call}
use Rattle.dtx_values.specs.Limits.{image_limit}
use Rattle.node_rules.specs.Marks.{savepoint_at, node_back, branch_back, next_back}
use Rattle.node_rules.specs.Images.{image_at, image_bytes, checkpoint}
use Rattle.node_rules.specs.Calls.{goes, statement_at, is_opening, open_by, opened_waits, opened_going, admit, takes_call, says_again, backs_to, goes_back, task_at, exec_by, reply_of, hears_reply, back_heard, errand_heard, going_heard, reply_by}
use Rattle.node_rules.specs.Prepare.{drops, without_read_keys, collects, with_comment, prepare_in, answers_first, answer_in, commit_point_in}
use Rattle.node_rules.specs.Commit.{on_decision, ack_counts, acked_by, counts_ack, on_ack, on_forgotten, commit_point_known, is_asked_again, on_prepare_kept}
use Rattle.reco.specs.declared.told.Told.TheVariants as tolds
use Rattle.node_rules.specs.Recovery.{on_ask_told, on_ask, recovery}
use Rattle.node_rules.specs.Force.{branch_to_force, force_commit, force_rollback, may_purge, hides, purge}
use Rattle.node_rules.specs.Client.{refuses, begun_by, begun, counted, root_at, is_write, statement_by, statement_call, commit_at, commit_by, rollback_by, read_only_by, savepoint_by, savepoint_call, back_to_savepoint, back_by, writes, is_used, is_link, call_turn, read_turn, statement_given_up, give_up_by}
use Rattle.node_rules.specs.Turn.{BranchStatus, status_of, exec_turn, opened_turn, reply_turn, prepare_turn, answer_turn, commit_point_turn, committed_turn, rollback_turn, rolled_back_turn, ack_turn, forgotten_turn, ask_turn, kind_turn, kind_scn, clock_raised_by, heard, draft_of, Is_live, Is_kept, Is_gone}
use Rattle.node_rules.specs.Inputs.{IsSession, IsFit, Came, IsCall, Brings, Commit_came, Rollback_came, Rolled_back_came}
use Rattle.node_rules.proofs.Steps.{Step, Refuses, IsOfRows, Asked, BeginsBy, IsCounted, Goes_to, Calls_back, Is_answered, By_rows, By_savepoint, By_read_only, By_rollback_to, By_back, Has_gone, Has_heard, By_rollback_call, By_reading, Counts_call, Goes_back, Backs, Is_back, Leaves, Sets_read_only, Sets_savepoint, Sets_strength, Images, Collects, vote_kind, IsKept, IsMet, Makes, purge_of, By_call, By_exec, By_commit, By_prepare, By_rollback, By_parent, Gone_replies, Gone_aborts, Gone_rolls_back, Gone_acks, Gone_forgets, Replies_again, Opened_again, Prepared_again, Knows_commit, Knows_rollback, Is_in_doubt, Tells, Recovers, Makes_table, Makes_link, Makes_synonym, Sets_recovery, Commits_nothing, Rolls_nothing_back, Begins, Pends, Lets_reads_go, Counts_ack, Rests, Sends, Runs, Goes_nowhere, Calls, Opens, Goes_on, Hears_reply, Opens_branch, Acts, Drops_told, Drops_asked, Does, Completes_at_once, Makes_record, Forces_given, Forces_commit, Forces_rollback, Hides, Advises, Gives_up, Gives_up_commit}
use Rattle.node_rules.proofs.StandLemmas.{live_so, StandsSo, stands_so, RootSo, branch_so, root_so, call_set}
use Rattle.node_rules.proofs.ActLemmas.{first_act_so, answer_act_so, point_act_so}
use Rattle.node_rules.proofs.NextLemmas.{decision_so, ack_so, forgotten_so}

-- what was answered is the last call
last_so : (w : Work) (call : ℕ) → admit w.came call ≡ admits.Again → w.came.last_call ≡ call
unfolding admit
last_so w call is = grind (arith, nat_tests)

module _ (p : Place) (input : Input) where
  -- a message to a branch came to this one
  here : {from to b : BranchId} {kind : Kind} → b ≡ to → Came input from to kind → Came input from b kind
  here {from = from} {kind = kind} me came = subst (λ m. Came input from m kind) (sym me) came

  -- ---- statements

  goes_so : (k : NodeState) (x : Branch) (s : Stmt) (given : ℕ) (way : Way) → Asked k input x s given → way_of p k.stored.durable x.live given s ≡ way → Step p input k (goes p k x s given way)
  goes_so k x s given (Runs_here t) asked is = Runs x s given t asked is
  goes_so k x s given (Nowhere_to r) asked is = Goes_nowhere x s given r asked is
  goes_so k x s given (Over i table) asked is = Calls x s given i table asked is
  goes_so k x s given (Through node link table) asked is = Opens x s given node link table asked is

  statement_so : (k : NodeState) (x : Branch) (s : Stmt) (given : ℕ) → Asked k input x s given → Step p input k (statement_at p k x s given)
  statement_so k x s given asked = goes_so k x s given (way_of p k.stored.durable x.live given s) asked refl

  open_so : (k : NodeState) (from to : BranchId) (edge : ℕ) (root : BranchId) (depth : ℕ) (read_at : Option ℕ) (o : Option Opening) → Came input from to (kinds.Open edge root depth read_at)
      → find (is_opening from edge) k.opens ≡ o → Step p input k (open_by p k from edge root depth read_at o)
  open_so k from to edge root depth read_at (Some o) came is = Sends _ (Opened_again to from edge root depth read_at o came is)
  open_so k from to edge root depth read_at None came is = Opens_branch to from edge root depth read_at came is

  -- ---- going back to a savepoint

  backs_so : (k : NodeState) (x : Branch) (step from : ℕ) (next : Option ℕ) → Calls_back k input x step from → next_back x.work step from ≡ next → Step p input k (backs_to k x step next)
  backs_so k x step from None calls is = Is_back x step from calls is
  backs_so k x step from (Some i) calls is = Backs x step from i calls is

  goes_back_so : (k : NodeState) (x : Branch) (step : ℕ) → Goes_to k input x step → Step p input k (goes_back k x step)
  goes_back_so k x step goes =
      Goes_back x step goes (backs_so (node_back k x step) (branch_back k x step) step 1 (next_back (branch_back k x step).work step 1) (Has_gone k x step goes refl) refl)

  -- ---- messages of statements, at a live branch

  module _ (k : NodeState) (from : BranchId) (x : Branch) (live : branch_at k x.live.me ≡ Some x) where
    waits_so : (edge strength : ℕ) (g : Going) (w : Waits) → Came input from x.live.me (kinds.Opened edge strength) → x.work.going ≡ Some g → (edge == length x.live.edges + 1) ≡ true → g.waits ≡ w
        → Step p input k (opened_waits k x from strength g w)
    waits_so edge strength g (waiting.ForReply i) came going new is = Rests
    waits_so edge strength g (waiting.ForOpened link) came going new is =
        Goes_on x from strength g link (record { edge = edge; came = came; live = live; going = going; waits = is; new = new })

    opened_so : (edge strength : ℕ) (o : Option Going) → Came input from x.live.me (kinds.Opened edge strength) → x.work.going ≡ o → Step p input k (opened_going k x from edge strength o)
    opened_so edge strength None came going = Rests
    opened_so edge strength (Some g) came going = cond_both (edge == length x.live.edges + 1) _ _ (Step p input k) (λ new. waits_so edge strength g g.waits came going new refl) (λ old. Rests)

    again_so : (call : ℕ) (task : Task) (o : Option ReplyFields) → Came input from x.live.me (kinds.Exec call task) → x.work.came.last_call ≡ call → x.work.came.reply ≡ o
        → Step p input k (saying k (says_again x from o))
    again_so call task None came last is = Rests
    again_so call task (Some t) came last is = Sends _ (Replies_again x from call task t came live last is)

    task_so : (call : ℕ) (task : Task) → Came input from x.live.me (kinds.Exec call task) → admit x.work.came call ≡ admits.Run → Step p input k (task_at p k (takes_call x call task) task)
    task_so call (tasks.Run given advice s) came is = statement_so k (takes_call x call (tasks.Run given advice s)) s given (By_exec x from call given advice s came live is)
    task_so call (tasks.GoBack keep) came is = goes_back_so k (takes_call x call (tasks.GoBack keep)) keep (By_back x from call keep came live is)

    exec_so : (call : ℕ) (task : Task) (a : Admit) → Came input from x.live.me (kinds.Exec call task) → admit x.work.came call ≡ a → Step p input k (exec_by p k x from call task a)
    exec_so call task admits.Ignore came is = Rests
    exec_so call task admits.Again came is = again_so call task x.work.came.reply came (last_so x.work call is) refl
    exec_so call task admits.Run came is = task_so call task came is

    back_heard_so : (weight : Option ℕ) (count : ℕ) (a : Answer) (i : ℕ) (e : Edge) (g : Going) (step : ℕ) → Is_answered k input x weight count a i e → x.work.going ≡ Some g → g.errand ≡ errands.GoBack step
        → Step p input k (back_heard k (hears_reply x i weight count e) step i e.link a)
    back_heard_so weight count (answers.Refused r) i e g step answered going is = Hears_reply x weight count (answers.Refused r) i e answered
    back_heard_so weight count (answers.Did d n) i e g step answered going is =
        backs_so k (hears_reply x i weight count e) step (i + 1) _ (Has_heard x weight count (answers.Did d n) i e g step answered going is tt) refl
    back_heard_so weight count (answers.Found rows) i e g step answered going is =
        backs_so k (hears_reply x i weight count e) step (i + 1) _ (Has_heard x weight count (answers.Found rows) i e g step answered going is tt) refl

    errand_so : (weight : Option ℕ) (count : ℕ) (a : Answer) (i : ℕ) (e : Edge) (g : Going) (errand : Errand) → Is_answered k input x weight count a i e → x.work.going ≡ Some g → g.errand ≡ errand
        → Step p input k (errand_heard k (hears_reply x i weight count e) i e.link a errand)
    errand_so weight count a i e g (errands.Statement s given) answered going is = Hears_reply x weight count a i e answered
    errand_so weight count a i e g (errands.GoBack step) answered going is = back_heard_so weight count a i e g step answered going is

    going_so : (weight : Option ℕ) (count : ℕ) (a : Answer) (i : ℕ) (e : Edge) (o : Option Going) → Is_answered k input x weight count a i e → x.work.going ≡ o
        → Step p input k (going_heard k (hears_reply x i weight count e) i e.link a o)
    going_so weight count a i e None answered going = Rests
    going_so weight count a i e (Some g) answered going = errand_so weight count a i e g g.errand answered going refl

    reply_so : (call : ℕ) (weight : Option ℕ) (count : ℕ) (a : Answer) (o : Option (ℕ × Edge)) → Came input from x.live.me (kinds.Reply call weight count a) → reply_of x from call ≡ o
        → Step p input k (reply_by k x weight count a o)
    reply_so call weight count a None came is = Rests
    reply_so call weight count a (Some ie) came is = going_so weight count a ie.0 ie.1 x.work.going (record { from = from; call = call; came = came; live = live; waits = is }) refl

  -- ---- the prepare phase

  -- what begins a collect does not look at locks
  begins_still : (k : NodeState) (b : BranchId) (l : Live) (comment : List ℕ) (site_below : Bool) → Collects k input l comment site_below → Collects (without_read_keys k b) input l comment site_below
  begins_still k b l comment site_below (By_commit n given call has code writer said) = By_commit n given call has code writer said
  begins_still k b l comment site_below (By_prepare from _ came working) = By_prepare from _ came working

  collects_so : (k : NodeState) (l : Live) (comment : List ℕ) (site_below : Bool) → live_at k l.me ≡ Some l → Collects k input l comment site_below → Step p input k (collects k (with_comment l comment) site_below)
  collects_so k l comment site_below live begins =
      Lets_reads_go l comment site_below live begins (Acts _ site_below _ (first_act_so (without_read_keys k l.me) input l live comment site_below (begins_still k l.me l comment site_below begins)))

  module _ (k : NodeState) (from : BranchId) (l : Live) (live : live_at k l.me ≡ Some l) where
    prepare_so : (site_below : Bool) (comment : List ℕ) (phase : Phase) → Came input from l.me (kinds.Prepare site_below comment) → l.phase ≡ phase → Step p input k (prepare_in k l site_below comment phase)
    prepare_so site_below comment phases.Working came is = collects_so k l comment site_below live (By_prepare from site_below came is)
    prepare_so site_below comment _ came is = Rests

    answer_so : (v : Vote) (kind : Kind) (phase : Phase) → vote_kind v ≡ Some kind → Came input from l.me kind → l.phase ≡ phase → Step p input k (answer_in k l from v phase)
    answer_so v kind (phases.Collecting site_below) is_vote came is =
        cond_both (list_any (answers_first from) l.edges) _ _ (Step p input k)
        (λ first. Acts _ site_below _ (answer_act_so k input l live from v site_below (record { kind = kind; is_vote = is_vote; came = came; collecting = is; first = first }))) (λ later. Rests)
    answer_so v kind _ is_vote came is = Rests

    point_so : (phase : Phase) → Came input from l.me kinds.CommitPoint → l.phase ≡ phase → Step p input k (commit_point_in k l phase)
    point_so phases.Ready came is = Acts l true _ (point_act_so k input l live from came is)
    point_so _ came is = Rests

    rolled_back_so : Came input from l.me kinds.RolledBack → Step p input k (if is_branch from l.parent then drops k l [] else nothing k)
    rolled_back_so came = cond_both (is_branch from l.parent) _ _ (Step p input k) (λ parent. Drops_told l live (By_parent from came parent)) (λ other. Rests)

    ask_so : Came input from l.me kinds.Ask → Step p input k (on_ask k l from)
    ask_so came = cond_both (is_branch from l.parent) tolds.RollBackFirst tolds.InDoubt (λ t. Step p input k (on_ask_told k l from t)) (Drops_asked l from live came) (λ other. Sends _ (Is_in_doubt l from came live other))

  -- ---- kept branches

  module _ (k : NodeState) (from : BranchId) (s : KeptRow) (kept : IsKept k s) where
    on_decision_so : (d : Decision) → Brings input from s.me d → IsMet k.clock d → Step p input k (on_decision k s from d)
    on_decision_so d brings met = Does s from _ kept (decision_so k.clock input s from d brings met)

    counts_ack_so : Came input from s.me kinds.Ack → ack_counts s from ≡ true → Step p input k (counts_ack k (acked_by s from) from)
    counts_ack_so came counts =
        Counts_ack s from kept came counts
        (Does (acked_by s from) from _ (put_found kept_row_id k.stored.durable.kept (acked_by s from)) (ack_so k.clock input (acked_by s from) from came (and_parts _ _ counts).0))

    on_ack_so : Came input from s.me kinds.Ack → Step p input k (on_ack k s from)
    on_ack_so came = cond_both (ack_counts s from) _ _ (Step p input k) (counts_ack_so came) (λ other. Rests)

    on_forgotten_so : Came input from s.me kinds.Forgotten → Step p input k (on_forgotten k s from)
    on_forgotten_so came = Does s from _ kept (forgotten_so k.clock input s from came)

    known_so : (o : Option Decision) → Came input from s.me kinds.CommitPoint → s.decision ≡ o → Step p input k (commit_point_known k s from o)
    known_so None came is = Rests
    known_so (Some (decisions.Commit n)) came is = Sends _ (Knows_commit s from n came kept is)
    known_so (Some decisions.Rollback) came is = Sends _ (Knows_rollback s from came kept is)

    prepare_kept_so : (site_below : Bool) (comment : List ℕ) → Came input from s.me (kinds.Prepare site_below comment) → Step p input k (on_prepare_kept k s from)
    prepare_kept_so site_below comment came = cond_both (is_asked_again s from) _ _ (Step p input k) (λ again. Sends _ (Prepared_again s from site_below comment came kept again)) (λ other. Rests)

  -- ---- each kind of message

  module _ (k : NodeState) (from to : BranchId) where
    opened_turn_so : (edge strength : ℕ) (stand : BranchStatus) → Came input from to (kinds.Opened edge strength) → StandsSo k to stand → Step p input k (opened_turn k from edge strength stand)
    opened_turn_so edge strength (Is_live x) came so = opened_so k from x so.1 edge strength x.work.going (here so.0 came) refl
    opened_turn_so edge strength _ came so = Rests

    exec_turn_so : (call : ℕ) (task : Task) (stand : BranchStatus) → Came input from to (kinds.Exec call task) → StandsSo k to stand → Step p input k (exec_turn p k from to call task stand)
    exec_turn_so call task (Is_live x) came so = exec_so k from x so.1 call task (admit x.work.came call) (here so.0 came) refl
    exec_turn_so call task (Is_kept y) came so = Rests
    exec_turn_so call task Is_gone came so = Sends _ (Gone_replies to from call task came so)

    reply_turn_so : (call : ℕ) (weight : Option ℕ) (count : ℕ) (a : Answer) (stand : BranchStatus) → Came input from to (kinds.Reply call weight count a) → StandsSo k to stand
        → Step p input k (reply_turn k from call weight count a stand)
    reply_turn_so call weight count a (Is_live x) came so = reply_so k from x so.1 call weight count a (reply_of x from call) (here so.0 came) refl
    reply_turn_so call weight count a _ came so = Rests

    prepare_turn_so : (site_below : Bool) (comment : List ℕ) (stand : BranchStatus) → Came input from to (kinds.Prepare site_below comment) → StandsSo k to stand → Step p input k (prepare_turn k from to site_below comment stand)
    prepare_turn_so site_below comment (Is_live x) came so = prepare_so k from x.live (live_so k x.live.me x so.1) site_below comment x.live.phase (here so.0 came) refl
    prepare_turn_so site_below comment (Is_kept s) came so = prepare_kept_so k from s so.1 site_below comment (here so.0 came)
    prepare_turn_so site_below comment Is_gone came so = Sends _ (Gone_aborts to from site_below comment came so)

    answer_turn_so : (v : Vote) (kind : Kind) (stand : BranchStatus) → vote_kind v ≡ Some kind → Came input from to kind → StandsSo k to stand → Step p input k (answer_turn k from v stand)
    answer_turn_so v kind (Is_live x) is_vote came so = answer_so k from x.live (live_so k x.live.me x so.1) v kind x.live.phase is_vote (here so.0 came) refl
    answer_turn_so v kind _ is_vote came so = Rests

    commit_point_turn_so : (stand : BranchStatus) → Came input from to kinds.CommitPoint → StandsSo k to stand → Step p input k (commit_point_turn k from to stand)
    commit_point_turn_so (Is_live x) came so = point_so k from x.live (live_so k x.live.me x so.1) x.live.phase (here so.0 came) refl
    commit_point_turn_so (Is_kept s) came so = known_so k from s so.1 s.decision (here so.0 came) refl
    commit_point_turn_so Is_gone came so = Sends _ (Gone_rolls_back to from (inl came) so)

    committed_turn_so : (n : ℕ) (stand : BranchStatus) → Came input from to (kinds.Committed n) → n ≤ k.clock → StandsSo k to stand → Step p input k (committed_turn k from to n stand)
    committed_turn_so n (Is_live x) came met so = Rests
    committed_turn_so n (Is_kept s) came met so = on_decision_so k from s so.1 (decisions.Commit n) (Commit_came n (here so.0 came)) met
    committed_turn_so n Is_gone came met so = Sends _ (Gone_acks to from n came so)

    rollback_turn_so : (stand : BranchStatus) → Came input from to kinds.Rollback → StandsSo k to stand → Step p input k (rollback_turn k from stand)
    rollback_turn_so (Is_live x) came so = Drops_told x.live (live_so k x.live.me x so.1) (By_rollback from (here so.0 came))
    rollback_turn_so (Is_kept s) came so = on_decision_so k from s so.1 decisions.Rollback (Rollback_came (here so.0 came)) tt
    rollback_turn_so Is_gone came so = Rests

    rolled_back_turn_so : (stand : BranchStatus) → Came input from to kinds.RolledBack → StandsSo k to stand → Step p input k (rolled_back_turn k from stand)
    rolled_back_turn_so (Is_live x) came so = rolled_back_so k from x.live (live_so k x.live.me x so.1) (here so.0 came)
    rolled_back_turn_so (Is_kept s) came so = on_decision_so k from s so.1 decisions.Rollback (Rolled_back_came (here so.0 came)) tt
    rolled_back_turn_so Is_gone came so = Rests

    ack_turn_so : (stand : BranchStatus) → Came input from to kinds.Ack → StandsSo k to stand → Step p input k (ack_turn k from to stand)
    ack_turn_so (Is_live x) came so = Rests
    ack_turn_so (Is_kept s) came so = on_ack_so k from s so.1 (here so.0 came)
    ack_turn_so Is_gone came so = Sends _ (Gone_forgets to from came so)

    forgotten_turn_so : (stand : BranchStatus) → Came input from to kinds.Forgotten → StandsSo k to stand → Step p input k (forgotten_turn k from stand)
    forgotten_turn_so (Is_kept s) came so = on_forgotten_so k from s so.1 (here so.0 came)
    forgotten_turn_so _ came so = Rests

    ask_turn_so : (stand : BranchStatus) → Came input from to kinds.Ask → StandsSo k to stand → Step p input k (ask_turn k from to stand)
    ask_turn_so (Is_live x) came so = ask_so k from x.live (live_so k x.live.me x so.1) (here so.0 came)
    ask_turn_so (Is_kept s) came so = Sends _ (Tells s from (here so.0 came) so.1)
    ask_turn_so Is_gone came so = Sends _ (Gone_rolls_back to from (inr came) so)

    kind_turn_so : (kind : Kind) (stand : BranchStatus) → Came input from to kind → kind_scn kind ≤ k.clock → StandsSo k to stand → Step p input k (kind_turn p k from to kind stand)
    kind_turn_so (kinds.Open edge root depth read_at) stand came met so = open_so k from to edge root depth read_at (find (is_opening from edge) k.opens) came refl
    kind_turn_so (kinds.Opened edge strength) stand came met so = opened_turn_so edge strength stand came so
    kind_turn_so (kinds.Exec call task) stand came met so = exec_turn_so call task stand came so
    kind_turn_so (kinds.Reply call weight count result) stand came met so = reply_turn_so call weight count result stand came so
    kind_turn_so (kinds.Prepare site_below comment) stand came met so = prepare_turn_so site_below comment stand came so
    kind_turn_so kinds.Prepared stand came met so = answer_turn_so votes.Prepared kinds.Prepared stand refl came so
    kind_turn_so kinds.ReadOnly stand came met so = answer_turn_so votes.ReadOnly kinds.ReadOnly stand refl came so
    kind_turn_so kinds.Ready stand came met so = answer_turn_so votes.Ready kinds.Ready stand refl came so
    kind_turn_so kinds.Abort stand came met so = answer_turn_so votes.Abort kinds.Abort stand refl came so
    kind_turn_so kinds.CommitPoint stand came met so = commit_point_turn_so stand came so
    kind_turn_so (kinds.Committed n) stand came met so = committed_turn_so n stand came met so
    kind_turn_so kinds.RolledBack stand came met so = rolled_back_turn_so stand came so
    kind_turn_so kinds.InDoubt stand came met so = Rests
    kind_turn_so kinds.Ack stand came met so = ack_turn_so stand came so
    kind_turn_so kinds.Forgotten stand came met so = forgotten_turn_so stand came so
    kind_turn_so kinds.Rollback stand came met so = rollback_turn_so stand came so
    kind_turn_so kinds.Ask stand came met so = ask_turn_so stand came so

  -- ---- client calls

  module _ (n : ℕ) (s : Stmt) (call : IsCall input n s) where
    root_statement_so : (k : NodeState) (code : Option ℕ) (o : Option Branch) → IsOfRows s → (session_at k.sessions n).code ≡ code → RootSo k n o → Step p input k (statement_by p k n s code o)
    root_statement_so k code None rows is so = Rests
    root_statement_so k (Some c) (Some x) rows is so = Refuses n (Some s) _ call
    root_statement_so k None (Some x) rows is so =
        cond_both (is_some x.live.read_at && is_write s) _ _ (Step p input k) (λ write. Refuses n (Some s) _ call) (λ may. statement_so k x s 0 (By_call n x s call rows so.0 is so.1 may))

    call_so : (k : NodeState) → IsOfRows s → Step p input k (statement_call p k n s)
    call_so k rows = root_statement_so k (session_at k.sessions n).code (root_at k n) rows refl (root_so k n)

    -- a transaction that is there goes on, or one begins; its call is counted
    begun_so : (k : NodeState) (turn : NodeState → TurnDraft) (root : Option BranchId) → BeginsBy k.clock s None → IsCounted s → IsSession n → (session_at k.sessions n).root ≡ root
        → ((j : NodeState) → Step p input j (turn j)) → Step p input k (turn (counted (begun_by p k n None root) n))
    begun_so k turn (Some b) begins counts fit is turns = Counts_call n s call counts (turns (counted k n))
    begun_so k turn None begins counts fit is turns = Begins n s None call begins fit is (Counts_call n s call counts (turns (counted (begun_by p k n None None) n)))

  -- a statement that has a table, which begins a transaction and is counted
  rows_so : (n : ℕ) (s : Stmt) → IsCall input n s → (k : NodeState) → IsOfRows s → IsSession n → IsCounted s → Step p input k (statement_call p (begun p k n) n s)
  rows_so n s call k rows fit counts = begun_so n s call k (λ j. statement_call p j n s) (session_at k.sessions n).root (By_rows s rows) counts fit refl (λ j. call_so n s call j rows)

  commit_at_so : (k : NodeState) (n : ℕ) (given : Option (List ℕ)) (x : Branch) (read_at : Option ℕ) → IsCall input n (stmts.Commit given) → (session_at k.sessions n).code ≡ None → RootSo k n (Some x) → x.live.read_at ≡ read_at
      → Step p input k (commit_at k n (unwrap_or given []) x read_at)
  commit_at_so k n given x (Some scn) call is so reads = Leaves n (stmts.Commit given) dones.Committed x call (By_reading given scn is reads) so.0 so.1
  commit_at_so k n given x None call is so reads =
      let after : session_at (with_call k.sessions n pending.Commit) n ≡ record (session_at k.sessions n) { call = pending.Commit } = call_set k.sessions n x.live.me pending.Commit so.0 in
      Pends n x.live given call so.0 (live_so k x.live.me x so.1) is reads (collects_so (record k { sessions = with_call k.sessions n pending.Commit }) x.live (unwrap_or given []) true (live_so k x.live.me x so.1)
      (By_commit n given call (ap (λ t. t.root) after ∙ so.0) (ap (λ t. t.code) after ∙ is) reads refl))

  commit_so : (k : NodeState) (n : ℕ) (given : Option (List ℕ)) (code : Option ℕ) (o : Option Branch) → IsCall input n (stmts.Commit given) → (session_at k.sessions n).code ≡ code → root_at k n ≡ o → RootSo k n o
      → Step p input k (commit_by k n (unwrap_or given []) code o)
  commit_so k n given code None call is none so = Completes_at_once n (stmts.Commit given) dones.Committed call (Commits_nothing given) none
  commit_so k n given (Some c) (Some x) call is root so = Refuses n (Some (stmts.Commit given)) _ call
  commit_so k n given None (Some x) call is root so = commit_at_so k n given x x.live.read_at call is so refl

  rollback_so : (k : NodeState) (n : ℕ) (o : Option Branch) → IsCall input n stmts.Rollback → root_at k n ≡ o → RootSo k n o → Step p input k (rollback_by k n o)
  rollback_so k n None call none so = Completes_at_once n stmts.Rollback dones.RolledBack call Rolls_nothing_back none
  rollback_so k n (Some x) call root so = Leaves n stmts.Rollback dones.RolledBack x call By_rollback_call so.0 so.1

  read_only_so : (k : NodeState) (n : ℕ) (root : Option BranchId) → IsCall input n stmts.SetReadOnly → IsSession n → (session_at k.sessions n).root ≡ root → Step p input k (read_only_by p k n root)
  read_only_so k n (Some b) call fit is = Refuses n (Some stmts.SetReadOnly) _ call
  read_only_so k n None call fit is = Begins n stmts.SetReadOnly (Some k.clock) call By_read_only fit is (Sets_read_only n call)

  savepoint_so : (k : NodeState) (n : ℕ) (name : List ℕ) (code : Option ℕ) (o : Option Branch) → IsCall input n (stmts.Savepoint name) → (session_at k.sessions n).code ≡ code → RootSo k n o
      → Step p input k (savepoint_by k n name code o)
  savepoint_so k n name code None call is so = Rests
  savepoint_so k n name (Some c) (Some x) call is so = Refuses n (Some (stmts.Savepoint name)) _ call
  savepoint_so k n name None (Some x) call is so = Sets_savepoint n x name call so.0 is so.1

  to_savepoint_so : (k : NodeState) (n : ℕ) (name : List ℕ) (x : Branch) (step : Option ℕ) → IsCall input n (stmts.RollbackTo name) → (session_at k.sessions n).code ≡ None → RootSo k n (Some x)
      → savepoint_at x.work.marks name ≡ step → Step p input k (back_to_savepoint k n name x step)
  to_savepoint_so k n name x None call is so at = Refuses n (Some (stmts.RollbackTo name)) _ call
  to_savepoint_so k n name x (Some step) call is so at = goes_back_so k x step (By_rollback_to n x name step call so.0 is so.1 at)

  back_so : (k : NodeState) (n : ℕ) (name : List ℕ) (code : Option ℕ) (o : Option Branch) → IsCall input n (stmts.RollbackTo name) → (session_at k.sessions n).code ≡ code → RootSo k n o
      → Step p input k (back_by k n name code o)
  back_so k n name code None call is so = Refuses n (Some (stmts.RollbackTo name)) _ call
  back_so k n name (Some c) (Some x) call is so = Refuses n (Some (stmts.RollbackTo name)) _ call
  back_so k n name None (Some x) call is so = to_savepoint_so k n name x (savepoint_at x.work.marks name) call is so refl

  force_commit_so : (k : NodeState) (n : ℕ) (id : List ℕ) (scn : Option ℕ) (o : Result BranchId Refusal) → IsCall input n (stmts.CommitForce id scn) → branch_to_force p.names k.stored.durable.kept id ≡ o
      → Step p input k (force_commit k n scn o)
  force_commit_so k n id scn (Err r) call is = Refuses n (Some (stmts.CommitForce id scn)) r call
  force_commit_so k n id (Some m) (Ok b) call is = Forces_given n id m b call is
  force_commit_so k n id None (Ok b) call is = Forces_commit n id b call is

  force_rollback_so : (k : NodeState) (n : ℕ) (id : List ℕ) (o : Result BranchId Refusal) → IsCall input n (stmts.RollbackForce id) → branch_to_force p.names k.stored.durable.kept id ≡ o → Step p input k (force_rollback k n o)
  force_rollback_so k n id (Err r) call is = Refuses n (Some (stmts.RollbackForce id)) r call
  force_rollback_so k n id (Ok b) call is = Forces_rollback n id b call is

  hides_so : (k : NodeState) (n : ℕ) (mixed : Bool) (id : List ℕ) (o : Option KeptRow) → IsCall input n (purge_of mixed id) → find (may_purge mixed id) k.stored.durable.kept ≡ o → Step p input k (hides k n id o)
  hides_so k n mixed id None call is = Refuses n (Some (purge_of mixed id)) _ call
  hides_so k n mixed id (Some s) call is = Hides n mixed id s call is

  purge_so : (k : NodeState) (n : ℕ) (mixed : Bool) (id : List ℕ) → IsCall input n (purge_of mixed id) → Step p input k (purge k n mixed id)
  unfolding purge
  purge_so k n mixed id call = hides_so k n mixed id (find (may_purge mixed id) k.stored.durable.kept) call refl

  -- a record where its name is free
  makes_so : (k : NodeState) (n : ℕ) (s : Stmt) (r : RedoRecord) (d : Done) (e : Refusal) (used : Bool) → IsCall input n s → (used ≡ false → Makes k s r d) → Step p input k (if used then refuses k n e else writes k n r d)
  makes_so k n s r d e used call makes = cond_both used _ _ (Step p input k) (λ is. Refuses n (Some s) e call) (λ free. Makes_record n s r d call (makes free))

  call_turn_so : (k : NodeState) (n : ℕ) (s : Stmt) → IsCall input n s → IsSession n → Step p input k (call_turn p k n s)
  call_turn_so k n (stmts.CreateTable t) call fit = makes_so k n (stmts.CreateTable t) _ _ _ (is_used k.stored.durable t.name) call (Makes_table t)
  call_turn_so k n (stmts.CreateLink l) call fit = makes_so k n (stmts.CreateLink l) _ _ _ (is_link k.stored.durable l.name) call (Makes_link l)
  call_turn_so k n (stmts.CreateSynonym y) call fit = makes_so k n (stmts.CreateSynonym y) _ _ _ (is_used k.stored.durable y.name) call (Makes_synonym y)
  call_turn_so k n (stmts.Insert table columns given) call fit = rows_so n (stmts.Insert table columns given) call k tt fit tt
  call_turn_so k n (stmts.Update table sets cs) call fit = rows_so n (stmts.Update table sets cs) call k tt fit tt
  call_turn_so k n (stmts.Delete table cs) call fit = rows_so n (stmts.Delete table cs) call k tt fit tt
  call_turn_so k n (stmts.Select list table cs for_update) call fit = rows_so n (stmts.Select list table cs for_update) call k tt fit tt
  call_turn_so k n (stmts.Commit given) call fit = commit_so k n given (session_at k.sessions n).code (root_at k n) call refl refl (root_so k n)
  call_turn_so k n (stmts.CommitForce id scn) call fit = force_commit_so k n id scn (branch_to_force p.names k.stored.durable.kept id) call refl
  call_turn_so k n stmts.Rollback call fit = rollback_so k n (root_at k n) call refl (root_so k n)
  call_turn_so k n (stmts.RollbackForce id) call fit = force_rollback_so k n id (branch_to_force p.names k.stored.durable.kept id) call refl
  call_turn_so k n (stmts.Advise a) call fit = Advises n a call
  call_turn_so k n (stmts.Recovery on) call fit = Makes_record n (stmts.Recovery on) _ _ call (Sets_recovery on)
  call_turn_so k n (stmts.SetStrength strength) call fit = Makes_record n (stmts.SetStrength strength) _ _ call (Sets_strength strength)
  call_turn_so k n stmts.SetReadOnly call fit = read_only_so k n (session_at k.sessions n).root call fit refl
  call_turn_so k n (stmts.Savepoint name) call fit =
      begun_so n (stmts.Savepoint name) call k (λ j. savepoint_call j n name) (session_at k.sessions n).root (By_savepoint name) tt fit refl (λ j. savepoint_so j n name (session_at j.sessions n).code (root_at j n) call refl (root_so j n))
  call_turn_so k n (stmts.RollbackTo name) call fit =
      Counts_call n (stmts.RollbackTo name) call tt (back_so (counted k n) n name (session_at (counted k n).sessions n).code (root_at (counted k n) n) call refl (root_so (counted k n) n))
  call_turn_so k n (stmts.PurgeMixed id) call fit = purge_so k n true id call
  call_turn_so k n (stmts.PurgeLost id) call fit = purge_so k n false id call

  read_turn_so : (k : NodeState) (n : ℕ) (s : Option Stmt) → input ≡ inputs.Call n s → IsSession n → Step p input k (read_turn p k n s)
  read_turn_so k n None call fit = Refuses n None _ call
  read_turn_so k n (Some s) call fit = call_turn_so k n s call fit

  -- ---- calls that are given up

  statement_given_up_so : (k : NodeState) (n : ℕ) (o : Option Branch) → input ≡ inputs.GiveUp n → (session_at k.sessions n).call ≡ pending.Statement → RootSo k n o → Step p input k (statement_given_up k n o)
  statement_given_up_so k n None gives is so = Rests
  statement_given_up_so k n (Some x) gives is so = Gives_up n x gives so.0 is so.1

  give_up_so : (k : NodeState) (n : ℕ) (root : Option BranchId) (c : PendingCall) → input ≡ inputs.GiveUp n → (session_at k.sessions n).root ≡ root → (session_at k.sessions n).call ≡ c → Step p input k (give_up_by k n root c)
  give_up_so k n None c gives has is = Rests
  give_up_so k n (Some b) pending.NoCall gives has is = Rests
  give_up_so k n (Some b) pending.Statement gives has is = statement_given_up_so k n (branch_at k b) gives is (branch_so k n b (branch_at k b) has refl)
  give_up_so k n (Some b) pending.Commit gives has is = Gives_up_commit n b (live_at k b) gives has is refl

  recovery_so : (k : NodeState) → input ≡ inputs.Reco → Step p input k (recovery k)
  unfolding recovery
  recovery_so k reco = Sends _ (Recovers reco)

  checkpoint_so : (k : NodeState) → input ≡ inputs.Checkpoint → Step p input k (checkpoint k)
  unfolding checkpoint
  checkpoint_so k is = cond_both (nat_lt image_limit (image_bytes (image_at k.stored k.clock))) _ _ (Step p input k) (λ large. Rests) (λ fits. Images is)

-- each turn is one of the steps
pub step_of : (p : Place) (k : NodeState) (input : Input) → IsFit input → Step p input (heard k input) (draft_of p k input)
step_of p k (inputs.Call n s) fit = read_turn_so p (inputs.Call n s) k n s refl fit
step_of p k (inputs.GiveUp n) fit = give_up_so p (inputs.GiveUp n) k n (session_at k.sessions n).root (session_at k.sessions n).call refl refl refl
step_of p k (inputs.Message m) fit =
    kind_turn_so p (inputs.Message m) (clock_raised_by k m) m.from m.to m.kind (status_of (clock_raised_by k m) m.to) (record { scn = m.scn; is = refl }) (omega arith) (stands_so (clock_raised_by k m) m.to)
step_of p k inputs.Reco fit = recovery_so p inputs.Reco k refl
step_of p k inputs.Checkpoint fit = checkpoint_so p inputs.Checkpoint k refl
