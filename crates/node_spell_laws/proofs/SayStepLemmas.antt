-- Each step of a turn keeps what can be sent, and says such, and so does each turn.
use Rattle.std.proofs.Common.{◌≡◌, ℕ, ◌+◌, ◌&&◌, Bool, true, false, if◌then◌else◌, List, [], ◌∷◌, ◌++◌, length, map, flat_map, fold, Option, Some, None, refl, sym, ap, subst}
use Rattle.std.specs.Prelude.{is_none, IfSome}
use Rattle.std.specs.List.{AllByRecursion}
use Rattle.std.proofs.lemmas.Bool.{cond_both}
use Rattle.field_codec.specs.Text.{comment_format}
use Rattle.redo_record.specs.Durable.{durable_after}
use Rattle.prepare_phase.specs.Records.{path_of, site_neighbors}
use Rattle.commit_forget.specs.Beyond.{beyond}
use Rattle.reco.specs.declared.asking.Asking.{Asking}
use Rattle.reco.specs.Asks.{asking_id, asks_live, acks_again, missing, recovers, asks_kept, put_asking, stamped}
use Rattle.reco.specs.declared.told.Told.{Told}
use Rattle.reco.specs.declared.told.Told.TheVariants as tolds
use Rattle.reco.specs.Told.{told_kind, kept_told}
use Rattle.node_rules.specs.Data.{Stmt, Answer, BranchId, Decision, RedoRecord, Done, KeptRow, Edge, Kind, Live, Act, Beyond, Place, Input, Post}
use Rattle.node_rules.specs.declared.work.Errand.{Errand}
use Rattle.node_rules.specs.Data.answers
use Rattle.node_rules.specs.Data.decisions
use Rattle.node_rules.specs.Data.kinds
use Rattle.node_rules.specs.Data.inputs
use Rattle.node_rules.specs.Data.stmts
use Rattle.node_rules.specs.Data.acts
use Rattle.node_rules.specs.Data.phases
use Rattle.node_rules.specs.declared.session.Session.{Session}
use Rattle.commit_forget.specs.declared.next.Next.TheVariants as nexts
use Rattle.session_tree.specs.Live.{new_edge, children_of, peer_of}
use Rattle.session_tree.specs.Tree.{step}
use Rattle.node_rules.specs.Words.{one}
use Rattle.node_rules.specs.Refusals.{dtx}
use Rattle.node_rules.specs.Names.{way_of, passed_on}
use Rattle.node_rules.specs.NodeState.{NodeState, TurnDraft, Branch, live_at, branch_at, with_branch, with_live, without_branch, to_each, to_one}
use Rattle.node_rules.specs.LiveBranches.{works_of, EachLive}
use Rattle.node_rules.specs.Records.{applied}
use Rattle.node_rules.specs.Statement.{ran, answer_of_run}
use Rattle.node_rules.specs.Calls.{kept_reply, with_answer, answer_says, called, with_edge, exec_to, hears_reply, heard_answer, is_gone, waits_for_opened, less_room, branch_ran}
use Rattle.node_rules.specs.Prepare.{prepares, to_children, ready}
use Rattle.node_rules.specs.Commit.{passes_commit, rollback_to, passes}
use Rattle.node_rules.specs.Recovery.{askings}
use Rattle.node_rules.specs.Client.{begun_by, gives_up, marked}
use Rattle.node_rules.specs.Turn.{heard, turn_of}
use Rattle.node_rules.proofs.Steps as steps
use Rattle.node_rules.proofs.Steps.{Step, Says, Asked, Acting, Collects, Makes, Goes_to, Calls_back}
use Rattle.node_rules.proofs.LiveLemmas.{each_put, each_changed, each_left, each_begun, branch_parts, work_is}
use Rattle.node_rules.proofs.TurnLemmas.{step_of}
use Rattle.node_rules.specs.Data.dones
use Rattle.node_rules.specs.declared.work.Errand.TheVariants as errands
use Rattle.node_rules.specs.Marks.{node_back}
use Rattle.node_ready_laws.specs.Rows.{HasRows}
use Rattle.node_ready_laws.proofs.ListLemmas.{all_append, all_last, all_placed}
use Rattle.node_ready_laws.proofs.RowStepLemmas.{way_there, back}
use Rattle.node_spell_laws.specs.Bytes.{IsTableName, AnswerHasBytes, StatementHasBytes, HasBytes, BringsBytes, AsksChild, HasAsker, LiveHasBytes, KeepsBytes, TurnsKeepBytes, ErrandHasBytes}
use Rattle.node_spell_laws.proofs.AnswerLemmas.{answers_have_bytes}
use Rattle.node_spell_laws.proofs.NamedLemmas.{printable_named}
use Rattle.node_spell_laws.proofs.SayLemmas.{no_comment, comment_or, passed_again, ref_named, came_so, call_so, rows_so, HaveBytes}
use Rattle.node_spell_laws.proofs.WayLemmas.{IsNamedWay, way_is_named}

-- ---- lists of messages

to_each_so : (me : BranchId) (kind : Kind) → HasBytes kind → (tos : List BranchId) → HaveBytes (to_each me kind tos)
to_each_so me kind is [] = tt
to_each_so me kind is (b ∷ bs) = (is, to_each_so me kind is bs)

to_one_so : (me : BranchId) (kind : Kind) → HasBytes kind → (o : Option BranchId) → HaveBytes (to_one me kind o)
to_one_so me kind is None = tt
to_one_so me kind is (Some b) = (is, tt)

both : (xs ys : List Post) → HaveBytes xs → HaveBytes ys → HaveBytes (xs ++ ys)
both xs ys first second = all_append (λ x. HasBytes x.kind) xs ys first second

prepares_so : (me : BranchId) (comment : List ℕ) → comment_format.Fits comment → (path : Option ℕ) (i : ℕ) (es : List Edge) → HaveBytes (prepares me comment path i es)
prepares_so me comment is path i [] = tt
prepares_so me comment is path i (e ∷ es) = (is, prepares_so me comment is path (i + 1) es)

-- ---- decisions and recovery

commit_so : (s : KeptRow) (n : ℕ) (bs : List Beyond) → HaveBytes (passes_commit s n bs)
commit_so s n [] = to_one_so s.me kinds.Ack tt s.toward
commit_so s n (b ∷ bs) = to_each_so s.me (kinds.Committed n) tt (map (λ c. c.branch) (b ∷ bs))

rollbacks_so : (me : BranchId) (bs : List Beyond) → HaveBytes (map (rollback_to me) bs)
rollbacks_so me [] = tt
rollbacks_so me (b ∷ bs) = (cond_both b.is_parent kinds.RolledBack kinds.Rollback HasBytes (λ parent. tt) (λ child. tt), rollbacks_so me bs)

passes_so : (s : KeptRow) (d : Decision) → HaveBytes (passes s d)
passes_so s (decisions.Commit n) = commit_so s n (beyond s)
passes_so s decisions.Rollback = rollbacks_so s.me (beyond s)

told_so : (t : Told) → HasBytes (told_kind t)
told_so (tolds.Committed n) = tt
told_so tolds.RolledBack = tt
told_so tolds.RollBackFirst = tt
told_so tolds.InDoubt = tt

recovers_so : (s : KeptRow) (d : Option Decision) → HaveBytes (recovers s d)
recovers_so s None = to_one_so s.me kinds.Ask tt s.toward
recovers_so s (Some (decisions.Commit n)) =
    both (missing s.me n (beyond s)) (acks_again s) (to_each_so s.me (kinds.Committed n) tt _) (cond_both _ (to_one s.me kinds.Ack s.toward) [] HaveBytes (λ all. to_one_so s.me kinds.Ack tt s.toward) (λ some. tt))
recovers_so s (Some decisions.Rollback) = tt

abbrev AllHaveBytes : List Asking → Type 0
AllHaveBytes xs = AllByRecursion (λ a. HaveBytes a.says) xs

lives_ask : (ls : List Live) → AllHaveBytes (map asks_live ls)
lives_ask [] = tt
lives_ask (l ∷ ls) = (to_one_so l.me kinds.Ask tt l.parent, lives_ask ls)

kept_ask : (ss : List KeptRow) → AllHaveBytes (map asks_kept ss)
kept_ask [] = tt
kept_ask (s ∷ ss) = (recovers_so s s.decision, kept_ask ss)

put_all : (xs ys : List Asking) → AllHaveBytes xs → AllHaveBytes ys → AllHaveBytes (fold put_asking xs ys)
put_all xs [] first second = first
put_all xs (y ∷ ys) first second = put_all (put_asking xs y) ys (all_placed (λ a. HaveBytes a.says) asking_id xs y first second.0) second.1

all_said : (xs : List Asking) → AllHaveBytes xs → HaveBytes (flat_map (λ a. a.says) xs)
all_said [] all = tt
all_said (x ∷ xs) all = both x.says (flat_map (λ a. a.says) xs) all.0 (all_said xs all.1)

recovery_so : (k : NodeState) → HaveBytes (flat_map (λ a. a.says) (askings k))
recovery_so k =
    all_said (askings k) (put_all [] (map asks_live k.lives ++ map asks_kept k.stored.durable.kept) tt
    (all_append (λ a. HaveBytes a.says) (map asks_live k.lives) (map asks_kept k.stored.durable.kept) (lives_ask k.lives) (kept_ask k.stored.durable.kept)))

-- ---- answers

-- below the root
abbrev IfBelow : Option BranchId → Answer → Type 0
IfBelow o a = IfSome o (λ b. AnswerHasBytes a)

below : (o : Option BranchId) (a : Answer) → AnswerHasBytes a → IfBelow o a
below None a fits = tt
below (Some b) a fits = fits

answer_so : (x : Branch) (a : Answer) (o : Option BranchId) → IfBelow o a → HaveBytes (answer_says x a o)
answer_so x a None fits = tt
answer_so x a (Some parent) fits = (fits, tt)

reply_so : (x : Branch) (a : Answer) (o : Option BranchId) → IfSome x.work.came.reply (λ t. AnswerHasBytes t.result) → IfBelow o a → IfSome (kept_reply x a o) (λ t. AnswerHasBytes t.result)
reply_so x a None reply fits = reply
reply_so x a (Some parent) reply fits = fits

heard_so : (l : Live) (link : List ℕ) (a : Answer) (o : Option BranchId) → l.parent ≡ o → AnswerHasBytes a → IfBelow o (heard_answer l link a)
heard_so l link a None is fits = tt
heard_so l link a (Some parent) is fits =
    let same_answer : heard_answer l link a ≡ a = ap (λ (p : Option BranchId). if is_none p && is_gone a then answers.Refused (dtx 8 (one link)) else a) is in
    subst AnswerHasBytes (sym same_answer) fits

exec_so : (ss : List Session) (x : Branch) (i : ℕ) (e : Errand) (o : Option BranchId) → ErrandHasBytes e → HaveBytes (exec_to ss x i e o)
exec_so ss x i e None is = tt
exec_so ss x i (errands.Statement s given) (Some peer) is = (is, tt)
exec_so ss x i (errands.GoBack step) (Some peer) is = (tt, tt)

-- with room for one branch less
less_so : (e : Errand) → ErrandHasBytes e → ErrandHasBytes (less_room e)
less_so (errands.Statement s given) is = is
less_so (errands.GoBack step) is = tt

-- ---- messages of a turn that changes nothing

says_so : (k : NodeState) (input : Input) (says : List Post) → BringsBytes input → KeepsBytes k → Says k input says → HaveBytes says
says_so k input says brings now (steps.Gone_replies to from call task came gone) = (tt, tt)
says_so k input says brings now (steps.Gone_aborts to from site_below comment came gone) = (tt, tt)
says_so k input says brings now (steps.Gone_rolls_back to from came gone) = (tt, tt)
says_so k input says brings now (steps.Gone_acks to from n came gone) = (tt, tt)
says_so k input says brings now (steps.Gone_forgets to from came gone) = (tt, tt)
says_so k input says brings now (steps.Replies_again x to call task t came live last answered) =
    let parts = branch_parts k x.live.me x live in
    let is : LiveHasBytes x.live x.work = subst (LiveHasBytes x.live) (sym parts.1) (now.lives.each x.live.me x.live parts.0) in
    (subst (λ o. IfSome o (λ u. AnswerHasBytes u.result)) answered is.reply, tt)
says_so k input says brings now (steps.Opened_again to parent edge root depth read_at o came found) = (tt, tt)
says_so k input says brings now (steps.Prepared_again s from site_below comment came kept asked) = (tt, tt)
says_so k input says brings now (steps.Knows_commit s from n came kept is) = (tt, tt)
says_so k input says brings now (steps.Knows_rollback s from came kept is) = (tt, tt)
says_so k input says brings now (steps.Is_in_doubt l from came live other) = (tt, tt)
says_so k input says brings now (steps.Tells s from came kept) = (told_so (kept_told s from), tt)
says_so k input says brings now (steps.Recovers reco) = recovery_so k

-- ---- live branches

-- What is known before a statement goes on.
record Before (x : Branch) : Type 0 where
  comment : comment_format.Fits x.live.comment
  reply : IfSome x.work.came.reply (λ t. AnswerHasBytes t.result)
  asker : HasAsker x.live.parent x.live.phase
  mine : x.work.branch ≡ x.live.me

module _ (k : NodeState) (now : KeepsBytes k) where
  said_at : (x : Branch) → branch_at k x.live.me ≡ Some x → LiveHasBytes x.live x.work
  said_at x found = let parts = branch_parts k x.live.me x found in subst (LiveHasBytes x.live) (sym parts.1) (now.lives.each x.live.me x.live parts.0)

  before : (x : Branch) → branch_at k x.live.me ≡ Some x → Before x
  before x found = let is = said_at x found in record { comment = is.comment; reply = is.reply; asker = is.asker; mine = work_is k x.live.me x found }

  asked_so : {input : Input} {x : Branch} {s : Stmt} {given : ℕ} → BringsBytes input → Asked k input x s given → Before x × StatementHasBytes s
  asked_so brings (steps.By_call n x s call rows has code live may) = (before x live, rows_so brings call rows)
  asked_so brings (steps.By_exec x from call given advice s came live runs) = let is = before x live in (record { comment = is.comment; reply = tt; asker = is.asker; mine = is.mine }, came_so brings came)

  changed : (x : Branch) → x.work.branch ≡ x.live.me → LiveHasBytes x.live x.work → EachLive LiveHasBytes (with_branch k x).lives (with_branch k x).works
  changed x mine is = each_put LiveHasBytes LiveHasBytes k.lives k.works now.lives x.live x.work mine is (λ y v live other so. so)

  answered : (x : Branch) (a : Answer) → Before x → IfBelow x.live.parent a → EachLive LiveHasBytes (with_branch k (with_answer x a)).lives (with_branch k (with_answer x a)).works
  answered x a is fits = changed (with_answer x a) is.mine (record { comment = is.comment; going = tt; reply = reply_so x a x.live.parent is.reply fits; asker = is.asker })

  calls : (x : Branch) (i : ℕ) (e : Errand) → Before x → ErrandHasBytes e → EachLive LiveHasBytes (with_branch k (called k.sessions x i e)).lives (with_branch k (called k.sessions x i e)).works
  calls x i e is so = changed (called k.sessions x i e) is.mine (record { comment = is.comment; going = so; reply = is.reply; asker = is.asker })

  -- a branch that goes back
  gone_so : {input : Input} {x : Branch} {to : ℕ} → Goes_to k input x to → Before x
  gone_so (steps.By_rollback_to n x name to call has code live set) = before x live
  gone_so (steps.By_back x from call keep came live runs) = let is = before x live in record { comment = is.comment; reply = tt; asker = is.asker; mine = is.mine }

  gone : (b : BranchId) → EachLive LiveHasBytes (without_branch k b).lives (without_branch k b).works
  gone b = each_left LiveHasBytes LiveHasBytes k.lives k.works now.lives b (λ y v live other so. so)

  stays : (l : Live) → LiveHasBytes l (works_of k.works l.me) → EachLive LiveHasBytes (with_live k l).lives k.works
  stays l is = each_changed LiveHasBytes LiveHasBytes k.lives k.works now.lives l is (λ y v live other so. so)

  pub begins : (l : Live) → comment_format.Fits l.comment → HasAsker l.parent l.phase → EachLive LiveHasBytes (k.lives ++ l ∷ []) k.works
  begins l fits asked = each_begun LiveHasBytes LiveHasBytes k.lives k.works now.lives l (record { comment = fits; going = tt; reply = tt; asker = asked }) (λ y v live any so. so)

  collects_so : {input : Input} {l : Live} {comment : List ℕ} {site_below : Bool} → BringsBytes input → Collects k input l comment site_below → comment_format.Fits comment
  collects_so brings (steps.By_commit n given call has code writer is) = subst comment_format.Fits (sym is) (comment_or given (call_so brings call))
  collects_so brings (steps.By_prepare from site_below came working) = came_so brings came

  asker_so : {input : Input} {l : Live} {comment : List ℕ} {site_below : Bool} → AsksChild k input → live_at k l.me ≡ Some l → Collects k input l comment site_below → HasAsker l.parent (phases.Collecting site_below)
  asker_so asks live (steps.By_commit n given call has code writer is) = tt
  asker_so {l = l} {comment = comment} asks live (steps.By_prepare from true came working) = tt
  asker_so {l = l} {comment = comment} asks live (steps.By_prepare from false came working) = asks from l.me false comment l came live

  pub acts_so : {input : Input} {l : Live} {site_below : Bool} {a : Act} → BringsBytes input → AsksChild k input → Acting k input l site_below a → LiveHasBytes l (works_of k.works l.me)
  acts_so brings asks (steps.Asks_down l comment site_below e es live begun has) =
      let is = now.lives.each l.me l live in record { comment = collects_so brings begun; going = is.going; reply = is.reply; asker = asker_so asks live begun }
  acts_so brings asks (steps.Has_no_children l comment site_below a live begun none collected) =
      let is = now.lives.each l.me l live in record { comment = collects_so brings begun; going = is.going; reply = is.reply; asker = asker_so asks live begun }
  acts_so brings asks (steps.Hears_abort l from site_below live answers) = let is = now.lives.each l.me l live in record { comment = is.comment; going = is.going; reply = is.reply; asker = is.asker }
  acts_so brings asks (steps.Waits_on l from v site_below live answers other some) = let is = now.lives.each l.me l live in record { comment = is.comment; going = is.going; reply = is.reply; asker = is.asker }
  acts_so brings asks (steps.Hears_last l from v site_below a live answers other all collected) = let is = now.lives.each l.me l live in record { comment = is.comment; going = is.going; reply = is.reply; asker = is.asker }
  acts_so brings asks (steps.At_point l from a live came ready pointed) = now.lives.each l.me l live

  -- a statement that goes on under another name
  way_so : (p : Place) (x : Branch) (s : Stmt) (given : ℕ) → StatementHasBytes s → IsNamedWay (way_of p k.stored.durable x.live given s)
  way_so p x s given is = way_is_named p k.stored.durable x.live given now.synonyms s (ref_named s is)

-- a branch whose children go back
back_so : (k : NodeState) → KeepsBytes k → {input : Input} {x : Branch} {to from : ℕ} → Calls_back k input x to from → Before x
back_so k now (steps.Has_gone j x to goes is) =
    let there : KeepsBytes (node_back j x to) = subst KeepsBytes is now in
    let was = gone_so j (record { lives = there.lives; synonyms = there.synonyms }) goes in
    record { comment = was.comment; reply = was.reply; asker = was.asker; mine = was.mine }
back_so k now (steps.Has_heard x weight count a i e g to answered going errand done) =
    let was = before k now x answered.live in record { comment = was.comment; reply = was.reply; asker = was.asker; mine = was.mine }

-- ---- records

made_so : {k : NodeState} {input : Input} {n : ℕ} {s : Stmt} {r : RedoRecord} {d : Done} → BringsBytes input → steps.Makes k s r d → input ≡ inputs.Call n (Some s) → KeepsBytes k
    → AllByRecursion (λ y. IsTableName y.table) (applied k.stored r).durable.synonyms
unfolding applied durable_after
made_so brings (steps.Makes_table t free) call now = now.synonyms
made_so brings (steps.Makes_link l free) call now = now.synonyms
made_so {k = k} brings (steps.Makes_synonym y free) call now = all_last (λ x. IsTableName x.table) k.stored.durable.synonyms y now.synonyms (printable_named (stmts.CreateSynonym y) (call_so brings call))
made_so brings (steps.Sets_recovery on) call now = now.synonyms
made_so brings (steps.Sets_strength strength) call now = now.synonyms

-- ---- steps

-- the node keeps and says such
abbrev Bytes : TurnDraft → Type 0
Bytes d = KeepsBytes d.after × HaveBytes d.says

-- no call is a Prepare
pub none_asked : (k : NodeState) {input : Input} {n : ℕ} {s : Stmt} → input ≡ inputs.Call n (Some s) → AsksChild k input
none_asked k call from to site_below comment l came live = let is = came.is in absurd (cc (call, is))

says_on : (p : Place) (input : Input) → BringsBytes input → {k : NodeState} {d : TurnDraft} → Step p input k d → AsksChild k input → HasRows k → KeepsBytes k → Bytes d
unfolding applied durable_after
says_on p input brings (steps.Begins {k = k} n s read_at call starts fit none step) of_child whole now =
    says_on p input brings step (none_asked (begun_by p k n read_at None) call) whole (record { lives = begins k now _ no_comment tt; synonyms = now.synonyms })
says_on p input brings (steps.Counts_call n s call counts step) of_child whole now = says_on p input brings step of_child whole (record { lives = now.lives; synonyms = now.synonyms })
says_on p input brings (steps.Goes_back {k = k} x to goes next) of_child whole now = says_on p input brings next of_child (back k whole x to) (record { lives = now.lives; synonyms = now.synonyms })
says_on p input brings (steps.Pends {k = k} n l given call has live code writer step) of_child whole now = says_on p input brings step of_child whole (record { lives = now.lives; synonyms = now.synonyms })
says_on p input brings (steps.Lets_reads_go {k = k} l comment site_below live begun step) of_child whole now = says_on p input brings step of_child whole (record { lives = now.lives; synonyms = now.synonyms })
says_on p input brings (steps.Counts_ack {k = k} s from kept came counts step) of_child whole now = says_on p input brings step of_child whole (record { lives = now.lives; synonyms = now.synonyms })
says_on p input brings steps.Rests of_child whole now = (now, tt)
says_on p input brings (steps.Sends {k = k} says why) of_child whole now = (now, says_so k input says brings now why)
says_on p input brings (steps.Runs {k = k} x s given t asks way) of_child whole now =
    let is = asked_so k now brings asks in
    let y : Branch = branch_ran k.sessions x t (ran p k x.live.me s t) in
    let a : Answer = answer_of_run (ran p k x.live.me s t) in
    let fits = below x.live.parent a (answers_have_bytes p k x.live.me s t whole is.1.0 (way_there p k.stored.durable x.live given t s way)) in
    (record { lives = answered k now y a (record { comment = is.0.comment; reply = is.0.reply; asker = is.0.asker; mine = is.0.mine }) fits; synonyms = now.synonyms }, answer_so y a x.live.parent fits)
says_on p input brings (steps.Goes_nowhere {k = k} x s given r asks way) of_child whole now =
    let is = asked_so k now brings asks in
    let fits = below x.live.parent (answers.Refused r) (subst IsNamedWay way (way_so k now p x s given is.1)) in
    (record { lives = answered k now x (answers.Refused r) is.0 fits; synonyms = now.synonyms }, answer_so x (answers.Refused r) x.live.parent fits)
says_on p input brings (steps.Calls {k = k} x s given i table asks way) of_child whole now =
    let is = asked_so k now brings asks in
    let so = passed_again s table (subst IsNamedWay way (way_so k now p x s given is.1)) is.1 in
    let e : Errand = errands.Statement (passed_on s table) given in
    (record { lives = calls k now x i e is.0 so; synonyms = now.synonyms }, exec_so k.sessions x i e (peer_of x.live i) so)
says_on p input brings (steps.Opens {k = k} x s given node link table asks way) of_child whole now =
    let is = asked_so k now brings asks in
    let so = passed_again s table (subst IsNamedWay way (way_so k now p x s given is.1)) is.1 in
    (record { lives = changed k now (waits_for_opened x link (passed_on s table) given) is.0.mine (record { comment = is.0.comment; going = so; reply = is.0.reply; asker = is.0.asker }); synonyms = now.synonyms }, (tt, tt))
says_on p input brings (steps.Goes_on {k = k} x from strength g link opened) of_child whole now =
    let is = said_at k now x opened.live in
    let so : ErrandHasBytes (less_room g.errand) = less_so g.errand (subst (λ o. IfSome o (λ h. ErrandHasBytes h.errand)) opened.going is.going) in
    let y : Branch = with_edge x (new_edge from link strength) in (
      record { lives = calls k now y (length x.live.edges + 1) (less_room g.errand) (record { comment = is.comment; reply = is.reply; asker = is.asker; mine = work_is k x.live.me x opened.live }) so; synonyms = now.synonyms },
      exec_so k.sessions y (length x.live.edges + 1) (less_room g.errand) (peer_of y.live (length x.live.edges + 1)) so,
    )
says_on p input brings (steps.Hears_reply {k = k} x weight count a i e answers) of_child whole now =
    let is = before k now x answers.live in
    let y : Branch = hears_reply x i weight count e in
    let fits = heard_so y.live e.link a x.live.parent refl (came_so brings answers.came) in
    (record { lives = answered k now y (heard_answer y.live e.link a) (record { comment = is.comment; reply = is.reply; asker = is.asker; mine = is.mine }) fits; synonyms = now.synonyms }, answer_so y (heard_answer y.live e.link a) x.live.parent fits)
says_on p input brings (steps.Backs {k = k} x to from i calling next) of_child whole now =
    (record { lives = calls k now x i (errands.GoBack to) (back_so k now calling) tt; synonyms = now.synonyms }, exec_so k.sessions x i (errands.GoBack to) (peer_of x.live i) tt)
says_on p input brings (steps.Is_back {k = k} x to from calling none) of_child whole now =
    let a : Answer = answers.Did dones.RolledBack 0 in
    let fits = below x.live.parent a refl in
    (record { lives = answered k now x a (back_so k now calling) fits; synonyms = now.synonyms }, answer_so x a x.live.parent fits)
says_on p input brings (steps.Opens_branch {k = k} to parent edge root depth read_at came new) of_child whole now = (record { lives = begins k now _ no_comment tt; synonyms = now.synonyms }, (tt, tt))
says_on p input brings (steps.Acts {k = k} l site_below acts.Rest why) of_child whole now = (record { lives = stays k now l (acts_so k now brings of_child why); synonyms = now.synonyms }, tt)
says_on p input brings (steps.Acts {k = k} l site_below acts.AskDown why) of_child whole now =
    let is = acts_so k now brings of_child why in
    (record { lives = stays k now l is; synonyms = now.synonyms }, prepares_so l.me l.comment is.comment (path_of site_below (step l)) 1 l.edges)
says_on p input brings (steps.Acts {k = k} l site_below acts.SayReady why) of_child whole now =
    let is = acts_so k now brings of_child why in
    (record { lives = stays k now (ready l) (record { comment = is.comment; going = is.going; reply = is.reply; asker = tt }); synonyms = now.synonyms }, to_one_so l.me kinds.Ready tt l.parent)
says_on p input brings (steps.Acts {k = k} l site_below acts.SayReadOnly why) of_child whole now = (record { lives = gone k now l.me; synonyms = now.synonyms }, to_one_so l.me kinds.ReadOnly tt l.parent)
says_on p input brings (steps.Acts {k = k} l site_below acts.Seal why) of_child whole now = (record { lives = gone k now l.me; synonyms = now.synonyms }, to_one_so l.me kinds.Prepared tt l.parent)
says_on p input brings (steps.Acts {k = k} l site_below (acts.SealAndPass i) why) of_child whole now = (record { lives = gone k now l.me; synonyms = now.synonyms }, to_one_so l.me kinds.CommitPoint tt (peer_of l i))
says_on p input brings (steps.Acts {k = k} l site_below acts.Decide why) of_child whole now = (record { lives = gone k now l.me; synonyms = now.synonyms }, to_each_so l.me (kinds.Committed (k.clock + 1)) tt (site_neighbors l))
says_on p input brings (steps.Acts {k = k} l site_below acts.Finish why) of_child whole now = (record { lives = gone k now l.me; synonyms = now.synonyms }, tt)
says_on p input brings (steps.Acts {k = k} l site_below acts.Abandon why) of_child whole now =
    (record { lives = gone k now l.me; synonyms = now.synonyms }, both (to_one l.me kinds.Abort l.parent) (to_children l kinds.Rollback) (to_one_so l.me kinds.Abort tt l.parent) (to_each_so l.me kinds.Rollback tt (children_of l)))
says_on p input brings (steps.Drops_told {k = k} l live drops) of_child whole now = (record { lives = gone k now l.me; synonyms = now.synonyms }, to_each_so l.me kinds.Rollback tt (children_of l))
says_on p input brings (steps.Drops_asked {k = k} l from live came parent) of_child whole now = (record { lives = gone k now l.me; synonyms = now.synonyms }, (tt, to_each_so l.me kinds.Rollback tt (children_of l)))
says_on p input brings (steps.Does s from nexts.Rest kept why) of_child whole now = (now, tt)
says_on p input brings (steps.Does s from nexts.AckToward kept why) of_child whole now = (now, to_one_so s.me kinds.Ack tt s.toward)
says_on p input brings (steps.Does s from nexts.SayForgotten kept why) of_child whole now = (now, (tt, tt))
says_on p input brings (steps.Does s from nexts.SayAck kept why) of_child whole now = (now, (tt, tt))
says_on p input brings (steps.Does s from (nexts.End d) kept why) of_child whole now = (record { lives = now.lives; synonyms = now.synonyms }, passes_so s d)
says_on p input brings (steps.Does s from (nexts.Meet d mixed) kept why) of_child whole now = (record { lives = now.lives; synonyms = now.synonyms }, passes_so s d)
says_on p input brings (steps.Does s from nexts.Forget kept why) of_child whole now = (record { lives = now.lives; synonyms = now.synonyms }, to_each_so s.me kinds.Forgotten tt _)
says_on p input brings (steps.Refuses n s r call) of_child whole now = (now, tt)
says_on p input brings (steps.Completes_at_once n s d call complete none) of_child whole now = (now, tt)
says_on p input brings (steps.Makes_record n s r d call makes) of_child whole now = (record { lives = now.lives; synonyms = made_so brings makes call now }, tt)
says_on p input brings (steps.Forces_given n id m b call named) of_child whole now = (record { lives = now.lives; synonyms = now.synonyms }, tt)
says_on p input brings (steps.Forces_commit n id b call named) of_child whole now = (record { lives = now.lives; synonyms = now.synonyms }, tt)
says_on p input brings (steps.Forces_rollback n id b call named) of_child whole now = (record { lives = now.lives; synonyms = now.synonyms }, tt)
says_on p input brings (steps.Hides n mixed id s call found) of_child whole now = (record { lives = now.lives; synonyms = now.synonyms }, tt)
says_on p input brings (steps.Advises n a call) of_child whole now = (record { lives = now.lives; synonyms = now.synonyms }, tt)
says_on p input brings (steps.Leaves {k = k} n s d x call ends has live) of_child whole now = (record { lives = gone k now x.live.me; synonyms = now.synonyms }, to_each_so x.live.me kinds.Rollback tt (children_of x.live))
says_on p input brings (steps.Sets_read_only n call) of_child whole now = (now, tt)
says_on p input brings (steps.Sets_savepoint {k = k} n x name call has code live) of_child whole now =
    let is = said_at k now x live in
    (record { lives = changed k now (marked k.sessions x name) (work_is k x.live.me x live) (record { comment = is.comment; going = is.going; reply = is.reply; asker = is.asker }); synonyms = now.synonyms }, tt)
says_on p input brings (steps.Images checkpoint) of_child whole now = (record { lives = now.lives; synonyms = now.synonyms }, tt)
says_on p input brings (steps.Gives_up {k = k} n x gives has waits live) of_child whole now =
    let is = before k now x live in
    (record { lives = changed k now (gives_up x) is.mine (record { comment = is.comment; going = tt; reply = is.reply; asker = is.asker }); synonyms = now.synonyms }, tt)
says_on p input brings (steps.Gives_up_commit {k = k} n b (Some l) gives has waits live) of_child whole now = (record { lives = gone k now l.me; synonyms = now.synonyms }, to_each_so l.me kinds.Rollback tt (children_of l))
says_on p input brings (steps.Gives_up_commit n b None gives has waits none) of_child whole now = (record { lives = now.lives; synonyms = now.synonyms }, tt)

-- ---- turns

stamped_so : (scn : ℕ) (says : List Post) → HaveBytes says → AllByRecursion (λ m. HasBytes m.kind) (map (stamped scn) says)
stamped_so scn [] all = tt
stamped_so scn (x ∷ xs) all = (all.0, stamped_so scn xs all.1)

pub heard_texts : (k : NodeState) (input : Input) → KeepsBytes k → KeepsBytes (heard k input)
heard_texts k (inputs.Message m) now = record { lives = now.lives; synonyms = now.synonyms }
heard_texts k (inputs.Call n s) now = now
heard_texts k (inputs.GiveUp n) now = now
heard_texts k inputs.Reco now = now
heard_texts k inputs.Checkpoint now = now

pub heard_asks : (k : NodeState) (input : Input) → AsksChild k input → AsksChild (heard k input) input
heard_asks k (inputs.Message m) asks = asks
heard_asks k (inputs.Call n s) asks = asks
heard_asks k (inputs.GiveUp n) asks = asks
heard_asks k inputs.Reco asks = asks
heard_asks k inputs.Checkpoint asks = asks

heard_rows : (k : NodeState) (input : Input) → HasRows k → HasRows (heard k input)
heard_rows k (inputs.Message m) rows = rows
heard_rows k (inputs.Call n s) rows = rows
heard_rows k (inputs.GiveUp n) rows = rows
heard_rows k inputs.Reco rows = rows
heard_rows k inputs.Checkpoint rows = rows

pub turns_keep_bytes : TurnsKeepBytes
unfolding turn_of
turns_keep_bytes p k input fit brings asks rows now =
    let is = says_on p input brings (step_of p k input fit) (heard_asks k input asks) (heard_rows k input rows) (heard_texts k input now) in
    (is.0, stamped_so _ _ is.1)
