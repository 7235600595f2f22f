-- Which steps of a node say Open: those in which a statement goes over a new link. Who says it stays live, and the Open is of
-- its next edge.
use Rattle.std.proofs.Common.{◌≡◌, ℕ, ◌+◌, ◌⊎◌, List, map, length, Option, Some, None, inl, inr, refl, sym, ap, subst, ◌∙◌}
use Rattle.tran_ids.proofs.ListedLemmas.{put_found}
use Rattle.session_tree.specs.Live.{children_of, peer_of, new_edge}
use Rattle.session_tree.specs.Tree.{step as step_from}
use Rattle.commit_forget.specs.declared.next.Next.TheVariants as nexts
use Rattle.node_rules.specs.Data.{Answer, BranchId, Input, Live, Place, Post, Stmt}
use Rattle.node_rules.specs.declared.work.Errand.{Errand}
use Rattle.node_rules.specs.Data.acts
use Rattle.node_rules.specs.Data.inputs
use Rattle.node_rules.specs.Data.kinds
use Rattle.node_rules.specs.Data.stmts
use Rattle.node_rules.specs.declared.session.PendingCall.TheVariants as pending
use Rattle.node_rules.specs.declared.session.Session.{Session}
use Rattle.node_rules.specs.Calls.{answer_says, exec_to, nobody_at, with_edge, hears_reply, branch_ran, less_room}
use Rattle.node_rules.specs.Client.{begun_by, new_root, counted}
use Rattle.node_rules.specs.Commit.{acked_by, beyond}
use Rattle.node_rules.specs.Inputs.{IsCall}
use Rattle.node_rules.specs.NodeState.{NodeState, Branch, TurnDraft, live_id, live_at, post, to_one, to_each, with_kept_row}
use Rattle.node_rules.specs.Prepare.{path_of, site_neighbors, without_read_keys}
use Rattle.node_rules.specs.Recovery.{kept_told}
use Rattle.node_rules.specs.Sessions.{session_at, with_call, with_call_of}
use Rattle.node_rules.specs.Statement.{ran}
use Rattle.node_rules.proofs.Steps as steps
use Rattle.node_rules.proofs.Steps.{Asked, IsOfRows, Says, Step, BeginsBy}
use Rattle.run_base_laws.proofs.KindSayLemmas.{OfDecisions, AllSay, one_says, each_says, prepares_say, told_says, passes_say, askings_say}
use Rattle.run_rules.proofs.ListLemmas.{all_append}
use Rattle.run_base_laws.proofs.RootLemmas.{session_or_before}
use Rattle.commit_leave_laws.proofs.OpenLemmas.{IsNoOpen}
use Rattle.run_base_laws.proofs.BeginLemmas.{MayBegin, may_begin}
use Rattle.node_rules.specs.Marks.{node_back}
use Rattle.node_rules.specs.Names.{passed_on}
use Rattle.node_rules.specs.declared.work.Errand.TheVariants as errands

decisions_open_none : OfDecisions IsNoOpen
decisions_open_none = record { committed = λ n. tt; rolled_back = tt; rollback = tt; in_doubt = tt; ack = tt; forgotten = tt; ask = tt }

answer_opens : (x : Branch) (a : Answer) (o : Option BranchId) → AllSay IsNoOpen (answer_says x a o)
answer_opens x a None = tt
answer_opens x a (Some parent) = (tt, tt)

exec_opens : (ss : List Session) (x : Branch) (i : ℕ) (errand : Errand) (o : Option BranchId) → AllSay IsNoOpen (exec_to ss x i errand o)
exec_opens ss x i errand None = tt
exec_opens ss x i errand (Some c) = (tt, tt)

rolled : (l : Live) → AllSay IsNoOpen (to_each l.me kinds.Rollback (children_of l))
rolled l = each_says IsNoOpen l.me kinds.Rollback (children_of l) tt

says_open : {k : NodeState} {input : Input} {says : List Post} → Says k input says → AllSay IsNoOpen says
says_open (steps.Tells s from came kept) = (told_says IsNoOpen decisions_open_none (kept_told s from), tt)
says_open {k = k} (steps.Recovers reco) = askings_say IsNoOpen decisions_open_none k
says_open (steps.Gone_replies to from call task came gone) = (tt, tt)
says_open (steps.Replies_again x to call task t came live last kept) = (tt, tt)
says_open (steps.Gone_aborts to from b comment came gone) = (tt, tt)
says_open (steps.Gone_rolls_back to from came gone) = (tt, tt)
says_open (steps.Gone_acks to from n came gone) = (tt, tt)
says_open (steps.Gone_forgets to from came gone) = (tt, tt)
says_open (steps.Opened_again to parent edge root depth read_at o came found) = (tt, tt)
says_open (steps.Prepared_again s from b comment came kept again) = (tt, tt)
says_open (steps.Knows_commit s from n came kept knows) = (tt, tt)
says_open (steps.Knows_rollback s from came kept knows) = (tt, tt)
says_open (steps.Is_in_doubt l from came live other) = (tt, tt)

module _ (Q : BranchId → ℕ → Type 0) (p : Place) (input : Input) where
  -- a statement that comes to a branch finds its next edge so
  abbrev pub FindsNext : NodeState → Type 0
  FindsNext k = (x : Branch) (s : Stmt) (given : ℕ) → Asked k input x s given → Q x.live.me (length x.live.edges + 1)

  -- and so is each edge of a root that begins
  abbrev pub BeginsNext : NodeState → Type 0
  BeginsNext k = (n : ℕ) (s : Stmt) (read_at : Option ℕ) → IsCall input n s → BeginsBy k.clock s read_at → (session_at k.sessions n).root ≡ None → (i : ℕ) → Q (new_root p k n) (i + 1)

  -- One Open is said, of such an edge, and its sender is live.
  pub record OpensOne (d : TurnDraft) : Type 0 where
    pub me : BranchId
    pub number : ℕ
    pub to : BranchId
    pub root : BranchId
    pub depth : ℕ
    pub read_at : Option ℕ
    pub is : d.says ≡ post me to (kinds.Open number root depth read_at)
    pub so : Q me number
    pub live : Live
    pub found : live_at d.after me ≡ Some live

  abbrev pub OpensNext : TurnDraft → Type 0
  OpensNext d = AllSay IsNoOpen d.says ⊎ OpensOne d

  one_call : (n m : ℕ) (s t : Stmt) → IsCall input n s → IsCall input m t → (n ≡ m) × (s ≡ t)
  one_call n m s t first second = let it : inputs.Call n (Some s) ≡ inputs.Call m (Some t) = sym first ∙ second in (cc, cc)

  module _ (k : NodeState) (n : ℕ) (s : Stmt) (read_at : Option ℕ) (call : IsCall input n s) (by : BeginsBy k.clock s read_at) (none : (session_at k.sessions n).root ≡ None) (begins : BeginsNext k) where
    begun_finds : FindsNext (begun_by p k n read_at None)
    begun_finds x st given (steps.By_call m y sy called of_rows has code live may) =
        let it : n ≡ m = (one_call n m s st call called).0 in
        let has_n : (session_at (begun_by p k n read_at None).sessions n).root ≡ Some x.live.me = subst (λ i. (session_at (begun_by p k n read_at None).sessions i).root ≡ Some x.live.me) (sym it) has in
        elim (session_or_before k.sessions n n (record (session_at k.sessions n) { seq = (new_root p k n).seq; root = Some (new_root p k n); calls = 0 })) [
          | inl still ↦ absurd (let clash : None ≡ Some x.live.me = sym none ∙ (sym (ap (λ (z : Session). z.root) still) ∙ has_n) in cc)
          | inr new ↦ (let both : Some (new_root p k n) ≡ Some x.live.me = sym (ap (λ (z : Session). z.root) new.1) ∙ has_n in
              let me : new_root p k n ≡ x.live.me = cc in
              subst (λ b. Q b (length x.live.edges + 1)) me (begins n s read_at call by none (length x.live.edges)))
        ]
    begun_finds x st given (steps.By_exec y from number room advice sy came live runs) = absurd (let it : inputs.Call n (Some s) ≡ inputs.Message _ = sym call ∙ came.is in cc)

    begun_begins : BeginsNext (begun_by p k n read_at None)
    begun_begins m st at called by_it free i =
        let it : n ≡ m = (one_call n m s st call called).0 in
        let free_n : (session_at (begun_by p k n read_at None).sessions n).root ≡ None = subst (λ j. (session_at (begun_by p k n read_at None).sessions j).root ≡ None) (sym it) free in
        elim (session_or_before k.sessions n n (record (session_at k.sessions n) { seq = (new_root p k n).seq; root = Some (new_root p k n); calls = 0 })) [
          | inl still ↦ (let same_root : new_root p (begun_by p k n read_at None) n ≡ new_root p k n = ap (λ (z : Session). record { node = p.number; boot = k.stored.durable.boot; session = n; seq = z.seq + 1 }) still in
              subst (λ j. Q (new_root p (begun_by p k n read_at None) j) (i + 1)) it (subst (λ b. Q b (i + 1)) (sym same_root) (begins n s read_at call by none i)))
          | inr new ↦ absurd (let clash : Some (new_root p k n) ≡ None = sym (ap (λ (z : Session). z.root) new.1) ∙ free_n in cc)
        ]

  reads_back : (k : NodeState) (b : BranchId) (x : Branch) (s : Stmt) (given : ℕ) → Asked (without_read_keys k b) input x s given → Asked k input x s given
  reads_back k b x s given (steps.By_call n y st call rows has code live may) = steps.By_call n y st call rows has code live may
  reads_back k b x s given (steps.By_exec y from number room advice st came live runs) = steps.By_exec y from number room advice st came live runs

  acked_back : (k : NodeState) (r : _) (x : Branch) (s : Stmt) (given : ℕ) → Asked (with_kept_row k r) input x s given → Asked k input x s given
  acked_back k r x s given (steps.By_call n y st call rows has code live may) = steps.By_call n y st call rows has code live may
  acked_back k r x s given (steps.By_exec y from number room advice st came live runs) = steps.By_exec y from number room advice st came live runs

  node_asked : (k : NodeState) (z : Branch) (step : ℕ) (x : Branch) (s : Stmt) (given : ℕ) → Asked (node_back k z step) input x s given → Asked k input x s given
  node_asked k z step x s given (steps.By_call n y st call rows has code live may) = steps.By_call n y st call rows has code live may
  node_asked k z step x s given (steps.By_exec y from number room advice st came live runs) = steps.By_exec y from number room advice st came live runs

  -- a call that is counted leaves the transaction of each session
  counted_at : (ss : List Session) (n : ℕ) (o : Option BranchId) (m : ℕ)
      → ((session_at (with_call_of ss n o) m).root ≡ (session_at ss m).root) × ((session_at (with_call_of ss n o) m).code ≡ (session_at ss m).code) × ((session_at (with_call_of ss n o) m).seq ≡ (session_at ss m).seq)
  counted_at ss n None m = (refl, refl, refl)
  counted_at ss n (Some root) m = elim (session_or_before ss n m (record (session_at ss n) { calls = (session_at ss n).calls + 1 })) [
    | inl still ↦ (ap (λ (z : Session). z.root) still, ap (λ (z : Session). z.code) still, ap (λ (z : Session). z.seq) still)
    | inr new ↦ (
      ap (λ (z : Session). z.root) new.1 ∙ ap (λ i. (session_at ss i).root) new.0,
      ap (λ (z : Session). z.code) new.1 ∙ ap (λ i. (session_at ss i).code) new.0,
      ap (λ (z : Session). z.seq) new.1 ∙ ap (λ i. (session_at ss i).seq) new.0,
    )
  ]

  counted_back : (k : NodeState) (n : ℕ) (x : Branch) (s : Stmt) (given : ℕ) → Asked (counted k n) input x s given → Asked k input x s given
  counted_back k n x s given (steps.By_call m y st call rows has code live may) =
      let same = counted_at k.sessions n (session_at k.sessions n).root m in steps.By_call m y st call rows (sym same.0 ∙ has) (sym same.1 ∙ code) live may
  counted_back k n x s given (steps.By_exec y from number room advice st came live runs) = steps.By_exec y from number room advice st came live runs

  counted_begins : (k : NodeState) (n : ℕ) → BeginsNext k → BeginsNext (counted k n)
  counted_begins k n begins m st read_at called by free i =
      let same = counted_at k.sessions n (session_at k.sessions n).root m in
      let same_root : new_root p (counted k n) m ≡ new_root p k m = ap (λ q. record { node = p.number; boot = k.stored.durable.boot; session = m; seq = q + 1 }) same.2 in
      subst (λ b. Q b (i + 1)) (sym same_root) (begins m st read_at called by (sym same.0 ∙ free) i)

  -- no statement with a table comes where COMMIT does
  commit_finds : (k : NodeState) (n : ℕ) (given : Option (List ℕ)) → IsCall input n (stmts.Commit given) → FindsNext k
  commit_finds k n given call x s room (steps.By_call m y st called rows has code live may) = absurd (let it : s ≡ stmts.Commit given = (one_call m n s (stmts.Commit given) called call).1 in subst IsOfRows it rows)
  commit_finds k n given call x s room (steps.By_exec y from number given_room advice st came live runs) = absurd (let it : inputs.Call n (Some (stmts.Commit given)) ≡ inputs.Message _ = sym call ∙ came.is in cc)

  commit_begins : (k : NodeState) (n : ℕ) (given : Option (List ℕ)) → IsCall input n (stmts.Commit given) → BeginsNext k
  commit_begins k n given call m s read_at called begins none i = absurd (let it : s ≡ stmts.Commit given = (one_call m n s (stmts.Commit given) called call).1 in subst MayBegin it (may_begin begins))

  pub opens_on : {k : NodeState} {d : TurnDraft} → Step p input k d → FindsNext k → BeginsNext k → OpensNext d
  opens_on (steps.Begins {k = k} n s read_at call by range none step) finds begins = opens_on step (begun_finds k n s read_at call by none begins) (begun_begins k n s read_at call by none begins)
  opens_on (steps.Counts_call {k = k} n s call counts step) finds begins = opens_on step (λ x st given asked. finds x st given (counted_back k n x st given asked)) (counted_begins k n begins)
  opens_on (steps.Goes_back {k = k} y step goes next) finds begins = opens_on next (λ x s given asked. finds x s given (node_asked k y step x s given asked)) begins
  opens_on (steps.Pends {k = k} n l given call has live code writer step) finds begins =
      let j : NodeState = record k { sessions = with_call k.sessions n pending.Commit } in opens_on step (commit_finds j n given call) (commit_begins j n given call)
  opens_on (steps.Lets_reads_go {k = k} l comment b live collects step) finds begins = opens_on step (λ x s given asked. finds x s given (reads_back k l.me x s given asked)) begins
  opens_on (steps.Counts_ack {k = k} s from kept came counts step) finds begins = opens_on step (λ x st given asked. finds x st given (acked_back k (acked_by s from) x st given asked)) begins
  opens_on (steps.Sends says why) finds begins = inl (says_open why)
  opens_on (steps.Runs {k = k} x s given t asked way) finds begins = inl (answer_opens (branch_ran k.sessions x t (ran p k x.live.me s t)) _ x.live.parent)
  opens_on (steps.Goes_nowhere x s given r asked way) finds begins = inl (answer_opens x _ x.live.parent)
  opens_on (steps.Calls {k = k} x s given i table asked way) finds begins = inl (exec_opens k.sessions x i (errands.Statement (passed_on s table) given) (peer_of x.live i))
  opens_on (steps.Opens {k = k} x s given node link table asked way) finds begins =
      inr (record { me = x.live.me; number = length x.live.edges + 1; to = nobody_at node; root = x.live.root; depth = x.live.depth + 1; read_at = x.live.read_at; is = refl; so = finds x s given asked; live = x.live; found = put_found live_id k.lives x.live })
  opens_on (steps.Goes_on {k = k} x from strength g link opened) finds begins =
      inl (exec_opens k.sessions (with_edge x (new_edge from link strength)) (length x.live.edges + 1) (less_room g.errand) (peer_of (with_edge x (new_edge from link strength)).live (length x.live.edges + 1)))
  opens_on (steps.Hears_reply x weight count a i e answered) finds begins = inl (answer_opens (hears_reply x i weight count e) _ x.live.parent)
  opens_on (steps.Backs {k = k} x step from i calls next) finds begins = inl (exec_opens k.sessions x i (errands.GoBack step) (peer_of x.live i))
  opens_on (steps.Is_back x step from calls none) finds begins = inl (answer_opens x _ x.live.parent)
  opens_on (steps.Opens_branch to parent edge root depth read_at came new) finds begins = inl (tt, tt)
  opens_on (steps.Acts l b acts.AskDown why) finds begins = inl (prepares_say IsNoOpen (λ q c. tt) l.me l.comment (path_of b (step_from l)) 1 l.edges)
  opens_on (steps.Acts l b acts.SayReadOnly why) finds begins = inl (one_says IsNoOpen l.me kinds.ReadOnly l.parent tt)
  opens_on (steps.Acts l b acts.SayReady why) finds begins = inl (one_says IsNoOpen l.me kinds.Ready l.parent tt)
  opens_on (steps.Acts l b acts.Seal why) finds begins = inl (one_says IsNoOpen l.me kinds.Prepared l.parent tt)
  opens_on (steps.Acts l b (acts.SealAndPass i) why) finds begins = inl (one_says IsNoOpen l.me kinds.CommitPoint (peer_of l i) tt)
  opens_on (steps.Acts {k = k} l b acts.Decide why) finds begins = inl (each_says IsNoOpen l.me (kinds.Committed (k.clock + 1)) (site_neighbors l) tt)
  opens_on (steps.Acts l b acts.Abandon why) finds begins = inl (all_append (λ x. IsNoOpen x.kind) (to_one l.me kinds.Abort l.parent) _ (one_says IsNoOpen l.me kinds.Abort l.parent tt) (rolled l))
  opens_on (steps.Drops_told l live drops) finds begins = inl (rolled l)
  opens_on (steps.Drops_asked l from live came parent) finds begins = inl (tt, rolled l)
  opens_on (steps.Does s from (nexts.End d) kept why) finds begins = inl (passes_say IsNoOpen decisions_open_none s d)
  opens_on (steps.Does s from (nexts.Meet d mixed) kept why) finds begins = inl (passes_say IsNoOpen decisions_open_none s d)
  opens_on (steps.Does s from nexts.AckToward kept why) finds begins = inl (one_says IsNoOpen s.me kinds.Ack s.toward tt)
  opens_on (steps.Does s from nexts.Forget kept why) finds begins = inl (each_says IsNoOpen s.me kinds.Forgotten (map (λ b. b.branch) (beyond s)) tt)
  opens_on (steps.Does s from nexts.SayForgotten kept why) finds begins = inl (tt, tt)
  opens_on (steps.Does s from nexts.SayAck kept why) finds begins = inl (tt, tt)
  opens_on (steps.Leaves n s d x call ends has live) finds begins = inl (rolled x.live)
  opens_on (steps.Gives_up_commit n b (Some l) gives has calls live) finds begins = inl (rolled l)
  opens_on _ finds begins = inl tt
