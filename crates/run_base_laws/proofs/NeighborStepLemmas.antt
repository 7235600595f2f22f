-- Each step of a node goes on to name branches as they began, in what it keeps, in its record and in its messages.
use Rattle.std.proofs.Common.{◌≡◌, ℕ, ◌+◌, ◌==◌, Bool, true, false, List, length, map, unwrap_or, Option, Some, None, inl, inr, refl, sym, ap, subst, ◌∙◌, ◌⊎◌, arith}
use Rattle.std.specs.Prelude.{IfSome}
use Rattle.std.specs.List.{AllByRecursion}
use Rattle.std.proofs.lemmas.Bool.{cond_both}
use Rattle.std.proofs.lemmas.Bool.Decides.{nat_tests}
use Rattle.tran_ids.proofs.NumberedLemmas.{set_or_before}
use Rattle.redo_record.specs.Rows.{sealed_as, decided_as}
use Rattle.commit_forget.specs.declared.next.Next.TheVariants as nexts
use Rattle.reco.specs.declared.post.Post.{Post}
use Rattle.node_rules.specs.Data.{Stmt, BranchId, Kind, Edge, Live, KeptRow, RedoRecord, Place, Input, Vote}
use Rattle.node_rules.specs.Data.decisions
use Rattle.node_rules.specs.Data.kinds
use Rattle.node_rules.specs.Data.records
use Rattle.node_rules.specs.Data.acts
use Rattle.node_rules.specs.Data.stmts
use Rattle.node_rules.specs.Data.inputs
use Rattle.node_rules.specs.declared.session.PendingCall.TheVariants as pending
use Rattle.node_rules.specs.declared.session.Session.{Session}
use Rattle.node_rules.specs.Words.{numbered, put_item, drop_item}
use Rattle.node_rules.specs.Inputs.{Came, IsCall}
use Rattle.session_tree.specs.Live.{children_of, peer_of, edge_at, new_edge}
use Rattle.session_tree.specs.Tree.{step as step_from}
use Rattle.node_rules.specs.NodeState.{NodeState, Branch, TurnDraft, live_id, kept_row_id, live_at, branch_at, with_kept_row, to_one}
use Rattle.node_rules.specs.Records.{applied}
use Rattle.node_rules.specs.Sessions.{fresh_session, session_at, with_root, with_call}
use Rattle.node_rules.specs.Statement.{ran, after_run}
use Rattle.node_rules.specs.Calls.{is_opening, next_child, with_edge, hears_reply, branch_ran, less_room, strength_of}
use Rattle.node_rules.specs.Prepare.{sealed_of, decided_of, site_neighbors, path_of, sealed_record, decided_record, own_changes, collecting, with_comment, ready, voted, has_voted, answers_first, with_prepare_sent, without_read_keys}
use Rattle.node_rules.specs.Commit.{beyond, acked_by}
use Rattle.node_rules.specs.Recovery.{kept_told}
use Rattle.node_rules.specs.Client.{new_root, fresh_root, begun_by, counted}
use Rattle.node_rules.proofs.Steps as steps
use Rattle.node_rules.proofs.Steps.{Step, Says, IsKept, Asked, Acting, BeginsBy, Calls_back}
use Rattle.node_rules.proofs.StandLemmas.{live_so}
use Rattle.run_rules.specs.Births.{Born, root_born, child_born}
use Rattle.run_base_laws.specs.BirthLaws.{IsChildAt, LiveIs, KeptIs, OpeningIs, NamesAre, RecordNames, GoesSo}
use Rattle.run_rules.proofs.ListLemmas.{all_append}
use Rattle.node_rules.proofs.StepLemmas.{made_so, calling_back_so}
use Rattle.node_rules.specs.declared.work.Errand.TheVariants as errands
use Rattle.node_rules.specs.Names.{passed_on}
use Rattle.node_rules.specs.Marks.{node_back}
use Rattle.node_rules.specs.Images.{image_at}
use Rattle.run_base_laws.proofs.OwnLemmas.{all_found, all_with, all_without, all_last}
use Rattle.run_base_laws.proofs.LiveStepLemmas.{LastsInTurn, acting_by}
use Rattle.run_base_laws.proofs.NeighborLemmas.{find_so, reply_is, News, turned, children_map, children_last, children_numbered, up, edges_down, downs, peer_child, neighbors_are, seal_names, decide_names, rows_applied, acked_row}
use Rattle.run_base_laws.proofs.NeighborSayLemmas.{Goes, GoAll, one_goes, each_goes, answer_goes, exec_goes, prepares_go, told_goes, beyond_near, toward_near, passes_go, askings_go}
use Rattle.run_base_laws.proofs.BeginLemmas.{MayBegin, may_begin}
use Rattle.run_base_laws.proofs.RootLemmas.{counted_session}

module _ (B : Born → Type 0) where
  -- ---- steps

  module _ (k : NodeState) (names : NamesAre B k) where
    live_is : (b : BranchId) (l : Live) → live_at k b ≡ Some l → LiveIs B l
    live_is b l found = all_found (LiveIs B) live_id k.lives b l names.0 found

    kept_is : (s : KeptRow) → IsKept k s → KeptIs B s
    kept_is s kept = all_found (KeptIs B) kept_row_id k.stored.durable.kept s.me s names.1 kept

    branch_live : (x : Branch) → branch_at k x.live.me ≡ Some x → LiveIs B x.live
    branch_live x found = live_is x.live.me x.live (live_so k x.live.me x found)

    changed : (l : Live) → LiveIs B l → AllByRecursion (LiveIs B) (put_item live_id k.lives l)
    changed l is = all_with (LiveIs B) live_id k.lives l names.0 is

    gone : (b : BranchId) → AllByRecursion (LiveIs B) (drop_item live_id k.lives b)
    gone b = all_without (LiveIs B) live_id k.lives b names.0

    recorded : (r : RedoRecord) → RecordNames B r → AllByRecursion (KeptIs B) (applied k.stored r).durable.kept
    recorded r is = rows_applied B k.stored r is names.1

    asked_is : {input : Input} {x : Branch} {s : Stmt} {given : ℕ} → Asked k input x s given → LiveIs B x.live
    asked_is (steps.By_call n x s call rows has code live may) = branch_live x live
    asked_is (steps.By_exec x from call given advice s came live runs) =
        (let is : LiveIs B x.live = branch_live x live in record { born = is.born; began = is.began; is_me = is.is_me; is_root = is.is_root; is_parent = is.is_parent; is_depth = is.is_depth; children = is.children })

    collecting_is : (l : Live) (comment : List ℕ) (site_below : Bool) → LiveIs B l → LiveIs B (collecting (with_comment l comment) site_below)
    collecting_is l comment site_below is = record {
      born = is.born;
      began = is.began;
      is_me = is.is_me;
      is_root = is.is_root;
      is_parent = is.is_parent;
      is_depth = is.is_depth;
      children = children_map B with_prepare_sent (λ e. refl) l.me 1 l.edges is.children;
    }

    voted_is : (l : Live) (from : BranchId) (v : Vote) → LiveIs B l → LiveIs B (voted l from v)
    voted_is l from v is = record {
      born = is.born;
      began = is.began;
      is_me = is.is_me;
      is_root = is.is_root;
      is_parent = is.is_parent;
      is_depth = is.is_depth;
      children = children_map B (has_voted from v) (λ e. cond_both (answers_first from e) (record e { vote = v }) e (λ y. y.peer ≡ e.peer) (λ here. refl) (λ other. refl)) l.me 1 l.edges is.children;
    }

    acting_is : {input : Input} {l : Live} {site_below : Bool} {a : _} → Acting k input l site_below a → LiveIs B l
    acting_is why = acting_by (LiveIs B) (λ l comment site_below live begins is. collecting_is l comment site_below is) (λ l from v site_below answers is. voted_is l from v is) (λ l live. live_is l.me l live) why

  -- ---- news as a turn goes on

  module _ (p : Place) (input : Input) where
    begun_root : (k : NodeState) (n : ℕ) (read_at : Option ℕ) → News B p input k → (m : ℕ) (s : Stmt) (reads : Option ℕ) → IsCall input m s → BeginsBy k.clock s reads
        → (session_at (begun_by p k n read_at None).sessions m).root ≡ None → B (root_born (new_root p (begun_by p k n read_at None) m) (strength_of p k) reads)
    begun_root k n read_at news m s reads call begins none = at (set_or_before k.sessions n m _)
      where
        at : (numbered (with_root k.sessions n (new_root p k n)) m ≡ numbered k.sessions m) ⊎ ((n ≡ m) × (numbered (with_root k.sessions n (new_root p k n)) m ≡ Some (record (session_at k.sessions n) { seq = (new_root p k n).seq; root = Some (new_root p k n); calls = 0 })))
            → B (root_born (new_root p (begun_by p k n read_at None) m) (strength_of p k) reads)
        at (inl still) =
            let it : session_at k.sessions m ≡ session_at (begun_by p k n read_at None).sessions m = ap (λ o. unwrap_or o fresh_session) (sym still) in
            subst (λ (z : Session). B (root_born (record { node = p.number; boot = k.stored.durable.boot; session = m; seq = z.seq + 1 }) (strength_of p k) reads)) it (news.root m s reads call begins (ap (λ z. z.root) it ∙ none))
        at (inr set) =
            let it : (session_at (begun_by p k n read_at None).sessions m).root ≡ Some (new_root p k n) = ap (λ o. (unwrap_or o fresh_session).root) set.1 in
            absurd (cc (it, none))

    pub begun_news : (k : NodeState) (n : ℕ) (read_at : Option ℕ) → News B p input k → News B p input (begun_by p k n read_at None)
    begun_news k n read_at news = record { root = begun_root k n read_at news; child = news.child }

    pub counted_news : (k : NodeState) (n : ℕ) → News B p input k → News B p input (counted k n)
    counted_news k n news = record {
      root = λ m s reads call begins none. (let it = counted_session k.sessions n m (session_at k.sessions n).root in
          subst (λ (z : Session). B (root_born (record { node = p.number; boot = k.stored.durable.boot; session = m; seq = z.seq + 1 }) (strength_of p k) reads)) (sym it.1) (news.root m s reads call begins (ap (λ z. z.root) (sym it.1) ∙ none)));
      child = news.child;
    }

    pub back_news : (k : NodeState) (x : Branch) (step : ℕ) → News B p input k → News B p input (node_back k x step)
    back_news k x step news = record { root = news.root; child = news.child }

    one_call : (n m : ℕ) (s t : Stmt) → IsCall input n s → IsCall input m t → s ≡ t
    one_call n m s t first second = let it : inputs.Call n (Some s) ≡ inputs.Call m (Some t) = sym first ∙ second in cc

    pub pends_news : (k : NodeState) (n : ℕ) (comment : Option (List ℕ)) → IsCall input n (stmts.Commit comment) → News B p input k → News B p input (record k { sessions = with_call k.sessions n pending.Commit })
    pends_news k n comment call news = record { root = λ m s reads other begins none. (let it : s ≡ stmts.Commit comment = one_call m n s (stmts.Commit comment) other call in absurd (subst MayBegin it (may_begin begins))); child = news.child }

    pub lets_news : (k : NodeState) (b : BranchId) → News B p input k → News B p input (without_read_keys k b)
    lets_news k b news = record { root = news.root; child = news.child }

    pub acked_news : (k : NodeState) (s : KeptRow) → News B p input k → News B p input (with_kept_row k s)
    acked_news k s news = record { root = news.root; child = news.child }

    -- so they are known through a turn
    pub news_lasts : LastsInTurn p input (News B p input)
    news_lasts = record {
      begun = λ k n s read_at call begins free news. begun_news k n read_at news;
      counts = λ k n s call is news. counted_news k n news;
      backs = λ k x step goes news. back_news k x step news;
      pends = λ k n l given call has news. pends_news k n given call news;
      lets = lets_news;
      acked = λ k s from kept came news. acked_news k (acked_by s from) news;
    }

  -- what a step keeps, writes and says
  abbrev pub NamesSo : TurnDraft → Type 0
  NamesSo d = NamesAre B d.after × IfSome d.wrote (RecordNames B) × GoAll B d.says

  module _ (p : Place) (input : Input) (heard : (from to : BranchId) (kind : Kind) → Came input from to kind → GoesSo B from to kind) where
    -- messages alone
    says_go : {k : NodeState} {says : List Post} → NamesAre B k → Says k input says → GoAll B says
    says_go names (steps.Gone_replies to from call task came gone) = (heard from to (kinds.Exec call task) came, tt)
    says_go names (steps.Gone_aborts to from site_below comment came gone) = (heard from to (kinds.Prepare site_below comment) came, tt)
    says_go names (steps.Gone_rolls_back to from came gone) = (elim came [ inl asked ↦ inl (heard from to kinds.CommitPoint asked) | inr asked ↦ turned B from to (heard from to kinds.Ask asked) ], tt)
    says_go names (steps.Gone_acks to from n came gone) = (turned B from to (heard from to (kinds.Committed n) came), tt)
    says_go names (steps.Gone_forgets to from came gone) = (turned B from to (heard from to kinds.Ack came), tt)
    says_go names (steps.Replies_again x to call task t came live last kept) = (heard to x.live.me (kinds.Exec call task) came, tt)
    says_go {k = k} names (steps.Opened_again to parent edge root depth read_at o came found) = (find_so (OpeningIs B) (is_opening parent edge) k.opens o names.2 found, tt)
    says_go names (steps.Prepared_again s from site_below comment came kept again) = (heard from s.me (kinds.Prepare site_below comment) came, tt)
    says_go names (steps.Knows_commit s from n came kept knows) = (inl (heard from s.me kinds.CommitPoint came), tt)
    says_go names (steps.Knows_rollback s from came kept knows) = (inl (heard from s.me kinds.CommitPoint came), tt)
    says_go names (steps.Is_in_doubt l from came live other) = (turned B from l.me (heard from l.me kinds.Ask came), tt)
    says_go names (steps.Tells s from came kept) = (told_goes B s.me from (kept_told s from) (turned B from s.me (heard from s.me kinds.Ask came)), tt)
    says_go {k = k} names (steps.Recovers reco) = askings_go B k names

    -- ---- news

    root_live : (k : NodeState) (n : ℕ) (read_at : Option ℕ) → B (root_born (new_root p k n) (strength_of p k) read_at) → LiveIs B (fresh_root p k (new_root p k n) read_at)
    root_live k n read_at began = record { born = root_born (new_root p k n) (strength_of p k) read_at; began = began; is_me = refl; is_root = refl; is_parent = refl; is_depth = refl; children = tt }

    -- the new child stands behind the others
    edge_is : (a b : ℕ) → (a == b + 1) ≡ true → a ≡ 1 + b
    edge_is a b is = grind (arith, nat_tests, is)

    edge_more : (x : Branch) (from : BranchId) (strength : ℕ) (link : List ℕ) (edge : ℕ) → LiveIs B x.live → IsChildAt B from x.live.me edge → (edge == length x.live.edges + 1) ≡ true
        → LiveIs B (with_edge x (new_edge from link strength)).live
    edge_more x from strength link edge is at new = record {
      born = is.born;
      began = is.began;
      is_me = is.is_me;
      is_root = is.is_root;
      is_parent = is.is_parent;
      is_depth = is.is_depth;
      children = children_last B x.live.me 1 x.live.edges (new_edge from link strength) edge (edge_is edge (length x.live.edges) new) at is.children;
    }

    reply_more : (x : Branch) (i : ℕ) (weight : Option ℕ) (count : ℕ) (e : Edge) → LiveIs B x.live → edge_at x.live i ≡ Some e → LiveIs B (hears_reply x i weight count e).live
    reply_more x i weight count e is at = record {
      born = is.born;
      began = is.began;
      is_me = is.is_me;
      is_root = is.is_root;
      is_parent = is.is_parent;
      is_depth = is.is_depth;
      children = children_numbered B x.live.me x.live.edges i e _ at refl is.children;
    }

    calling_is : (k : NodeState) → NamesAre B k → {x : Branch} {step from : ℕ} → Calls_back k input x step from → LiveIs B x.live
    calling_is k names calls =
        calling_back_so (LiveIs B) (λ before x step is. is) (λ x weight count a i e answered is. reply_more x i weight count e is (reply_is x answered.from answered.call i e answered.waits)) (live_is k names) calls

    pub names_on : {k : NodeState} {d : TurnDraft} → Step p input k d → NamesAre B k → News B p input k → NamesSo d
    names_on (steps.Begins {k = k} n s read_at call begins fit none step) names news =
        names_on step (all_last (LiveIs B) live_id k.lives _ names.0 (root_live k n read_at (news.root n s read_at call begins none)), names.1, names.2) (begun_news p input k n read_at news)
    names_on (steps.Counts_call {k = k} n s call counts step) names news = names_on step names (counted_news p input k n news)
    names_on (steps.Goes_back {k = k} x step goes next) names news = names_on next names (back_news p input k x step news)
    names_on (steps.Pends {k = k} n l comment call has live code writer step) names news = names_on step names (pends_news p input k n comment call news)
    names_on (steps.Lets_reads_go {k = k} l comment site_below live begins step) names news = names_on step names (lets_news p input k l.me news)
    names_on (steps.Counts_ack {k = k} s from kept came counts step) names news =
        names_on step (names.0, all_with (KeptIs B) kept_row_id k.stored.durable.kept (acked_by s from) names.1 (acked_row B s from (kept_is k names s kept)), names.2) (acked_news p input k (acked_by s from) news)
    names_on (steps.Sends says why) names news = (names, tt, says_go names why)
    names_on (steps.Runs {k = k} x s given t asked way) names news =
        let is : LiveIs B x.live = asked_is k names asked in
        ((changed k names (after_run x.live (ran p k x.live.me s t)) is, names.1, names.2), tt, answer_goes B (branch_ran k.sessions x t (ran p k x.live.me s t)) _ x.live.parent (up B x.live is))
    names_on (steps.Goes_nowhere {k = k} x s given r asked way) names news =
        let is : LiveIs B x.live = asked_is k names asked in ((changed k names x.live is, names.1, names.2), tt, answer_goes B x _ x.live.parent (up B x.live is))
    names_on (steps.Calls {k = k} x s given i table asked way) names news =
        let is : LiveIs B x.live = asked_is k names asked in ((changed k names x.live is, names.1, names.2), tt, exec_goes B k.sessions x i (errands.Statement (passed_on s table) given) (peer_of x.live i) (peer_child B x.live is i))
    names_on (steps.Opens {k = k} x s given node link table asked way) names news =
        let is : LiveIs B x.live = asked_is k names asked in
        ((changed k names x.live is, names.1, names.2), tt, ((is.born, is.began, is.is_me, is.is_root, ap (λ d. d + 1) is.is_depth), tt))
    names_on (steps.Goes_on {k = k} x from strength g link opened) names news =
        let e : Edge = new_edge from link strength in
        let is : LiveIs B (with_edge x e).live
        = edge_more x from strength link opened.edge (branch_live k names x opened.live) (heard from x.live.me (kinds.Opened opened.edge strength) opened.came) opened.new in (
          (changed k names (with_edge x e).live is, names.1, names.2),
          tt,
          exec_goes B k.sessions (with_edge x e) (length x.live.edges + 1) (less_room g.errand) (peer_of (with_edge x e).live (length x.live.edges + 1)) (peer_child B (with_edge x e).live is (length x.live.edges + 1)),
        )
    names_on (steps.Hears_reply {k = k} x weight count a i e answered) names news =
        let old : LiveIs B x.live = branch_live k names x answered.live in
        let is : LiveIs B (hears_reply x i weight count e).live = reply_more x i weight count e old (reply_is x answered.from answered.call i e answered.waits) in
        ((changed k names (hears_reply x i weight count e).live is, names.1, names.2), tt, answer_goes B (hears_reply x i weight count e) _ x.live.parent (up B x.live old))
    names_on (steps.Backs {k = k} x step from i calls next) names news =
        let is : LiveIs B x.live = calling_is k names calls in
        ((changed k names x.live is, names.1, names.2), tt, exec_goes B k.sessions x i (errands.GoBack step) (peer_of x.live i) (peer_child B x.live is i))
    names_on (steps.Is_back {k = k} x step from calls none) names news =
        let is : LiveIs B x.live = calling_is k names calls in ((changed k names x.live is, names.1, names.2), tt, answer_goes B x _ x.live.parent (up B x.live is))
    names_on (steps.Opens_branch {k = k} to parent edge root depth read_at came new) names news =
        let began : B (child_born (next_child p k) parent edge root depth (strength_of p k) read_at) = news.child to parent edge root depth read_at came new in
        let at : IsChildAt B (next_child p k) parent edge = (child_born (next_child p k) parent edge root depth (strength_of p k) read_at, began, refl, refl, refl) in (
          (
            all_last (LiveIs B) live_id k.lives _ names.0
                (record { born = child_born (next_child p k) parent edge root depth (strength_of p k) read_at; began = began; is_me = refl; is_root = refl; is_parent = refl; is_depth = refl; children = tt }),
            names.1,
            all_append (OpeningIs B) k.opens _ names.2 (at, tt),
          ),
          tt,
          (at, tt),
        )
    names_on (steps.Acts {k = k} l site_below acts.Rest why) names news = ((changed k names l (acting_is k names why), names.1, names.2), tt, tt)
    names_on (steps.Acts {k = k} l site_below acts.AskDown why) names news =
        let is : LiveIs B l = acting_is k names why in ((changed k names l is, names.1, names.2), tt, prepares_go B l.me l.comment (path_of site_below (step_from l)) 1 l.edges (edges_down B l is))
    names_on (steps.Acts {k = k} l site_below acts.SayReady why) names news =
        let is : LiveIs B l = acting_is k names why in ((changed k names (ready l) is, names.1, names.2), tt, one_goes B l.me kinds.Ready l.parent (up B l is))
    names_on (steps.Acts {k = k} l site_below acts.SayReadOnly why) names news =
        let is : LiveIs B l = acting_is k names why in ((gone k names l.me, names.1, names.2), tt, one_goes B l.me kinds.ReadOnly l.parent (up B l is))
    names_on (steps.Acts {k = k} l site_below acts.Seal why) names news =
        let is : LiveIs B l = acting_is k names why in
        let seal : KeptIs B (sealed_as (sealed_of k.clock l (own_changes k l.me) None)) = seal_names B l is k.clock (own_changes k l.me) None in
        ((gone k names l.me, recorded k names (sealed_record k l None) seal, names.2), seal, one_goes B l.me kinds.Prepared l.parent (up B l is))
    names_on (steps.Acts {k = k} l site_below (acts.SealAndPass i) why) names news =
        let is : LiveIs B l = acting_is k names why in
        let seal : KeptIs B (sealed_as (sealed_of k.clock l (own_changes k l.me) (Some i))) = seal_names B l is k.clock (own_changes k l.me) (Some i) in
        ((gone k names l.me, recorded k names (sealed_record k l (Some i)) seal, names.2), seal, one_goes B l.me kinds.CommitPoint (peer_of l i) (peer_child B l is i))
    names_on (steps.Acts {k = k} l site_below acts.Decide why) names news =
        let is : LiveIs B l = acting_is k names why in
        let decide : KeptIs B (decided_as (decided_of (k.clock + 1) l (own_changes k l.me))) = decide_names B l is (k.clock + 1) (own_changes k l.me) in
        ((gone k names l.me, recorded k names (decided_record k l) decide, names.2), decide, each_goes B l.me (kinds.Committed (k.clock + 1)) (site_neighbors l) (neighbors_are B l is))
    names_on (steps.Acts {k = k} l site_below acts.Finish why) names news = ((gone k names l.me, names.1, names.2), tt, tt)
    names_on (steps.Acts {k = k} l site_below acts.Abandon why) names news =
        let is : LiveIs B l = acting_is k names why in (
          (gone k names l.me, names.1, names.2),
          tt,
          all_append (Goes B) (to_one l.me kinds.Abort l.parent) _ (one_goes B l.me kinds.Abort l.parent (up B l is)) (each_goes B l.me kinds.Rollback (children_of l) (downs B l is)),
        )
    names_on (steps.Drops_told {k = k} l live drops) names news = ((gone k names l.me, names.1, names.2), tt, each_goes B l.me kinds.Rollback (children_of l) (downs B l (live_is k names l.me l live)))
    names_on (steps.Drops_asked {k = k} l from live came parent) names news =
        ((gone k names l.me, names.1, names.2), tt, (turned B from l.me (heard from l.me kinds.Ask came), each_goes B l.me kinds.Rollback (children_of l) (downs B l (live_is k names l.me l live))))
    names_on (steps.Does {k = k} s from (nexts.End d) kept why) names news = ((names.0, recorded k names (records.Ended s.me d) tt, names.2), tt, passes_go B s (kept_is k names s kept) d)
    names_on (steps.Does {k = k} s from (nexts.Meet d mixed) kept why) names news = ((names.0, recorded k names (records.Met s.me d mixed) tt, names.2), tt, passes_go B s (kept_is k names s kept) d)
    names_on (steps.Does {k = k} s from nexts.AckToward kept why) names news =
        let is : KeptIs B s = kept_is k names s kept in (names, tt, one_goes B s.me kinds.Ack s.toward (toward_near B s is s.toward is.site_way))
    names_on (steps.Does {k = k} s from nexts.Forget kept why) names news =
        ((names.0, recorded k names (records.Forgot s.me) tt, names.2), tt, each_goes B s.me kinds.Forgotten (map (λ b. b.branch) (beyond s)) (beyond_near B s (kept_is k names s kept)))
    names_on (steps.Does s from nexts.SayForgotten kept (steps.Has_forgotten came knows forgot)) names news = (names, tt, (turned B from s.me (heard from s.me kinds.Ack came), tt))
    names_on (steps.Does s from nexts.SayAck kept (steps.Acks_again n m came toward knows all)) names news = (names, tt, (turned B from s.me (heard from s.me (kinds.Committed m) came), tt))
    names_on (steps.Makes_record {k = k} m s r d call makes) names news =
        made_so (λ x. NamesAre B (record k { stored = applied k.stored x }) × RecordNames B x × Unit {0}) (λ t. ((names.0, recorded k names (records.Table t) tt, names.2), tt, tt))
        (λ l. ((names.0, recorded k names (records.Link l) tt, names.2), tt, tt)) (λ y. ((names.0, recorded k names (records.Synonym y) tt, names.2), tt, tt))
        (λ setting. ((names.0, recorded k names (records.Param setting) tt, names.2), tt, tt)) makes
    names_on (steps.Forces_given {k = k} m id scn b call named) names news = ((names.0, recorded k names (records.Forced b (decisions.Commit scn) true) tt, names.2), tt, tt)
    names_on (steps.Forces_commit {k = k} m id b call named) names news = ((names.0, recorded k names (records.Forced b (decisions.Commit (k.clock + 1)) false) tt, names.2), tt, tt)
    names_on (steps.Forces_rollback {k = k} m id b call named) names news = ((names.0, recorded k names (records.Forced b decisions.Rollback false) tt, names.2), tt, tt)
    names_on (steps.Hides {k = k} m mixed id s call found) names news = ((names.0, recorded k names (records.Hidden s.me) tt, names.2), tt, tt)
    names_on (steps.Leaves {k = k} m s d x call ends has live) names news =
        ((gone k names x.live.me, names.1, names.2), tt, each_goes B x.live.me kinds.Rollback (children_of x.live) (downs B x.live (branch_live k names x live)))
    names_on (steps.Sets_savepoint {k = k} m x name call has code live) names news = ((changed k names x.live (branch_live k names x live), names.1, names.2), tt, tt)
    names_on (steps.Images {k = k} checkpoint) names news = ((names.0, recorded k names (records.Image (image_at k.stored k.clock)) tt, names.2), tt, tt)
    names_on (steps.Gives_up {k = k} m x gives has calls live) names news = ((changed k names x.live (branch_live k names x live), names.1, names.2), tt, tt)
    names_on (steps.Gives_up_commit {k = k} m b (Some l) gives has calls live) names news = ((gone k names l.me, names.1, names.2), tt, each_goes B l.me kinds.Rollback (children_of l) (downs B l (live_is k names b l live)))
    names_on _ names news = (names, tt, tt)
