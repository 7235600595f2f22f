-- A live branch whose statement waits sent it down last, and a root whose session's statement is pending waits. What keeps that so.
use Rattle.std.proofs.Common.{◌≡◌, ◌≢◌, ℕ, ◌+◌, ◌-◌, ◌≤◌, ◌==◌, ◌&&◌, Bool, true, false, if◌then◌else◌, position, List, [], ◌∷◌, ◌++◌, length, is_none, option_map, Option, Some, None, inl, inr, refl, sym, ap, subst, ◌∙◌, arith, length-drop}
use Rattle.std.specs.Prelude.{drop}
use Rattle.std.specs.List.{AllByRecursion}
use Rattle.std.specs.Str.{bytes_eq}
use Rattle.std.proofs.lemmas.Bool.{cond_both}
use Rattle.std.proofs.lemmas.List.Quantifiers.{position-Some}
use Rattle.tran_ids.proofs.BranchLemmas.{same_from_equal}
use Rattle.session_tree.specs.Live.{children_of, peer_of, edge_at, edge_by_link, next_edge}
use Rattle.node_rules.specs.Data.{Answer, BranchId, Decision, Edge, Live, Marks, Post, Stmt, Task}
use Rattle.node_rules.specs.declared.work.Errand.{Errand}
use Rattle.node_rules.specs.declared.work.Errand.TheVariants as errands
use Rattle.node_rules.specs.declared.work.Going.{Going}
use Rattle.node_rules.specs.declared.session.Session.{Session}
use Rattle.node_rules.specs.declared.work.Waits.{Waits}
use Rattle.node_rules.specs.declared.work.Work.{Work}
use Rattle.node_rules.specs.Data.decisions
use Rattle.node_rules.specs.Data.kinds
use Rattle.node_rules.specs.declared.session.PendingCall.TheVariants as pending
use Rattle.node_rules.specs.declared.work.Waits.TheVariants as waiting
use Rattle.node_rules.specs.Words.{same, numbered, set_numbered, put_item, drop_item}
use Rattle.node_rules.specs.Refusals.{dtx}
use Rattle.node_rules.specs.NodeState.{NodeState, Branch, live_id, work_id, branch_at, post}
use Rattle.node_rules.specs.LiveBranches.{EachLive, works_of}
use Rattle.node_rules.specs.Sessions.{session_at, with_call, needs_rollback, no_transaction, commit_is_pending, commit_ended}
use Rattle.node_rules.specs.Calls.{answered_sessions, answer_says, with_answer, call_pends, heard_sessions, is_gone, task_for, next_call, exec_to, called, nobody_at, waits_for_opened}
use Rattle.node_rules.specs.Marks.{kept_call, went_on, next_back}
use Rattle.node_rules.specs.Commit.{decided_sessions}
use Rattle.node_rules.specs.Prepare.{abandoned_sessions}
use Rattle.node_rules.proofs.LiveLemmas.{each_put, each_changed, each_left, each_begun, each_same, branch_parts}
use Rattle.node_rules.proofs.StandLemmas.{call_set}
use Rattle.run_rules.proofs.AtNodeLemmas.{item_there}
use Rattle.run_base_laws.specs.InTurnLaws.{call_at}
use Rattle.run_base_laws.proofs.InTurnLemmas.{peer, numbered_map}
use Rattle.run_base_laws.proofs.KindSayLemmas.{AllSay}
use Rattle.run_base_laws.proofs.RootLemmas.{session_or_before}
use Rattle.run_ready_laws.proofs.CallEndLemmas.{none_of}
use Rattle.answer_origin_laws.proofs.LineKeepLemmas.{next_number}
use Rattle.answer_laws.proofs.SentDownLemmas.{IsLevel, SendsNoneDown, level_none, other_none, exec_none, last_more, last_now, answer_level}
use Rattle.answer_laws.specs.StatementEnds.{calls_below, is_back, last_sent_down}

-- ---- a branch

-- whether an errand takes the session tree back
abbrev pub is_back_errand : Errand → Bool
is_back_errand (errands.Statement s given) = false
is_back_errand (errands.GoBack step) = true

-- what a branch waits for is what it sent down last: its last call over an edge, for its errand, or an Open
abbrev pub IsSentLast : List Post → BranchId → List BranchId → Work → Errand → Waits → Type 0
IsSentLast said me peers w errand (waiting.ForReply i) =
    (c : BranchId) × (task : Task) × (numbered peers i ≡ Some c) × (last_sent_down me None said ≡ Some (record { from = me; to = c; kind = kinds.Exec (call_at w i) task })) × (is_back task ≡ is_back_errand errand)
IsSentLast said me peers w errand (waiting.ForOpened link) =
    (to : BranchId) × (edge : ℕ) × (root : BranchId) × (depth : ℕ) × (read_at : Option ℕ) × (last_sent_down me None said ≡ Some (record { from = me; to = to; kind = kinds.Open edge root depth read_at })) × (is_back_errand errand ≡ false)

-- A branch that waits sent that down last, and a root waits where a statement of its session is pending.
pub record IsAtWork (said : List Post) (ss : List Session) (l : Live) (w : Work) : Type 0 where
  pub sent : (g : Going) → w.going ≡ Some g → IsSentLast said l.me (children_of l) w g.errand g.waits
  pub works : l.parent ≡ None → (session_at ss l.me.session).call ≡ pending.Statement → (g : Going) × (w.going ≡ Some g)

-- What else is known of it: its session where it is a root, its node, and a call number for each edge.
pub record IsPlaced (node : ℕ) (ss : List Session) (l : Live) (w : Work) : Type 0 where
  pub root : l.parent ≡ None → (session_at ss l.me.session).root ≡ Some l.me
  pub node_is : l.me.node ≡ node
  pub numbers : length w.calls ≡ length l.edges

module _ (said says : List Post) (me : BranchId) (peers : List BranchId) (w : Work) (none : SendsNoneDown me says) where
  pub sent_more : (errand : Errand) (waits : Waits) → IsSentLast said me peers w errand waits → IsSentLast (said ++ says) me peers w errand waits
  sent_more errand (waiting.ForReply i) is = (is.0, is.1, is.2, last_more me said says none ∙ is.3, is.4)
  sent_more errand (waiting.ForOpened link) is = (is.0, is.1, is.2, is.3, is.4, last_more me said says none ∙ is.5, is.6)

-- the edge of a link is there
edge_placed : (es : List Edge) (link : List ℕ) (o : Option ℕ) (i : ℕ) → position (λ (x : Edge). bytes_eq x.link link) es ≡ o → option_map (λ place. place + 1) o ≡ Some i → (e : Edge) × (numbered es i ≡ Some e)
edge_placed es link None i at is = absurd cc
edge_placed [] link (Some j) i at is = absurd cc
edge_placed (x ∷ es) link (Some j) i at is =
    let it : Some (j + 1) ≡ Some i = is in
    let number : j + 1 ≡ i = cc in
    item_there (x ∷ es) i (omega (arith, number)) (omega (arith, number, (position-Some (λ (y : Edge). bytes_eq y.link link) (x ∷ es) j x at).0))

pub edge_there : (l : Live) (link : List ℕ) (i : ℕ) → edge_by_link l link ≡ Some i → (e : Edge) × (edge_at l i ≡ Some e)
edge_there l link i is = edge_placed l.edges link (position (λ (x : Edge). bytes_eq x.link link) l.edges) i refl is

-- the child that is to go back next is one of those
on_there : (m : Marks) (step i j : ℕ) (calls : List ℕ) → went_on m step i calls ≡ Some j → (i ≤ j) × (j + 1 ≤ i + length calls)
on_there m step i j [] is = absurd cc
on_there m step i j (c ∷ cs) is = by (c == kept_call m step i) is (on_there m step (i + 1) j cs)
  where
    by : (q : Bool) → (if q then went_on m step (i + 1) cs else Some i) ≡ Some j → (went_on m step (i + 1) cs ≡ Some j → (i + 1 ≤ j) × (j + 1 ≤ (i + 1) + length cs)) → (i ≤ j) × (j + 1 ≤ i + length (c ∷ cs))
    by true at later = let it = later at in (omega (arith, it.0), omega (arith, it.1))
    by false at later = let both : Some i ≡ Some j = at in let one : i ≡ j = cc in (omega (arith, one), omega (arith, one))

pub back_there : (w : Work) (l : Live) (step from i : ℕ) → length w.calls ≡ length l.edges → 1 ≤ from → next_back w step from ≡ Some i → (e : Edge) × (edge_at l i ≡ Some e)
back_there w l step from i even some is =
    let at = on_there w.marks step from i (drop (from - 1) w.calls) is in
    let left : length (drop (from - 1) w.calls) ≡ length w.calls - (from - 1) = length-drop (from - 1) w.calls in
    item_there l.edges i (omega (arith, at.0, some)) (omega (arith, at.0, at.1, left, even, some))

-- ---- sessions

-- statements that are pending were pending
abbrev pub NoneMore : List Session → List Session → Type 0
NoneMore ss zs = (m : ℕ) → (session_at zs m).call ≡ pending.Statement → (session_at ss m).call ≡ pending.Statement

module _ (ss : List Session) where
  pub set_none_more : (n : ℕ) (s : Session) → (s.call ≡ pending.Statement → (session_at ss n).call ≡ pending.Statement) → NoneMore ss (set_numbered ss n s)
  set_none_more n s so m is = elim (session_or_before ss n m s) [
    | inl still ↦ ap (λ z. z.call) (sym still) ∙ is
    | inr new ↦ subst (λ i. (session_at ss i).call ≡ pending.Statement) new.0 (so (ap (λ z. z.call) (sym new.1) ∙ is))
  ]

  pub ended_none_more : (b : BranchId) → NoneMore ss (commit_ended ss b)
  ended_none_more b =
      cond_both (commit_is_pending ss b) (set_numbered ss b.session (no_transaction (session_at ss b.session))) ss (NoneMore ss)
      (λ is. set_none_more b.session (no_transaction (session_at ss b.session)) (λ free. absurd cc)) (λ other m is. is)

  pub ended_if_none_more : (here : Bool) (b : BranchId) → NoneMore ss (if here then commit_ended ss b else ss)
  ended_if_none_more true b = ended_none_more b
  ended_if_none_more false b = λ m is. is

  pub decided_none_more : (b : BranchId) (d : Decision) → NoneMore ss (decided_sessions ss b d)
  decided_none_more b (decisions.Commit n) = λ m is. is
  decided_none_more b decisions.Rollback = ended_none_more b

  pub abandoned_none_more : (l : Live) (o : Option BranchId) → NoneMore ss (abandoned_sessions ss l o)
  abandoned_none_more l None = ended_none_more l.me
  abandoned_none_more l (Some parent) = λ m is. is

  pub heard_none_more : (l : Live) (a : Answer) → NoneMore ss (heard_sessions ss l a)
  heard_none_more l a =
      cond_both (is_none l.parent && is_gone a) (needs_rollback ss l.me.session (dtx 8 []).code) ss (NoneMore ss)
      (λ gone. set_none_more l.me.session (record (session_at ss l.me.session) { code = Some (dtx 8 []).code }) (λ is. is)) (λ other m is. is)

  pub answered_none_more : (l : Live) (o : Option BranchId) → NoneMore ss (answered_sessions ss l o)
  answered_none_more l None = set_none_more l.me.session (record (session_at ss l.me.session) { call = pending.NoCall }) (λ free. absurd cc)
  answered_none_more l (Some parent) = λ m is. is

  -- the call of a root has ended
  pub answered_free : (l : Live) (o : Option BranchId) → (o ≡ None → (session_at ss l.me.session).root ≡ Some l.me) → o ≡ None → (session_at (answered_sessions ss l o) l.me.session).call ≡ pending.NoCall
  answered_free l None has none = ap (λ s. s.call) (call_set ss l.me.session l.me pending.NoCall (has refl))
  answered_free l (Some parent) has none = absurd cc

  -- another root's statement is pending
  pub pends_elsewhere : (x y : Live) → (x.parent ≡ None → (session_at ss x.me.session).root ≡ Some x.me) → (session_at ss y.me.session).root ≡ Some y.me → same x.me y.me ≡ false
      → (session_at (call_pends ss x) y.me.session).call ≡ pending.Statement → (session_at ss y.me.session).call ≡ pending.Statement
  pends_elsewhere x y mine its other =
      cond_both (is_none x.parent) (with_call ss x.me.session pending.Statement) ss (λ zs. (session_at zs y.me.session).call ≡ pending.Statement → (session_at ss y.me.session).call ≡ pending.Statement)
      (λ root is. elim (session_or_before ss x.me.session y.me.session (record (session_at ss x.me.session) { call = pending.Statement })) [
        | inl still ↦ ap (λ z. z.call) (sym still) ∙ is
        | inr new ↦ absurd (let has : (session_at ss y.me.session).root ≡ Some x.me = subst (λ i. (session_at ss i).root ≡ Some x.me) new.0 (mine (none_of x.parent root)) in
            let both : Some x.me ≡ Some y.me = sym has ∙ its in
            let one : x.me ≡ y.me = cc in
            let is_same : same x.me y.me ≡ true = same_from_equal x.me y.me one in
            cc (is_same, other))
      ])
      (λ below is. is)

-- ---- live branches

module _ (node : ℕ) (said : List Post) where
  -- both are so of the live branches of a node
  abbrev pub AllAtWork : List Session → List Live → List Work → Type 0
  AllAtWork ss ls ws = EachLive (λ l w. IsPlaced node ss l w × IsAtWork said ss l w) ls ws

  -- what a step leaves of them
  abbrev pub Left : List Post → List Session → List Live → List Work → Type 0
  Left says zs ls ws = EachLive (IsAtWork (said ++ says) zs) ls ws

  -- whose messages go down from the node
  abbrev pub DownFrom : List Post → Type 0
  DownFrom says = AllByRecursion (λ (m : Post). calls_below m.kind ≡ true → m.from.node ≡ node) says

  pub level_from : (says : List Post) → AllSay IsLevel says → DownFrom says
  level_from [] all = tt
  level_from (m ∷ ms) all = ((λ down. absurd (let level = all.0 in cc (level, down))), level_from ms all.1)

  module _ (k : NodeState) (now : AllAtWork k.sessions k.lives k.works) where
    abbrev ss : List Session
    ss = k.sessions

    stays : (says : List Post) (zs : List Session) (y : Live) (v : Work) → SendsNoneDown y.me says → ((session_at zs y.me.session).call ≡ pending.Statement → (session_at ss y.me.session).call ≡ pending.Statement) → IsAtWork said ss y v → IsAtWork (said ++ says) zs y v
    stays says zs y v none fewer is = record { sent = λ g going. sent_more said says y.me (children_of y) v none g.errand g.waits (is.sent g going); works = λ root pends. is.works root (fewer pends) }

    module _ (says : List Post) (level : AllSay IsLevel says) (zs : List Session) (fewer : NoneMore ss zs) where
      level_stays : (y : Live) (v : Work) → IsAtWork said ss y v → IsAtWork (said ++ says) zs y v
      level_stays y v is = stays says zs y v (level_none y.me says level) (fewer y.me.session) is

      pub calm : Left says zs k.lives k.works
      calm = each_same _ _ k.lives k.works now (λ y v live any is. level_stays y v is.1)

      pub left : (b : BranchId) → Left says zs (drop_item live_id k.lives b) (drop_item work_id k.works b)
      left b = each_left _ _ k.lives k.works now b (λ y v live other is. level_stays y v is.1)

      pub changed : (l : Live) → IsAtWork said ss l (works_of k.works l.me) → Left says zs (put_item live_id k.lives l) k.works
      changed l is = each_changed _ _ k.lives k.works now l (level_stays l (works_of k.works l.me) is) (λ y v live other was. level_stays y v was.1)

      -- one that begins
      pub begins : (l : Live) → (l.parent ≢ None) → Left says zs (k.lives ++ l ∷ []) k.works
      begins l below = each_begun _ _ k.lives k.works now l (record { sent = λ g going. absurd cc; works = λ root pends. absurd (below root) }) (λ y v live any was. level_stays y v was.1)

      -- one that waits for nothing
      pub rests : (l : Live) (w : Work) → w.branch ≡ l.me → w.going ≡ None → (l.parent ≡ None → (session_at zs l.me.session).call ≡ pending.NoCall) → Left says zs (put_item live_id k.lives l) (put_item work_id k.works w)
      rests l w mine none free =
          each_put _ _ k.lives k.works now l w mine (record { sent = λ g going. absurd (cc (going, none)); works = λ root pends. absurd (let is = free root in cc (is, pends)) }) (λ y v live other was. level_stays y v was.1)

    pub branch_placed : (x : Branch) → branch_at k x.live.me ≡ Some x → IsPlaced node ss x.live x.work
    branch_placed x found = (let parts = branch_parts k x.live.me x found in subst (IsPlaced node ss x.live) (sym parts.1) (now.each x.live.me x.live parts.0).0)

    -- a statement is answered
    pub answered_left : (zs : List Session) → NoneMore ss zs → (z : Branch) (a : Answer) → z.work.branch ≡ z.live.me → (z.live.parent ≡ None → (session_at zs z.live.me.session).root ≡ Some z.live.me)
        → Left (answer_says z a z.live.parent) (answered_sessions zs z.live z.live.parent) (put_item live_id k.lives z.live) (put_item work_id k.works (with_answer z a).work)
    answered_left zs fewer z a mine has =
        rests (answer_says z a z.live.parent) (answer_level z a z.live.parent) (answered_sessions zs z.live z.live.parent) (λ m is. fewer m (answered_none_more zs z.live z.live.parent m is)) z.live (with_answer z a).work mine refl
        (answered_free zs z.live z.live.parent has)

    -- ---- one that goes on

    module _ (x : Branch) (mine : x.work.branch ≡ x.live.me) (placed : IsPlaced node ss x.live x.work) where
      -- by a message of the branch
      goes_on : (says : List Post) (w : Work) (g : Going) → w.branch ≡ x.live.me → w.going ≡ Some g → IsSentLast (said ++ says) x.live.me (children_of x.live) w g.errand g.waits → ((b : BranchId) → same x.live.me b ≡ false → SendsNoneDown b says)
          → Left says (call_pends ss x.live) (put_item live_id k.lives x.live) (put_item work_id k.works w)
      goes_on says w g its going sent others =
          each_put _ _ k.lives k.works now x.live w its
          (record { sent = λ h at. (let both : Some g ≡ Some h = sym going ∙ at in let one : g ≡ h = cc in subst (λ (y : Going). IsSentLast (said ++ says) x.live.me (children_of x.live) w y.errand y.waits) one sent); works = λ root pends. (g, going) })
          (λ y v live other was. record {
            sent = λ h at. sent_more said says y.me (children_of y) v (others y.me other) h.errand h.waits (was.1.sent h at);
            works = λ root pends. was.1.works root (pends_elsewhere ss x.live y placed.root (was.0.root root) other pends);
          })

      pub opens_left : (node_to : ℕ) (link : List ℕ) (s : Stmt) (given : ℕ)
          → Left (post x.live.me (nobody_at node_to) (kinds.Open (next_edge x.live) x.live.root (x.live.depth + 1) x.live.read_at)) (call_pends ss x.live) (put_item live_id k.lives x.live) (put_item work_id k.works (waits_for_opened x link s given).work)
      opens_left node_to link s given =
          goes_on _ (waits_for_opened x link s given).work (record { errand = errands.Statement s given; waits = waiting.ForOpened link }) mine refl
          (nobody_at node_to, next_edge x.live, x.live.root, x.live.depth + 1, x.live.read_at, last_now x.live.me (nobody_at node_to) (kinds.Open (next_edge x.live) x.live.root (x.live.depth + 1) x.live.read_at) said refl, refl)
          (λ b other. other_none b x.live.me (nobody_at node_to) (kinds.Open (next_edge x.live) x.live.root (x.live.depth + 1) x.live.read_at) other)

      task_back : (i : ℕ) (errand : Errand) → is_back (task_for ss x i errand) ≡ is_back_errand errand
      task_back i (errands.Statement s given) = refl
      task_back i (errands.GoBack step) = refl

      module _ (i : ℕ) (errand : Errand) (e : Edge) (at : edge_at x.live i ≡ Some e) where
        its_exec : exec_to ss x i errand (peer_of x.live i) ≡ post x.live.me e.peer (kinds.Exec (next_call x.work i) (task_for ss x i errand))
        its_exec = ap (exec_to ss x i errand) (ap (option_map (λ (y : Edge). y.peer)) at)

        last_exec : last_sent_down x.live.me None (said ++ exec_to ss x i errand (peer_of x.live i)) ≡ Some (record { from = x.live.me; to = e.peer; kind = kinds.Exec (call_at (called ss x i errand).work i) (task_for ss x i errand) })
        last_exec =
            ap (λ says. last_sent_down x.live.me None (said ++ says)) its_exec
            ∙ (last_now x.live.me e.peer (kinds.Exec (next_call x.work i) (task_for ss x i errand)) said refl
            ∙ ap (λ n. Some (record { from = x.live.me; to = e.peer; kind = kinds.Exec n (task_for ss x i errand) })) (sym (next_number ss x i errand e at placed.numbers)))

        pub calls_left : Left (exec_to ss x i errand (peer_of x.live i)) (call_pends ss x.live) (put_item live_id k.lives x.live) (put_item work_id k.works (called ss x i errand).work)
        calls_left =
            goes_on (exec_to ss x i errand (peer_of x.live i)) (called ss x i errand).work (record { errand = errand; waits = waiting.ForReply i }) mine refl
            (e.peer, task_for ss x i errand, numbered_map x.live.edges i ∙ ap (option_map peer) at, last_exec, task_back i errand) (λ b other. exec_none ss x i errand (peer_of x.live i) b other)

        pub calls_from : DownFrom (exec_to ss x i errand (peer_of x.live i))
        calls_from = subst DownFrom (sym its_exec) ((λ down. placed.node_is), tt)
