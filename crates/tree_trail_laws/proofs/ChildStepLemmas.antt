-- What a step of a node makes of the children of its live branches: those that they had, with those to which they send Execs.
use Rattle.std.proofs.Common.{◌≡◌, ℕ, zero, suc, ◌+◌, ◌-◌, ◌==◌, ◌≤◌, ◌&&◌, ◌⊎◌, Bool, true, false, if◌then◌else◌, List, [], ◌∷◌, ◌++◌, map, length, option_map, arith, Option, Some, None, inl, inr, refl, sym, ap, subst, ◌∙◌, unwrap_or}
use Rattle.std.proofs.lemmas.List.{map-append, length-map}
use Rattle.std.proofs.lemmas.Bool.{or_left, or_right}
use Rattle.tran_ids.proofs.BranchLemmas.{equal_from_same, same_from_equal}
use Rattle.tran_ids.proofs.ListedLemmas.{item_is, put_found}
use Rattle.commit_forget.specs.declared.next.Next.TheVariants as nexts
use Rattle.reco.specs.declared.post.Post.{Post}
use Rattle.session_tree.specs.Live.{children_of, peer_of, new_edge, fresh_live}
use Rattle.session_tree.specs.Tree.{step as step_from}
use Rattle.node_rules.specs.Data.{Stmt, Answer, BranchId, Edge, Kind, Live, Act, Place, Input}
use Rattle.node_rules.specs.Data.acts
use Rattle.node_rules.specs.Data.kinds
use Rattle.node_rules.specs.Data.phases
use Rattle.node_rules.specs.declared.session.Session.{Session}
use Rattle.node_rules.specs.Words.{same, numbered, item_at, put_item, drop_item, set_numbered}
use Rattle.node_rules.specs.Inputs.{Came, IsCall}
use Rattle.node_rules.specs.NodeState.{NodeState, Branch, TurnDraft, live_id, branch_at, post, to_one, to_each}
use Rattle.node_rules.specs.Names.{passed_on}
use Rattle.node_rules.specs.Statement.{ran}
use Rattle.node_rules.specs.Calls.{answer_says, exec_to, next_child, strength_of, with_edge, hears_reply, branch_ran, less_room}
use Rattle.node_rules.specs.Client.{new_root, fresh_root}
use Rattle.node_rules.specs.Commit.{beyond}
use Rattle.node_rules.specs.LiveBranches.{EachLive}
use Rattle.node_rules.specs.Prepare.{path_of, site_neighbors, has_voted, collecting, with_comment, voted, ready, act_turn}
use Rattle.node_rules.specs.Recovery.{kept_told}
use Rattle.node_rules.specs.Turn.{stamped}
use Rattle.node_rules.proofs.LiveLemmas.{each_changed, each_left, each_begun, each_same, branch_parts}
use Rattle.node_rules.proofs.StepLemmas.{acting_so, calling_back_so}
use Rattle.node_rules.proofs.Steps as steps
use Rattle.node_rules.proofs.Steps.{Step, Asked, Acting, Says, Calls_back, Is_answered, BeginsBy}
use Rattle.run_rules.specs.Births.{Born, read_at_by}
use Rattle.run_rules.specs.Branches.{is_among, with_once}
use Rattle.run_rules.specs.Trail.{is_exec, children_after}
use Rattle.run_base_laws.proofs.KindSayLemmas.{OfDecisions, AllSay, one_says, each_says, prepares_say, told_says, passes_say, askings_say}
use Rattle.run_rules.proofs.ListLemmas.{all_append}
use Rattle.run_base_laws.proofs.NeighborLemmas.{News, reply_is}
use Rattle.run_base_laws.proofs.NeighborStepLemmas.{begun_news, pends_news, lets_news, acked_news, counted_news, back_news}
use Rattle.run_branch_laws.proofs.StillLemmas.{collected}
use Rattle.node_rules.specs.declared.work.Errand.{Errand}
use Rattle.node_rules.specs.Data.inputs
use Rattle.node_rules.specs.Marks.{branch_back}
use Rattle.node_rules.specs.declared.work.Errand.TheVariants as errands
use Rattle.run_base_laws.proofs.BeginLemmas.{begins_at}

-- ---- receivers of Execs

-- with the receivers of the Execs that a branch sends
abbrev pub called_by : BranchId → List BranchId → List Post → List BranchId
called_by b cs [] = cs
called_by b cs (m ∷ ms) = called_by b (if same m.from b && is_exec m.kind then with_once cs m.to else cs) ms

pub stamped_calls : (b : BranchId) (scn : ℕ) (cs : List BranchId) (ps : List Post) → children_after b cs (map (stamped scn) ps) ≡ called_by b cs ps
stamped_calls b scn cs [] = refl
stamped_calls b scn cs (p ∷ ps) = stamped_calls b scn (if same p.from b && is_exec p.kind then with_once cs p.to else cs) ps

-- no Exec
abbrev pub IsStill : Kind → Type 0
IsStill kind = is_exec kind ≡ false

still_decisions : OfDecisions IsStill
still_decisions = record { committed = λ n. refl; rolled_back = refl; rollback = refl; in_doubt = refl; ack = refl; forgotten = refl; ask = refl }

pub still_calls : (b : BranchId) (cs : List BranchId) (ps : List Post) → AllSay IsStill ps → called_by b cs ps ≡ cs
still_calls b cs [] all = refl
still_calls b cs (p ∷ ps) all = ap (λ q. called_by b (if same p.from b && q then with_once cs p.to else cs) ps) all.0 ∙ by (same p.from b) (still_calls b cs ps all.1)
  where
    by : (q : Bool) → called_by b cs ps ≡ cs → called_by b (if q && false then with_once cs p.to else cs) ps ≡ cs
    by true rest = rest
    by false rest = rest

-- a child of a number is among them
known_child : (cs : List BranchId) (i : ℕ) (c : BranchId) → numbered cs i ≡ Some c → is_among c cs ≡ true
known_child cs zero c is = absurd cc
known_child [] (suc i) c is = absurd cc
known_child (d ∷ cs) (suc zero) c is = let it : Some d ≡ Some c = is in or_left (same d c) (is_among c cs) (same_from_equal d c (let here : d ≡ c = cc in here))
known_child (d ∷ cs) (suc (suc i)) c is = or_right (same d c) (is_among c cs) (known_child cs (suc i) c is)

once_known : (cs : List BranchId) (c : BranchId) → is_among c cs ≡ true → with_once cs c ≡ cs
once_known cs c is = ap (λ q. if q then cs else cs ++ c ∷ []) is

once_new : (cs : List BranchId) (c : BranchId) → is_among c cs ≡ false → with_once cs c ≡ cs ++ c ∷ []
once_new cs c is = ap (λ q. if q then cs else cs ++ c ∷ []) is

-- a child behind the others has the next number
last_numbered : (es : List Edge) (e : Edge) → numbered (es ++ e ∷ []) (length es + 1) ≡ Some e
last_numbered es e = subst (λ n. numbered (es ++ e ∷ []) n ≡ Some e) (let one : suc (length es) ≡ length es + 1 = omega arith in one) (by es)
  where
    by : (es : List Edge) → numbered (es ++ e ∷ []) (suc (length es)) ≡ Some e
    by [] = refl
    by (x ∷ es) = by es

-- an edge that is changed keeps its child
set_peers : (es : List Edge) (i : ℕ) (e x : Edge) → numbered es i ≡ Some e → x.peer ≡ e.peer → map (λ (y : Edge). y.peer) (set_numbered es i x) ≡ map (λ (y : Edge). y.peer) es
set_peers es zero e x at same = refl
set_peers [] (suc i) e x at same = refl
set_peers (y ∷ es) (suc zero) e x at same = (let it : Some y ≡ Some e = at in let here : y ≡ e = cc in ap (λ p. p ∷ map (λ (z : Edge). z.peer) es) (same ∙ sym (ap (λ (z : Edge). z.peer) here)))
set_peers (y ∷ es) (suc (suc i)) e x at same = ap (λ ps. y.peer ∷ ps) (set_peers es (suc i) e x at same)

heard_peers : (from : BranchId) (v : _) (es : List Edge) → map (λ (y : Edge). y.peer) (map (has_voted from v) es) ≡ map (λ (y : Edge). y.peer) es
heard_peers from v [] = refl
heard_peers from v (e ∷ es) = grind (arith, heard_peers from v es)

module _ (k0 : NodeState) (p : Place) (input : Input) (Unborn : BranchId → Type 0) where
  -- a branch that begins was not live
  abbrev pub NotThere : Born → Type 0
  NotThere x = (item_at live_id k0.lives x.me ≡ None) × Unborn x.me

  -- A root that begins has its node's commit point strength, and reads as its statement says.
  pub record IsNewRoot (l : Live) : Type 0 where
    pub strong : l.strength ≡ strength_of p k0
    pub reads : (n : ℕ) (s : Stmt) → IsCall input n s → l.read_at ≡ read_at_by k0.clock s

  -- The children and the parent of a live branch before the draft: a branch that begins by then is a root.
  pub record Same (l : Live) : Type 0 where
    pub old : (z : Live) → item_at live_id k0.lives l.me ≡ Some z → (children_of l ≡ children_of z) × (l.parent ≡ z.parent) × (l.read_at ≡ z.read_at) × (l.strength ≡ z.strength)
    pub new : item_at live_id k0.lives l.me ≡ None → l.parent ≡ None
    pub begun : item_at live_id k0.lives l.me ≡ None → IsNewRoot l

  -- The node's commit point strength, and its clock at a call, before the draft.
  pub record StandsAs (k : NodeState) : Type 0 where
    pub strength : k.stored.durable.strength ≡ k0.stored.durable.strength
    pub clock : (n : ℕ) (s : Stmt) → IsCall input n s → k.clock ≡ k0.clock

  -- A branch that begins below another, which is told so.
  pub record IsOpened (says : List Post) (l : Live) : Type 0 where
    pub parent : BranchId
    pub edge : ℕ
    pub root : BranchId
    pub depth : ℕ
    pub to : BranchId
    pub read_at : Option ℕ
    pub strength : ℕ
    pub came : Came input parent to (kinds.Open edge root depth read_at)
    pub told : says ≡ post l.me parent (kinds.Opened edge strength)
    pub is_parent : l.parent ≡ Some parent
    pub is_root : l.root ≡ root
    pub none : children_of l ≡ []
    pub unborn : Unborn l.me
    pub working : l.phase ≡ phases.Working
    pub reads : l.read_at ≡ read_at
    pub strong : l.strength ≡ strength_of p k0
    pub high : 65 ≤ l.me.session

  -- And after it.
  pub record Grows (says : List Post) (l : Live) : Type 0 where
    pub old : (z : Live) → item_at live_id k0.lives l.me ≡ Some z
        → (children_of l ≡ called_by l.me (children_of z) says) × (l.parent ≡ z.parent) × (l.read_at ≡ z.read_at) × (l.strength ≡ z.strength)
    pub new : item_at live_id k0.lives l.me ≡ None → (l.parent ≡ None) ⊎ IsOpened says l
    pub begun : item_at live_id k0.lives l.me ≡ None → l.parent ≡ None → IsNewRoot l

  abbrev pub Sames : NodeState → Type 0
  Sames k = EachLive (λ l w. Same l) k.lives []

  -- live branches after these messages, and no other sends an Exec
  abbrev pub Leaves : List Post → List Live → Type 0
  Leaves says ls = EachLive (λ l w. Grows says l) ls [] × ((b : BranchId) (cs : List BranchId) → item_at live_id ls b ≡ None → called_by b cs says ≡ cs)

  abbrev pub Grown : TurnDraft → Type 0
  Grown d = Leaves d.says d.after.lives

  -- the branch whose Opened comes is not a child yet
  abbrev pub NewChild : Type 0
  NewChild = (z : Live) → item_at live_id k0.lives z.me ≡ Some z → (from : BranchId) (edge strength : ℕ) → Came input from z.me (kinds.Opened edge strength) → (edge == length z.edges + 1) ≡ true → is_among from (children_of z) ≡ false

  stay : (says : List Post) → AllSay IsStill says → (y : Live) → Same y → Grows says y
  stay says still y is = record { old = λ z found. (let was = is.old z found in (was.0 ∙ sym (still_calls y.me (children_of z) says still), was.1, was.2, was.3)); new = λ none. inl (is.new none); begun = λ none top. is.begun none }

  like : (x y : Live) → y.me ≡ x.me → children_of y ≡ children_of x → y.parent ≡ x.parent → y.read_at ≡ x.read_at → y.strength ≡ x.strength → Same x → Same y
  like x y me kids parent reads strong is = record {
    old = λ z found. (let was = is.old z (subst (λ b. item_at live_id k0.lives b ≡ Some z) me found) in (kids ∙ was.0, parent ∙ was.1, reads ∙ was.2, strong ∙ was.3));
    new = λ none. parent ∙ is.new (subst (λ b. item_at live_id k0.lives b ≡ None) me none);
    begun = λ none. (let root = is.begun (subst (λ b. item_at live_id k0.lives b ≡ None) me none) in record { strong = strong ∙ root.strong; reads = λ n s call. reads ∙ root.reads n s call });
  }

  heard_like : {k : NodeState} (x : Branch) (weight : Option ℕ) (count : ℕ) (a : Answer) (i : ℕ) (e : Edge) → Is_answered k input x weight count a i e → Same x.live → Same (hears_reply x i weight count e).live
  heard_like x weight count a i e answered is =
      like x.live (hears_reply x i weight count e).live refl (set_peers x.live.edges i e _ (reply_is x answered.from answered.call i e answered.waits) refl) refl refl refl is

  module _ (k : NodeState) (now : Sames k) where
    branch : (x : Branch) → branch_at k x.live.me ≡ Some x → Same x.live
    branch x live = now.each x.live.me x.live (branch_parts k x.live.me x live).0

    asked : {x : Branch} {s : Stmt} {given : ℕ} → Asked k input x s given → Same x.live
    asked (steps.By_call n x s call rows has code live may) = branch x live
    asked (steps.By_exec x from call given advice s came live runs) = like x.live _ refl refl refl refl refl (branch x live)

    acting : {l : Live} {b : Bool} {a : Act} → Acting k input l b a → Same l
    acting why =
        acting_so Same (λ l comment b is. like l (collecting (with_comment l comment) b) refl (collected (λ (e : Edge). e.peer) (λ e. refl) l.edges) refl refl refl is)
        (λ l from v is. like l (voted l from v) refl (heard_peers from v l.edges) refl refl refl is) (λ b l found. now.each b l found) why

    calling_back : {x : Branch} {step from : ℕ} → Calls_back k input x step from → Same x.live
    calling_back calls =
        calling_back_so Same (λ before x step is. like x.live (branch_back before x step).live refl refl refl refl refl is) (λ x weight count a i e answered is. heard_like x weight count a i e answered is) (λ b l found. now.each b l found) calls

    quiet : (says : List Post) → AllSay IsStill says → Leaves says k.lives
    quiet says still = (each_same (λ l w. Same l) (λ l w. Grows says l) k.lives [] now (λ y v live any is. stay says still y is), (λ b cs none. still_calls b cs says still))

    put : (says : List Post) → AllSay IsStill says → (l : Live) → Same l → Leaves says (put_item live_id k.lives l)
    put says still l is = (each_changed (λ l w. Same l) (λ l w. Grows says l) k.lives [] now l (stay says still l is) (λ y v live other is. stay says still y is), (λ b cs none. still_calls b cs says still))

    left : (says : List Post) → AllSay IsStill says → (b : BranchId) → Leaves says (drop_item live_id k.lives b)
    left says still b = (each_left (λ l w. Same l) (λ l w. Grows says l) k.lives [] now b (λ y v live other is. stay says still y is), (λ b cs none. still_calls b cs says still))

    answer_still : (x : Branch) (a : Answer) (o : Option BranchId) → AllSay IsStill (answer_says x a o)
    answer_still x a None = tt
    answer_still x a (Some parent) = (refl, tt)

    -- ---- a call of a child

    other_calls : (ss : List Session) (x : Branch) (i : ℕ) (r : Errand) (o : Option BranchId) (b : BranchId) (cs : List BranchId) → same x.live.me b ≡ false → called_by b cs (exec_to ss x i r o) ≡ cs
    other_calls ss x i r None b cs other = refl
    other_calls ss x i r (Some c) b cs other = ap (λ q. if q && true then with_once cs c else cs) other

    own_calls : (ss : List Session) (x : Branch) (i : ℕ) (r : Errand) (c : BranchId) (cs : List BranchId) → called_by x.live.me cs (exec_to ss x i r (Some c)) ≡ with_once cs c
    own_calls ss x i r c cs = ap (λ q. if q && true then with_once cs c else cs) (same_from_equal x.live.me x.live.me refl)

    calls : (x : Branch) (i : ℕ) (r : Errand) (ss : List Session)
        → ((z : Live) → item_at live_id k0.lives x.live.me ≡ Some z → (children_of x.live ≡ called_by x.live.me (children_of z) (exec_to ss x i r (peer_of x.live i))) × (x.live.parent ≡ z.parent) × (x.live.read_at ≡ z.read_at) × (x.live.strength ≡ z.strength))
        → (item_at live_id k0.lives x.live.me ≡ None → x.live.parent ≡ None) → (item_at live_id k0.lives x.live.me ≡ None → IsNewRoot x.live)
        → Leaves (exec_to ss x i r (peer_of x.live i)) (put_item live_id k.lives x.live)
    calls x i r ss old new begun = (
      each_changed (λ l w. Same l) (λ l w. Grows (exec_to ss x i r (peer_of x.live i)) l) k.lives [] now x.live (record { old = old; new = λ none. inl (new none); begun = λ none top. begun none })
          (λ y v live other is. record {
            old = λ z found. (let was = is.old z found in (was.0 ∙ sym (other_calls ss x i r (peer_of x.live i) y.me (children_of z) other), was.1, was.2, was.3));
            new = λ none. inl (is.new none);
            begun = λ none top. is.begun none;
          }),
      silent,
    )
      where
        silent : (b : BranchId) (cs : List BranchId) → item_at live_id (put_item live_id k.lives x.live) b ≡ None → called_by b cs (exec_to ss x i r (peer_of x.live i)) ≡ cs
        silent b cs none = by (same x.live.me b) refl
          where
            by : (q : Bool) → same x.live.me b ≡ q → called_by b cs (exec_to ss x i r (peer_of x.live i)) ≡ cs
            by true here = (let found : item_at live_id (put_item live_id k.lives x.live) b ≡ Some x.live = subst (λ c. item_at live_id (put_item live_id k.lives x.live) c ≡ Some x.live) (equal_from_same x.live.me b here) (put_found live_id k.lives x.live) in absurd (cc (found, none)))
            by false other = other_calls ss x i r (peer_of x.live i) b cs other

    -- over an edge that is there
    known_calls : (ss : List Session) (x : Branch) (i : ℕ) (r : Errand) (o : Option BranchId) (cs : List BranchId) → children_of x.live ≡ cs → peer_of x.live i ≡ o → called_by x.live.me cs (exec_to ss x i r o) ≡ cs
    known_calls ss x i r None cs are is = refl
    known_calls ss x i r (Some c) cs are is =
        let at : numbered (children_of x.live) i ≡ Some c = peers_at x.live.edges i c is in
        own_calls ss x i r c cs ∙ once_known cs c (known_child cs i c (subst (λ ds. numbered ds i ≡ Some c) are at))
      where
        peers_at : (es : List Edge) (i : ℕ) (c : BranchId) → option_map (λ (e : Edge). e.peer) (numbered es i) ≡ Some c → numbered (map (λ (e : Edge). e.peer) es) i ≡ Some c
        peers_at es zero c is = absurd cc
        peers_at [] (suc i) c is = absurd cc
        peers_at (e ∷ es) (suc zero) c is = is
        peers_at (e ∷ es) (suc (suc i)) c is = peers_at es (suc i) c is

    calls_known : (x : Branch) (i : ℕ) (r : Errand) (ss : List Session) → Same x.live → Leaves (exec_to ss x i r (peer_of x.live i)) (put_item live_id k.lives x.live)
    calls_known x i r ss is =
        calls x i r ss (λ z found. (let was = is.old z found in (was.0 ∙ sym (known_calls ss x i r (peer_of x.live i) (children_of z) was.0 refl), was.1, was.2, was.3))) is.new is.begun

    -- over a new one
    calls_new : (x : Branch) (from : BranchId) (link : List ℕ) (strength : ℕ) (r : Errand) (ss : List Session) → Same x.live
        → ((z : Live) → item_at live_id k0.lives x.live.me ≡ Some z → is_among from (children_of z) ≡ false)
        → Leaves (exec_to ss (with_edge x (new_edge from link strength)) (length x.live.edges + 1) r (peer_of (with_edge x (new_edge from link strength)).live (length x.live.edges + 1)))
        (put_item live_id k.lives (with_edge x (new_edge from link strength)).live)
    calls_new x from link strength r ss is fresh =
        let e : Edge = new_edge from link strength in
        let y : Branch = with_edge x e in
        let n : ℕ = length x.live.edges + 1 in
        let peer : peer_of y.live n ≡ Some from = ap (option_map (λ (d : Edge). d.peer)) (last_numbered x.live.edges e) in
        let kids : children_of y.live ≡ children_of x.live ++ from ∷ [] = map-append (λ (d : Edge). d.peer) x.live.edges (e ∷ []) in
        calls y n r ss
        (λ z found. (let was = is.old z found in (
          kids ∙ (ap (λ cs. cs ++ from ∷ []) was.0
              ∙ sym (ap (λ o. called_by y.live.me (children_of z) (exec_to ss y n r o)) peer ∙ (own_calls ss y n r from (children_of z) ∙ once_new (children_of z) from (fresh z found)))),
          was.1,
          was.2,
          was.3,
        )))
        is.new (λ none. (let root = is.begun none in record { strong = root.strong; reads = root.reads }))

    -- ---- acts of the prepare phase

    rolls_still : (l : Live) → AllSay IsStill (to_each l.me kinds.Rollback (children_of l))
    rolls_still l = each_says IsStill l.me kinds.Rollback (children_of l) refl

    acts_grow : (l : Live) (b : Bool) (a : Act) → Same l → Grown (act_turn k l b a)
    acts_grow l b acts.Rest is = put [] tt l is
    acts_grow l b acts.AskDown is = put _ (prepares_say IsStill (λ q comment. refl) l.me l.comment (path_of b (step_from l)) 1 l.edges) l is
    acts_grow l b acts.SayReady is = put _ (one_says IsStill l.me kinds.Ready l.parent refl) (ready l) (like l (ready l) refl refl refl refl refl is)
    acts_grow l b acts.SayReadOnly is = left _ (one_says IsStill l.me kinds.ReadOnly l.parent refl) l.me
    acts_grow l b acts.Seal is = left _ (one_says IsStill l.me kinds.Prepared l.parent refl) l.me
    acts_grow l b (acts.SealAndPass i) is = left _ (one_says IsStill l.me kinds.CommitPoint (peer_of l i) refl) l.me
    acts_grow l b acts.Decide is = left _ (each_says IsStill l.me (kinds.Committed (k.clock + 1)) (site_neighbors l) refl) l.me
    acts_grow l b acts.Finish is = left [] tt l.me
    acts_grow l b acts.Abandon is = left _ (all_append (λ x. IsStill x.kind) (to_one l.me kinds.Abort l.parent) _ (one_says IsStill l.me kinds.Abort l.parent refl) (rolls_still l)) l.me

    says_grow : {says : List Post} → Says k input says → Leaves says k.lives
    says_grow (steps.Gone_replies to from call task came gone) = quiet _ (refl, tt)
    says_grow (steps.Replies_again x to call task t came live last kept) = quiet _ (refl, tt)
    says_grow (steps.Tells s from came kept) = quiet _ (told_says IsStill still_decisions (kept_told s from), tt)
    says_grow (steps.Recovers reco) = quiet _ (askings_say IsStill still_decisions k)
    says_grow (steps.Gone_aborts to from b comment came gone) = quiet _ (refl, tt)
    says_grow (steps.Gone_rolls_back to from came gone) = quiet _ (refl, tt)
    says_grow (steps.Gone_acks to from n came gone) = quiet _ (refl, tt)
    says_grow (steps.Gone_forgets to from came gone) = quiet _ (refl, tt)
    says_grow (steps.Opened_again to parent edge root depth read_at o came found) = quiet _ (refl, tt)
    says_grow (steps.Prepared_again s from b comment came kept again) = quiet _ (refl, tt)
    says_grow (steps.Knows_commit s from n came kept knows) = quiet _ (refl, tt)
    says_grow (steps.Knows_rollback s from came kept knows) = quiet _ (refl, tt)
    says_grow (steps.Is_in_doubt l from came live other) = quiet _ (refl, tt)

  -- ---- every step

  begun_root : (k : NodeState) → Sames k → (l : Live) → item_at live_id k0.lives l.me ≡ None → l.parent ≡ None → IsNewRoot l → EachLive (λ l w. Same l) (k.lives ++ l ∷ []) []
  begun_root k now l none root begun =
      each_begun (λ l w. Same l) (λ l w. Same l) k.lives [] now l (record { old = λ z found. absurd (cc (found, none)); new = λ no. root; begun = λ no. begun }) (λ y v live any is. is)

  strong_as : (k : NodeState) → StandsAs k → strength_of p k ≡ strength_of p k0
  strong_as k stands = ap (λ o. unwrap_or o p.strength) stands.strength

  -- by the statement that it begins with
  root_reads : (k : NodeState) → StandsAs k → (n : ℕ) (s : Stmt) (read_at : Option ℕ) → IsCall input n s → BeginsBy k.clock s read_at → (m : ℕ) (u : Stmt) → IsCall input m u → read_at ≡ read_at_by k0.clock u
  root_reads k stands n s read_at call begins m u other =
      let both : inputs.Call n (Some s) ≡ inputs.Call m (Some u) = sym call ∙ other in
      let one : s ≡ u = cc in
      begins_at begins ∙ (ap (λ c. read_at_by c s) (stands.clock n s call) ∙ ap (read_at_by k0.clock) one)

  module _ (fresh : NewChild) where
    pub grows_on : {k : NodeState} {d : TurnDraft} → Step p input k d → News NotThere p input k → StandsAs k → Sames k → Grown d
    grows_on (steps.Begins {k = k} n s read_at call begins range none step) news stands now =
        grows_on step (begun_news NotThere p input k n read_at news) (record { strength = stands.strength; clock = stands.clock })
        (begun_root k now (fresh_root p k (new_root p k n) read_at) (news.root n s read_at call begins none).0 refl (record { strong = strong_as k stands; reads = λ m u other. root_reads k stands n s read_at call begins m u other }))
    grows_on (steps.Counts_call {k = k} n s call counts step) news stands now = grows_on step (counted_news NotThere p input k n news) (record { strength = stands.strength; clock = stands.clock }) now
    grows_on (steps.Goes_back {k = k} x step goes next) news stands now = grows_on next (back_news NotThere p input k x step news) (record { strength = stands.strength; clock = stands.clock }) now
    grows_on (steps.Pends {k = k} n l given call has live code writer step) news stands now = grows_on step (pends_news NotThere p input k n given call news) (record { strength = stands.strength; clock = stands.clock }) now
    grows_on (steps.Lets_reads_go {k = k} l comment b live begins step) news stands now = grows_on step (lets_news NotThere p input k l.me news) (record { strength = stands.strength; clock = stands.clock }) now
    grows_on (steps.Counts_ack {k = k} s from kept came counts step) news stands now = grows_on step (acked_news NotThere p input k _ news) (record { strength = stands.strength; clock = stands.clock }) now
    grows_on (steps.Sends {k = k} posts why) news stands now = says_grow k now why
    grows_on (steps.Runs {k = k} x s given t ask way) news stands now =
        let y : Branch = branch_ran k.sessions x t (ran p k x.live.me s t) in
        put k now _ (answer_still k now y _ x.live.parent) y.live (like x.live y.live refl refl refl refl refl (asked k now ask))
    grows_on (steps.Goes_nowhere {k = k} x s given r ask way) news stands now = put k now _ (answer_still k now x _ x.live.parent) x.live (asked k now ask)
    grows_on (steps.Calls {k = k} x s given i table ask way) news stands now = calls_known k now x i (errands.Statement (passed_on s table) given) k.sessions (asked k now ask)
    grows_on (steps.Opens {k = k} x s given node link table ask way) news stands now = put k now _ (refl, tt) x.live (asked k now ask)
    grows_on (steps.Goes_on {k = k} x from strength g link opened) news stands now =
        let is : Same x.live = branch k now x opened.live in
        calls_new k now x from link strength (less_room g.errand) k.sessions is
        (λ z found. (let me : z.me ≡ x.live.me = item_is live_id k0.lives x.live.me z found in
        let long : length x.live.edges ≡ length z.edges = sym (length-map x.live.edges (λ (e : Edge). e.peer)) ∙ (ap length (is.old z found).0 ∙ length-map z.edges (λ (e : Edge). e.peer)) in
        fresh z (subst (λ b. item_at live_id k0.lives b ≡ Some z) (sym me) found) from opened.edge strength (subst (λ b. Came input from b (kinds.Opened opened.edge strength)) (sym me) opened.came)
        (subst (λ n. (opened.edge == n + 1) ≡ true) long opened.new)))
    grows_on (steps.Hears_reply {k = k} x weight count a i e answered) news stands now =
        let y : Branch = hears_reply x i weight count e in
        put k now _ (answer_still k now y _ x.live.parent) y.live (heard_like x weight count a i e answered (branch k now x answered.live))
    grows_on (steps.Backs {k = k} x step from i calls next) news stands now = calls_known k now x i (errands.GoBack step) k.sessions (calling_back k now calls)
    grows_on (steps.Is_back {k = k} x step from calls none) news stands now = put k now _ (answer_still k now x _ x.live.parent) x.live (calling_back k now calls)
    grows_on (steps.Opens_branch {k = k} to parent edge root depth read_at came new) news stands now =
        let l : Live = fresh_live (next_child p k) root (Some parent) depth (strength_of p k) read_at in
        let says : List Post = post (next_child p k) parent (kinds.Opened edge (strength_of p k)) in
        let its = news.child to parent edge root depth read_at came new in (
          each_begun (λ l w. Same l) (λ l w. Grows says l) k.lives [] now l
              (record {
                old = λ z found. (let none = its.0 in absurd (cc (found, none)));
                new = λ none. inr (record {
                  parent = parent;
                  edge = edge;
                  root = root;
                  depth = depth;
                  to = to;
                  read_at = read_at;
                  strength = strength_of p k;
                  came = came;
                  told = refl;
                  is_parent = refl;
                  is_root = refl;
                  none = refl;
                  unborn = its.1;
                  working = refl;
                  reads = refl;
                  strong = strong_as k stands;
                  high = omega arith;
                });
                begun = λ none top. (let below : l.parent ≡ Some parent = refl in absurd (cc (below, top)));
              })
              (λ y v live any is. stay says (refl, tt) y is),
          (λ b cs none. still_calls b cs says (refl, tt)),
        )
    grows_on (steps.Acts {k = k} l b a why) news stands now = acts_grow k now l b a (acting k now why)
    grows_on (steps.Drops_told {k = k} l live drops) news stands now = left k now _ (rolls_still k now l) l.me
    grows_on (steps.Drops_asked {k = k} l from live came parent) news stands now = left k now _ (refl, rolls_still k now l) l.me
    grows_on (steps.Does {k = k} s from (nexts.End d) kept why) news stands now = quiet k now _ (passes_say IsStill still_decisions s d)
    grows_on (steps.Does {k = k} s from (nexts.Meet d mixed) kept why) news stands now = quiet k now _ (passes_say IsStill still_decisions s d)
    grows_on (steps.Does {k = k} s from nexts.AckToward kept why) news stands now = quiet k now _ (one_says IsStill s.me kinds.Ack s.toward refl)
    grows_on (steps.Does {k = k} s from nexts.Forget kept why) news stands now = quiet k now _ (each_says IsStill s.me kinds.Forgotten (map (λ b. b.branch) (beyond s)) refl)
    grows_on (steps.Does {k = k} s from nexts.SayForgotten kept why) news stands now = quiet k now _ (refl, tt)
    grows_on (steps.Does {k = k} s from nexts.SayAck kept why) news stands now = quiet k now _ (refl, tt)
    grows_on (steps.Leaves {k = k} n s d x call ends has live) news stands now = left k now _ (rolls_still k now x.live) x.live.me
    grows_on (steps.Sets_savepoint {k = k} n x name call has code live) news stands now = put k now [] tt x.live (branch k now x live)
    grows_on (steps.Gives_up {k = k} n x gives has calls live) news stands now = put k now [] tt x.live (branch k now x live)
    grows_on (steps.Gives_up_commit {k = k} n b (Some l) gives has calls live) news stands now = left k now _ (rolls_still k now l) l.me
    grows_on {k = k} _ news stands now = quiet k now [] tt
