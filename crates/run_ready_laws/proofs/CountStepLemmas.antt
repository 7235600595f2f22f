-- Each step of a node leaves it true that its live branches have no more branches below them than their parents knew and gave room for; and
-- its Replies tell of no more.
use Rattle.std.proofs.Common.{◌≡◌, ◌≢◌, ℕ, zero, suc, ◌+◌, ◌≤◌, Bool, false, List, [], ◌∷◌, ◌++◌, map, length, is_none, option_map, unwrap_or, Option, Some, None, inl, inr, refl, sym, ap, subst, ◌∙◌, arith}
use Rattle.std.proofs.lemmas.Bool.{cond_both}
use Rattle.dtx_values.specs.Limits.{branch_limit}
use Rattle.tran_ids.proofs.ListedLemmas.{item_is}
use Rattle.tran_ids.proofs.NumberedLemmas.{set_found, set_leaves}
use Rattle.session_tree.specs.Live.{children_of, peer_of, fresh_live}
use Rattle.session_tree.specs.Tree.{count, step as step_from}
use Rattle.node_rules.specs.Data.{Answer, Task, BranchId, Edge, Kind, Live, Act, Post, ReplyFields, Input}
use Rattle.node_rules.specs.declared.work.Errand.{Errand}
use Rattle.node_rules.specs.Data.acts
use Rattle.node_rules.specs.Data.kinds
use Rattle.node_rules.specs.declared.session.Session.{Session}
use Rattle.node_rules.specs.declared.session.PendingCall.{PendingCall}
use Rattle.node_rules.specs.declared.session.PendingCall.TheVariants as pending
use Rattle.node_rules.specs.declared.work.Waits.TheVariants as waiting
use Rattle.node_rules.specs.declared.work.Going.{Going}
use Rattle.node_rules.specs.declared.work.Work.{Work}
use Rattle.node_rules.specs.Words.{same, numbered, put_item, drop_item}
use Rattle.node_rules.specs.Inputs.{Came}
use Rattle.node_rules.specs.NodeState.{NodeState, Branch, TurnDraft, live_id, work_id, live_at, branch_at, to_one, to_each, no_work, with_work, kept_row_at}
use Rattle.node_rules.specs.Sessions.{fresh_session, session_at, with_call, needs_rollback}
use Rattle.node_rules.specs.Calls.{call_pends, task_for, next_call, kept_reply, with_answer, answer_says, called, exec_to, reply_fields}
use Rattle.node_rules.specs.Prepare.{path_of, site_neighbors, with_prepare_sent, has_voted, answers_first, ready, act_turn}
use Rattle.node_rules.specs.Turn.{Is_gone, live_or, status_of}
use Rattle.node_rules.proofs.Steps.{Acting}
use Rattle.node_rules.proofs.StandLemmas.{session_set, call_set}
use Rattle.node_rules.proofs.StepLemmas.{acting_so}
use Rattle.node_rules.specs.LiveBranches.{EachLive, works_of}
use Rattle.node_rules.proofs.LiveLemmas.{each_put, each_changed, each_left, each_begun, each_same, branch_parts}
use Rattle.run_base_laws.specs.InTurnLaws.{newest_exec, newest_reply, WaitsFor, call_at}
use Rattle.run_rules.proofs.ListLemmas.{all_append}
use Rattle.run_rules.proofs.AtNodeLemmas.{there_too}
use Rattle.run_base_laws.proofs.RootLemmas.{session_or_before}
use Rattle.run_base_laws.proofs.KindSayLemmas.{OfDecisions, AllSay, one_says, each_says, prepares_say}
use Rattle.run_base_laws.proofs.CallTurnLemmas.{Silent, silent_none, silent_other}
use Rattle.run_base_laws.proofs.InTurnLemmas as turns
use Rattle.run_base_laws.proofs.InTurnLemmas.{IsDumb, dumb_silent}
use Rattle.run_ready_laws.proofs.SentLemmas.{room_of, Gave, Told, Base, AllFit, NewSo, AllNew}
use Rattle.run_ready_laws.proofs.CountLemmas.{counts, edge_counts, map_counts, room_left, spare, task_room, ChildFits, Awaits, ParentFits, child_more, parent_more, Under, waits_child, answers_child, Knows, Called, free_parent, mapped_parent}
use Rattle.run_ready_laws.proofs.RoomLemmas.{new_awaits, calls_parent}

-- ---- numbers

pub fewer : (n r m : ℕ) → n + r ≤ m → n ≤ m
fewer n r m few = omega (arith, few)

pub no_more : (n r m : ℕ) → n + r ≤ m → n + 0 ≤ m
no_more n r m few = omega (arith, few)

pub same_room : (n v given r m : ℕ) → v ≡ n → r ≡ given → v + given ≤ m → n + r ≤ m
same_room n v given r m is at few = omega (arith, is, at, few)

edge_few : (c s r m : ℕ) → c ≤ s → (1 + s) + r ≤ m → c + r ≤ m
edge_few c s r m low few = omega (arith, low, few)

-- ---- messages that are neither calls nor Replies

abbrev pub IsQuiet : Kind → Type 0
IsQuiet kind = IsDumb kind × ((said : List Post) (from to : BranchId) → NewSo said from to kind)

pub quiet_decisions : OfDecisions IsQuiet
quiet_decisions = record {
  committed = λ n. ((refl, refl), (λ said from to. tt));
  rolled_back = ((refl, refl), (λ said from to. tt));
  rollback = ((refl, refl), (λ said from to. tt));
  in_doubt = ((refl, refl), (λ said from to. tt));
  ack = ((refl, refl), (λ said from to. tt));
  forgotten = ((refl, refl), (λ said from to. tt));
  ask = ((refl, refl), (λ said from to. tt));
}

dumb_of : (says : List Post) → AllSay IsQuiet says → AllSay IsDumb says
dumb_of [] all = tt
dumb_of (m ∷ ms) all = (all.0.0, dumb_of ms all.1)

new_of : (said says : List Post) → AllSay IsQuiet says → AllNew said says
new_of said [] all = tt
new_of said (m ∷ ms) all = (all.0.1 said m.from m.to, new_of said ms all.1)

-- ---- words

-- a gone branch is not live
gone_by : (k : NodeState) (b : BranchId) (o : Option Live) → live_at k b ≡ o → live_or (with_work k o) (kept_row_at k b) ≡ Is_gone → o ≡ None
gone_by k b None is gone = refl
gone_by k b (Some l) is gone = absurd cc

pub gone_live : (k : NodeState) (b : BranchId) → status_of k b ≡ Is_gone → live_at k b ≡ None
unfolding status_of
gone_live k b gone = gone_by k b (live_at k b) refl gone

call_code : (ss : List Session) (n m : ℕ) (c : PendingCall) → (session_at (with_call ss n c) m).code ≡ (session_at ss m).code
call_code ss n m c = elim (session_or_before ss n m (record (session_at ss n) { call = c })) [
  | inl still ↦ ap (λ s. s.code) still
  | inr new ↦ ap (λ s. s.code) new.1 ∙ ap (λ i. (session_at ss i).code) new.0
]

pub pends_code : (ss : List Session) (l : Live) (m : ℕ) → (session_at (call_pends ss l) m).code ≡ (session_at ss m).code
pends_code ss l m = cond_both (is_none l.parent) (with_call ss l.me.session pending.Statement) ss (λ xs. (session_at xs m).code ≡ (session_at ss m).code) (λ root. call_code ss l.me.session m pending.Statement) (λ below. refl)

code_at : (ss : List Session) (n code : ℕ) (b : BranchId) (o : Option Session) → numbered ss n ≡ o → (unwrap_or o fresh_session).root ≡ Some b → session_at (needs_rollback ss n code) n ≡ record (session_at ss n) { code = Some code }
code_at ss n code b None is has = absurd cc
code_at ss n code b (Some s) is has = session_set ss n s (record (session_at ss n) { code = Some code }) is

-- a root that is given up needs a rollback
pub given_code : (ss : List Session) (n code : ℕ) (b : BranchId) → (session_at ss n).root ≡ Some b → (session_at (needs_rollback (with_call ss n pending.NoCall) n code) n).code ≡ None → ⊥
given_code ss n code b has none =
    let free : List Session = with_call ss n pending.NoCall in
    let root : (session_at free n).root ≡ Some b = ap (λ s. s.root) (call_set ss n b pending.NoCall has) ∙ has in
    let set : (session_at (needs_rollback free n code) n).code ≡ Some code = ap (λ s. s.code) (code_at free n code b (numbered free n) refl root) in
    absurd (cc (set, none))

pub some_going : (i : ℕ) (o : Option Going) → WaitsFor i o → (g : Going) × (o ≡ Some g)
some_going i None waits = absurd waits
some_going i (Some g) waits = (g, refl)

none_here : (i : ℕ) (e : Edge) → numbered [] i ≡ Some e → ⊥
none_here zero e at = absurd cc
none_here (suc i) e at = absurd cc

pub rolled : (l : Live) → AllSay IsQuiet (to_each l.me kinds.Rollback (children_of l))
rolled l = each_says IsQuiet l.me kinds.Rollback (children_of l) ((refl, refl), (λ said from to. tt))

-- What is known of the message that came.
pub record CameFits (input : Input) (said : List Post) : Type 0 where
  pub exec : (from to : BranchId) (call : ℕ) (task : Task) → Came input from to (kinds.Exec call task) → Gave said from to call (room_of task) × ((v : ℕ) × Base said to from call v × (v + room_of task ≤ branch_limit))
  pub reply : (from to : BranchId) (call : ℕ) (weight : Option ℕ) (count : ℕ) (a : Answer) → Came input from to (kinds.Reply call weight count a) → Told said from to call count

module _ (E : BranchId → Option ℕ) (A : BranchId → Option BranchId) (G Here : BranchId → Type 0) (input : Input) (said : List Post) (received : turns.Received E A G Here input said) (all : AllFit said said) (came_fits : CameFits input said) where
  abbrev pub Begun : Live → Work → Type 0
  Begun = turns.Begun E A G Here input said

  abbrev pub Nodes : NodeState → Type 0
  Nodes k = EachLive Begun k.lives k.works

  abbrev pub Goes : Live → Type 0
  Goes l = l.parent ≡ None → G l.me

  -- what a live branch has and knows
  abbrev pub FitsBy : List Post → Live → Work → Type 0
  FitsBy ms l w = ChildFits ms l.me l.parent (count l) (spare l.parent (count l) w.going) w.came w.going × ParentFits ms (Goes l) l.me (count l) (spare l.parent (count l) w.going) l.edges w

  abbrev pub Old : Live → Work → Type 0
  Old l w = FitsBy said l w

  abbrev pub Olds : NodeState → Type 0
  Olds k = EachLive Old k.lives k.works

  abbrev pub Then : List Post → Live → Work → Type 0
  Then says l w = FitsBy (said ++ says) l w

  -- what a step leaves
  abbrev pub Leaves : TurnDraft → Type 0
  Leaves d = EachLive (Then d.says) d.after.lives d.after.works × AllNew said d.says

  -- a branch that begins
  pub fresh_fits : (ms : List Post) (me root : BranchId) (parent : Option BranchId) (depth strength : ℕ) (read_at : Option ℕ) → FitsBy ms (fresh_live me root parent depth strength read_at) (no_work me)
  fresh_fits ms me root parent depth strength read_at = (
    record {
      told = λ below some. (let low : 1 ≤ 0 = some in absurd (omega (arith, low)));
      kept = λ t is. absurd cc;
      zero_calls = λ below none. refl;
      given = λ q above some. (let low : 1 ≤ 0 = some in absurd (omega (arith, low)));
    },
    record {
      held = λ goes i e at. absurd (none_here i e at);
      waits = λ i e at. absurd (none_here i e at);
      called = λ i e at. absurd (none_here i e at);
      few = (let it : 1 + 0 ≤ branch_limit = omega arith in it);
      opens = λ g link is. absurd cc;
    },
  )

  -- ---- what becomes of the branches

  module _ (k : NodeState) (now : Olds k) where
    pub stay : (says : List Post) → AllNew said says → (y : Live) (v : Work) → Silent y.me says → Old y v → Then says y v
    stay says new y v silent is = (
      child_more said says y.me y.parent (count y) (spare y.parent (count y) v.going) v.came v.going silent.replies is.0,
      parent_more said says (Goes y) y.me (count y) (spare y.parent (count y) v.going) y.edges v new silent is.1,
    )

    pub still : (says : List Post) → AllNew said says → ((b : BranchId) (y : Live) → live_at k b ≡ Some y → Silent y.me says) → EachLive (Then says) k.lives k.works
    still says new silent = each_same Old (Then says) k.lives k.works now (λ y v live any is. stay says new y v (silent y.me y live) is)

    pub quiet : (says : List Post) → AllSay IsQuiet says → EachLive (Then says) k.lives k.works × AllNew said says
    quiet says quiet_so = (still says (new_of said says quiet_so) (λ b y live. dumb_silent y.me says (dumb_of says quiet_so)), new_of said says quiet_so)

    pub left : (b : BranchId) (says : List Post) → AllSay IsQuiet says → EachLive (Then says) (drop_item live_id k.lives b) (drop_item work_id k.works b) × AllNew said says
    left b says quiet_so = (
      each_left Old (Then says) k.lives k.works now b (λ y v live other is. stay says (new_of said says quiet_so) y v (dumb_silent y.me says (dumb_of says quiet_so)) is),
      new_of said says quiet_so,
    )

    pub put : (says : List Post) (l : Live) (w : Work) → w.branch ≡ l.me → AllNew said says → ((b : BranchId) → same l.me b ≡ false → Silent b says) → Then says l w → EachLive (Then says) (put_item live_id k.lives l) (put_item work_id k.works w)
    put says l w mine new silent is = each_put Old (Then says) k.lives k.works now l w mine is (λ y v live other so. stay says new y v (silent y.me other) so)

    pub begun : (says : List Post) → AllSay IsQuiet says → (me root : BranchId) (parent : Option BranchId) (depth strength : ℕ) (read_at : Option ℕ) → EachLive (Then says) (k.lives ++ fresh_live me root parent depth strength read_at ∷ []) k.works × AllNew said says
    begun says quiet_so me root parent depth strength read_at = (
      each_begun Old (Then says) k.lives k.works now (fresh_live me root parent depth strength read_at) (fresh_fits (said ++ says) me root parent depth strength read_at)
          (λ y v live any is. stay says (new_of said says quiet_so) y v (dumb_silent y.me says (dumb_of says quiet_so)) is),
      new_of said says quiet_so,
    )

    pub found_old : (x : Branch) → branch_at k x.live.me ≡ Some x → Old x.live x.work
    found_old x found = let parts = branch_parts k x.live.me x found in subst (Old x.live) (sym parts.1) (now.each x.live.me x.live parts.0)

    -- ---- a branch that answers

    answer_silent : (x : Branch) (a : Answer) (o : Option BranchId) (b : BranchId) → same x.live.me b ≡ false → Silent b (answer_says x a o)
    answer_silent x a None b other = silent_none b
    answer_silent x a (Some parent) b other = silent_other x.live.me parent b _ other

    answer_tells : (x : Branch) (a : Answer) (o : Option BranchId) (q : BranchId) (j v : ℕ) → Told (answer_says x a o) x.live.me q j v → (j ≡ x.work.came.last_call) × (v ≡ count x.live)
    answer_tells x a None q j v is = absurd is
    answer_tells x a (Some parent) q j v (inl here) = (sym here.2.0, sym here.2.1)
    answer_tells x a (Some parent) q j v (inr none) = absurd none

    answer_kept : (x : Branch) (a : Answer) (o : Option BranchId) → x.work.came.reply ≡ None → (t : ReplyFields) → kept_reply x a o ≡ Some t → t.count ≡ count x.live
    answer_kept x a None none t is = absurd (cc (none, is))
    answer_kept x a (Some parent) none t is = let it : Some (reply_fields x.live a) ≡ Some t = is in let here : reply_fields x.live a ≡ t = cc in sym (ap (λ (y : ReplyFields). y.count) here)

    answer_new : (x : Branch) (a : Answer) (r : ℕ) (o : Option BranchId) → Under said x.live.me o (count x.live) r x.work.came → AllNew said (answer_says x a o)
    answer_new x a r None under = tt
    answer_new x a r (Some parent) under =
        let it = under.given parent refl in
        let one : 1 ≤ 1 + counts x.live.edges = omega arith in
        ((one, fewer (count x.live) r branch_limit under.few, (it.0, it.1, (λ v base. fewer (count x.live) r (v + it.0) (it.2 v base)))), tt)

    pub answers_fit : (x : Branch) (a : Answer) (r : ℕ) → x.work.branch ≡ x.live.me → Under said x.live.me x.live.parent (count x.live) r x.work.came → Knows said (Goes x.live) x.live.me x.live.edges x.work → Called x.live.edges x.work
        → EachLive (Then (answer_says x a x.live.parent)) (put_item live_id k.lives x.live) (put_item work_id k.works (with_answer x a).work) × AllNew said (answer_says x a x.live.parent)
    answers_fit x a r mine under knows called_all =
        let says : List Post = answer_says x a x.live.parent in
        let new : AllNew said says = answer_new x a r x.live.parent under in (
          put says x.live (with_answer x a).work mine new (λ b other. answer_silent x a x.live.parent b other) (
            answers_child said says x.live.me x.live.parent (count x.live) r x.work.came (kept_reply x a x.live.parent) (answer_tells x a x.live.parent) (answer_kept x a x.live.parent under.unanswered) under,
            free_parent said says (Goes x.live) x.live.me (count x.live) r x.live.edges (with_answer x a).work under.few knows called_all refl,
          ),
          new,
        )

    -- ---- a branch that calls a child

    -- the message
    exec_silent : (ss : List Session) (x : Branch) (i : ℕ) (errand : Errand) (o : Option BranchId) (b : BranchId) → same x.live.me b ≡ false → Silent b (exec_to ss x i errand o)
    exec_silent ss x i errand None b other = silent_none b
    exec_silent ss x i errand (Some c) b other = silent_other x.live.me c b _ other

    -- no Reply
    exec_mute : (ss : List Session) (x : Branch) (i : ℕ) (errand : Errand) (o : Option BranchId) (b : BranchId) → newest_reply (exec_to ss x i errand o) b ≡ 0
    exec_mute ss x i errand None b = refl
    exec_mute ss x i errand (Some c) b = cond_both (same x.live.me b) _ _ (λ n. n ≡ 0) (λ here. refl) (λ other. refl)

    module _ (ss : List Session) (x : Branch) (i : ℕ) (errand : Errand) (mine : x.work.branch ≡ x.live.me) (under : Under said x.live.me x.live.parent (count x.live) (room_left x.live.parent (count x.live) errand) x.work.came)
        (even : length x.work.calls ≡ length x.live.edges) (made : (e : Edge) → numbered x.live.edges i ≡ Some e → newest_exec said x.live.me e.peer ≡ call_at x.work i)
        (base : (e : Edge) → numbered x.live.edges i ≡ Some e → Base said e.peer x.live.me (call_at x.work i + 1) e.count)
        (knows : Goes x.live → (j : ℕ) (e : Edge) → i ≢ j → numbered x.live.edges j ≡ Some e → Told said e.peer x.live.me (call_at x.work j) e.count)
        (called_others : (j : ℕ) (e : Edge) → i ≢ j → numbered x.live.edges j ≡ Some e → 1 ≤ call_at x.work j) where
      abbrev g : Going
      g = record { errand = errand; waits = waiting.ForReply i }

      abbrev u : Work
      u = (called ss x i errand).work

      abbrev r : ℕ
      r = room_left x.live.parent (count x.live) errand

      -- what the message leaves
      abbrev Calls_so : List Post → Type 0
      Calls_so says = EachLive (Then says) (put_item live_id k.lives x.live) (put_item work_id k.works u) × AllNew said says

      before : (j : ℕ) → i ≢ j → call_at u j ≡ call_at x.work j
      before j other = ap (λ (o : Option ℕ). unwrap_or o 0) (set_leaves x.work.calls i j (next_call x.work i) other)

      one_more : (e : Edge) → numbered x.live.edges i ≡ Some e → call_at u i ≡ call_at x.work i + 1
      one_more e at = let there = there_too x.live.edges x.work.calls i e (sym even) at in ap (λ (o : Option ℕ). unwrap_or o 0) (set_found x.work.calls i there.0 (next_call x.work i) there.1)

      called_now : (e : Edge) → numbered x.live.edges i ≡ Some e → 1 ≤ call_at u i
      called_now e at = omega (arith, one_more e at)

      calls_so : (says : List Post) → newest_reply says x.live.me ≡ 0 → ((b : BranchId) → same x.live.me b ≡ false → Silent b says) → AllNew said says
          → ((e : Edge) → numbered x.live.edges i ≡ Some e → Awaits (said ++ says) x.live.me e.peer (call_at u i) e.count r) → Calls_so says
      calls_so says mute silent new awaits = (
        put says x.live u mine new silent (
          waits_child said says x.live.me x.live.parent (count x.live) r x.work.came g mute under,
          calls_parent said says (Goes x.live) x.live.me (count x.live) r x.live.edges x.work u i g refl refl under.few awaits called_now before knows called_others,
        ),
        new,
      )

      calls_by : (o : Option Edge) → numbered x.live.edges i ≡ o → Calls_so (exec_to ss x i errand (option_map (λ e. e.peer) o))
      calls_by None at = calls_so [] refl (λ b other. silent_none b) tt (λ e there. absurd (cc (at, there)))
      calls_by (Some e) at =
          let known : Base said e.peer x.live.me (next_call x.work i) e.count = base e at in
          calls_so (exec_to ss x i errand (Some e.peer)) (exec_mute ss x i errand (Some e.peer) x.live.me) (exec_silent ss x i errand (Some e.peer))
          ((e.count, known, subst (λ n. e.count + n ≤ branch_limit) (sym (task_room ss x i errand)) (edge_few e.count (counts x.live.edges) r branch_limit (edge_counts x.live.edges i e at) under.few)), tt)
          (λ y there. (let it : Some e ≡ Some y = sym at ∙ there in let here : e ≡ y = cc in
          subst (λ z. Awaits (said ++ exec_to ss x i errand (Some e.peer)) x.live.me z.peer (call_at u i) z.count r) here
          (subst (λ n. Awaits (said ++ exec_to ss x i errand (Some e.peer)) x.live.me e.peer n e.count r) (sym (one_more e at))
          (subst (λ n. Awaits (said ++ exec_to ss x i errand (Some e.peer)) x.live.me e.peer (next_call x.work i) e.count n) (task_room ss x i errand)
          (new_awaits said all x.live.me e.peer (next_call x.work i) e.count (task_for ss x i errand) (ap (λ n. n + 1) (made e at)) known)))))

      pub calls : Calls_so (exec_to ss x i errand (peer_of x.live i))
      calls = calls_by (numbered x.live.edges i) refl

    -- ---- acts

    with_edges : (l : Live) (w : Work) (f : Edge → Edge) → ((e : Edge) → ((f e).peer ≡ e.peer) × ((f e).count ≡ e.count)) → Old l w
        → ChildFits said l.me l.parent (1 + counts (map f l.edges)) (spare l.parent (1 + counts (map f l.edges)) w.going) w.came w.going × ParentFits said (Goes l) l.me (1 + counts (map f l.edges)) (spare l.parent (1 + counts (map f l.edges)) w.going) (map f l.edges) w
    with_edges l w f same_so is =
        subst (λ n. ChildFits said l.me l.parent (1 + n) (spare l.parent (1 + n) w.going) w.came w.going × ParentFits said (Goes l) l.me (1 + n) (spare l.parent (1 + n) w.going) (map f l.edges) w) (sym (map_counts f (λ e. (same_so e).1) l.edges))
        (is.0, mapped_parent said (Goes l) l.me (count l) (spare l.parent (count l) w.going) l.edges w f same_so is.1)

    acting_old : {l : Live} {b : Bool} {a : Act} → Acting k input l b a → Old l (works_of k.works l.me)
    acting_old why =
        acting_so (λ l. Old l (works_of k.works l.me))
        (λ l comment b is. with_edges l (works_of k.works l.me) with_prepare_sent (λ e. (refl, refl)) is)
        (λ l from v is. with_edges l (works_of k.works l.me) (has_voted from v) (λ e. cond_both (answers_first from e) (record e { vote = v }) e (λ y. (y.peer ≡ e.peer) × (y.count ≡ e.count)) (λ here. (refl, refl)) (λ other. (refl, refl))) is)
        (λ b l found. subst (λ m. Old l (works_of k.works m)) (sym (item_is live_id k.lives b l found)) (now.each b l found)) why

    stays : (l : Live) (says : List Post) → AllSay IsQuiet says → Old l (works_of k.works l.me) → EachLive (Then says) (put_item live_id k.lives l) k.works × AllNew said says
    stays l says quiet_so is =
        let new : AllNew said says = new_of said says quiet_so in (
          each_changed Old (Then says) k.lives k.works now l (stay says new l (works_of k.works l.me) (dumb_silent l.me says (dumb_of says quiet_so)) is) (λ y v live other so. stay says new y v (dumb_silent y.me says (dumb_of says quiet_so)) so),
          new,
        )

    pub acts_fit : {l : Live} {b : Bool} (a : Act) → Acting k input l b a → Leaves (act_turn k l b a)
    acts_fit {l = l} acts.Rest why = stays l [] tt (acting_old why)
    acts_fit {l = l} {b = b} acts.AskDown why = stays l _ (prepares_say IsQuiet (λ q c. ((refl, refl), (λ ms from to. tt))) l.me l.comment (path_of b (step_from l)) 1 l.edges) (acting_old why)
    acts_fit {l = l} acts.SayReady why = stays (ready l) _ (one_says IsQuiet l.me kinds.Ready l.parent ((refl, refl), (λ ms from to. tt))) (acting_old why)
    acts_fit {l = l} acts.SayReadOnly why = left l.me _ (one_says IsQuiet l.me kinds.ReadOnly l.parent ((refl, refl), (λ ms from to. tt)))
    acts_fit {l = l} acts.Seal why = left l.me _ (one_says IsQuiet l.me kinds.Prepared l.parent ((refl, refl), (λ ms from to. tt)))
    acts_fit {l = l} (acts.SealAndPass i) why = left l.me _ (one_says IsQuiet l.me kinds.CommitPoint (peer_of l i) ((refl, refl), (λ ms from to. tt)))
    acts_fit {l = l} acts.Decide why = left l.me _ (each_says IsQuiet l.me (kinds.Committed (k.clock + 1)) (site_neighbors l) ((refl, refl), (λ ms from to. tt)))
    acts_fit {l = l} acts.Finish why = left l.me [] tt
    acts_fit {l = l} acts.Abandon why = left l.me _ (all_append (λ x. IsQuiet x.kind) (to_one l.me kinds.Abort l.parent) _ (one_says IsQuiet l.me kinds.Abort l.parent ((refl, refl), (λ ms from to. tt))) (rolled l))
