-- What becomes of an Exec and of a Reply at the branch that they come to.
use Rattle.std.proofs.Common.{◌≡◌, ◌≢◌, ℕ, ◌+◌, ◌<◌, ◌≤◌, ◌==◌, ◌&&◌, ◌||◌, Bool, true, false, if◌then◌else◌, is_none, List, [], length, Option, Some, None, refl, sym, ap, subst, ◌∙◌, arith}
use Rattle.std.specs.Prelude.{nat_lt, nat_le, is_some}
use Rattle.std.proofs.lemmas.Bool.Decides.{nat_tests}
use Rattle.tran_ids.proofs.BranchLemmas.{equal_from_same, same_from_equal}
use Rattle.tran_ids.proofs.ListedLemmas.{put_found}
use Rattle.link_session.proofs.OnceLemmas.{run_is_new}
use Rattle.link_session.specs.Calls.{taken}
use Rattle.dtx_values.specs.Limits.{depth_limit}
use Rattle.session_tree.specs.Live.{next_edge, peer_of}
use Rattle.session_tree.specs.Tree.{room}
use Rattle.node_rules.specs.Data.{Table, Stmt, Answer, Advice, Task, Admit, BranchId, Calls, Edge, Kind, Live, Msg, Place, Input, Post, ReplyFields}
use Rattle.node_rules.specs.declared.work.Work.{Work}
use Rattle.node_rules.specs.declared.work.Going.{Going}
use Rattle.node_rules.specs.declared.work.Errand.{Errand}
use Rattle.node_rules.specs.declared.work.Errand.TheVariants as errands
use Rattle.node_rules.specs.declared.session.Finished.{Finished}
use Rattle.node_rules.specs.Data.admits
use Rattle.node_rules.specs.Data.answers
use Rattle.node_rules.specs.Data.inputs
use Rattle.node_rules.specs.Data.kinds
use Rattle.node_rules.specs.Data.tasks
use Rattle.node_rules.specs.Words.{same, one, item_at, put_item}
use Rattle.node_rules.specs.Refusals.{dtx, ora}
use Rattle.node_rules.specs.Inputs.{Came}
use Rattle.node_rules.specs.NodeState.{NodeState, Branch, live_id, work_id, live_at, with_work, kept_row_at, branch_at, nothing, saying, post}
use Rattle.node_rules.specs.LiveBranches.{works_of, EachLive}
use Rattle.node_rules.specs.Names.{Way, Runs_here, Over, Through, Nowhere_to, Named, A_table, Behind, Unknown, named_by, ref_of, passed_on, way_new, way_named, way_of}
use Rattle.node_rules.specs.Statement.{ran, answer_of_run}
use Rattle.node_rules.specs.Marks.{node_back, branch_back, next_back}
use Rattle.node_rules.specs.Calls.{admit, branch_ran, task_at, backs_to, back_heard, errand_heard, going_heard, reply_heard, reply_fields, kept_reply, with_answer, answer_says, answer_ends, replies, exec_to, nobody_at, called, waits_for_opened, goes, takes_call, says_again, exec_by, reply_of, reply_by, hears_reply, heard_answer, gone_reply, is_gone}
use Rattle.node_rules.specs.Turn.{BranchStatus, Is_live, Is_kept, Is_gone, live_or, status_of, exec_turn, reply_turn}
use Rattle.node_rules.proofs.LiveLemmas.{each_put, each_same, branch_parts, work_is}
use Rattle.node_rules.proofs.StandLemmas.{StandsSo, stands_so, live_so}
use Rattle.node_rules.proofs.Steps.{Is_answered}
use Rattle.run_rules.specs.Runs.{is_accepted}
use Rattle.run_base_laws.proofs.KindSayLemmas.{AllSay}
use Rattle.answer_origin_laws.specs.ReplyLaws.{went_back}
use Rattle.answer_origin_laws.proofs.PlainLemmas.{exec_mute}
use Rattle.answer_origin_laws.proofs.TaleLemmas.{NoReply, IsMute, IsOfStatement, IsOfBack, other_reply, Stays, Says_again, Takes, Answers, Goes_back, Hears, Is_back, calls0, Told, AreGood, Tales, mute_good, mute_replies, came_one, each_of}
use Rattle.tree_trail_laws.proofs.OwnAskLemmas.{target_no as way_target_not}
use Rattle.tree_trail_laws.proofs.LowerLivesLemmas.{bool_cases as bool_by}
use Rattle.node_rules.proofs.WayLemmas.{way_by_name}

-- an Exec comes to no root
abbrev pub ExecsBelow : Input → NodeState → Type 0
ExecsBelow input k = (from to : BranchId) (call : ℕ) (task : Task) → Came input from to (kinds.Exec call task) → (l : Live) → live_at k to ≡ Some l → l.parent ≢ None

-- a statement runs where its table is
way_new_not : (p : Place) (l : Live) (given node : ℕ) (link table : List ℕ) (t : Table) → way_new p l given node link table ≡ Runs_here t → ⊥
way_new_not p l given node link table t is = by (nat_le depth_limit l.depth || (room l given == 0)) (nat_le p.links (length l.edges)) is
  where
    by : (q r : Bool) → (if q then Nowhere_to (dtx 2 []) else (if r then Nowhere_to (ora 2020 []) else Through node link table)) ≡ Runs_here t → ⊥
    by true r at = absurd cc
    by false true at = absurd cc
    by false false at = absurd cc

way_named_table : (p : Place) (k : NodeState) (l : Live) (given : ℕ) (n : Named) (t : Table) → way_named p k.stored.durable l given n ≡ Runs_here t → n ≡ A_table t
way_named_table p k l given Unknown t is = absurd cc
way_named_table p k l given (A_table x) t is = let it : Runs_here x ≡ Runs_here t = is in let here : x ≡ t = cc in ap A_table here
way_named_table p k l given (Behind link table) t is = absurd (way_target_not p l given link table _ t is)

pub way_table : (p : Place) (k : NodeState) (l : Live) (given : ℕ) (s : Stmt) (t : Table) → way_of p k.stored.durable l given s ≡ Runs_here t → named_by k.stored.durable (ref_of s) ≡ A_table t
way_table p k l given s t is = way_named_table p k l given (named_by k.stored.durable (ref_of s)) t (way_by_name p k.stored.durable l given s (Runs_here t) tt is)

-- a call that is not run is not above the last
pub low_call : (c : Calls) (call : ℕ) (a : Admit) → admit c call ≡ a → a ≢ admits.Run → call ≤ c.last_call
unfolding admit
low_call c call a is other = by (nat_lt c.last_call call) refl is
  where
    by : (q : Bool) → nat_lt c.last_call call ≡ q → (if q then admits.Run else (if (call == c.last_call) && is_some c.reply then admits.Again else admits.Ignore)) ≡ a → call ≤ c.last_call
    by true lt at = absurd (other (sym at))
    by false lt at = grind (arith, nat_tests, lt)

pub same_call : (c : Calls) (call : ℕ) → admit c call ≡ admits.Again → c.last_call ≡ call
unfolding admit
same_call c call is = grind (arith, nat_tests)

-- one that is not live
live_none : (k : NodeState) (b : BranchId) (o : Option Live) → live_at k b ≡ o → (st : BranchStatus) → status_of k b ≡ st → ((x : Branch) → st ≢ Is_live x) → o ≡ None
unfolding status_of
live_none k b None at st is not_live = refl
live_none k b (Some l) at st is not_live = absurd (not_live _ (sym is ∙ ap (λ o. live_or (with_work k o) (kept_row_at k b)) at))

module _ (k : NodeState) (m : Msg) (there : (b : BranchId) → item_at live_id k.lives b ≡ None → item_at work_id k.works b ≡ None) where
  abbrev input : Input
  input = inputs.Message m

  abbrev Q : Live → Work → Type 0
  Q l w = w.came ≡ calls0 k input l.me

  abbrev IsExec : BranchId → Type 0
  IsExec b = (from : BranchId) (call : ℕ) (task : Task) → Came input from b (kinds.Exec call task) → call ≤ (calls0 k input b).last_call

  now : EachLive Q k.lives k.works
  now = each_of k there

  abbrev says_by : List Post → List Finished → Live → Work → Type 0
  says_by = Told k input

  -- one that is passed by
  stays : (says : List Post) (ended : List Finished) (y : Live) (v : Work) → NoReply y.me says → IsExec y.me → Q y v → says_by says ended y v
  stays says ended y v silent low is = λ below. Stays is silent low

  passed : (y : Live) → same m.to y.me ≡ false → IsExec y.me
  passed y other from call task came =
      let to : m.to ≡ y.me = (came_one came).1 in
      let both : same m.to y.me ≡ true = same_from_equal m.to y.me to in
      absurd (cc (both, other))

  -- nothing happens
  idle : ((y : Live) → live_at k y.me ≡ Some y → m.to ≡ y.me → IsExec y.me) → Tales k input (nothing k)
  idle low = (each_same Q (says_by [] []) k.lives k.works now (λ y v live any is. stays [] [] y v refl (bool_by (same m.to y.me) (IsExec y.me) (λ here. low y live (equal_from_same m.to y.me here)) (λ other. passed y other)) is), tt)

  -- a branch is changed with its calls
  put_so : (says : List Post) (ended : List Finished) (l : Live) (w : Work) → w.branch ≡ l.me → m.to ≡ l.me → says_by says ended l w → ((b : BranchId) → same l.me b ≡ false → NoReply b says) → EachLive (says_by says ended) (put_item live_id k.lives l) (put_item work_id k.works w)
  put_so says ended l w mine to is silent =
      each_put Q (says_by says ended) k.lives k.works now l w mine is (λ y v live other was. stays says ended y v (silent y.me other) (passed y (ap (λ c. same c y.me) to ∙ other)) was)

  -- the message came to it
  came_at : (b : BranchId) → m.to ≡ b → (from : BranchId) × (kind : Kind) × Came input from b kind
  came_at b to = (m.from, m.kind, subst (λ c. Came input m.from c m.kind) to (record { scn = m.scn; is = refl }))

  -- an answer of a branch
  answer_silent : (z : Branch) (a : Answer) (o : Option BranchId) (b : BranchId) → same z.live.me b ≡ false → NoReply b (answer_says z a o)
  answer_silent z a None b other = refl
  answer_silent z a (Some up) b other = other_reply b z.live.me up (kinds.Reply z.work.came.last_call (reply_fields z.live a).weight (reply_fields z.live a).count a) other

  answer_good : (z : Branch) (a : Answer) (o : Option BranchId) → z.live.parent ≡ o → m.to ≡ z.live.me → AreGood k input (put_item live_id k.lives z.live) (answer_says z a o)
  answer_good z a None is to = tt
  answer_good z a (Some up) is to = (record { came = λ reply. came_at z.live.me to; live = λ good. (z.live, put_found live_id k.lives z.live, (λ none. absurd (cc (is, none)))) }, tt)

  answered_so : (z : Branch) (a : Answer) → z.work.branch ≡ z.live.me → m.to ≡ z.live.me → says_by (answer_says z a z.live.parent) (answer_ends z.live a z.live.parent) z.live (with_answer z a).work
      → EachLive (says_by (answer_says z a z.live.parent) (answer_ends z.live a z.live.parent)) (put_item live_id k.lives z.live) (put_item work_id k.works (with_answer z a).work) × AreGood k input (put_item live_id k.lives z.live) (answer_says z a z.live.parent)
  answered_so z a mine to is = (put_so (answer_says z a z.live.parent) (answer_ends z.live a z.live.parent) z.live (with_answer z a).work mine to is (λ b other. answer_silent z a z.live.parent b other), answer_good z a z.live.parent refl to)

  -- ---- an Exec

  module _ (p : Place) (call : ℕ) (task : Task) (is : m.kind ≡ kinds.Exec call task) where
    came : Came input m.from m.to (kinds.Exec call task)
    came = record { scn = m.scn; is = ap (λ kind. inputs.Message (record { from = m.from; to = m.to; scn = m.scn; kind = kind })) is }

    exec_at : (b : BranchId) → m.to ≡ b → Came input m.from b (kinds.Exec call task)
    exec_at b to = subst (λ c. Came input m.from c (kinds.Exec call task)) to came

    -- any Exec that came is this one
    one_call : (b from : BranchId) (n : ℕ) (other : Task) → Came input from b (kinds.Exec n other) → n ≡ call
    one_call b from n other came = let both : kinds.Exec call task ≡ kinds.Exec n other = sym is ∙ (came_one came).2 in let here : n ≡ call = cc in here

    low : (b : BranchId) → call ≤ (calls0 k input b).last_call → IsExec b
    low b at from n other came = let here : n ≡ call = one_call b from n other came in let it : n ≤ (calls0 k input b).last_call = omega (arith, here, at) in it

    unheard : live_at k m.to ≡ None → (y : Live) → live_at k y.me ≡ Some y → m.to ≡ y.me → ⊥
    unheard none y live to = let gone : live_at k y.me ≡ None = subst (λ b. live_at k b ≡ None) to none in absurd (cc (gone, live))

    gone_so : live_at k m.to ≡ None → Tales k input (saying k (gone_reply m.to m.from call))
    gone_so none = (
      each_same Q (says_by (gone_reply m.to m.from call) []) k.lives k.works now (λ y v live any was.
          (let other : same m.to y.me ≡ false = bool_by (same m.to y.me) (same m.to y.me ≡ false) (λ here. absurd (unheard none y live (equal_from_same m.to y.me here))) (λ at. at) in
          stays (gone_reply m.to m.from call) [] y v (other_reply y.me m.to m.from (kinds.Reply call None 1 (answers.Refused (dtx 8 []))) other) (passed y other) was)),
      (record { came = λ reply. came_at m.to refl; live = λ good. absurd cc }, tt),
    )

    module _ (x : Branch) (me : x.live.me ≡ m.to) (found : branch_at k x.live.me ≡ Some x) (up : x.live.parent ≡ Some m.from) where
      to : m.to ≡ x.live.me
      to = sym me

      work : x.work ≡ works_of k.works x.live.me
      work = (branch_parts k x.live.me x found).1

      last : x.work.came ≡ calls0 k input x.live.me
      last = ap (λ (w : Work). w.came) work

      mine : x.work.branch ≡ x.live.me
      mine = work_is k x.live.me x found

      -- the last Reply once more
      again_so : (o : Option ReplyFields) → x.work.came.reply ≡ o → x.work.came.last_call ≡ call → Tales k input (saying k (says_again x m.from o))
      again_so None none at = idle (λ z live to. low z.me (subst (λ b. call ≤ (calls0 k input b).last_call) (me ∙ to) (let it : call ≤ (calls0 k input x.live.me).last_call = omega (arith, at, ap (λ (c : Calls). c.last_call) last) in it)))
      again_so (Some t) some at = (
        each_same Q (says_by (replies x m.from t) []) k.lives k.works now (λ z v live any was. bool_by (same x.live.me z.me) (says_by (replies x m.from t) [] z v) (λ here. own z v (equal_from_same x.live.me z.me here) was)
            (λ other. stays (replies x m.from t) [] z v (other_reply z.me x.live.me m.from (kinds.Reply x.work.came.last_call t.weight t.count t.result) other) (passed z (ap (λ c. same c z.me) to ∙ other)) was)),
        (record { came = λ reply. came_at x.live.me to; live = λ good. (x.live, live_so k x.live.me x found, (λ none. absurd (cc (up, none)))) }, tt),
      )
        where
          own : (z : Live) (v : Work) → x.live.me ≡ z.me → Q z v → says_by (replies x m.from t) [] z v
          own z v one was below =
              let calls : x.work.came ≡ calls0 k input z.me = last ∙ ap (calls0 k input) one in
              Says_again m.from call task t (exec_at z.me (to ∙ one)) (ap (λ (c : Calls). c.last_call) (sym calls) ∙ at) (ap (λ (c : Calls). c.reply) (sym calls) ∙ some) was
              (ap (λ b. post b m.from (kinds.Reply x.work.came.last_call t.weight t.count t.result)) one ∙ ap (λ (c : Calls). post z.me m.from (kinds.Reply c.last_call t.weight t.count t.result)) calls)

      module _ (new : x.work.came.last_call < call) where
        new_call : (calls0 k input x.live.me).last_call < call
        new_call = subst (λ (c : Calls). c.last_call < call) last new

        -- it is answered at once
        module _ (z : Branch) (a : Answer) (same_me : z.live.me ≡ x.live.me) (same_parent : z.live.parent ≡ x.live.parent) (its : z.work.branch ≡ x.live.me) (calls : z.work.came ≡ taken call) where
          above : z.live.parent ≡ Some m.from
          above = same_parent ∙ up

          pub after : (with_answer z a).work.came ≡ record { last_call = call; reply = Some (reply_fields z.live a) }
          after = ap (λ (c : Calls). record c { reply = kept_reply z a z.live.parent }) calls ∙ ap (λ o. record (taken call) { reply = kept_reply z a o }) above

          pub said : answer_says z a z.live.parent ≡ post z.live.me m.from (kinds.Reply call (reply_fields z.live a).weight (reply_fields z.live a).count a)
          said = ap (answer_says z a) above ∙ ap (λ (c : Calls). post z.live.me m.from (kinds.Reply c.last_call (reply_fields z.live a).weight (reply_fields z.live a).count a)) calls

          pub none_ends : answer_ends z.live a z.live.parent ≡ []
          none_ends = ap (answer_ends z.live a) above

          pub new_there : (calls0 k input z.live.me).last_call < call
          new_there = subst (λ b. (calls0 k input b).last_call < call) (sym same_me) new_call

          pub answers_by : says_by (answer_says z a z.live.parent) (answer_ends z.live a z.live.parent) z.live (with_answer z a).work
              → EachLive (says_by (answer_says z a z.live.parent) (answer_ends z.live a z.live.parent)) (put_item live_id k.lives z.live) (put_item work_id k.works (with_answer z a).work) × AreGood k input (put_item live_id k.lives z.live) (answer_says z a z.live.parent)
          answers_by tale = answered_so z a (its ∙ sym same_me) (to ∙ sym same_me) tale

        -- or the branch waits
        pub waits_so : (says : List Post) (l : Live) (w : Work) → l.me ≡ x.live.me → w.branch ≡ x.live.me → w.came ≡ taken call → AllSay IsMute says
            → EachLive (says_by says []) (put_item live_id k.lives l) (put_item work_id k.works w) × AreGood k input (put_item live_id k.lives l) says
        waits_so says l w l_me its calls mute = (
          put_so says [] l w (its ∙ sym l_me) (to ∙ sym l_me) (λ below. Takes m.from call task (exec_at l.me (to ∙ sym l_me)) (subst (λ b. (calls0 k input b).last_call < call) (sym l_me) new_call) calls (mute_replies l.me says mute)) (λ b other. mute_replies b says mute),
          mute_good k input (put_item live_id k.lives l) says mute,
        )

      exec_so : (x.work.came.last_call < call → Tales k input (task_at p k (takes_call x call task) task)) → (a : Admit) → admit x.work.came call ≡ a → Tales k input (exec_by p k x m.from call task a)
      exec_so runs admits.Ignore at =
          idle (λ z live to. low z.me (subst (λ b. call ≤ (calls0 k input b).last_call) (me ∙ to) (subst (λ (c : Calls). call ≤ c.last_call) last (low_call x.work.came call admits.Ignore at (λ run. absurd cc)))))
      exec_so runs admits.Again at = again_so x.work.came.reply refl (same_call x.work.came call at)
      exec_so runs admits.Run at = runs (run_is_new x.work.came call at)

    by_stand : ((l : Live) → live_at k m.to ≡ Some l → l.parent ≡ Some m.from)
        → ((x : Branch) → x.live.me ≡ m.to → branch_at k x.live.me ≡ Some x → x.live.parent ≡ Some m.from → x.work.came.last_call < call → Tales k input (task_at p k (takes_call x call task) task))
        → (st : BranchStatus) → status_of k m.to ≡ st → StandsSo k m.to st → Tales k input (exec_turn p k m.from m.to call task st)
    by_stand above runs (Is_live x) at so =
        let up : x.live.parent ≡ Some m.from = above x.live (subst (λ b. live_at k b ≡ Some x.live) so.0 (live_so k x.live.me x so.1)) in
        exec_so x so.0 so.1 up (runs x so.0 so.1 up) (admit x.work.came call) refl
    by_stand above runs (Is_kept z) at so = idle (λ y live to. absurd (unheard (live_none k m.to (live_at k m.to) refl (Is_kept z) at (λ x it. absurd cc)) y live to))
    by_stand above runs Is_gone at so = gone_so (live_none k m.to (live_at k m.to) refl Is_gone at (λ x it. absurd cc))

  -- one that brings a statement
  module _ (p : Place) (call given : ℕ) (advice : Option Advice) (s : Stmt) (is : m.kind ≡ kinds.Exec call (tasks.Run given advice s)) where
    abbrev run : Task
    run = tasks.Run given advice s

    module _ (x : Branch) (me : x.live.me ≡ m.to) (found : branch_at k x.live.me ≡ Some x) (up : x.live.parent ≡ Some m.from) (new : x.work.came.last_call < call) where
      abbrev y : Branch
      y = takes_call x call run

      own : x.work.branch ≡ x.live.me
      own = mine p call run is x me found up

      answers_so : (z : Branch) (a : Answer) → z.live.me ≡ x.live.me → z.live.parent ≡ x.live.parent → z.work.branch ≡ x.live.me → z.work.came ≡ taken call → (is_accepted (Some a) ≡ true → (table : Table) × (named_by k.stored.durable (ref_of s) ≡ A_table table))
          → EachLive (says_by (answer_says z a z.live.parent) (answer_ends z.live a z.live.parent)) (put_item live_id k.lives z.live) (put_item work_id k.works (with_answer z a).work) × AreGood k input (put_item live_id k.lives z.live) (answer_says z a z.live.parent)
      answers_so z a same_me same_parent its calls runs =
          answers_by p call run is x me found up new z a same_me same_parent its calls
          (λ below. Answers m.from m.from call given advice s (reply_fields z.live a) (exec_at p call run is z.live.me (sym me ∙ sym same_me)) (new_there p call run is x me found up new z a same_me same_parent its calls)
          (after p call run is x me found up new z a same_me same_parent its calls) (said p call run is x me found up new z a same_me same_parent its calls) (none_ends p call run is x me found up new z a same_me same_parent its calls) runs)

      goes_so : (way : Way) → way_of p k.stored.durable y.live given s ≡ way → Tales k input (goes p k y s given way)
      goes_so (Runs_here t) at =
          answers_so (branch_ran k.sessions y t (ran p k y.live.me s t)) (answer_of_run (ran p k y.live.me s t)) refl refl own refl (λ good. (t, way_table p k y.live given s t at))
      goes_so (Nowhere_to r) at = answers_so y (answers.Refused r) refl refl own refl (λ good. absurd cc)
      goes_so (Over i table) at =
          waits_so p call run is x me found up new (exec_to k.sessions y i (errands.Statement (passed_on s table) given) (peer_of y.live i)) y.live (called k.sessions y i (errands.Statement (passed_on s table) given)).work refl own refl
          (exec_mute k.sessions y i (errands.Statement (passed_on s table) given) (peer_of y.live i))
      goes_so (Through node link table) at =
          waits_so p call run is x me found up new (post y.live.me (nobody_at node) (kinds.Open (next_edge y.live) y.live.root (y.live.depth + 1) y.live.read_at)) y.live (waits_for_opened y link (passed_on s table) given).work refl own refl (refl, tt)

    run_tales : ((l : Live) → live_at k m.to ≡ Some l → l.parent ≡ Some m.from) → Tales k input (exec_turn p k m.from m.to call run (status_of k m.to))
    run_tales above =
        by_stand p call run is above (λ x me found up new. goes_so x me found up new (way_of p k.stored.durable (takes_call x call run).live given s) refl) (status_of k m.to) refl (stands_so k m.to)

  -- BACK
  module _ (p : Place) (call keep : ℕ) (is : m.kind ≡ kinds.Exec call (tasks.GoBack keep)) where
    abbrev back : Task
    back = tasks.GoBack keep

    module _ (x : Branch) (me : x.live.me ≡ m.to) (found : branch_at k x.live.me ≡ Some x) (up : x.live.parent ≡ Some m.from) (new : x.work.came.last_call < call) where
      abbrev k_back : NodeState
      k_back = node_back k (takes_call x call back) keep

      abbrev z_back : Branch
      z_back = branch_back k (takes_call x call back) keep

      own_back : x.work.branch ≡ x.live.me
      own_back = mine p call back is x me found up

      next_so : (o : Option ℕ) → Tales k input (backs_to k_back z_back keep o)
      next_so (Some i) =
          waits_so p call back is x me found up new (exec_to k_back.sessions z_back i (errands.GoBack keep) (peer_of z_back.live i)) z_back.live (called k_back.sessions z_back i (errands.GoBack keep)).work refl own_back refl (exec_mute k_back.sessions z_back i (errands.GoBack keep) (peer_of z_back.live i))
      next_so None =
          answers_by p call back is x me found up new z_back went_back refl refl own_back refl
          (λ below. Goes_back m.from m.from call keep (reply_fields z_back.live went_back) (exec_at p call back is z_back.live.me (sym me)) (new_there p call back is x me found up new z_back went_back refl refl own_back refl)
          (after p call back is x me found up new z_back went_back refl refl own_back refl) (said p call back is x me found up new z_back went_back refl refl own_back refl) refl)

    back_tales : ((l : Live) → live_at k m.to ≡ Some l → l.parent ≡ Some m.from) → Tales k input (exec_turn p k m.from m.to call back (status_of k m.to))
    back_tales above =
        by_stand p call back is above (λ x me found up new. next_so x me found up new (next_back (branch_back k (takes_call x call back) keep).work keep 1)) (status_of k m.to) refl (stands_so k m.to)

  pub exec_tales : (p : Place) (call : ℕ) (task : Task) → m.kind ≡ kinds.Exec call task → ((l : Live) → live_at k m.to ≡ Some l → l.parent ≡ Some m.from) → Tales k input (exec_turn p k m.from m.to call task (status_of k m.to))
  exec_tales p call (tasks.Run given advice s) is above = run_tales p call given advice s is above
  exec_tales p call (tasks.GoBack keep) is above = back_tales p call keep is above

  -- ---- a Reply

  module _ (call : ℕ) (weight : Option ℕ) (count : ℕ) (a : Answer) (is : m.kind ≡ kinds.Reply call weight count a) where
    no_exec : (b : BranchId) → IsExec b
    no_exec b from n task other = let both : kinds.Reply call weight count a ≡ kinds.Exec n task = sym is ∙ (came_one other).2 in absurd (cc both)

    came_reply : (b : BranchId) → m.to ≡ b → Came input m.from b (kinds.Reply call weight count a)
    came_reply b to = subst (λ c. Came input m.from c (kinds.Reply call weight count a)) to (record { scn = m.scn; is = ap (λ kind. inputs.Message (record { from = m.from; to = m.to; scn = m.scn; kind = kind })) is })

    module _ (x : Branch) (me : x.live.me ≡ m.to) (found : branch_at k x.live.me ≡ Some x) where
      last_reply : x.work.came ≡ calls0 k input x.live.me
      last_reply = ap (λ (w : Work). w.came) (branch_parts k x.live.me x found).1

      module _ (ie : ℕ × Edge) (at : reply_of x m.from call ≡ Some ie) where
        abbrev z : Branch
        z = hears_reply x ie.0 weight count ie.1

        to_it : m.to ≡ x.live.me
        to_it = sym me

        own_work : x.work.branch ≡ x.live.me
        own_work = work_is k x.live.me x found

        it : Is_answered k input x weight count a ie.0 ie.1
        it = record { from = m.from; call = call; came = came_reply x.live.me to_it; live = found; waits = at }

        -- it is handed on
        module _ (statement : is_accepted (Some a) ≡ true → (g : Going) × (x.work.going ≡ Some g) × IsOfStatement g.errand) where
          abbrev b : Answer
          b = heard_answer z.live ie.1.link a

          below_same : (up : BranchId) → x.live.parent ≡ Some up → b ≡ a
          below_same up parent = ap (λ o. if is_none o && is_gone a then answers.Refused (dtx 8 (one ie.1.link)) else a) parent

          heard_tale : (o : Option BranchId) → x.live.parent ≡ o → says_by (answer_says z b z.live.parent) (answer_ends z.live b z.live.parent) z.live (with_answer z b).work
          heard_tale None none = λ below. absurd (below none)
          heard_tale (Some up) parent = λ below.
              Hears x up weight count a ie.0 ie.1 (reply_fields z.live b) it refl parent (below_same up parent) statement
              (ap (λ (o : Option BranchId). record x.work.came { reply = kept_reply z b o }) parent ∙ ap (λ (c : Calls). record c { reply = Some (reply_fields z.live b) }) last_reply)
              (ap (answer_says z b) parent ∙ ap (λ (c : Calls). post z.live.me up (kinds.Reply c.last_call (reply_fields z.live b).weight (reply_fields z.live b).count b)) last_reply)

          hears_so : Tales k input (reply_heard k z ie.1.link a)
          hears_so = answered_so z b own_work to_it (heard_tale x.live.parent refl)

        -- the next child goes back, or the branch is back
        module _ (g : Going) (going : x.work.going ≡ Some g) (step : ℕ) (errand : g.errand ≡ errands.GoBack step) where
          back_tale : (o : Option BranchId) → x.live.parent ≡ o → says_by (answer_says z went_back z.live.parent) (answer_ends z.live went_back z.live.parent) z.live (with_answer z went_back).work
          back_tale None none = λ below. absurd (below none)
          back_tale (Some up) parent = λ below.
              Is_back x up weight count a ie.0 ie.1 g (reply_fields z.live went_back) it refl parent going (subst IsOfBack (sym errand) tt) refl
              (ap (λ (o : Option BranchId). record x.work.came { reply = kept_reply z went_back o }) parent ∙ ap (λ (c : Calls). record c { reply = Some (reply_fields z.live went_back) }) last_reply)
              (ap (answer_says z went_back) parent ∙ ap (λ (c : Calls). post z.live.me up (kinds.Reply c.last_call (reply_fields z.live went_back).weight (reply_fields z.live went_back).count went_back)) last_reply)

          calls_so : (o : Option ℕ) → Tales k input (backs_to k z step o)
          calls_so None = answered_so z went_back own_work to_it (back_tale x.live.parent refl)
          calls_so (Some i) =
              let says : List Post = exec_to k.sessions z i (errands.GoBack step) (peer_of z.live i) in
              let mute : AllSay IsMute says = exec_mute k.sessions z i (errands.GoBack step) (peer_of z.live i) in (
                put_so says [] z.live (called k.sessions z i (errands.GoBack step)).work own_work to_it (λ below. Stays last_reply (mute_replies z.live.me says mute) (no_exec z.live.me)) (λ c other. mute_replies c says mute),
                mute_good k input (put_item live_id k.lives z.live) says mute,
              )

        back_so : (g : Going) → x.work.going ≡ Some g → (step : ℕ) → g.errand ≡ errands.GoBack step → (c : Answer) → a ≡ c → Tales k input (back_heard k z step ie.0 ie.1.link c)
        back_so g going step errand (answers.Refused r) refused = subst (λ c. Tales k input (reply_heard k z ie.1.link c)) refused (hears_so (λ good. absurd (let none : is_accepted (Some a) ≡ false = ap (λ c. is_accepted (Some c)) refused in cc (none, good))))
        back_so g going step errand (answers.Did d n) done = calls_so g going step errand (next_back z.work step (ie.0 + 1))
        back_so g going step errand (answers.Found rows) done = calls_so g going step errand (next_back z.work step (ie.0 + 1))

        errand_so : (g : Going) → x.work.going ≡ Some g → (errand : Errand) → g.errand ≡ errand → Tales k input (errand_heard k z ie.0 ie.1.link a errand)
        errand_so g going (errands.Statement s given) errand = hears_so (λ good. (g, going, subst IsOfStatement (sym errand) tt))
        errand_so g going (errands.GoBack step) errand = back_so g going step errand a refl

        heard_so : (o : Option Going) → x.work.going ≡ o → Tales k input (going_heard k z ie.0 ie.1.link a o)
        heard_so None none = idle (λ y live there. no_exec y.me)
        heard_so (Some g) going = errand_so g going g.errand refl

      reply_so : (o : Option (ℕ × Edge)) → reply_of x m.from call ≡ o → Tales k input (reply_by k x weight count a o)
      reply_so None at = idle (λ y live to. no_exec y.me)
      reply_so (Some ie) at = heard_so ie at x.work.going refl

    pub reply_tales : Tales k input (reply_turn k m.from call weight count a (status_of k m.to))
    reply_tales = by (status_of k m.to) (stands_so k m.to)
      where
        by : (st : BranchStatus) → StandsSo k m.to st → Tales k input (reply_turn k m.from call weight count a st)
        by (Is_live x) so = reply_so x so.0 so.1 (reply_of x m.from call) refl
        by (Is_kept s) so = idle (λ y live to. no_exec y.me)
        by Is_gone so = idle (λ y live to. no_exec y.me)
