-- What a branch notes has no greater step than the branch has: the last call that came to it, or at a root the last call of its client. So what it noted
-- up to its step is all that it noted.
use Rattle.std.proofs.Common.{◌≡◌, ◌≢◌, ◌≤◌, ◌&&◌, ◌==◌, ℕ, Bool, true, false, if◌then◌else◌, is_none, is_some, List, [], nat_le, nat_lt, Option, Some, None, refl, sym, ap, subst, ◌∙◌, arith, ◌++◌, ◌∷◌, ◌+◌, inl, inr, length}
use Rattle.std.specs.List.{AllByRecursion}
use Rattle.std.proofs.lemmas.Bool.Decides.{nat_tests}
use Rattle.tran_ids.proofs.ListedLemmas.{item_is}
use Rattle.commit_forget.specs.declared.next.Next.TheVariants as nexts
use Rattle.node_rules.specs.Data.{Act, BranchId, Live, Note, Place, Input, Stmt, Table, Answer, Decision, Task}
use Rattle.node_rules.specs.Data.acts
use Rattle.node_rules.specs.Data.admits
use Rattle.node_rules.specs.declared.session.Session.{Session}
use Rattle.node_rules.specs.declared.work.Errand.{Errand}
use Rattle.node_rules.specs.declared.work.Errand.TheVariants as errands
use Rattle.node_rules.specs.declared.work.Work.{Work}
use Rattle.node_rules.specs.NodeState.{NodeState, Branch, TurnDraft, live_id, branch_at, work_id, no_work}
use Rattle.node_rules.specs.Statement.{StmtOutcome, Refuses, Reads, Writes, ran, after_run, answer_of_run}
use Rattle.node_rules.specs.Calls.{admit, with_answer, called, with_edge, branch_ran, less_room, hears_reply, call_pends, answered_sessions, heard_sessions, is_gone, takes_call, calls_with, waits_for_opened, heard_answer}
use Rattle.node_rules.specs.Client.{gives_up, marked, begun_by, new_root, fresh_root}
use Rattle.node_rules.specs.LiveBranches.{EachLive, works_of}
use Rattle.node_rules.specs.Marks.{step_of, back_to, run_note, call_note, branch_back}
use Rattle.node_rules.specs.Names.{passed_on}
use Rattle.node_rules.specs.Prepare.{ready, abandoned_sessions, is_alone}
use Rattle.node_rules.specs.Sessions.{session_at, with_call_of, with_call, needs_rollback, commit_ended, commit_is_pending, no_transaction}
use Rattle.node_rules.proofs.LiveLemmas.{none_live, each_put, each_changed, each_left, each_begun, branch_parts, work_is, each_same}
use Rattle.node_rules.proofs.StepLemmas.{acting_so}
use Rattle.node_rules.proofs.Steps as steps
use Rattle.node_rules.proofs.Steps.{Step, Asked, Acting, Goes_to, Calls_back}
use Rattle.run_base_laws.proofs.RootLemmas.{SessionsFit, session_or_before, begun_so, counted_so, pends_so, back_so, sessions_on, started_fits, sessions_keep}
use Rattle.run_base_laws.proofs.RestRunLemmas.{roots_wait}
use Rattle.run_rules.proofs.AtNodeLemmas.{item_there}
use Rattle.node_rules.proofs.StandLemmas.{session_set}
use Rattle.std.proofs.lemmas.Bool.{cond_both}
use Rattle.node_rules.specs.Inputs.{IsSession}
use Rattle.run_base_laws.proofs.NodeLemmas.{KeepsAlone, kept_alone}
use Rattle.run_rules.proofs.ListLemmas.{all_weaker, all_append, all_filter}
use Rattle.savepoints.specs.Marks.{calls_in, is_until}
use Rattle.session_tree.specs.Live.{new_edge}
use Rattle.back_laws.specs.BackLaws.{call_in, StepsAreTaken}
use Rattle.back_laws.proofs.StepLemmas.{is_up_to, filter_all}
use Rattle.back_laws.proofs.NoteLemmas.{calls_are_noted}
use Rattle.node_rules.specs.Words.{set_numbered, put_item, drop_item}
use Rattle.node_rules.specs.declared.session.PendingCall.{PendingCall}
use Rattle.node_rules.specs.declared.session.PendingCall.TheVariants as pending
use Rattle.node_rules.specs.Data.decisions
use Rattle.node_rules.specs.Data.tasks
use Rattle.node_rules.specs.Data.answers
use Rattle.node_rules.specs.Data.dones
use Rattle.node_rules.specs.Commit.{decided_sessions}
use Rattle.node_rules.specs.Refusals.{dtx}
use Rattle.node_rules.specs.Turn.{kept_by}

-- notes of no greater step
abbrev Upto : ℕ → List Note → Type 0
Upto top ns = AllByRecursion (λ n. n.step ≤ top) ns

-- sessions after a turn: no transaction is new, and no call was forgotten
pub record Rises (ss after : List Session) : Type 0 where
  pub seq : (n : ℕ) → (session_at after n).seq ≡ (session_at ss n).seq
  pub calls : (n : ℕ) → (session_at ss n).calls ≤ (session_at after n).calls
  pub root : (n : ℕ) (b : BranchId) → (session_at after n).root ≡ Some b → (session_at ss n).root ≡ Some b

-- Notes of a branch below a root are up to the last call that came to it, and those of the transaction of a session up to its calls; each root has
-- a number that its session has given.
abbrev pub Fits : List Session → Live → Work → Type 0
Fits ss l w = (l.parent ≢ None → Upto w.came.last_call w.marks.notes) × (l.parent ≡ None → l.me.seq ≤ (session_at ss l.me.session).seq)
    × (l.parent ≡ None → (session_at ss l.me.session).root ≡ Some l.me → Upto (session_at ss l.me.session).calls w.marks.notes)

higher : (a b : ℕ) (ns : List Note) → a ≤ b → Upto a ns → Upto b ns
higher a b ns less so = all_weaker (λ (n : Note). n.step ≤ a) (λ n. n.step ≤ b) (λ n low. omega (arith, low, less)) ns so

module _ (ss after : List Session) (rises : Rises ss after) (l : Live) (w : Work) where
  fits_rise : Fits ss l w → Fits after l w
  fits_rise so = (
    so.0,
    λ top. subst (λ n. l.me.seq ≤ n) (sym (rises.seq l.me.session)) (so.1 top),
    λ top has. higher (session_at ss l.me.session).calls (session_at after l.me.session).calls w.marks.notes (rises.calls l.me.session) (so.2 top (rises.root l.me.session l.me has)),
  )

pub rises_same : (ss : List Session) → Rises ss ss
rises_same ss = record { seq = λ n. refl; calls = λ n. omega arith; root = λ n b has. has }

pub rises_on : (ss mid after : List Session) → Rises ss mid → Rises mid after → Rises ss after
rises_on ss mid after one two = record {
  seq = λ n. two.seq n ∙ one.seq n;
  calls = λ n. (let low = one.calls n in let high = two.calls n in omega (arith, low, high));
  root = λ n b has. one.root n b (two.root n b has);
}

module _ (ss : List Session) where
  pub set_rises : (n : ℕ) (s : Session) → s.seq ≡ (session_at ss n).seq → (session_at ss n).calls ≤ s.calls → ((b : BranchId) → s.root ≡ Some b → (session_at ss n).root ≡ Some b) → Rises ss (set_numbered ss n s)
  set_rises n s seq calls root = record { seq = λ m. seq_at m; calls = λ m. calls_at m; root = λ m b. root_at m b }
    where
      seq_at : (m : ℕ) → (session_at (set_numbered ss n s) m).seq ≡ (session_at ss m).seq
      seq_at m = elim (session_or_before ss n m s) [ inl still ↦ ap (λ (x : Session). x.seq) still | inr new ↦ ap (λ (x : Session). x.seq) new.1 ∙ (seq ∙ ap (λ i. (session_at ss i).seq) new.0) ]

      calls_at : (m : ℕ) → (session_at ss m).calls ≤ (session_at (set_numbered ss n s) m).calls
      calls_at m = elim (session_or_before ss n m s) [
        | inl still ↦ subst (λ (x : Session). (session_at ss m).calls ≤ x.calls) (sym still) (omega arith)
        | inr new ↦ subst (λ (x : Session). (session_at ss m).calls ≤ x.calls) (sym new.1) (subst (λ i. (session_at ss i).calls ≤ s.calls) new.0 calls)
      ]

      root_at : (m : ℕ) (b : BranchId) → (session_at (set_numbered ss n s) m).root ≡ Some b → (session_at ss m).root ≡ Some b
      root_at m b has = elim (session_or_before ss n m s) [
        | inl still ↦ ap (λ (x : Session). x.root) (sym still) ∙ has
        | inr new ↦ subst (λ i. (session_at ss i).root ≡ Some b) new.0 (root b (ap (λ (x : Session). x.root) (sym new.1) ∙ has))
      ]

  pub call_rises : (n : ℕ) (c : PendingCall) → Rises ss (with_call ss n c)
  call_rises n c = set_rises n (record (session_at ss n) { call = c }) refl (omega arith) (λ b has. has)

  pub counted_rises : (n : ℕ) (o : Option BranchId) → Rises ss (with_call_of ss n o)
  counted_rises n None = rises_same ss
  counted_rises n (Some root) = set_rises n (record (session_at ss n) { calls = (session_at ss n).calls + 1 }) refl (omega arith) (λ b has. has)

  pub needs_rises : (n code : ℕ) → Rises ss (needs_rollback ss n code)
  needs_rises n code = set_rises n (record (session_at ss n) { code = Some code }) refl (omega arith) (λ b has. has)

  pub done_rises : (n : ℕ) → Rises ss (set_numbered ss n (no_transaction (session_at ss n)))
  done_rises n = set_rises n (no_transaction (session_at ss n)) refl (omega arith) (λ b has. absurd cc)

  pub ended_rises : (root : BranchId) → Rises ss (commit_ended ss root)
  ended_rises root = cond_both (commit_is_pending ss root) (set_numbered ss root.session (no_transaction (session_at ss root.session))) ss (Rises ss) (λ is. done_rises root.session) (λ other. rises_same ss)

  pub pends_rises : (l : Live) → Rises ss (call_pends ss l)
  pends_rises l = cond_both (is_none l.parent) (with_call ss l.me.session pending.Statement) ss (Rises ss) (λ root. call_rises l.me.session pending.Statement) (λ below. rises_same ss)

  pub answered_rises : (l : Live) (parent : Option BranchId) → Rises ss (answered_sessions ss l parent)
  answered_rises l None = call_rises l.me.session pending.NoCall
  answered_rises l (Some parent) = rises_same ss

  pub heard_rises : (l : Live) (a : Answer) → Rises ss (heard_sessions ss l a)
  heard_rises l a = cond_both (is_none l.parent && is_gone a) (needs_rollback ss l.me.session (dtx 8 []).code) ss (Rises ss) (λ gone. needs_rises l.me.session (dtx 8 []).code) (λ other. rises_same ss)

  pub decided_rises : (b : BranchId) (d : Decision) → Rises ss (decided_sessions ss b d)
  decided_rises b (decisions.Commit n) = rises_same ss
  decided_rises b decisions.Rollback = ended_rises b

  pub abandoned_rises : (l : Live) (parent : Option BranchId) → Rises ss (abandoned_sessions ss l parent)
  abandoned_rises l None = ended_rises l.me
  abandoned_rises l (Some parent) = rises_same ss

  pub ended_if_rises : (here : Bool) (root : BranchId) → Rises ss (if here then commit_ended ss root else ss)
  ended_if_rises true root = ended_rises root
  ended_if_rises false root = rises_same ss

-- below a root the step is that of the last call, and at a root that of its session
step_low : (ss : List Session) (x : Branch) → x.live.parent ≢ None → step_of ss x ≤ x.work.came.last_call
step_low ss x below = by x.live.parent refl
  where
    by : (o : Option BranchId) → x.live.parent ≡ o → (if is_none o then (session_at ss x.live.me.session).calls else x.work.came.last_call) ≤ x.work.came.last_call
    by None none = absurd (below none)
    by (Some p) some = omega arith

step_top : (ss : List Session) (x : Branch) → x.live.parent ≡ None → step_of ss x ≤ (session_at ss x.live.me.session).calls
step_top ss x top = subst (λ o. (if is_none o then (session_at ss x.live.me.session).calls else x.work.came.last_call) ≤ (session_at ss x.live.me.session).calls) (sym top) (omega arith)

pub admitted : (x : Branch) (call : ℕ) → admit x.work.came call ≡ admits.Run → x.work.came.last_call ≤ call
unfolding admit
admitted x call runs = by (nat_lt x.work.came.last_call call) refl ((call == x.work.came.last_call) && is_some x.work.came.reply) runs
  where
    by : (q : Bool) → nat_lt x.work.came.last_call call ≡ q → (r : Bool) → (if q then admits.Run else (if r then admits.Again else admits.Ignore)) ≡ admits.Run → x.work.came.last_call ≤ call
    by true less r runs = grind (arith, nat_tests, less)
    by false less true runs = absurd cc
    by false less false runs = absurd cc

-- a note of this step more
noted : (ss : List Session) (x : Branch) (n : Note) → n.step ≡ step_of ss x → Fits ss x.live x.work → Fits ss x.live (record x.work { marks = record x.work.marks { notes = x.work.marks.notes ++ n ∷ [] } })
noted ss x n is so = (
  λ below. all_append (λ (q : Note). q.step ≤ x.work.came.last_call) x.work.marks.notes (n ∷ []) (so.0 below) (subst (λ j. j ≤ x.work.came.last_call) (sym is) (step_low ss x below), tt),
  so.1,
  λ top has. all_append (λ (q : Note). q.step ≤ (session_at ss x.live.me.session).calls) x.work.marks.notes (n ∷ []) (so.2 top has) (subst (λ j. j ≤ (session_at ss x.live.me.session).calls) (sym is) (step_top ss x top), tt),
)

abbrev pub Nodes : NodeState → Type 0
Nodes k = EachLive (Fits k.sessions) k.lives k.works

-- what is known of a branch that goes on
record Ready (ss : List Session) (x : Branch) : Type 0 where
  pub fits : Fits ss x.live x.work
  pub mine : x.work.branch ≡ x.live.me

module _ (k : NodeState) (now : Nodes k) where
  branch_fits : (x : Branch) → branch_at k x.live.me ≡ Some x → Fits k.sessions x.live x.work
  branch_fits x found = let parts = branch_parts k x.live.me x found in subst (λ (w : Work). Fits k.sessions x.live w) (sym parts.1) (now.each x.live.me x.live parts.0)

  took : (x : Branch) (call : ℕ) (task : Task) → branch_at k x.live.me ≡ Some x → admit x.work.came call ≡ admits.Run → Fits k.sessions (takes_call x call task).live (takes_call x call task).work
  took x call (tasks.Run given advice s) live runs = (λ below. higher x.work.came.last_call call x.work.marks.notes (admitted x call runs) ((branch_fits x live).0 below), (branch_fits x live).1, (branch_fits x live).2)
  took x call (tasks.GoBack keep) live runs = (λ below. higher x.work.came.last_call call x.work.marks.notes (admitted x call runs) ((branch_fits x live).0 below), (branch_fits x live).1, (branch_fits x live).2)

  asked_ready : {input : Input} {x : Branch} {s : Stmt} {given : ℕ} → Asked k input x s given → Ready k.sessions x
  asked_ready (steps.By_call n x s call rows has code live may) = record { fits = branch_fits x live; mine = work_is k x.live.me x live }
  asked_ready (steps.By_exec x from call given advice s came live runs) = record { fits = took x call (tasks.Run given advice s) live runs; mine = work_is k x.live.me x live }

  goes_ready : {input : Input} {x : Branch} {step : ℕ} → Goes_to k input x step → Ready k.sessions x
  goes_ready (steps.By_rollback_to n x name step call has code live set) = record { fits = branch_fits x live; mine = work_is k x.live.me x live }
  goes_ready (steps.By_back x from call keep came live runs) = record { fits = took x call (tasks.GoBack keep) live runs; mine = work_is k x.live.me x live }

  put : (x : Branch) (w : Work) → w.branch ≡ x.live.me → (l : Live) → l.me ≡ x.live.me → (after : List Session) → Rises k.sessions after → Fits k.sessions l w
      → EachLive (Fits after) (put_item live_id k.lives l) (put_item work_id k.works w)
  put x w mine l me after rises fits = each_put (Fits k.sessions) (Fits after) k.lives k.works now l w (mine ∙ sym me) (fits_rise k.sessions after rises l w fits) (λ y v live other so. fits_rise k.sessions after rises y v so)

  called_so : (x : Branch) (i : ℕ) (e : Errand) → Ready k.sessions x → EachLive (Fits (call_pends k.sessions x.live)) (put_item live_id k.lives x.live) (put_item work_id k.works (called k.sessions x i e).work)
  called_so x i e is = put x (called k.sessions x i e).work is.mine x.live refl (call_pends k.sessions x.live) (pends_rises k.sessions x.live) (noted k.sessions x (call_note (step_of k.sessions x) (calls_with x.work i)) refl is.fits)

  answered_so : (x : Branch) (w : Work) → w.branch ≡ x.live.me → (l : Live) → l.me ≡ x.live.me → (parent : Option BranchId) → Fits k.sessions l w
      → EachLive (Fits (answered_sessions k.sessions l parent)) (put_item live_id k.lives l) (put_item work_id k.works w)
  answered_so x w mine l me parent fits = put x w mine l me (answered_sessions k.sessions l parent) (answered_rises k.sessions l parent) fits

  gone : (b : BranchId) (after : List Session) → Rises k.sessions after → EachLive (Fits after) (drop_item live_id k.lives b) (drop_item work_id k.works b)
  gone b after rises = each_left (Fits k.sessions) (Fits after) k.lives k.works now b (λ y v live other so. fits_rise k.sessions after rises y v so)

  still : (after : List Session) → Rises k.sessions after → EachLive (Fits after) k.lives k.works
  still after rises = each_same (Fits k.sessions) (Fits after) k.lives k.works now (λ y v live any so. fits_rise k.sessions after rises y v so)

  acting_fits : {input : Input} {l : Live} {site_below : Bool} {a : Act} → Acting k input l site_below a → Fits k.sessions l (works_of k.works l.me)
  acting_fits why = acting_so (λ l. Fits k.sessions l (works_of k.works l.me)) (λ l comment site_below is. is) (λ l from v is. is)
      (λ b l found. subst (λ m. Fits k.sessions l (works_of k.works m)) (sym (item_is live_id k.lives b l found)) (now.each b l found)) why

  stays : (l : Live) → Fits k.sessions l (works_of k.works l.me) → EachLive (Fits k.sessions) (put_item live_id k.lives l) k.works
  stays l is = each_changed (Fits k.sessions) (Fits k.sessions) k.lives k.works now l is (λ y v live other so. so)

-- a transaction begins in a session that has none, with a number that no live root of it has
begun_fits : (k : NodeState) → Nodes k → SessionsFit k → (p : Place) (n : ℕ) (read_at : Option ℕ) → IsSession n → Nodes (begun_by p k n read_at None)
begun_fits k now fit p n read_at range = each_begun (Fits k.sessions) (Fits after) k.lives k.works now (fresh_root p k root read_at) fresh (λ y v live any so. other y v so)
  where
    root : BranchId
    root = new_root p k n

    s : Session
    s = record (session_at k.sessions n) { seq = root.seq; root = Some root; calls = 0 }

    after : List Session
    after = set_numbered k.sessions n s

    set : session_at after n ≡ s
    set = (let there = item_there k.sessions n range.0 (omega (arith, range.1, fit.roots.many)) in session_set k.sessions n there.0 s there.1)

    fresh : Fits after (fresh_root p k root read_at) (no_work root)
    fresh = (λ below. tt, λ top. subst (λ (x : Session). root.seq ≤ x.seq) (sym set) (omega arith), λ top has. tt)

    other : (y : Live) (v : Work) → Fits k.sessions y v → Fits after y v
    other y v so = elim (session_or_before k.sessions n y.me.session s) [
      | inl still ↦ (
        so.0,
        λ top. subst (λ (x : Session). y.me.seq ≤ x.seq) (sym still) (so.1 top),
        λ top has. subst (λ (x : Session). Upto x.calls v.marks.notes) (sym still) (so.2 top (ap (λ (x : Session). x.root) (sym still) ∙ has)),
      )
      | inr new ↦ (
        so.0,
        λ top. (let low = lower top new.0 in subst (λ (x : Session). y.me.seq ≤ x.seq) (sym new.1) (omega (arith, low))),
        λ top has. (let low = lower top new.0 in let it : Some root ≡ Some y.me = ap (λ (x : Session). x.root) (sym new.1) ∙ has in let me : root ≡ y.me = cc in let seq : root.seq ≡ y.me.seq = ap (λ (c : BranchId). c.seq) me in absurd (omega (arith, low, seq))),
      )
    ]
      where
        lower : y.parent ≡ None → n ≡ y.me.session → y.me.seq ≤ (session_at k.sessions n).seq
        lower top here = subst (λ m. y.me.seq ≤ (session_at k.sessions m).seq) (sym here) (so.1 top)

-- a branch whose children are to go back
calling_ready : {input : Input} (k : NodeState) → Nodes k → {x : Branch} {step from : ℕ} → Calls_back k input x step from → Ready k.sessions x
calling_ready k now (steps.Has_gone j x step goes is) =
    let was : Ready j.sessions x = goes_ready j (subst Nodes is now) goes in
    record { fits = subst (λ (i : NodeState). Fits i.sessions (branch_back j x step).live (branch_back j x step).work) (sym is) (back_fits j.sessions x was.fits step); mine = was.mine }
  where
    back_fits : (ss : List Session) (x : Branch) → Fits ss x.live x.work → (step : ℕ) → Fits ss x.live (record x.work { marks = back_to x.work.marks step })
    back_fits ss x so step = (
      λ below. all_filter (λ (n : Note). n.step ≤ x.work.came.last_call) (λ n. n.step ≤ x.work.came.last_call) (is_until step) (λ n passes low. low) x.work.marks.notes (so.0 below),
      so.1,
      λ top has. all_filter (λ (n : Note). n.step ≤ (session_at ss x.live.me.session).calls) (λ n. n.step ≤ (session_at ss x.live.me.session).calls) (is_until step) (λ n passes low. low) x.work.marks.notes (so.2 top has),
    )
calling_ready k now (steps.Has_heard x weight count a i e g step answered going errand done) = record { fits = branch_fits k now x answered.live; mine = work_is k x.live.me x answered.live }

-- a run that is accepted is noted
ran_fits : (ss : List Session) (x : Branch) (t : Table) (r : StmtOutcome) → Fits ss x.live x.work → Fits ss (branch_ran ss x t r).live (branch_ran ss x t r).work
ran_fits ss x t (Refuses r) so = so
ran_fits ss x t (Reads rows keys) so = noted ss x (run_note (step_of ss x) t 0 keys x.work.calls) refl so
ran_fits ss x t (Writes d cs keys undo) so = noted ss x (run_note (step_of ss x) t 1 keys x.work.calls) refl so

-- a run leaves its branch where it was
pub ran_me : (x : Branch) (r : StmtOutcome) → (after_run x.live r).me ≡ x.live.me
ran_me x (Refuses r) = refl
ran_me x (Reads rows keys) = refl
ran_me x (Writes d cs keys undo) = refl

-- each step keeps it
steps_on : (p : Place) (input : Input) {k : NodeState} {d : TurnDraft} → Step p input k d → SessionsFit k → Nodes k → Nodes d.after
steps_on p input (steps.Begins {k = k} n s read_at call begins range none step) fit now = steps_on p input step (begun_so k fit p n read_at) (begun_fits k now fit p n read_at range)
steps_on p input (steps.Counts_call {k = k} n s call counts step) fit now = steps_on p input step (counted_so k fit n) (still k now _ (counted_rises k.sessions n (session_at k.sessions n).root))
steps_on p input (steps.Goes_back {k = k} x step goes next) fit now = steps_on p input next (back_so k fit x step) now
steps_on p input (steps.Pends {k = k} n l given call has live code writer step) fit now = steps_on p input step (pends_so k fit n pending.Commit) (still k now _ (call_rises k.sessions n pending.Commit))
steps_on p input (steps.Lets_reads_go l comment site_below live begins step) fit now = steps_on p input step (record { roots = fit.roots; above = fit.above }) now
steps_on p input (steps.Counts_ack s from kept came counts step) fit now = steps_on p input step (record { roots = fit.roots; above = fit.above }) now
steps_on p input (steps.Runs {k = k} x s given t asked way) fit now =
    (let is = asked_ready k now asked in let r : StmtOutcome = ran p k x.live.me s t in
    answered_so k now x (with_answer (branch_ran k.sessions x t r) (answer_of_run r)).work is.mine (branch_ran k.sessions x t r).live (ran_me x r) x.live.parent (ran_fits k.sessions x t r is.fits))
steps_on p input (steps.Goes_nowhere {k = k} x s given r asked way) fit now = (let is = asked_ready k now asked in answered_so k now x (with_answer x (answers.Refused r)).work is.mine x.live refl x.live.parent is.fits)
steps_on p input (steps.Calls {k = k} x s given i table asked way) fit now = called_so k now x i (errands.Statement (passed_on s table) given) (asked_ready k now asked)
steps_on p input (steps.Opens {k = k} x s given node link table asked way) fit now =
    (let is = asked_ready k now asked in put k now x (waits_for_opened x link (passed_on s table) given).work is.mine x.live refl _ (pends_rises k.sessions x.live) is.fits)
steps_on p input (steps.Goes_on {k = k} x from strength g link opened) fit now =
    (let y : Branch = with_edge x (new_edge from link strength) in called_so k now y (length x.live.edges + 1) (less_room g.errand) (record { fits = branch_fits k now x opened.live; mine = work_is k x.live.me x opened.live }))
steps_on p input (steps.Hears_reply {k = k} x weight count a i e answered) fit now =
    (let y : Branch = hears_reply x i weight count e in let heard = heard_rises k.sessions y.live a in
    put k now x (with_answer y (heard_answer y.live e.link a)).work (work_is k x.live.me x answered.live) y.live refl (answered_sessions (heard_sessions k.sessions y.live a) y.live x.live.parent)
    (rises_on k.sessions (heard_sessions k.sessions y.live a) (answered_sessions (heard_sessions k.sessions y.live a) y.live x.live.parent) heard (answered_rises (heard_sessions k.sessions y.live a) y.live x.live.parent)) (branch_fits k now x answered.live))
steps_on p input (steps.Backs {k = k} x step from i calls next) fit now = called_so k now x i (errands.GoBack step) (calling_ready k now calls)
steps_on p input (steps.Is_back {k = k} x step from calls none) fit now =
    (let is = calling_ready k now calls in answered_so k now x (with_answer x (answers.Did dones.RolledBack 0)).work is.mine x.live refl x.live.parent is.fits)
steps_on p input (steps.Opens_branch {k = k} to parent edge root depth read_at came new) fit now =
    each_begun (Fits k.sessions) (Fits k.sessions) k.lives k.works now _ (λ below. tt, λ top. absurd cc, λ top has. tt) (λ y v live any so. so)
steps_on p input (steps.Acts {k = k} l site_below acts.Rest why) fit now = stays k now l (acting_fits k now why)
steps_on p input (steps.Acts {k = k} l site_below acts.AskDown why) fit now = stays k now l (acting_fits k now why)
steps_on p input (steps.Acts {k = k} l site_below acts.SayReady why) fit now = stays k now (ready l) (acting_fits k now why)
steps_on p input (steps.Acts {k = k} l site_below acts.SayReadOnly why) fit now = gone k now l.me k.sessions (rises_same k.sessions)
steps_on p input (steps.Acts {k = k} l site_below acts.Seal why) fit now = gone k now l.me k.sessions (rises_same k.sessions)
steps_on p input (steps.Acts {k = k} l site_below (acts.SealAndPass i) why) fit now = gone k now l.me k.sessions (rises_same k.sessions)
steps_on p input (steps.Acts {k = k} l site_below acts.Decide why) fit now = gone k now l.me _ (ended_if_rises k.sessions (is_alone l) l.me)
steps_on p input (steps.Acts {k = k} l site_below acts.Finish why) fit now = gone k now l.me _ (ended_rises k.sessions l.me)
steps_on p input (steps.Acts {k = k} l site_below acts.Abandon why) fit now = gone k now l.me _ (abandoned_rises k.sessions l l.parent)
steps_on p input (steps.Drops_told {k = k} l live drops) fit now = gone k now l.me k.sessions (rises_same k.sessions)
steps_on p input (steps.Drops_asked {k = k} l from live came parent) fit now = gone k now l.me k.sessions (rises_same k.sessions)
steps_on p input (steps.Does {k = k} s from nexts.Rest kept why) fit now = now
steps_on p input (steps.Does {k = k} s from nexts.AckToward kept why) fit now = now
steps_on p input (steps.Does {k = k} s from nexts.SayForgotten kept why) fit now = now
steps_on p input (steps.Does {k = k} s from nexts.SayAck kept why) fit now = now
steps_on p input (steps.Does {k = k} s from (nexts.End d) kept why) fit now = still k now _ (decided_rises k.sessions s.me d)
steps_on p input (steps.Does {k = k} s from (nexts.Meet d mixed) kept why) fit now = still k now _ (decided_rises k.sessions s.me d)
steps_on p input (steps.Does {k = k} s from nexts.Forget kept why) fit now = still k now _ (ended_rises k.sessions s.me)
steps_on p input (steps.Forces_given {k = k} n id m b call named) fit now = still k now _ (ended_rises k.sessions b)
steps_on p input (steps.Forces_commit {k = k} n id b call named) fit now = still k now _ (ended_rises k.sessions b)
steps_on p input (steps.Forces_rollback {k = k} n id b call named) fit now = still k now _ (ended_rises k.sessions b)
steps_on p input (steps.Advises {k = k} n a call) fit now = still k now _ (set_rises k.sessions n (record (session_at k.sessions n) { advice = a }) refl (omega arith) (λ b has. has))
steps_on p input (steps.Leaves {k = k} n s d x call ends has live) fit now = gone k now x.live.me _ (done_rises k.sessions n)
steps_on p input (steps.Sets_savepoint {k = k} n x name call has code live) fit now =
    put k now x (marked k.sessions x name).work (work_is k x.live.me x live) x.live refl k.sessions (rises_same k.sessions) (branch_fits k now x live)
steps_on p input (steps.Gives_up {k = k} n x gives has calls live) fit now =
    (let freed : List Session = with_call k.sessions n pending.NoCall in
    put k now x (gives_up x).work (work_is k x.live.me x live) x.live refl _ (rises_on k.sessions freed (needs_rollback freed n (dtx 3 []).code) (call_rises k.sessions n pending.NoCall) (needs_rises freed n (dtx 3 []).code)) (branch_fits k now x live))
steps_on p input (steps.Gives_up_commit {k = k} n b (Some l) gives has calls live) fit now = gone k now l.me _ (ended_rises k.sessions l.me)
steps_on p input (steps.Gives_up_commit {k = k} n b None gives has calls live) fit now = still k now _ (ended_rises k.sessions b)
steps_on p input _ fit now = now

abbrev pub Both : NodeState → Type 0
Both k = SessionsFit k × Nodes k

pub steps_keep : KeepsAlone Both
steps_keep = record {
  starts = λ s vs. (started_fits s vs, none_live (Fits (kept_by s vs).sessions));
  hears = λ k scn now. (sessions_keep.hears k scn now.0, now.1);
  steps = λ p input k d step now. (sessions_on p input step now.0, steps_on p input step now.0 now.1);
}

pub steps_are_taken : StepsAreTaken
steps_are_taken t lawful n k up b x found i =
    let now : Both k = kept_alone Both steps_keep t lawful n k up in
    let parts = branch_parts k b x found in
    let fits : Fits k.sessions x.live x.work = subst (λ (w : Work). Fits k.sessions x.live w) (sym parts.1) (now.1.each b x.live parts.0) in
    let me : x.live.me ≡ b = item_is live_id k.lives b x.live parts.0 in
    let mine : branch_at k x.live.me ≡ Some x = subst (λ c. branch_at k c ≡ Some x) (sym me) found in
    let upto : Upto (step_of k.sessions x) x.work.marks.notes = by mine fits x.live.parent refl in
    let all = filter_all (is_until (step_of k.sessions x)) x.work.marks.notes
    (all_weaker (λ (n : Note). n.step ≤ step_of k.sessions x) (λ n. nat_le n.step (step_of k.sessions x) ≡ true) (λ n low. is_up_to n.step (step_of k.sessions x) low) x.work.marks.notes upto) in
    ap (λ ns. call_in (calls_in [] ns) i) all ∙ (calls_are_noted t lawful n k up b x found).last i
  where
    by : branch_at k x.live.me ≡ Some x → Fits k.sessions x.live x.work → (o : Option BranchId) → x.live.parent ≡ o → Upto (step_of k.sessions x) x.work.marks.notes
    by mine fits None top =
        subst (λ o. Upto (if is_none o then (session_at k.sessions x.live.me.session).calls else x.work.came.last_call) x.work.marks.notes) (sym top) (fits.2 top (roots_wait t lawful n k up x mine top).root)
    by mine fits (Some p) some =
        subst (λ o. Upto (if is_none o then (session_at k.sessions x.live.me.session).calls else x.work.came.last_call) x.work.marks.notes) (sym some) (fits.0 (λ none. absurd (cc (some, none))))
