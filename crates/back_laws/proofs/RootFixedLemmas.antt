-- What a root noted up to a call of its client stays, while it goes back no further and later calls come.
use Rattle.std.proofs.Common.{◌≡◌, ◌≤◌, ◌<◌, ◌+◌, ℕ, Bool, if◌then◌else◌, List, [], ◌∷◌, ◌++◌, filter, length, Option, Some, None, refl, sym, ap, subst, ◌∙◌, arith, ◌≢◌, is_none, inl, inr, ◌⊎◌, is_some, ◌&&◌}
use Rattle.std.specs.List.{AllByRecursion}
use Rattle.tran_ids.proofs.ListedLemmas.{item_is}
use Rattle.commit_forget.specs.declared.next.Next.TheVariants as nexts
use Rattle.node_rules.specs.Data.{Act, Answer, BranchId, Live, Note, Place, Input, Stmt, Table, Task}
use Rattle.node_rules.specs.Data.acts
use Rattle.node_rules.specs.Data.kinds
use Rattle.node_rules.specs.Data.tasks
use Rattle.node_rules.specs.declared.session.Session.{Session}
use Rattle.node_rules.specs.declared.work.Errand.{Errand}
use Rattle.node_rules.specs.declared.work.Errand.TheVariants as errands
use Rattle.node_rules.specs.declared.work.Going.{Going}
use Rattle.node_rules.specs.declared.work.Work.{Work}
use Rattle.node_rules.specs.declared.work.Waits.{Waits}
use Rattle.node_rules.specs.declared.work.Waits.TheVariants as waiting
use Rattle.node_rules.specs.Inputs.{Came, IsCall, IsSession}
use Rattle.node_rules.specs.NodeState.{NodeState, Branch, TurnDraft, live_id, branch_at, work_id, no_work}
use Rattle.node_rules.specs.Statement.{StmtOutcome, Refuses, Reads, Writes, ran, after_run, answer_of_run}
use Rattle.node_rules.specs.Calls.{with_answer, called, calls_with, with_edge, branch_ran, less_room, hears_reply, waits_for_opened, heard_answer, call_pends, answered_sessions, heard_sessions, goes, backs_to}
use Rattle.node_rules.specs.Client.{gives_up, marked, begun_by, counted, new_root, fresh_root, statement_call, statement_by, root_at, back_call, back_by, back_to_savepoint, begun}
use Rattle.node_rules.specs.Commit.{acked_by}
use Rattle.node_rules.specs.LiveBranches.{EachLive, works_of}
use Rattle.node_rules.specs.Marks.{step_of, run_note, call_note, savepoint_at, branch_back, node_back, next_back}
use Rattle.node_rules.specs.Names.{passed_on, Way, Runs_here, Over, Through, Nowhere_to, way_of, is_write}
use Rattle.node_rules.specs.Prepare.{ready, is_alone}
use Rattle.node_rules.specs.Sessions.{session_at, with_call, with_call_of, needs_rollback}
use Rattle.node_rules.specs.Words.{put_item, drop_item, set_numbered}
use Rattle.node_rules.proofs.LiveLemmas.{each_put, each_changed, each_left, each_begun, branch_parts, work_is, each_same}
use Rattle.node_rules.proofs.StepLemmas.{acting_so}
use Rattle.node_rules.proofs.Steps as steps
use Rattle.node_rules.proofs.Steps.{Step, Asked, Acting, Goes_to, Calls_back, HasRoot, Is_opened, BeginsBy, Says, IsOfRows}
use Rattle.run_base_laws.proofs.NeighborLemmas.{News}
use Rattle.run_base_laws.proofs.NeighborStepLemmas.{begun_news, pends_news, lets_news, acked_news, counted_news, back_news}
use Rattle.run_base_laws.proofs.RootLemmas.{SessionsFit, RootsFit, begun_so, counted_so, pends_so, back_so, session_or_before, counted_session}
use Rattle.run_rules.specs.Births.{Born}
use Rattle.savepoints.specs.Marks.{is_until}
use Rattle.session_tree.specs.Live.{new_edge}
use Rattle.back_laws.proofs.StepLemmas.{until_is, is_up_to, filter_twice}
use Rattle.back_laws.proofs.KeepLemmas.{filter_without}
use Rattle.node_rules.proofs.StandLemmas.{session_set, RootSo, root_so}
use Rattle.node_rules.specs.Data.answers
use Rattle.node_rules.specs.Data.dones
use Rattle.node_rules.specs.declared.session.PendingCall.TheVariants as pending
use Rattle.back_laws.proofs.FixedLemmas.{strictly, not_until}
use Rattle.back_laws.proofs.EarlyLemmas.{Rises, rises_same, rises_on, set_rises, call_rises, counted_rises, needs_rises, done_rises, ended_rises, pends_rises, answered_rises, heard_rises, decided_rises, abandoned_rises, ended_if_rises}
use Rattle.node_rules.specs.Data.inputs
use Rattle.node_rules.specs.Data.stmts
use Rattle.node_rules.specs.Refusals.{dtx}
use Rattle.run_base_laws.proofs.BeginLemmas.{MayBegin, may_begin}
use Rattle.run_rules.proofs.AtNodeLemmas.{item_there}
use Rattle.node_rules.specs.Turn.{draft_of, heard}
use Rattle.std.proofs.lemmas.Bool.{cond_both}

-- statements that leave notes: those with a table, and ROLLBACK TO
abbrev pub AddsNotes : Stmt → Type 0
AddsNotes (stmts.RollbackTo name) = Unit {0}
AddsNotes s = IsOfRows s

rows_add : (s : Stmt) → IsOfRows s → AddsNotes s
rows_add (stmts.RollbackTo name) rows = absurd rows
rows_add s rows = rows

-- a call of rows, a ROLLBACK TO, or neither
kind_of : (input : Input) → ((n : ℕ) × (s : Stmt) × IsOfRows s × (input ≡ inputs.Call n (Some s))) ⊎ (((n : ℕ) × (name : List ℕ) × (input ≡ inputs.Call n (Some (stmts.RollbackTo name)))) ⊎ ((n : ℕ) (s : Stmt) → input ≡ inputs.Call n (Some s) → AddsNotes s → ⊥))
kind_of (inputs.Call n (Some (stmts.Insert table columns given))) = inl (n, stmts.Insert table columns given, tt, refl)
kind_of (inputs.Call n (Some (stmts.Update table sets cs))) = inl (n, stmts.Update table sets cs, tt, refl)
kind_of (inputs.Call n (Some (stmts.Delete table cs))) = inl (n, stmts.Delete table cs, tt, refl)
kind_of (inputs.Call n (Some (stmts.Select list table cs for_update))) = inl (n, stmts.Select list table cs for_update, tt, refl)
kind_of (inputs.Call n (Some (stmts.RollbackTo name))) = inr (inl (n, name, refl))
kind_of (inputs.Call n (Some s)) = inr (inr (λ m r is adds. (let both : inputs.Call n (Some s) ≡ inputs.Call m (Some r) = is in let one : r ≡ s = cc in absurd (subst AddsNotes one adds))))
kind_of (inputs.Call n None) = inr (inr (λ m r is adds. absurd cc))
kind_of (inputs.GiveUp n) = inr (inr (λ m r is adds. absurd cc))
kind_of (inputs.Message x) = inr (inr (λ m r is adds. absurd cc))
kind_of inputs.Reco = inr (inr (λ m r is adds. absurd cc))
kind_of inputs.Checkpoint = inr (inr (λ m r is adds. absurd cc))

module _ (T : BranchId → ℕ) (N : BranchId → List Note) (D : BranchId → Type 0) where
  -- The notes of a root up to its floor are these. While no later call of its client came it waits for nothing, and it goes back no further.
  pub record Held (calls : ℕ) (b : BranchId) (w : Work) : Type 0 where
    pub notes : filter (is_until (T b)) w.marks.notes ≡ N b
    pub calm : calls ≤ T b → w.going ≡ None
    pub err : (g : Going) → w.going ≡ Some g → (step : ℕ) → g.errand ≡ errands.GoBack step → T b ≤ step

  -- a live root that is the transaction of its session
  abbrev pub IsTop : List Session → Live → Type 0
  IsTop ss l = D l.me × (l.parent ≡ None) × ((session_at ss l.me.session).root ≡ Some l.me)

  -- it is so of each of these roots, and each root has a number that its session has given
  abbrev pub Fits : List Session → Live → Work → Type 0
  Fits ss l w = (l.parent ≡ None → l.me.seq ≤ (session_at ss l.me.session).seq) × (IsTop ss l → Held (session_at ss l.me.session).calls l.me w)

  -- and their sessions had so many calls
  abbrev pub Low : List Session → Type 0
  Low ss = (n : ℕ) (b : BranchId) → D b → (session_at ss n).root ≡ Some b → T b ≤ (session_at ss n).calls

  abbrev pub Nodes : NodeState → Type 0
  Nodes k = EachLive (Fits k.sessions) k.lives k.works × Low k.sessions

  abbrev pub IsFresh : Born → Type 0
  IsFresh y = D y.me → ⊥

  fits_rise : (ss after : List Session) → Rises ss after → (l : Live) (w : Work) → Fits ss l w → Fits after l w
  fits_rise ss after rises l w so = (
    λ top. subst (λ n. l.me.seq ≤ n) (sym (rises.seq l.me.session)) (so.0 top),
    λ is. (let held = so.1 (is.0, is.1, rises.root l.me.session l.me is.2) in record { notes = held.notes; calm = λ high. held.calm (let more = rises.calls l.me.session in omega (arith, high, more)); err = held.err }),
  )

  low_rise : (ss after : List Session) → Rises ss after → Low ss → Low after
  low_rise ss after rises low n b d has = let one = low n b d (rises.root n b has) in let more = rises.calls n in omega (arith, one, more)

  -- What is known of a branch that goes on: its client's later call came.
  record Works (ss : List Session) (x : Branch) : Type 0 where
    pub later : IsTop ss x.live → T x.live.me < (session_at ss x.live.me.session).calls
    pub notes : IsTop ss x.live → filter (is_until (T x.live.me)) x.work.marks.notes ≡ N x.live.me
    pub seq : x.live.parent ≡ None → x.live.me.seq ≤ (session_at ss x.live.me.session).seq
    pub mine : x.work.branch ≡ x.live.me

  noted : (ss : List Session) (x : Branch) (n : Note) → n.step ≡ step_of ss x → (is : IsTop ss x.live) → Works ss x → filter (is_until (T x.live.me)) (x.work.marks.notes ++ n ∷ []) ≡ N x.live.me
  noted ss x n step is works =
      let late = works.later is in
      let at : n.step ≡ (session_at ss x.live.me.session).calls = step ∙ ap (λ o. if is_none o then (session_at ss x.live.me.session).calls else x.work.came.last_call) is.1 in
      filter_without (is_until (T x.live.me)) x.work.marks.notes n (not_until n.step (T x.live.me) (omega (arith, late, at))) ∙ works.notes is

  module _ (p : Place) (input : Input) (execs : (from to : BranchId) (call : ℕ) (task : Task) → Came input from to (kinds.Exec call task) → D to → ⊥) where
    -- no ROLLBACK TO goes below the floor of its root
    abbrev pub TopsAt : NodeState → Type 0
    TopsAt k = (n : ℕ) (x : Branch) (name : List ℕ) (step : ℕ) → IsCall input n (stmts.RollbackTo name) → HasRoot k n x.live.me → (session_at k.sessions n).code ≡ None → branch_at k x.live.me ≡ Some x
        → savepoint_at x.work.marks name ≡ Some step → D x.live.me → T x.live.me ≤ step

    -- a statement comes with a call that was counted
    abbrev pub Late : NodeState → Type 0
    Late k = (n : ℕ) (s : Stmt) → IsCall input n s → AddsNotes s → (b : BranchId) → D b → HasRoot k n b → T b < (session_at k.sessions n).calls

    module _ (k : NodeState) (fit : SessionsFit k) (now : Nodes k) where
      branch_fits : (x : Branch) → branch_at k x.live.me ≡ Some x → Fits k.sessions x.live x.work
      branch_fits x found = let parts = branch_parts k x.live.me x found in subst (λ (w : Work). Fits k.sessions x.live w) (sym parts.1) (now.0.each x.live.me x.live parts.0)

      asked_works : Late k → {x : Branch} {s : Stmt} {given : ℕ} → Asked k input x s given → Works k.sessions x
      asked_works late (steps.By_call n x s call rows has code live may) = record {
        later = λ is. subst (λ m. T x.live.me < (session_at k.sessions m).calls) (sym (fit.roots.each n x.live.me has)) (late n s call (rows_add s rows) x.live.me is.0 has);
        notes = λ is. ((branch_fits x live).1 is).notes;
        seq = (branch_fits x live).0;
        mine = work_is k x.live.me x live;
      }
      asked_works late (steps.By_exec x from call given advice s came live runs) = record {
        later = λ is. absurd (execs from x.live.me call (tasks.Run given advice s) came is.0);
        notes = λ is. absurd (execs from x.live.me call (tasks.Run given advice s) came is.0);
        seq = (branch_fits x live).0;
        mine = work_is k x.live.me x live;
      }

      going_works : (x : Branch) (g : Going) → branch_at k x.live.me ≡ Some x → x.work.going ≡ Some g → Works k.sessions x
      going_works x g live going = record {
        later = λ is. (let held = (branch_fits x live).1 is in strictly (T x.live.me) (session_at k.sessions x.live.me.session).calls (now.1 x.live.me.session x.live.me is.0 is.2) (λ high. (let none = held.calm high in absurd (cc (none, going)))));
        notes = λ is. ((branch_fits x live).1 is).notes;
        seq = (branch_fits x live).0;
        mine = work_is k x.live.me x live;
      }

      put : (x : Branch) (w : Work) → w.branch ≡ x.live.me → (l : Live) → l.me ≡ x.live.me → (after : List Session) → Rises k.sessions after → Fits k.sessions l w
          → EachLive (Fits after) (put_item live_id k.lives l) (put_item work_id k.works w) × Low after
      put x w mine l me after rises fits = (
        each_put (Fits k.sessions) (Fits after) k.lives k.works now.0 l w (mine ∙ sym me) (fits_rise k.sessions after rises l w fits) (λ y v live other so. fits_rise k.sessions after rises y v so),
        low_rise k.sessions after rises now.1,
      )

      gone : (b : BranchId) (after : List Session) → Rises k.sessions after → EachLive (Fits after) (drop_item live_id k.lives b) (drop_item work_id k.works b) × Low after
      gone b after rises = (each_left (Fits k.sessions) (Fits after) k.lives k.works now.0 b (λ y v live other so. fits_rise k.sessions after rises y v so), low_rise k.sessions after rises now.1)

      still : (after : List Session) → Rises k.sessions after → EachLive (Fits after) k.lives k.works × Low after
      still after rises = (each_same (Fits k.sessions) (Fits after) k.lives k.works now.0 (λ y v live any so. fits_rise k.sessions after rises y v so), low_rise k.sessions after rises now.1)

      acting_fits : {l : Live} {site_below : Bool} {a : Act} → Acting k input l site_below a → Fits k.sessions l (works_of k.works l.me)
      acting_fits why = acting_so (λ l. Fits k.sessions l (works_of k.works l.me)) (λ l comment site_below is. is) (λ l from v is. is)
          (λ b l found. subst (λ m. Fits k.sessions l (works_of k.works m)) (sym (item_is live_id k.lives b l found)) (now.0.each b l found)) why

      stays : (l : Live) → Fits k.sessions l (works_of k.works l.me) → EachLive (Fits k.sessions) (put_item live_id k.lives l) k.works × Low k.sessions
      stays l is = (each_changed (Fits k.sessions) (Fits k.sessions) k.lives k.works now.0 l is (λ y v live other so. so), now.1)

      called_so : (x : Branch) (i : ℕ) (e : Errand) → Works k.sessions x → ((step : ℕ) → e ≡ errands.GoBack step → IsTop k.sessions x.live → T x.live.me ≤ step)
          → EachLive (Fits (call_pends k.sessions x.live)) (put_item live_id k.lives x.live) (put_item work_id k.works (called k.sessions x i e).work) × Low (call_pends k.sessions x.live)
      called_so x i e is above = put x (called k.sessions x i e).work is.mine x.live refl (call_pends k.sessions x.live) (pends_rises k.sessions x.live) (
        is.seq,
        λ top. record {
          notes = noted k.sessions x (call_note (step_of k.sessions x) (calls_with x.work i)) refl top is;
          calm = λ high. (let late = is.later top in absurd (omega (arith, late, high)));
          err = λ g going step errand. above step (let it : record { errand = e; waits = waiting.ForReply i } ≡ g = cc in ap (λ (y : Going). y.errand) it ∙ errand) top;
        },
      )

      answered_so : (x : Branch) (a : Answer) → Works k.sessions x
          → EachLive (Fits (answered_sessions k.sessions x.live x.live.parent)) (put_item live_id k.lives x.live) (put_item work_id k.works (with_answer x a).work) × Low (answered_sessions k.sessions x.live x.live.parent)
      answered_so x a is = put x (with_answer x a).work is.mine x.live refl _ (answered_rises k.sessions x.live x.live.parent) (is.seq, λ top. record { notes = is.notes top; calm = λ high. refl; err = λ g going step errand. absurd cc })

      ran_so : (x : Branch) (t : Table) (r : StmtOutcome) → Works k.sessions x
          → EachLive (Fits (answered_sessions k.sessions (branch_ran k.sessions x t r).live x.live.parent)) (put_item live_id k.lives (branch_ran k.sessions x t r).live) (put_item work_id k.works (with_answer (branch_ran k.sessions x t r) (answer_of_run r)).work)
          × Low (answered_sessions k.sessions (branch_ran k.sessions x t r).live x.live.parent)
      ran_so x t (Refuses r) is = put x (with_answer (branch_ran k.sessions x t (Refuses r)) (answer_of_run (Refuses r))).work is.mine (after_run x.live (Refuses r)) refl _ (answered_rises k.sessions (after_run x.live (Refuses r)) x.live.parent)
          (is.seq, λ top. record { notes = is.notes top; calm = λ high. refl; err = λ g going step errand. absurd cc })
      ran_so x t (Reads rows keys) is = put x (with_answer (branch_ran k.sessions x t (Reads rows keys)) (answer_of_run (Reads rows keys))).work is.mine (after_run x.live (Reads rows keys)) refl _ (answered_rises k.sessions (after_run x.live (Reads rows keys)) x.live.parent)
          (is.seq, λ top. record { notes = noted k.sessions x (run_note (step_of k.sessions x) t 0 keys x.work.calls) refl top is; calm = λ high. refl; err = λ g going step errand. absurd cc })
      ran_so x t (Writes d0 cs keys undo) is = put x (with_answer (branch_ran k.sessions x t (Writes d0 cs keys undo)) (answer_of_run (Writes d0 cs keys undo))).work is.mine (after_run x.live (Writes d0 cs keys undo)) refl _ (answered_rises k.sessions (after_run x.live (Writes d0 cs keys undo)) x.live.parent)
          (is.seq, λ top. record { notes = noted k.sessions x (run_note (step_of k.sessions x) t 1 keys x.work.calls) refl top is; calm = λ high. refl; err = λ g going step errand. absurd cc })

      goes_works : Late k → TopsAt k → {x : Branch} {step : ℕ} → Goes_to k input x step → Works k.sessions x × (IsTop k.sessions x.live → T x.live.me ≤ step)
      goes_works late tops (steps.By_rollback_to n x name step call has code live set) = (
        record {
          later = λ is. subst (λ m. T x.live.me < (session_at k.sessions m).calls) (sym (fit.roots.each n x.live.me has)) (late n (stmts.RollbackTo name) call tt x.live.me is.0 has);
          notes = λ is. ((branch_fits x live).1 is).notes;
          seq = (branch_fits x live).0;
          mine = work_is k x.live.me x live;
        },
        λ is. tops n x name step call has code live set is.0,
      )
      goes_works late tops (steps.By_back x from call keep came live runs) = (
        record {
          later = λ is. absurd (execs from x.live.me call (tasks.GoBack keep) came is.0);
          notes = λ is. absurd (execs from x.live.me call (tasks.GoBack keep) came is.0);
          seq = (branch_fits x live).0;
          mine = work_is k x.live.me x live;
        },
        λ is. absurd (execs from x.live.me call (tasks.GoBack keep) came is.0),
      )

    -- a branch whose children are to go back
    calling_works : (k : NodeState) → SessionsFit k → Nodes k → Late k → TopsAt k → {x : Branch} {step from : ℕ} → Calls_back k input x step from → Works k.sessions x × (IsTop k.sessions x.live → T x.live.me ≤ step)
    calling_works k fit now late tops (steps.Has_gone j x step goes is) =
        let was = goes_works j (record { roots = subst (λ (i : NodeState). RootsFit i.sessions) is fit.roots; above = subst (λ (i : NodeState). AllByRecursion (λ (l : Live). l.parent ≢ None → 65 ≤ l.me.session) i.lives) is fit.above }) (subst Nodes is now) (subst Late is late) (subst TopsAt is tops) goes in
        subst (λ (i : NodeState). Works i.sessions (branch_back j x step) × (IsTop i.sessions x.live → T x.live.me ≤ step)) (sym is) (
          record {
            later = was.0.later;
            notes = λ top. filter_twice (is_until (T x.live.me)) (is_until step) (λ (n : Note) up. (let low = until_is n.step (T x.live.me) up in let less = was.1 top in is_up_to n.step step (omega (arith, low, less)))) x.work.marks.notes ∙ was.0.notes top;
            seq = was.0.seq;
            mine = was.0.mine;
          },
          was.1,
        )
    calling_works k fit now late tops (steps.Has_heard x weight count a i e g step answered going errand done) =
        let is = going_works k fit now x g answered.live going in
        (record { later = is.later; notes = is.notes; seq = is.seq; mine = is.mine }, λ top. ((branch_fits k fit now x answered.live).1 top).err g going step errand)

    statement_no : (s : Stmt) (given step : ℕ) (waits : Waits) (g : Going) → Some (record { errand = errands.Statement s given; waits = waits }) ≡ Some g → g.errand ≡ errands.GoBack step → ⊥
    statement_no s given step waits g is errand =
        let it : record { errand = errands.Statement s given; waits = waits } ≡ g = cc in
        let same_errand : errands.Statement s given ≡ g.errand = ap (λ (y : Going). y.errand) it in
        absurd (cc (same_errand, errand))

    less_back : (e : Errand) (step : ℕ) → less_room e ≡ errands.GoBack step → e ≡ errands.GoBack step
    less_back (errands.Statement s given) step is = absurd cc
    less_back (errands.GoBack j) step is = is

    back_step : (step j : ℕ) → errands.GoBack step ≡ errands.GoBack j → step ≡ j
    back_step step j same_step = let it : errands.GoBack step ≡ errands.GoBack j = same_step in cc

    same_call : {n m : ℕ} {s r : Stmt} → IsCall input n s → IsCall input m r → (n ≡ m) × (s ≡ r)
    same_call {n = n} {m = m} {s = s} {r = r} one two = let both : inputs.Call n (Some s) ≡ inputs.Call m (Some r) = sym one ∙ two in (cc, cc)

    -- What stands at a node on the way.
    pub record At (k : NodeState) : Type 0 where
      pub new : News IsFresh p input k
      pub fit : SessionsFit k
      pub tops : TopsAt k
      pub now : Nodes k

    -- a transaction begins in a session that has none: no root of these
    begins_at : (k : NodeState) → At k → (n : ℕ) (s : Stmt) (read_at : Option ℕ) → IsCall input n s → BeginsBy k.clock s read_at → IsSession n → (session_at k.sessions n).root ≡ None → At (begun_by p k n read_at None)
    begins_at k at n s read_at call begins range none = record {
      new = begun_news IsFresh p input k n read_at at.new;
      fit = begun_so k at.fit p n read_at;
      tops = λ m x name j other. absurd (subst MayBegin (same_call call other).1 (may_begin begins));
      now = (each_begun (Fits k.sessions) (Fits after) k.lives k.works at.now.0 (fresh_root p k root read_at) fresh (λ y v live any so. other_so y v so), low_after);
    }
      where
        root : BranchId
        root = new_root p k n

        not_it : D root → ⊥
        not_it = at.new.root n s read_at call begins none

        t : Session
        t = record (session_at k.sessions n) { seq = root.seq; root = Some root; calls = 0 }

        after : List Session
        after = set_numbered k.sessions n t

        set : session_at after n ≡ t
        set = (let there = item_there k.sessions n range.0 (omega (arith, range.1, at.fit.roots.many)) in session_set k.sessions n there.0 t there.1)

        fresh : Fits after (fresh_root p k root read_at) (no_work root)
        fresh = (λ top. subst (λ (x : Session). root.seq ≤ x.seq) (sym set) (omega arith), λ is. absurd (not_it is.0))

        low_after : Low after
        low_after m b d has = elim (session_or_before k.sessions n m t) [
          | inl still ↦ subst (λ (x : Session). T b ≤ x.calls) (sym still) (at.now.1 m b d (ap (λ (x : Session). x.root) (sym still) ∙ has))
          | inr other ↦ absurd (let it : Some root ≡ Some b = ap (λ (x : Session). x.root) (sym other.1) ∙ has in let me : root ≡ b = cc in not_it (subst D (sym me) d))
        ]

        other_so : (y : Live) (v : Work) → Fits k.sessions y v → Fits after y v
        other_so y v so = elim (session_or_before k.sessions n y.me.session t) [
          | inl still ↦ (
            λ top. subst (λ (x : Session). y.me.seq ≤ x.seq) (sym still) (so.0 top),
            λ is. subst (λ (x : Session). Held x.calls y.me v) (sym still) (so.1 (is.0, is.1, ap (λ (x : Session). x.root) (sym still) ∙ is.2)),
          )
          | inr other ↦ (
            λ top. (let low : y.me.seq ≤ (session_at k.sessions n).seq = subst (λ m. y.me.seq ≤ (session_at k.sessions m).seq) (sym other.0) (so.0 top) in subst (λ (x : Session). y.me.seq ≤ x.seq) (sym other.1) (omega (arith, low))),
            λ is. absurd (let it : Some root ≡ Some y.me = ap (λ (x : Session). x.root) (sym other.1) ∙ is.2 in let me : root ≡ y.me = cc in not_it (subst D (sym me) is.0)),
          )
        ]

    -- a call is counted
    counts_at : (k : NodeState) → At k → (n : ℕ) → At (counted k n)
    counts_at k at n = record {
      new = counted_news IsFresh p input k n at.new;
      fit = counted_so k at.fit n;
      tops = λ m x name j other has code. (let same = (counted_session k.sessions n m (session_at k.sessions n).root).1 in at.tops m x name j other (sym (ap (λ (y : Session). y.root) same) ∙ has) (sym (ap (λ (y : Session). y.code) same) ∙ code));
      now = still k at.fit at.now _ (counted_rises k.sessions n (session_at k.sessions n).root);
    }

    -- so its statement comes late
    counts_late : (k : NodeState) → At k → (n : ℕ) (s : Stmt) → IsCall input n s → IsSession n → Late (counted k n)
    counts_late k at n s call range m r other adds b d has =
        let same : n ≡ m = (same_call call other).0 in
        let its : HasRoot (counted k n) n b = subst (λ i. HasRoot (counted k n) i b) (sym same) has in
        let was : (session_at k.sessions n).root ≡ Some b = sym (ap (λ (y : Session). y.root) (counted_session k.sessions n n (session_at k.sessions n).root).1) ∙ its in
        let low = at.now.1 n b d was in
        let there = item_there k.sessions n range.0 (omega (arith, range.1, at.fit.roots.many)) in
        let t : Session = record (session_at k.sessions n) { calls = (session_at k.sessions n).calls + 1 } in
        let set : session_at (with_call_of k.sessions n (Some b)) n ≡ t = session_set k.sessions n there.0 t there.1 in
        let calls : (session_at (counted k n).sessions n).calls ≡ (session_at k.sessions n).calls + 1 = ap (λ o. (session_at (with_call_of k.sessions n o) n).calls) was ∙ ap (λ (y : Session). y.calls) set in
        subst (λ i. T b < (session_at (counted k n).sessions i).calls) same (omega (arith, low, calls))

    -- each step keeps it
    pub notes_on : {k : NodeState} {d : TurnDraft} → Step p input k d → At k → Late k → Nodes d.after
    notes_on (steps.Begins {k = k} n s read_at call begins range none step) at late = notes_on step (begins_at k at n s read_at call begins range none) (λ m r other adds b d has. elim (session_or_before k.sessions n m (record (session_at k.sessions n) { seq = (new_root p k n).seq; root = Some (new_root p k n); calls = 0 })) [
      | inl still_there ↦ subst (λ (x : Session). T b < x.calls) (sym still_there) (late m r other adds b d (ap (λ (x : Session). x.root) (sym still_there) ∙ has))
      | inr set ↦ absurd (let it : Some (new_root p k n) ≡ Some b = ap (λ (x : Session). x.root) (sym set.1) ∙ has in let me : new_root p k n ≡ b = cc in at.new.root n s read_at call begins none (subst D (sym me) d))
    ])
    notes_on (steps.Counts_call {k = k} n s call counts step) at late = notes_on step (counts_at k at n) (λ m r other adds b d has. (let rises = counted_rises k.sessions n (session_at k.sessions n).root in let low = late m r other adds b d (rises.root m b has) in let more = rises.calls m in omega (arith, low, more)))
    notes_on (steps.Goes_back {k = k} x step goes next) at late = notes_on next (record { new = back_news IsFresh p input k x step at.new; fit = back_so k at.fit x step; tops = at.tops; now = at.now }) late
    notes_on (steps.Pends {k = k} n l given call has live code writer step) at late = notes_on step (record {
      new = pends_news IsFresh p input k n given call at.new;
      fit = pends_so k at.fit n pending.Commit;
      tops = λ m x name j other. absurd (let one = (same_call call other).1 in cc);
      now = still k at.fit at.now _ (call_rises k.sessions n pending.Commit);
    }) (λ m r other adds b d has. (let rises = call_rises k.sessions n pending.Commit in let low = late m r other adds b d (rises.root m b has) in let more = rises.calls m in omega (arith, low, more)))
    notes_on (steps.Lets_reads_go {k = k} l comment site_below live begins step) at late = notes_on step (record { new = lets_news IsFresh p input k l.me at.new; fit = record { roots = at.fit.roots; above = at.fit.above }; tops = at.tops; now = at.now }) late
    notes_on (steps.Counts_ack {k = k} s from kept came counts step) at late = notes_on step (record { new = acked_news IsFresh p input k (acked_by s from) at.new; fit = record { roots = at.fit.roots; above = at.fit.above }; tops = at.tops; now = at.now }) late
    notes_on (steps.Runs {k = k} x s given t asked way) at late = ran_so k at.fit at.now x t (ran p k x.live.me s t) (asked_works k at.fit at.now late asked)
    notes_on (steps.Goes_nowhere {k = k} x s given r asked way) at late = answered_so k at.fit at.now x (answers.Refused r) (asked_works k at.fit at.now late asked)
    notes_on (steps.Calls {k = k} x s given i table asked way) at late = called_so k at.fit at.now x i (errands.Statement (passed_on s table) given) (asked_works k at.fit at.now late asked) (λ step none. absurd cc)
    notes_on (steps.Opens {k = k} x s given node link table asked way) at late =
        (let is = asked_works k at.fit at.now late asked in put k at.fit at.now x (waits_for_opened x link (passed_on s table) given).work is.mine x.live refl _ (pends_rises k.sessions x.live) (
          is.seq,
          λ top. record {
            notes = is.notes top;
            calm = λ high. (let much = is.later top in absurd (omega (arith, much, high)));
            err = λ g going step errand. absurd (statement_no _ _ step _ g going errand);
          },
        ))
    notes_on (steps.Goes_on {k = k} x from strength g link opened) at late =
        (let is = going_works k at.fit at.now x g opened.live opened.going in called_so k at.fit at.now (with_edge x (new_edge from link strength)) (length x.live.edges + 1) (less_room g.errand) (record { later = is.later; notes = is.notes; seq = is.seq; mine = is.mine })
        (λ step errand top. ((branch_fits k at.fit at.now x opened.live).1 top).err g opened.going step (less_back g.errand step errand)))
    notes_on (steps.Hears_reply {k = k} x weight count a i e answered) at late =
        (let y : Branch = hears_reply x i weight count e in let heard = heard_rises k.sessions y.live a in
        put k at.fit at.now x (with_answer y (heard_answer y.live e.link a)).work (work_is k x.live.me x answered.live) y.live refl (answered_sessions (heard_sessions k.sessions y.live a) y.live x.live.parent)
        (rises_on k.sessions (heard_sessions k.sessions y.live a) (answered_sessions (heard_sessions k.sessions y.live a) y.live x.live.parent) heard (answered_rises (heard_sessions k.sessions y.live a) y.live x.live.parent))
        ((branch_fits k at.fit at.now x answered.live).0, λ top. (let held = (branch_fits k at.fit at.now x answered.live).1 top in record { notes = held.notes; calm = λ high. refl; err = λ g going step errand. absurd cc })))
    notes_on (steps.Backs {k = k} x step from i calls next) at late =
        (let is = calling_works k at.fit at.now late at.tops calls in called_so k at.fit at.now x i (errands.GoBack step) is.0 (λ j same_step top. subst (λ n. T x.live.me ≤ n) (back_step step j same_step) (is.1 top)))
    notes_on (steps.Is_back {k = k} x step from calls none) at late = answered_so k at.fit at.now x (answers.Did dones.RolledBack 0) (calling_works k at.fit at.now late at.tops calls).0
    notes_on (steps.Opens_branch {k = k} to parent edge root depth read_at came none) at late =
        (each_begun (Fits k.sessions) (Fits k.sessions) k.lives k.works at.now.0 _ (λ top. absurd cc, λ is. absurd (let some = is.1 in cc)) (λ y v live any so. so), at.now.1)
    notes_on (steps.Acts {k = k} l site_below acts.Rest why) at late = stays k at.fit at.now l (acting_fits k at.fit at.now why)
    notes_on (steps.Acts {k = k} l site_below acts.AskDown why) at late = stays k at.fit at.now l (acting_fits k at.fit at.now why)
    notes_on (steps.Acts {k = k} l site_below acts.SayReady why) at late = stays k at.fit at.now (ready l) (acting_fits k at.fit at.now why)
    notes_on (steps.Acts {k = k} l site_below acts.SayReadOnly why) at late = gone k at.fit at.now l.me k.sessions (rises_same k.sessions)
    notes_on (steps.Acts {k = k} l site_below acts.Seal why) at late = gone k at.fit at.now l.me k.sessions (rises_same k.sessions)
    notes_on (steps.Acts {k = k} l site_below (acts.SealAndPass i) why) at late = gone k at.fit at.now l.me k.sessions (rises_same k.sessions)
    notes_on (steps.Acts {k = k} l site_below acts.Decide why) at late = gone k at.fit at.now l.me _ (ended_if_rises k.sessions (is_alone l) l.me)
    notes_on (steps.Acts {k = k} l site_below acts.Finish why) at late = gone k at.fit at.now l.me _ (ended_rises k.sessions l.me)
    notes_on (steps.Acts {k = k} l site_below acts.Abandon why) at late = gone k at.fit at.now l.me _ (abandoned_rises k.sessions l l.parent)
    notes_on (steps.Drops_told {k = k} l live drops) at late = gone k at.fit at.now l.me k.sessions (rises_same k.sessions)
    notes_on (steps.Drops_asked {k = k} l from live came parent) at late = gone k at.fit at.now l.me k.sessions (rises_same k.sessions)
    notes_on (steps.Does {k = k} s from nexts.Rest kept why) at late = at.now
    notes_on (steps.Does {k = k} s from nexts.AckToward kept why) at late = at.now
    notes_on (steps.Does {k = k} s from nexts.SayForgotten kept why) at late = at.now
    notes_on (steps.Does {k = k} s from nexts.SayAck kept why) at late = at.now
    notes_on (steps.Does {k = k} s from (nexts.End d) kept why) at late = still k at.fit at.now _ (decided_rises k.sessions s.me d)
    notes_on (steps.Does {k = k} s from (nexts.Meet d mixed) kept why) at late = still k at.fit at.now _ (decided_rises k.sessions s.me d)
    notes_on (steps.Does {k = k} s from nexts.Forget kept why) at late = still k at.fit at.now _ (ended_rises k.sessions s.me)
    notes_on (steps.Forces_given {k = k} n id m b call named) at late = still k at.fit at.now _ (ended_rises k.sessions b)
    notes_on (steps.Forces_commit {k = k} n id b call named) at late = still k at.fit at.now _ (ended_rises k.sessions b)
    notes_on (steps.Forces_rollback {k = k} n id b call named) at late = still k at.fit at.now _ (ended_rises k.sessions b)
    notes_on (steps.Advises {k = k} n a call) at late = still k at.fit at.now _ (set_rises k.sessions n (record (session_at k.sessions n) { advice = a }) refl (omega arith) (λ b has. has))
    notes_on (steps.Leaves {k = k} n s d x call ends has live) at late = gone k at.fit at.now x.live.me _ (done_rises k.sessions n)
    notes_on (steps.Sets_savepoint {k = k} n x name call has code live) at late =
        put k at.fit at.now x (marked k.sessions x name).work (work_is k x.live.me x live) x.live refl k.sessions (rises_same k.sessions)
        ((branch_fits k at.fit at.now x live).0, λ top. (let held = (branch_fits k at.fit at.now x live).1 top in record { notes = held.notes; calm = held.calm; err = held.err }))
    notes_on (steps.Gives_up {k = k} n x gives has calls live) at late =
        (let freed : List Session = with_call k.sessions n pending.NoCall in
        put k at.fit at.now x (gives_up x).work (work_is k x.live.me x live) x.live refl _ (rises_on k.sessions freed (needs_rollback freed n (dtx 3 []).code) (call_rises k.sessions n pending.NoCall) (needs_rises freed n (dtx 3 []).code))
        ((branch_fits k at.fit at.now x live).0, λ top. (let held = (branch_fits k at.fit at.now x live).1 top in record { notes = held.notes; calm = λ high. refl; err = λ g going step errand. absurd cc })))
    notes_on (steps.Gives_up_commit {k = k} n b (Some l) gives has calls live) at late = gone k at.fit at.now l.me _ (ended_rises k.sessions l.me)
    notes_on (steps.Gives_up_commit {k = k} n b None gives has calls live) at late = still k at.fit at.now _ (ended_rises k.sessions b)
    notes_on _ at late = at.now

    -- ---- the drafts of calls that leave notes

    way_step : (k : NodeState) (x : Branch) (s : Stmt) (given : ℕ) → Asked k input x s given → (w : Way) → way_of p k.stored.durable x.live given s ≡ w → Step p input k (goes p k x s given w)
    way_step k x s given asked (Runs_here t) is = steps.Runs x s given t asked is
    way_step k x s given asked (Nowhere_to r) is = steps.Goes_nowhere x s given r asked is
    way_step k x s given asked (Over i table) is = steps.Calls x s given i table asked is
    way_step k x s given asked (Through node link table) is = steps.Opens x s given node link table asked is

    rows_step : (k : NodeState) (n : ℕ) (s : Stmt) → IsCall input n s → IsOfRows s → Step p input k (statement_call p k n s)
    rows_step k n s call rows = by (session_at k.sessions n).code refl (root_at k n) (root_so k n)
      where
        by : (code : Option ℕ) → (session_at k.sessions n).code ≡ code → (o : Option Branch) → RootSo k n o → Step p input k (statement_by p k n s code o)
        by code is None so = steps.Rests
        by (Some c) is (Some x) so = steps.Refuses n (Some s) _ call
        by None is (Some x) so =
            cond_both (is_some x.live.read_at && is_write s) _ _ (Step p input k) (λ write. steps.Refuses n (Some s) _ call)
            (λ may. (let asked : Asked k input x s 0 = steps.By_call n x s call rows so.0 is so.1 may in way_step k x s 0 asked (way_of p k.stored.durable x.live 0 s) refl))

    rollback_step : (k : NodeState) (n : ℕ) (name : List ℕ) → IsCall input n (stmts.RollbackTo name) → Step p input k (back_call k n name)
    rollback_step k n name call = by (session_at k.sessions n).code refl (root_at k n) (root_so k n)
      where
        goes_step : (x : Branch) (step : ℕ) → Goes_to k input x step → Step p input k (back_to_savepoint k n name x (Some step))
        goes_step x step goes = steps.Goes_back x step goes (next (next_back (branch_back k x step).work step 1) refl)
          where
            calls : Calls_back (node_back k x step) input (branch_back k x step) step 1
            calls = steps.Has_gone k x step goes refl

            next : (o : Option ℕ) → next_back (branch_back k x step).work step 1 ≡ o → Step p input (node_back k x step) (backs_to (node_back k x step) (branch_back k x step) step o)
            next None is = steps.Is_back (branch_back k x step) step 1 calls is
            next (Some i) is = steps.Backs (branch_back k x step) step 1 i calls is

        by : (code : Option ℕ) → (session_at k.sessions n).code ≡ code → (o : Option Branch) → RootSo k n o → Step p input k (back_by k n name code o)
        by code is None so = steps.Refuses n (Some (stmts.RollbackTo name)) _ call
        by (Some c) is (Some x) so = steps.Refuses n (Some (stmts.RollbackTo name)) _ call
        by None is (Some x) so = saved (savepoint_at x.work.marks name) refl
          where
            saved : (o : Option ℕ) → savepoint_at x.work.marks name ≡ o → Step p input k (back_to_savepoint k n name x o)
            saved None at = steps.Refuses n (Some (stmts.RollbackTo name)) _ call
            saved (Some step) at = goes_step x step (steps.By_rollback_to n x name step call so.0 is so.1 at)

    -- a transaction is there, or begins, and the call is counted
    begun_at : (k : NodeState) → At k → (n : ℕ) (s : Stmt) → IsCall input n s → IsOfRows s → IsSession n → At (begun p k n) × Late (begun p k n)
    begun_at k at n s call rows range = by (session_at k.sessions n).root refl
      where
        by : (o : Option BranchId) → (session_at k.sessions n).root ≡ o → At (counted (begun_by p k n None o) n) × Late (counted (begun_by p k n None o) n)
        by (Some r) is = (counts_at k at n, counts_late k at n s call range)
        by None is = (let mid = begins_at k at n s None call (steps.By_rows s rows) range is in (counts_at (begun_by p k n None None) mid n, counts_late (begun_by p k n None None) mid n s call range))

    rows_draft : (k : NodeState) (n : ℕ) (s : Stmt) → IsOfRows s → draft_of p k (inputs.Call n (Some s)) ≡ statement_call p (begun p k n) n s
    rows_draft k n (stmts.Insert table columns given) rows = refl
    rows_draft k n (stmts.Update table sets cs) rows = refl
    rows_draft k n (stmts.Delete table cs) rows = refl
    rows_draft k n (stmts.Select list table cs for_update) rows = refl
    rows_draft k n _ rows = absurd rows

    -- the node after a turn
    pub turn_on : (k : NodeState) → ((n : ℕ) (s : Stmt) → IsCall input n s → IsSession n) → Step p input (heard k input) (draft_of p k input) → At (heard k input) → Nodes (draft_of p k input).after
    turn_on k range step at = elim (kind_of input) [
      | inl rows ↦ (let here : At k = subst (λ i. At (heard k i)) rows.3 at in
          let it = begun_at k here rows.0 rows.1 rows.3 rows.2 (range rows.0 rows.1 rows.3) in
          subst (λ (d : TurnDraft). Nodes d.after) (sym (ap (draft_of p k) rows.3 ∙ rows_draft k rows.0 rows.1 rows.2)) (notes_on (rows_step (begun p k rows.0) rows.0 rows.1 rows.3 rows.2) it.0 it.1))
      | inr other ↦ elim other [
        | inl back ↦ (let here : At k = subst (λ i. At (heard k i)) back.2 at in
            subst (λ (d : TurnDraft). Nodes d.after) (sym (ap (draft_of p k) back.2))
            (notes_on (rollback_step (counted k back.0) back.0 back.1 back.2) (counts_at k here back.0) (counts_late k here back.0 (stmts.RollbackTo back.1) back.2 (range back.0 (stmts.RollbackTo back.1) back.2))))
        | inr none ↦ notes_on step at (λ n s call adds. absurd (none n s call adds))
      ]
    ]
