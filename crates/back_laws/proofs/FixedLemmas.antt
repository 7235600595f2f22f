-- What a branch below a root noted up to a call that it took stays, while it goes back no further and takes only later calls.
use Rattle.std.proofs.Common.{◌≡◌, ◌≤◌, ◌<◌, ◌+◌, ℕ, Bool, true, false, if◌then◌else◌, List, [], ◌∷◌, ◌++◌, filter, length, nat_le, nat_lt, Option, Some, None, refl, sym, ap, subst, ◌∙◌, arith, ◌≢◌, is_none}
use Rattle.std.specs.List.{AllByRecursion}
use Rattle.std.proofs.lemmas.Bool.Decides.{nat_tests}
use Rattle.tran_ids.proofs.ListedLemmas.{item_is}
use Rattle.commit_forget.specs.declared.next.Next.TheVariants as nexts
use Rattle.node_rules.specs.Data.{Act, Answer, BranchId, Live, Note, Place, Input, Stmt, Table}
use Rattle.node_rules.specs.Data.acts
use Rattle.node_rules.specs.Data.kinds
use Rattle.node_rules.specs.Data.tasks
use Rattle.node_rules.specs.declared.session.Session.{Session}
use Rattle.node_rules.specs.declared.work.Errand.{Errand}
use Rattle.node_rules.specs.declared.work.Errand.TheVariants as errands
use Rattle.node_rules.specs.declared.work.Going.{Going}
use Rattle.node_rules.specs.declared.work.Work.{Work}
use Rattle.node_rules.specs.declared.work.Waits.{Waits}
use Rattle.node_rules.specs.declared.work.Waits.TheVariants as waiting
use Rattle.node_rules.specs.Inputs.{Came}
use Rattle.node_rules.specs.NodeState.{NodeState, Branch, TurnDraft, live_id, branch_at, work_id}
use Rattle.node_rules.specs.Statement.{StmtOutcome, Refuses, Reads, Writes, ran, after_run, answer_of_run}
use Rattle.node_rules.specs.Calls.{with_answer, called, calls_with, with_edge, branch_ran, less_room, hears_reply, waits_for_opened, heard_answer}
use Rattle.node_rules.specs.Client.{gives_up, marked}
use Rattle.node_rules.specs.Commit.{acked_by}
use Rattle.node_rules.specs.LiveBranches.{EachLive, works_of}
use Rattle.node_rules.specs.Marks.{step_of, run_note, call_note}
use Rattle.node_rules.specs.Names.{passed_on}
use Rattle.node_rules.specs.Prepare.{ready}
use Rattle.node_rules.specs.Sessions.{session_at}
use Rattle.node_rules.specs.Words.{put_item, drop_item}
use Rattle.node_rules.proofs.LiveLemmas.{each_put, each_changed, each_left, each_begun, branch_parts, work_is}
use Rattle.node_rules.proofs.StepLemmas.{acting_so}
use Rattle.node_rules.proofs.Steps as steps
use Rattle.node_rules.proofs.Steps.{Step, Asked, Acting, Goes_to, Calls_back, HasRoot, Is_opened, BeginsBy, Says}
use Rattle.run_base_laws.proofs.NeighborLemmas.{News}
use Rattle.run_base_laws.proofs.NeighborStepLemmas.{begun_news, pends_news, lets_news, acked_news, counted_news, back_news}
use Rattle.run_base_laws.proofs.RootLemmas.{SessionsFit, RootsFit, root_alone, begun_so, counted_so, pends_so, back_so}
use Rattle.run_rules.specs.Births.{Born}
use Rattle.savepoints.specs.Marks.{is_until}
use Rattle.session_tree.specs.Live.{new_edge}
use Rattle.back_laws.proofs.StepLemmas.{until_is, is_up_to, filter_twice}
use Rattle.back_laws.proofs.KeepLemmas.{filter_without, admitted_later}
use Rattle.node_rules.proofs.StandLemmas.{live_so}
use Rattle.node_rules.specs.Data.answers
use Rattle.node_rules.specs.Data.dones
use Rattle.node_rules.specs.declared.session.PendingCall.TheVariants as pending

-- ---- numbers and notes

pub strictly : (a b : ℕ) → a ≤ b → (b ≤ a → ⊥) → a < b
strictly a b low never = by (nat_lt a b) refl
  where
    by : (q : Bool) → nat_lt a b ≡ q → a < b
    by true less = grind (arith, nat_tests, less)
    by false less = absurd (never (grind (arith, nat_tests, less)))

pub not_until : (step c : ℕ) → c < step → nat_le step c ≡ false
not_until step c less = grind (arith, nat_tests, less)

module _ (T : BranchId → ℕ) (N : BranchId → List Note) (D : BranchId → Type 0) where
  -- The notes of a branch up to its floor are these. While it has taken no later call it waits for nothing, and it goes back no further.
  pub record Held (b : BranchId) (w : Work) : Type 0 where
    pub low : T b ≤ w.came.last_call
    pub notes : filter (is_until (T b)) w.marks.notes ≡ N b
    pub calm : w.came.last_call ≤ T b → w.going ≡ None
    pub err : (g : Going) → w.going ≡ Some g → (step : ℕ) → g.errand ≡ errands.GoBack step → T b ≤ step

  -- of each of these branches below a root
  abbrev pub Fits : Live → Work → Type 0
  Fits l w = D l.me → l.parent ≢ None → Held l.me w

  abbrev pub Nodes : NodeState → Type 0
  Nodes k = EachLive Fits k.lives k.works

  abbrev pub IsFresh : Born → Type 0
  IsFresh y = D y.me → ⊥

  -- What is known of a branch that goes on: it has taken a later call.
  record Works (x : Branch) : Type 0 where
    pub later : D x.live.me → x.live.parent ≢ None → T x.live.me < x.work.came.last_call
    pub notes : D x.live.me → x.live.parent ≢ None → filter (is_until (T x.live.me)) x.work.marks.notes ≡ N x.live.me
    pub mine : x.work.branch ≡ x.live.me

  -- one that waits has taken a later call
  held_later : (b : BranchId) (w : Work) (g : Going) → Held b w → w.going ≡ Some g → T b < w.came.last_call
  held_later b w g is going = strictly (T b) w.came.last_call is.low (λ high. (let none = is.calm high in absurd (cc (none, going))))

  -- it waits for nothing now
  rested : (b : BranchId) (w v : Work) → v.came.last_call ≡ w.came.last_call → v.marks.notes ≡ w.marks.notes → v.going ≡ None → Held b w → Held b v
  rested b w v call notes none is = record {
    low = subst (λ n. T b ≤ n) (sym call) is.low;
    notes = ap (filter (is_until (T b))) notes ∙ is.notes;
    calm = λ high. none;
    err = λ g going step errand. absurd (cc (none, going));
  }

  -- a note more, at the step of a branch that has taken a later call
  noted : (ss : List Session) (x : Branch) (n : Note) → n.step ≡ step_of ss x → D x.live.me → x.live.parent ≢ None → Works x → filter (is_until (T x.live.me)) (x.work.marks.notes ++ n ∷ []) ≡ N x.live.me
  noted ss x n is d below works = filter_without (is_until (T x.live.me)) x.work.marks.notes n (by x.live.parent refl) ∙ works.notes d below
    where
      by : (o : Option BranchId) → x.live.parent ≡ o → nat_le n.step (T x.live.me) ≡ false
      by None top = absurd (below top)
      by (Some p) some =
          let late = works.later d below in
          let step : n.step ≡ x.work.came.last_call = is ∙ ap (λ o. if is_none o then (session_at ss x.live.me.session).calls else x.work.came.last_call) some in
          not_until n.step (T x.live.me) (omega (arith, late, step))

  module _ (p : Place) (input : Input) (backs : (from to : BranchId) (call keep : ℕ) → Came input from to (kinds.Exec call (tasks.GoBack keep)) → T to < call → T to ≤ keep) where
    module _ (k : NodeState) (fit : SessionsFit k) (now : Nodes k) where
      branch_fits : (x : Branch) → branch_at k x.live.me ≡ Some x → Fits x.live x.work
      branch_fits x found = let parts = branch_parts k x.live.me x found in subst (λ (w : Work). Fits x.live w) (sym parts.1) (now.each x.live.me x.live parts.0)

      is_top : (n : ℕ) (x : Branch) → HasRoot k n x.live.me → branch_at k x.live.me ≡ Some x → x.live.parent ≡ None
      is_top n x has live = root_alone k fit n x.live.me has x.live (live_so k x.live.me x live)

      asked_works : {x : Branch} {s : Stmt} {given : ℕ} → Asked k input x s given → Works x
      asked_works (steps.By_call n x s call rows has code live may) = record { later = λ d below. absurd (below (is_top n x has live)); notes = λ d below. absurd (below (is_top n x has live)); mine = work_is k x.live.me x live }
      asked_works (steps.By_exec x from call given advice s came live runs) = record {
        later = λ d below. (let low = (branch_fits x live d below).low in let new = admitted_later x call runs in omega (arith, low, new));
        notes = λ d below. (branch_fits x live d below).notes;
        mine = work_is k x.live.me x live;
      }

      goes_works : {x : Branch} {step : ℕ} → Goes_to k input x step → Works x × (D x.live.me → x.live.parent ≢ None → T x.live.me ≤ step)
      goes_works (steps.By_rollback_to n x name step call has code live set) = (
        record { later = λ d below. absurd (below (is_top n x has live)); notes = λ d below. absurd (below (is_top n x has live)); mine = work_is k x.live.me x live },
        λ d below. absurd (below (is_top n x has live)),
      )
      goes_works (steps.By_back x from call keep came live runs) = (
        record {
          later = λ d below. (let low = (branch_fits x live d below).low in let new = admitted_later x call runs in omega (arith, low, new));
          notes = λ d below. (branch_fits x live d below).notes;
          mine = work_is k x.live.me x live;
        },
        λ d below. backs from x.live.me call keep came (let low = (branch_fits x live d below).low in let new = admitted_later x call runs in omega (arith, low, new)),
      )

      going_works : (x : Branch) (g : Going) → branch_at k x.live.me ≡ Some x → x.work.going ≡ Some g → Works x
      going_works x g live going = record {
        later = λ d below. held_later x.live.me x.work g (branch_fits x live d below) going;
        notes = λ d below. (branch_fits x live d below).notes;
        mine = work_is k x.live.me x live;
      }

      put : (x : Branch) (w : Work) → w.branch ≡ x.live.me → (l : Live) → l.me ≡ x.live.me → Fits l w → EachLive Fits (put_item live_id k.lives l) (put_item work_id k.works w)
      put x w mine l me fits = each_put Fits Fits k.lives k.works now l w (mine ∙ sym me) fits (λ y v live other so. so)

      called_so : (x : Branch) (i : ℕ) (e : Errand) → Works x → ((step : ℕ) → e ≡ errands.GoBack step → D x.live.me → x.live.parent ≢ None → T x.live.me ≤ step)
          → EachLive Fits (put_item live_id k.lives x.live) (put_item work_id k.works (called k.sessions x i e).work)
      called_so x i e is above = put x (called k.sessions x i e).work is.mine x.live refl (λ d below. record {
        low = (let late = is.later d below in omega (arith, late));
        notes = noted k.sessions x (call_note (step_of k.sessions x) (calls_with x.work i)) refl d below is;
        calm = λ high. (let late = is.later d below in absurd (omega (arith, late, high)));
        err = λ g going step errand. above step (let it : record { errand = e; waits = waiting.ForReply i } ≡ g = cc in ap (λ (y : Going). y.errand) it ∙ errand) d below;
      })

      answered_so : (x : Branch) (a : Answer) → Works x → EachLive Fits (put_item live_id k.lives x.live) (put_item work_id k.works (with_answer x a).work)
      answered_so x a is = put x (with_answer x a).work is.mine x.live refl (λ d below. record {
        low = (let late = is.later d below in omega (arith, late));
        notes = is.notes d below;
        calm = λ high. refl;
        err = λ g going step errand. absurd cc;
      })

      ran_so : (x : Branch) (t : Table) (r : StmtOutcome) → Works x
          → EachLive Fits (put_item live_id k.lives (branch_ran k.sessions x t r).live) (put_item work_id k.works (with_answer (branch_ran k.sessions x t r) (answer_of_run r)).work)
      ran_so x t (Refuses r) is = put x (with_answer (branch_ran k.sessions x t (Refuses r)) (answer_of_run (Refuses r))).work is.mine (after_run x.live (Refuses r)) refl (λ d below. record {
        low = (let late = is.later d below in omega (arith, late));
        notes = is.notes d below;
        calm = λ high. refl;
        err = λ g going step errand. absurd cc;
      })
      ran_so x t (Reads rows keys) is = put x (with_answer (branch_ran k.sessions x t (Reads rows keys)) (answer_of_run (Reads rows keys))).work is.mine (after_run x.live (Reads rows keys)) refl (λ d below. record {
        low = (let late = is.later d below in omega (arith, late));
        notes = noted k.sessions x (run_note (step_of k.sessions x) t 0 keys x.work.calls) refl d below is;
        calm = λ high. refl;
        err = λ g going step errand. absurd cc;
      })
      ran_so x t (Writes d0 cs keys undo) is = put x (with_answer (branch_ran k.sessions x t (Writes d0 cs keys undo)) (answer_of_run (Writes d0 cs keys undo))).work is.mine (after_run x.live (Writes d0 cs keys undo)) refl (λ d below. record {
        low = (let late = is.later d below in omega (arith, late));
        notes = noted k.sessions x (run_note (step_of k.sessions x) t 1 keys x.work.calls) refl d below is;
        calm = λ high. refl;
        err = λ g going step errand. absurd cc;
      })

      gone : (b : BranchId) → EachLive Fits (drop_item live_id k.lives b) (drop_item work_id k.works b)
      gone b = each_left Fits Fits k.lives k.works now b (λ y v live other so. so)

      acting_fits : {l : Live} {site_below : Bool} {a : Act} → Acting k input l site_below a → Fits l (works_of k.works l.me)
      acting_fits why = acting_so (λ l. Fits l (works_of k.works l.me)) (λ l comment site_below is. is) (λ l from v is. is) (λ b l found. subst (λ m. Fits l (works_of k.works m)) (sym (item_is live_id k.lives b l found)) (now.each b l found)) why

      stays : (l : Live) → Fits l (works_of k.works l.me) → EachLive Fits (put_item live_id k.lives l) k.works
      stays l is = each_changed Fits Fits k.lives k.works now l is (λ y v live other so. so)

    -- a branch whose children are to go back
    calling_works : (k : NodeState) → SessionsFit k → Nodes k → {x : Branch} {step from : ℕ} → Calls_back k input x step from → Works x × (D x.live.me → x.live.parent ≢ None → T x.live.me ≤ step)
    calling_works k fit now (steps.Has_gone j x step goes is) =
        let was = goes_works j (record { roots = subst (λ (i : NodeState). RootsFit i.sessions) is fit.roots; above = subst (λ (i : NodeState). AllByRecursion (λ (l : Live). l.parent ≢ None → 65 ≤ l.me.session) i.lives) is fit.above }) (subst Nodes is now) goes in (
          record {
            later = was.0.later;
            notes = λ d below. filter_twice (is_until (T x.live.me)) (is_until step) (λ (n : Note) up. (let low = until_is n.step (T x.live.me) up in let less = was.1 d below in is_up_to n.step step (omega (arith, low, less)))) x.work.marks.notes ∙ was.0.notes d below;
            mine = was.0.mine;
          },
          was.1,
        )
    calling_works k fit now (steps.Has_heard x weight count a i e g step answered going errand done) =
        let is = going_works k fit now x g answered.live going in
        (record { later = is.later; notes = is.notes; mine = is.mine }, λ d below. (branch_fits k fit now x answered.live d below).err g going step errand)

    statement_no : (s : Stmt) (given step : ℕ) (waits : Waits) (g : Going) → Some (record { errand = errands.Statement s given; waits = waits }) ≡ Some g → g.errand ≡ errands.GoBack step → ⊥
    statement_no s given step waits g is errand =
        let it : record { errand = errands.Statement s given; waits = waits } ≡ g = cc in
        let same_errand : errands.Statement s given ≡ g.errand = ap (λ (y : Going). y.errand) it in
        absurd (cc (same_errand, errand))

    less_back : (e : Errand) (step : ℕ) → less_room e ≡ errands.GoBack step → e ≡ errands.GoBack step
    less_back (errands.Statement s given) step is = absurd cc
    less_back (errands.GoBack j) step is = is

    back_step : (step j : ℕ) → errands.GoBack step ≡ errands.GoBack j → step ≡ j
    back_step step j same_step = let it : errands.GoBack step ≡ errands.GoBack j = same_step in cc

    -- each step keeps it
    pub notes_on : {k : NodeState} {d : TurnDraft} → Step p input k d → News IsFresh p input k → SessionsFit k → Nodes k → Nodes d.after
    notes_on (steps.Begins {k = k} n s read_at call begins range none step) new fit now =
        notes_on step (begun_news IsFresh p input k n read_at new) (begun_so k fit p n read_at) (each_begun Fits Fits k.lives k.works now _ (λ d below. absurd (below refl)) (λ y v live any so. so))
    notes_on (steps.Counts_call {k = k} n s call counts step) new fit now = notes_on step (counted_news IsFresh p input k n new) (counted_so k fit n) now
    notes_on (steps.Goes_back {k = k} x step goes next) new fit now = notes_on next (back_news IsFresh p input k x step new) (back_so k fit x step) now
    notes_on (steps.Pends {k = k} n l given call has code live writer step) new fit now = notes_on step (pends_news IsFresh p input k n given call new) (pends_so k fit n pending.Commit) now
    notes_on (steps.Lets_reads_go {k = k} l comment site_below live begins step) new fit now = notes_on step (lets_news IsFresh p input k l.me new) (record { roots = fit.roots; above = fit.above }) now
    notes_on (steps.Counts_ack {k = k} s from kept came counts step) new fit now = notes_on step (acked_news IsFresh p input k (acked_by s from) new) (record { roots = fit.roots; above = fit.above }) now
    notes_on (steps.Runs {k = k} x s given t asked way) new fit now = ran_so k fit now x t (ran p k x.live.me s t) (asked_works k fit now asked)
    notes_on (steps.Goes_nowhere {k = k} x s given r asked way) new fit now = answered_so k fit now x (answers.Refused r) (asked_works k fit now asked)
    notes_on (steps.Calls {k = k} x s given i table asked way) new fit now = called_so k fit now x i (errands.Statement (passed_on s table) given) (asked_works k fit now asked) (λ step none. absurd cc)
    notes_on (steps.Opens {k = k} x s given node link table asked way) new fit now =
        (let is = asked_works k fit now asked in put k fit now x (waits_for_opened x link (passed_on s table) given).work is.mine x.live refl (λ d below. record {
          low = (let late = is.later d below in omega (arith, late));
          notes = is.notes d below;
          calm = λ high. (let late = is.later d below in absurd (omega (arith, late, high)));
          err = λ g going step errand. absurd (statement_no _ _ step _ g going errand);
        }))
    notes_on (steps.Goes_on {k = k} x from strength g link opened) new fit now =
        (let is = going_works k fit now x g opened.live opened.going in called_so k fit now (with_edge x (new_edge from link strength)) (length x.live.edges + 1) (less_room g.errand) (record { later = is.later; notes = is.notes; mine = is.mine })
        (λ step errand d below. (branch_fits k fit now x opened.live d below).err g opened.going step (less_back g.errand step errand)))
    notes_on (steps.Hears_reply {k = k} x weight count a i e answered) new fit now =
        (let y : Branch = hears_reply x i weight count e in
        put k fit now x (with_answer y (heard_answer y.live e.link a)).work (work_is k x.live.me x answered.live) y.live refl (λ d below. rested x.live.me x.work _ refl refl refl (branch_fits k fit now x answered.live d below)))
    notes_on (steps.Backs {k = k} x step from i calls next) new fit now =
        (let is = calling_works k fit now calls in called_so k fit now x i (errands.GoBack step) is.0 (λ j same_step d below. subst (λ n. T x.live.me ≤ n) (back_step step j same_step) (is.1 d below)))
    notes_on (steps.Is_back {k = k} x step from calls none) new fit now = answered_so k fit now x (answers.Did dones.RolledBack 0) (calling_works k fit now calls).0
    notes_on (steps.Opens_branch {k = k} to parent edge root depth read_at came none) new fit now =
        each_begun Fits Fits k.lives k.works now _ (λ d below. absurd (new.child to parent edge root depth read_at came none d)) (λ y v live any so. so)
    notes_on (steps.Acts {k = k} l site_below acts.Rest why) new fit now = stays k fit now l (acting_fits k fit now why)
    notes_on (steps.Acts {k = k} l site_below acts.AskDown why) new fit now = stays k fit now l (acting_fits k fit now why)
    notes_on (steps.Acts {k = k} l site_below acts.SayReady why) new fit now = stays k fit now (ready l) (acting_fits k fit now why)
    notes_on (steps.Acts {k = k} l site_below acts.SayReadOnly why) new fit now = gone k fit now l.me
    notes_on (steps.Acts {k = k} l site_below acts.Seal why) new fit now = gone k fit now l.me
    notes_on (steps.Acts {k = k} l site_below (acts.SealAndPass i) why) new fit now = gone k fit now l.me
    notes_on (steps.Acts {k = k} l site_below acts.Decide why) new fit now = gone k fit now l.me
    notes_on (steps.Acts {k = k} l site_below acts.Finish why) new fit now = gone k fit now l.me
    notes_on (steps.Acts {k = k} l site_below acts.Abandon why) new fit now = gone k fit now l.me
    notes_on (steps.Drops_told {k = k} l live drops) new fit now = gone k fit now l.me
    notes_on (steps.Drops_asked {k = k} l from live came parent) new fit now = gone k fit now l.me
    notes_on (steps.Does s from nexts.Rest kept why) new fit now = now
    notes_on (steps.Leaves {k = k} n s d x call ends has live) new fit now = gone k fit now x.live.me
    notes_on (steps.Sets_savepoint {k = k} n x name call has code live) new fit now =
        put k fit now x (marked k.sessions x name).work (work_is k x.live.me x live) x.live refl (λ d below. absurd (below (is_top k fit now n x has live)))
    notes_on (steps.Gives_up {k = k} n x gives has calls live) new fit now =
        put k fit now x (gives_up x).work (work_is k x.live.me x live) x.live refl (λ d below. absurd (below (is_top k fit now n x has live)))
    notes_on (steps.Gives_up_commit {k = k} n b (Some l) gives has calls live) new fit now = gone k fit now l.me
    notes_on _ new fit now = now
