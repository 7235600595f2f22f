-- A floor for each branch: a step below which it does not go back, with the calls that it has noted up to there. Where a node keeps the floors of
-- its branches, and no BACK that comes goes below one, a turn keeps them, and sends no BACK below the floor of a child.
use Rattle.std.proofs.Common.{◌≡◌, ◌≤◌, ◌<◌, ◌+◌, ◌==◌, ◌&&◌, ℕ, zero, suc, Bool, true, false, if◌then◌else◌, List, [], ◌∷◌, ◌++◌, filter, length, map, nat_le, nat_lt, is_some, Option, Some, None, inl, inr, refl, sym, ap, subst, ◌∙◌, arith}
use Rattle.std.specs.List.{AllByRecursion}
use Rattle.std.proofs.lemmas.Bool.{eqb-true, cond_both}
use Rattle.std.proofs.lemmas.Bool.Decides.{nat_tests}
use Rattle.std.proofs.lemmas.List.{length-append}
use Rattle.tran_ids.proofs.ListedLemmas.{item_is}
use Rattle.tran_ids.proofs.NumberedLemmas.{set_length}
use Rattle.commit_forget.specs.declared.next.Next.TheVariants as nexts
use Rattle.node_rules.specs.Data.{Act, Answer, BranchId, Edge, Kind, Live, Marks, Note, Place, Input, Post, Stmt, Table, Task, Vote}
use Rattle.node_rules.specs.Data.acts
use Rattle.node_rules.specs.Data.admits
use Rattle.node_rules.specs.Data.inputs
use Rattle.node_rules.specs.Data.kinds
use Rattle.node_rules.specs.Data.stmts
use Rattle.node_rules.specs.Data.tasks
use Rattle.node_rules.specs.declared.session.Session.{Session}
use Rattle.node_rules.specs.declared.work.Errand.{Errand}
use Rattle.node_rules.specs.declared.work.Errand.TheVariants as errands
use Rattle.node_rules.specs.declared.work.Going.{Going}
use Rattle.node_rules.specs.declared.work.Work.{Work}
use Rattle.node_rules.specs.declared.work.Waits.{Waits}
use Rattle.node_rules.specs.declared.work.Waits.TheVariants as waiting
use Rattle.node_rules.specs.Inputs.{Came, IsCall}
use Rattle.node_rules.specs.NodeState.{NodeState, Branch, TurnDraft, post, to_each, to_one, live_id, branch_at, no_work, with_branch, with_live, without_branch}
use Rattle.node_rules.specs.Statement.{StmtOutcome, Refuses, Reads, Writes, ran, after_run, answer_of_run}
use Rattle.node_rules.specs.Calls.{admit, with_answer, called, calls_with, with_edge, branch_ran, less_room, hears_reply, reply_of, exec_to, answer_says}
use Rattle.node_rules.specs.Client.{gives_up, marked}
use Rattle.node_rules.specs.Commit.{acked_by, beyond}
use Rattle.node_rules.specs.Recovery.{kept_told}
use Rattle.node_rules.specs.LiveBranches.{EachLive, works_of}
use Rattle.node_rules.specs.Marks.{with_note, step_of, kept_call, next_back, run_note, call_note}
use Rattle.node_rules.specs.Names.{passed_on}
use Rattle.node_rules.specs.Prepare.{ready, with_prepare_sent, has_voted, answers_first, path_of, site_neighbors}
use Rattle.node_rules.specs.Sessions.{session_at}
use Rattle.node_rules.specs.Words.{numbered}
use Rattle.node_rules.proofs.LiveLemmas.{each_put, each_changed, each_left, each_begun, branch_parts, work_is}
use Rattle.node_rules.proofs.StepLemmas.{acting_so}
use Rattle.node_rules.proofs.Steps as steps
use Rattle.node_rules.proofs.Steps.{Step, Asked, Acting, Goes_to, Calls_back, HasRoot, Is_opened, BeginsBy, Says}
use Rattle.run_base_laws.proofs.BeginLemmas.{MayBegin, may_begin}
use Rattle.run_base_laws.proofs.InTurnLemmas.{peer, numbered_map, numbered_split, map_last, length_peers, map_set}
use Rattle.run_base_laws.proofs.KindSayLemmas.{OfDecisions, AllSay, one_says, each_says, prepares_say, told_says, passes_say, askings_say}
use Rattle.run_base_laws.proofs.NeighborLemmas.{News, reply_is}
use Rattle.run_base_laws.proofs.NeighborStepLemmas.{begun_news, pends_news, lets_news, acked_news, counted_news, back_news}
use Rattle.run_base_laws.proofs.RootLemmas.{counted_session}
use Rattle.run_rules.specs.Births.{Born}
use Rattle.run_rules.proofs.ListLemmas.{all_append, map_after}
use Rattle.savepoints.specs.Marks.{calls_in, is_until, back_to}
use Rattle.session_tree.specs.Live.{children_of, new_edge, peer_of}
use Rattle.session_tree.specs.Tree.{step as step_from}
use Rattle.node_rules.specs.Marks.{savepoint_at}
use Rattle.back_laws.specs.BackLaws.{call_in}
use Rattle.back_laws.specs.Floors.{KeepsFloor, BackAbove}
use Rattle.back_laws.proofs.StepLemmas.{until_is, is_up_to, filter_twice}
use Rattle.back_laws.proofs.NoteLemmas.{Noted, Fit, calls_last, calls_below, noted_now, higher_calls, set_higher, more_there, noted_back, back_fits, kept_rises, none_low}
use Rattle.back_laws.proofs.EarlyLemmas.{admitted}

-- ---- notes

filter_with : (p : Note → Bool) (ns : List Note) (n : Note) → p n ≡ true → filter p (ns ++ n ∷ []) ≡ filter p ns ++ n ∷ []
filter_with p [] n passes = ap (λ q. if q then n ∷ [] else []) passes
filter_with p (m ∷ ns) n passes = by (p m) (filter_with p ns n passes)
  where
    by : (q : Bool) → filter p (ns ++ n ∷ []) ≡ filter p ns ++ n ∷ [] → (if q then m ∷ filter p (ns ++ n ∷ []) else filter p (ns ++ n ∷ [])) ≡ (if q then m ∷ filter p ns else filter p ns) ++ n ∷ []
    by true rest = ap (λ zs. m ∷ zs) rest
    by false rest = rest

pub filter_without : (p : Note → Bool) (ns : List Note) (n : Note) → p n ≡ false → filter p (ns ++ n ∷ []) ≡ filter p ns
filter_without p [] n not_it = ap (λ q. if q then n ∷ [] else []) not_it
filter_without p (m ∷ ns) n not_it = by (p m) (filter_without p ns n not_it)
  where
    by : (q : Bool) → filter p (ns ++ n ∷ []) ≡ filter p ns → (if q then m ∷ filter p (ns ++ n ∷ []) else filter p (ns ++ n ∷ [])) ≡ (if q then m ∷ filter p ns else filter p ns)
    by true rest = ap (λ zs. m ∷ zs) rest
    by false rest = rest

nothing_low : (calls : List ℕ) (i : ℕ) → call_in [] i ≤ call_in calls i
nothing_low calls zero = omega arith
nothing_low calls (suc i) = omega arith

-- a note more takes none of the calls that stay
kept_more : (m : Marks) (calls : List ℕ) (n : Note) (top i : ℕ) → Noted m.notes calls → ((j : ℕ) → call_in calls j ≤ call_in n.calls j) → kept_call m top i ≤ kept_call (with_note m n) top i
kept_more m calls n top i so up = by (nat_le n.step top) refl
  where
    by : (q : Bool) → nat_le n.step top ≡ q → call_in (calls_in [] (filter (is_until top) m.notes)) i ≤ call_in (calls_in [] (filter (is_until top) (m.notes ++ n ∷ []))) i
    by false not_it = subst (λ ns. call_in (calls_in [] (filter (is_until top) m.notes)) i ≤ call_in (calls_in [] ns) i) (sym (filter_without (is_until top) m.notes n not_it)) (omega arith)
    by true passes =
        let low = calls_below calls [] (filter (is_until top) m.notes) i (nothing_low calls i) (noted_back m top calls so).below in
        let more = up i in
        subst (λ ns. call_in (calls_in [] (filter (is_until top) m.notes)) i ≤ call_in (calls_in [] ns) i) (sym (filter_with (is_until top) m.notes n passes))
        (subst (λ cs. call_in (calls_in [] (filter (is_until top) m.notes)) i ≤ call_in cs i) (sym (calls_last [] (filter (is_until top) m.notes) n)) (omega (arith, low, more)))

-- going back to a later step takes none
kept_back : (m : Marks) (step top i : ℕ) → top ≤ step → kept_call (back_to m step) top i ≡ kept_call m top i
kept_back m step top i less = ap (λ ns. call_in (calls_in [] ns) i) (filter_twice (is_until top) (is_until step) (λ (n : Note) is. (let low = until_is n.step top is in is_up_to n.step step (omega (arith, low, less)))) m.notes)

-- a call that is taken has a greater number
pub admitted_later : (x : Branch) (call : ℕ) → admit x.work.came call ≡ admits.Run → x.work.came.last_call < call
unfolding admit
admitted_later x call runs = by (nat_lt x.work.came.last_call call) refl ((call == x.work.came.last_call) && is_some x.work.came.reply) runs
  where
    by : (q : Bool) → nat_lt x.work.came.last_call call ≡ q → (r : Bool) → (if q then admits.Run else (if r then admits.Again else admits.Ignore)) ≡ admits.Run → x.work.came.last_call < call
    by true less r runs = grind (arith, nat_tests, less)
    by false less true runs = absurd cc
    by false less false runs = absurd cc

-- a Reply leaves the children
heard_kids : (x : Branch) (from : BranchId) (call i : ℕ) (weight : Option ℕ) (count : ℕ) (e : Edge) → reply_of x from call ≡ Some (i, e) → children_of (hears_reply x i weight count e).live ≡ children_of x.live
heard_kids x from call i weight count e waits = map_set (λ (y : Edge). y.peer) x.live.edges i e (record e { weight = weight; count = count }) (reply_is x from call i e waits) refl

-- a message that calls nobody to go back
abbrev NoBack : Kind → Type 0
NoBack (kinds.Exec call (tasks.GoBack keep)) = ⊥
NoBack _ = Unit {0}

decisions : OfDecisions NoBack
decisions = record { committed = λ n. tt; rolled_back = tt; rollback = tt; in_doubt = tt; ack = tt; forgotten = tt; ask = tt }

rolls : (l : Live) → AllSay NoBack (to_each l.me kinds.Rollback (children_of l))
rolls l = each_says NoBack l.me kinds.Rollback (children_of l) tt

says_quiet : {k : NodeState} {input : Input} {says : List Post} → Says k input says → AllSay NoBack says
says_quiet (steps.Tells s from came kept) = (told_says NoBack decisions (kept_told s from), tt)
says_quiet {k = k} (steps.Recovers reco) = askings_say NoBack decisions k
says_quiet _ = (tt, tt)

module _ (T : BranchId → ℕ) (up : BranchId → Option BranchId) (edge : BranchId → Option ℕ) where
  abbrev Keeps : Live → Work → Type 0
  Keeps l w = KeepsFloor T up edge l w

  abbrev pub P : Live → Work → Type 0
  P l w = Fit w.marks.notes w.calls × Keeps l w

  abbrev pub Nodes : NodeState → Type 0
  Nodes k = EachLive P k.lives k.works

  -- a branch that begins has none, and its children neither
  abbrev pub HasNone : BranchId → Type 0
  HasNone b = (T b ≡ 0) × ((c : BranchId) → up c ≡ Some b → T c ≡ 0)

  abbrev pub IsFresh : Born → Type 0
  IsFresh y = HasNone y.me

  -- a branch that waits for nothing now
  rested : (l z : Live) (w v : Work) → z.me ≡ l.me → children_of z ≡ children_of l → length z.edges ≡ length l.edges → w.came.last_call ≤ v.came.last_call → ((i : ℕ) → kept_call w.marks (T l.me) i ≤ kept_call v.marks (T l.me) i)
      → Keeps l w → v.going ≡ None → Keeps z v
  rested l z w v me kids many more kept is none = record {
    low = λ below. subst (λ b. T b ≤ v.came.last_call) (sym me) (let low = is.low (λ root. below (ap up me ∙ root)) in omega (arith, low, more));
    err = λ g going step errand. absurd (cc (none, going));
    kept = λ i c at. (let one = is.kept i c (ap (λ ps. numbered ps i) (sym kids) ∙ at) in let two = kept i in subst (λ b. T c ≤ kept_call v.marks (T b) i) (sym me) (omega (arith, one, two)));
    later = λ c e above at far. is.later c e (above ∙ ap Some me) at (let same = many in omega (arith, far, same));
  }

  module _ (p : Place) (input : Input) (backs : (from to : BranchId) (call keep : ℕ) → Came input from to (kinds.Exec call (tasks.GoBack keep)) → T to < call → T to ≤ keep)
      (execs : (from to : BranchId) (call : ℕ) (task : Task) → Came input from to (kinds.Exec call task) → up to ≡ Some from) (opens : (from to : BranchId) (e strength : ℕ) → Came input from to (kinds.Opened e strength) → (up from ≡ Some to) × (edge from ≡ Some e)) where
    -- no ROLLBACK TO goes below the floor of its root
    abbrev pub TopsAt : NodeState → Type 0
    TopsAt k = (n : ℕ) (x : Branch) (name : List ℕ) (step : ℕ) → IsCall input n (stmts.RollbackTo name) → HasRoot k n x.live.me → (session_at k.sessions n).code ≡ None → branch_at k x.live.me ≡ Some x
        → savepoint_at x.work.marks name ≡ Some step → T x.live.me ≤ step

    -- what is known of a branch that goes on, and of one that was asked
    record Ready (x : Branch) : Type 0 where
      pub noted : Noted x.work.marks.notes x.work.calls
      pub keeps : Keeps x.live x.work
      pub mine : x.work.branch ≡ x.live.me

    record AskedReady (x : Branch) : Type 0 where
      pub fit : Fit x.work.marks.notes x.work.calls
      pub keeps : Keeps x.live x.work
      pub mine : x.work.branch ≡ x.live.me

    no_begin : {clock n m : ℕ} {s : Stmt} {read_at : Option ℕ} {name : List ℕ} → IsCall input n s → BeginsBy clock s read_at → IsCall input m (stmts.RollbackTo name) → ⊥
    no_begin {n = n} {m = m} {s = s} {name = name} call begins other =
        let both : inputs.Call n (Some s) ≡ inputs.Call m (Some (stmts.RollbackTo name)) = sym call ∙ other in
        let one : s ≡ stmts.RollbackTo name = cc in
        subst MayBegin one (may_begin begins)

    no_commit : {n m : ℕ} {comment : Option (List ℕ)} {name : List ℕ} → IsCall input n (stmts.Commit comment) → IsCall input m (stmts.RollbackTo name) → ⊥
    no_commit {n = n} {m = m} {comment = comment} {name = name} call other = let both : inputs.Call n (Some (stmts.Commit comment)) ≡ inputs.Call m (Some (stmts.RollbackTo name)) = sym call ∙ other in absurd cc

    statement_no : (s : Stmt) (given step : ℕ) (waits : Waits) (g : Going) → Some (record { errand = errands.Statement s given; waits = waits }) ≡ Some g → g.errand ≡ errands.GoBack step → ⊥
    statement_no s given step waits g is errand =
        let it : record { errand = errands.Statement s given; waits = waits } ≡ g = cc in
        let same_errand : errands.Statement s given ≡ g.errand = ap (λ (y : Going). y.errand) it in
        absurd (cc (same_errand, errand))

    less_back : (e : Errand) (step : ℕ) → less_room e ≡ errands.GoBack step → e ≡ errands.GoBack step
    less_back (errands.Statement s given) step is = absurd cc
    less_back (errands.GoBack j) step is = is

    fresh_keeps : (l : Live) → HasNone l.me → l.edges ≡ [] → P l (no_work l.me)
    fresh_keeps l none empty = (
      record { noted = record { below = tt; rise = tt }; last = λ i. refl },
      record {
        low = λ below. subst (λ n. n ≤ 0) (sym none.0) (omega arith);
        err = λ g going step errand. absurd cc;
        kept = λ i c at. absurd (nobody i c (subst (λ es. numbered (map (λ (e : Edge). e.peer) es) i ≡ Some c) empty at));
        later = λ c e above at far. none.1 c above;
      },
    )
      where
        nobody : (i : ℕ) (c : BranchId) → numbered (map (λ (e : Edge). e.peer) []) i ≡ Some c → ⊥
        nobody zero c at = absurd cc
        nobody (suc i) c at = absurd cc

    module _ (k : NodeState) (now : Nodes k) where
      branch_keeps : (x : Branch) → branch_at k x.live.me ≡ Some x → P x.live x.work
      branch_keeps x found = let parts = branch_parts k x.live.me x found in subst (λ (w : Work). P x.live w) (sym parts.1) (now.each x.live.me x.live parts.0)

      asked_ready : {x : Branch} {s : Stmt} {given : ℕ} → Asked k input x s given → AskedReady x
      asked_ready (steps.By_call n x s call rows has code live may) = (let is = branch_keeps x live in record { fit = is.0; keeps = is.1; mine = work_is k x.live.me x live })
      asked_ready (steps.By_exec x from call given advice s came live runs) =
          let is = branch_keeps x live in
          let more = admitted x call runs in
          record {
            fit = record { noted = is.0.noted; last = is.0.last };
            keeps = record { low = λ below. (let low = is.1.low below in omega (arith, low, more)); err = is.1.err; kept = is.1.kept; later = is.1.later };
            mine = work_is k x.live.me x live;
          }

      put : (x : Branch) (w : Work) → w.branch ≡ x.live.me → (l : Live) → l.me ≡ x.live.me → P l w → EachLive P (with_branch k (record { live = l; work = w })).lives (with_branch k (record { live = l; work = w })).works
      put x w mine l me fits = each_put P P k.lives k.works now l w (mine ∙ sym me) fits (λ y v live other so. so)

      called_so : (x : Branch) (i : ℕ) (e : Errand) → Ready x → ((step : ℕ) → e ≡ errands.GoBack step → T x.live.me ≤ step) → EachLive P (with_branch k (called k.sessions x i e)).lives (with_branch k (called k.sessions x i e)).works
      called_so x i e is above =
          let more = higher_calls x.work.marks.notes x.work.calls (calls_with x.work i) (λ j. set_higher x.work.calls i j) is.noted in
          put x (called k.sessions x i e).work is.mine x.live refl (
            noted_now x.work.marks.notes (calls_with x.work i) _ refl more,
            record {
              low = is.keeps.low;
              err = λ g going step errand. above step (let it : record { errand = e; waits = waiting.ForReply i } ≡ g = cc in ap (λ (y : Going). y.errand) it ∙ errand);
              kept = λ j c at. (let low = is.keeps.kept j c at in
                  let up_too = kept_more x.work.marks (calls_with x.work i) (call_note (step_of k.sessions x) (calls_with x.work i)) (T x.live.me) j more (λ m. omega arith) in omega (arith, low, up_too));
              later = is.keeps.later;
            },
          )

      ran_keeps : (x : Branch) (t : Table) (r : StmtOutcome) → AskedReady x
          → EachLive P (with_branch k (with_answer (branch_ran k.sessions x t r) (answer_of_run r))).lives (with_branch k (with_answer (branch_ran k.sessions x t r) (answer_of_run r))).works
      ran_keeps x t (Refuses r) is = put x (with_answer (branch_ran k.sessions x t (Refuses r)) (answer_of_run (Refuses r))).work is.mine (after_run x.live (Refuses r)) refl (is.fit, rested x.live (after_run x.live (Refuses r)) x.work _ refl refl refl (omega arith) (λ i. omega arith) is.keeps refl)
      ran_keeps x t (Reads rows keys) is =
          put x (with_answer (branch_ran k.sessions x t (Reads rows keys)) (answer_of_run (Reads rows keys))).work is.mine (after_run x.live (Reads rows keys)) refl (
            noted_now x.work.marks.notes x.work.calls _ refl is.fit.noted,
            rested x.live (after_run x.live (Reads rows keys)) x.work _ refl refl refl (omega arith) (λ i. kept_more x.work.marks x.work.calls (run_note (step_of k.sessions x) t 0 keys x.work.calls) (T x.live.me) i is.fit.noted (λ m. omega arith)) is.keeps refl,
          )
      ran_keeps x t (Writes d cs keys undo) is =
          put x (with_answer (branch_ran k.sessions x t (Writes d cs keys undo)) (answer_of_run (Writes d cs keys undo))).work is.mine (after_run x.live (Writes d cs keys undo)) refl (
            noted_now x.work.marks.notes x.work.calls _ refl is.fit.noted,
            rested x.live (after_run x.live (Writes d cs keys undo)) x.work _ refl refl refl (omega arith) (λ i. kept_more x.work.marks x.work.calls (run_note (step_of k.sessions x) t 1 keys x.work.calls) (T x.live.me) i is.fit.noted (λ m. omega arith)) is.keeps refl,
          )

      -- a child that is new has none
      opened_ready : (x : Branch) (from : BranchId) (strength : ℕ) (g : Going) (link : List ℕ) → Is_opened k input x from strength g link → Ready (with_edge x (new_edge from link strength))
      opened_ready x from strength g link is =
          let was = branch_keeps x is.live in
          let its = opens from x.live.me is.edge strength is.came in
          let number : is.edge ≡ length x.live.edges + 1 = eqb-true is.edge (length x.live.edges + 1) is.new in
          let none : T from ≡ 0 = was.1.later from is.edge its.0 its.1 (omega (arith, number)) in
          let longer : length (x.live.edges ++ new_edge from link strength ∷ []) ≡ length x.live.edges + 1 = length-append x.live.edges (new_edge from link strength ∷ []) in
          record {
            noted = higher_calls x.work.marks.notes x.work.calls (x.work.calls ++ 0 ∷ []) (λ i. more_there x.work.calls (0 ∷ []) i) was.0.noted;
            keeps = record {
              low = was.1.low;
              err = was.1.err;
              kept = λ i c at. elim (numbered_split (children_of x.live) from i c (ap (λ ps. numbered ps i) (sym (map_last x.live.edges (new_edge from link strength))) ∙ at)) [
                | inl old ↦ was.1.kept i c old
                | inr last ↦ subst (λ b. T b ≤ kept_call x.work.marks (T x.live.me) i) last.1 (subst (λ n. n ≤ kept_call x.work.marks (T x.live.me) i) (sym none) (omega arith))
              ];
              later = λ c e above at far. was.1.later c e above at (omega (arith, far, longer));
            };
            mine = work_is k x.live.me x is.live;
          }

      gone : (b : BranchId) → EachLive P (without_branch k b).lives (without_branch k b).works
      gone b = each_left P P k.lives k.works now b (λ y v live other so. so)

      acting_fits : {l : Live} {site_below : Bool} {a : Act} → Acting k input l site_below a → P l (works_of k.works l.me)
      acting_fits why =
          acting_so (λ l. P l (works_of k.works l.me)) (λ l comment site_below is. (is.0, alike l _ (works_of k.works l.me) refl (map_after peer with_prepare_sent peer (λ e. refl) l.edges) is.1))
          (λ l from v is. (is.0, alike l _ (works_of k.works l.me) refl (voted_peers from v l.edges) is.1)) (λ b l found. subst (λ m. P l (works_of k.works m)) (sym (item_is live_id k.lives b l found)) (now.each b l found)) why
        where
          voted_peers : (from : BranchId) (v : Vote) (es : List Edge) → map peer (map (has_voted from v) es) ≡ map peer es
          voted_peers from v es = map_after peer (has_voted from v) peer (λ e. cond_both (answers_first from e) (record e { vote = v }) e (λ y. y.peer ≡ e.peer) (λ here. refl) (λ other. refl)) es

          alike : (l z : Live) (w : Work) → z.me ≡ l.me → children_of z ≡ children_of l → Keeps l w → Keeps z w
          alike l z w me kids is =
              let many : length z.edges ≡ length l.edges = sym (length_peers z.edges) ∙ (ap length kids ∙ length_peers l.edges) in
              record {
                low = λ below. subst (λ b. T b ≤ w.came.last_call) (sym me) (is.low (λ root. below (ap up me ∙ root)));
                err = λ g going step errand. subst (λ b. T b ≤ step) (sym me) (is.err g going step errand);
                kept = λ i c at. subst (λ b. T c ≤ kept_call w.marks (T b) i) (sym me) (is.kept i c (ap (λ ps. numbered ps i) (sym kids) ∙ at));
                later = λ c e above at far. is.later c e (above ∙ ap Some me) at (omega (arith, far, many));
              }

      stays : (l : Live) → P l (works_of k.works l.me) → EachLive P (with_live k l).lives k.works
      stays l is = each_changed P P k.lives k.works now l is (λ y v live other so. so)

    -- one that is asked to go back, or by its client
    goes_ready : (k : NodeState) → Nodes k → TopsAt k → {x : Branch} {step : ℕ} → Goes_to k input x step → Ready x × (T x.live.me ≤ step)
    goes_ready k now tops (steps.By_rollback_to n x name step call has code live set) = (let is = branch_keeps k now x live in (record { noted = is.0.noted; keeps = is.1; mine = work_is k x.live.me x live }, tops n x name step call has code live set))
    goes_ready k now tops (steps.By_back x from call keep came live runs) =
        let is = branch_keeps k now x live in
        let more = admitted x call runs in (
          record { noted = is.0.noted; keeps = record { low = λ below. (let low = is.1.low below in omega (arith, low, more)); err = is.1.err; kept = is.1.kept; later = is.1.later }; mine = work_is k x.live.me x live },
          backs from x.live.me call keep came (let low = is.1.low (λ root. (let its = execs from x.live.me call (tasks.GoBack keep) came in absurd (cc (its, root)))) in let new = admitted_later x call runs in omega (arith, low, new)),
        )

    -- a branch whose children are to go back
    calling_ready : (k : NodeState) → Nodes k → TopsAt k → {x : Branch} {step from : ℕ} → Calls_back k input x step from → Ready x × (T x.live.me ≤ step)
    calling_ready k now tops (steps.Has_gone j x step goes is) =
        let was = goes_ready j (subst Nodes is now) (subst TopsAt is tops) goes in (
          record {
            noted = noted_back x.work.marks step x.work.calls was.0.noted;
            keeps = record { low = was.0.keeps.low; err = was.0.keeps.err; kept = λ i c at. subst (λ n. T c ≤ n) (sym (kept_back x.work.marks step (T x.live.me) i was.1)) (was.0.keeps.kept i c at); later = was.0.keeps.later };
            mine = was.0.mine;
          },
          was.1,
        )
    calling_ready k now tops (steps.Has_heard x weight count a i e g step answered going errand done) =
        let is = branch_keeps k now x answered.live in
        let heard = heard_kids x answered.from answered.call i weight count e answered.waits in (
          record {
            noted = is.0.noted;
            keeps = record { low = is.1.low; err = is.1.err; kept = λ j c at. is.1.kept j c (ap (λ ps. numbered ps j) (sym heard) ∙ at); later = λ c n above at far. is.1.later c n above at (let many = set_length x.live.edges i (record e { weight = weight; count = count }) in omega (arith, far, many)) };
            mine = work_is k x.live.me x answered.live;
          },
          is.1.err g going step errand,
        )

    -- one that is back has noted its calls
    back_fit : (k : NodeState) → Nodes k → TopsAt k → {x : Branch} {step from : ℕ} → Calls_back k input x step from → next_back x.work step from ≡ None → Fit x.work.marks.notes x.work.calls
    back_fit k now tops (steps.Has_gone j x step goes is) none = back_fits x.work.marks step x.work.calls (goes_ready j (subst Nodes is now) (subst TopsAt is tops) goes).0.noted none
    back_fit k now tops (steps.Has_heard x weight count a i e g step answered going errand done) none = (let fits = (branch_keeps k now x answered.live).0 in record { noted = fits.noted; last = fits.last })

    -- ---- messages

    abbrev BackOk : BranchId → Kind → Type 0
    BackOk to kind = BackAbove T to kind

    abbrev pub AllOk : List Post → Type 0
    AllOk ms = AllByRecursion (λ m. BackOk m.to m.kind) ms

    quiet_ok : (ms : List Post) → AllSay NoBack ms → AllOk ms
    quiet_ok [] all = tt
    quiet_ok (m ∷ ms) all = (by m.kind all.0, quiet_ok ms all.1)
      where
        by : (kind : Kind) → NoBack kind → BackOk m.to kind
        by (kinds.Exec call (tasks.GoBack keep)) none = absurd none
        by _ none = tt

    answer_quiet : (z : Branch) (a : Answer) (o : Option BranchId) → AllOk (answer_says z a o)
    answer_quiet z a None = tt
    answer_quiet z a (Some parent) = (tt, tt)

    exec_ok : (ss : List Session) (x : Branch) (i : ℕ) (e : Errand) → Ready x → ((step : ℕ) → e ≡ errands.GoBack step → T x.live.me ≤ step) → AllOk (exec_to ss x i e (peer_of x.live i))
    exec_ok ss x i e is above = by (peer_of x.live i) refl e refl
      where
        by : (o : Option BranchId) → peer_of x.live i ≡ o → (r : Errand) → e ≡ r → AllOk (exec_to ss x i r o)
        by None at r same_errand = tt
        by (Some c) at (errands.Statement s given) same_errand = (tt, tt)
        by (Some c) at (errands.GoBack step) same_errand =
            let one = is.keeps.kept i c (numbered_map x.live.edges i ∙ at) in
            let low = above step same_errand in
            let two = kept_rises x.work.marks.notes [] [] (T x.live.me) step i low is.noted.rise (omega arith) (none_low x.work.marks.notes) (none_low x.work.marks.notes) in
            ((λ less. omega (arith, one, two)), tt)

    -- each step keeps the floors
    pub keeps_on : {k : NodeState} {d : TurnDraft} → Step p input k d → News IsFresh p input k → TopsAt k → Nodes k → Nodes d.after × AllOk d.says
    keeps_on (steps.Begins {k = k} n s read_at call begins fit none step) new tops now =
        keeps_on step (begun_news IsFresh p input k n read_at new) (λ m x name j other. absurd (no_begin call begins other)) (each_begun P P k.lives k.works now _ (fresh_keeps _ (new.root n s read_at call begins none) refl) (λ y v live any so. so))
    keeps_on (steps.Counts_call {k = k} n s call counts step) new tops now =
        keeps_on step (counted_news IsFresh p input k n new) (λ m x name j other has code. (let same = (counted_session k.sessions n m (session_at k.sessions n).root).1 in tops m x name j other (sym (ap (λ (y : Session). y.root) same) ∙ has) (sym (ap (λ (y : Session). y.code) same) ∙ code))) now
    keeps_on (steps.Goes_back {k = k} x step goes next) new tops now = keeps_on next (back_news IsFresh p input k x step new) tops now
    keeps_on (steps.Pends {k = k} n l given call has live code writer step) new tops now = keeps_on step (pends_news IsFresh p input k n given call new) (λ m x name j other. absurd (no_commit call other)) now
    keeps_on (steps.Lets_reads_go {k = k} l comment site_below live begins step) new tops now = keeps_on step (lets_news IsFresh p input k l.me new) tops now
    keeps_on (steps.Counts_ack {k = k} s from kept came counts step) new tops now = keeps_on step (acked_news IsFresh p input k (acked_by s from) new) tops now
    keeps_on (steps.Runs {k = k} x s given t asked way) new tops now = ((let is = asked_ready k now asked in ran_keeps k now x t (ran p k x.live.me s t) is), answer_quiet (branch_ran k.sessions x t (ran p k x.live.me s t)) _ _)
    keeps_on (steps.Goes_nowhere {k = k} x s given r asked way) new tops now = ((let is = asked_ready k now asked in put k now x (with_answer x _).work is.mine x.live refl (is.fit, rested x.live x.live x.work _ refl refl refl (omega arith) (λ i. omega arith) is.keeps refl)), answer_quiet (x) _ _)
    keeps_on (steps.Calls {k = k} x s given i table asked way) new tops now = (let is = asked_ready k now asked in let go : Ready x = record { noted = is.fit.noted; keeps = is.keeps; mine = is.mine } in (called_so k now x i (errands.Statement (passed_on s table) given) go (λ step none. absurd cc), exec_ok k.sessions x i (errands.Statement (passed_on s table) given) go (λ step none. absurd cc)))
    keeps_on (steps.Opens {k = k} x s given node link table asked way) new tops now = ((let is = asked_ready k now asked in each_put P P k.lives k.works now x.live _ is.mine (record { noted = is.fit.noted; last = is.fit.last }, record { low = is.keeps.low; err = λ g going step errand. absurd (statement_no _ _ step _ g going errand); kept = is.keeps.kept; later = is.keeps.later }) (λ y v live other so. so)), (tt, tt))
    keeps_on (steps.Goes_on {k = k} x from strength g link opened_so) new tops now =
        let go = opened_ready k now x from strength g link opened_so in
        let above : (step : ℕ) → less_room g.errand ≡ errands.GoBack step → T x.live.me ≤ step = (λ step errand. (branch_keeps k now x opened_so.live).1.err g opened_so.going step (less_back g.errand step errand)) in
        (called_so k now (with_edge x (new_edge from link strength)) (length x.live.edges + 1) (less_room g.errand) go above, exec_ok k.sessions (with_edge x (new_edge from link strength)) (length x.live.edges + 1) (less_room g.errand) go above)
    keeps_on (steps.Hears_reply {k = k} x weight count a i e answered) new tops now = (
      (let is = branch_keeps k now x answered.live in put k now x (with_answer (hears_reply x i weight count e) _).work (work_is k x.live.me x answered.live) (hears_reply x i weight count e).live refl
          (record { noted = is.0.noted; last = is.0.last }, rested x.live (hears_reply x i weight count e).live x.work _ refl (heard_kids x answered.from answered.call i weight count e answered.waits) (set_length x.live.edges i _) (omega arith) (λ j. omega arith) is.1 refl)),
      answer_quiet (hears_reply x i weight count e) _ _,
    )
    keeps_on (steps.Backs {k = k} x step from i calls next) new tops now =
        let is = calling_ready k now tops calls in
        let above : (j : ℕ) → errands.GoBack step ≡ errands.GoBack j → T x.live.me ≤ j = (λ j same_step. subst (λ n. T x.live.me ≤ n) (let it : errands.GoBack step ≡ errands.GoBack j = same_step in let one : step ≡ j = cc in one) is.1) in
        (called_so k now x i (errands.GoBack step) is.0 above, exec_ok k.sessions x i (errands.GoBack step) is.0 above)
    keeps_on (steps.Is_back {k = k} x step from calls none) new tops now = ((let is = (calling_ready k now tops calls).0 in put k now x (with_answer x _).work is.mine x.live refl (back_fit k now tops calls none, rested x.live x.live x.work _ refl refl refl (omega arith) (λ i. omega arith) is.keeps refl)), answer_quiet (x) _ _)
    keeps_on (steps.Opens_branch {k = k} to parent edge_number root depth read_at came none) new tops now = (each_begun P P k.lives k.works now _ (fresh_keeps _ (new.child to parent edge_number root depth read_at came none) refl) (λ y v live any so. so), (tt, tt))
    keeps_on (steps.Acts {k = k} l site_below acts.Rest why) new tops now = (stays k now l (acting_fits k now why), tt)
    keeps_on (steps.Acts {k = k} l site_below acts.AskDown why) new tops now = (stays k now l (acting_fits k now why), quiet_ok _ (prepares_say NoBack (λ b comment. tt) l.me l.comment (path_of site_below (step_from l)) 1 l.edges))
    keeps_on (steps.Acts {k = k} l site_below acts.SayReady why) new tops now = (stays k now (ready l) (let is = acting_fits k now why in (is.0, record { low = is.1.low; err = is.1.err; kept = is.1.kept; later = is.1.later })), quiet_ok _ (one_says NoBack l.me kinds.Ready l.parent tt))
    keeps_on (steps.Acts {k = k} l site_below acts.SayReadOnly why) new tops now = (gone k now l.me, quiet_ok _ (one_says NoBack l.me kinds.ReadOnly l.parent tt))
    keeps_on (steps.Acts {k = k} l site_below acts.Seal why) new tops now = (gone k now l.me, quiet_ok _ (one_says NoBack l.me kinds.Prepared l.parent tt))
    keeps_on (steps.Acts {k = k} l site_below (acts.SealAndPass i) why) new tops now = (gone k now l.me, quiet_ok _ (one_says NoBack l.me kinds.CommitPoint (peer_of l i) tt))
    keeps_on (steps.Acts {k = k} l site_below acts.Decide why) new tops now = (gone k now l.me, quiet_ok _ (each_says NoBack l.me (kinds.Committed (k.clock + 1)) (site_neighbors l) tt))
    keeps_on (steps.Acts {k = k} l site_below acts.Finish why) new tops now = (gone k now l.me, tt)
    keeps_on (steps.Acts {k = k} l site_below acts.Abandon why) new tops now = (gone k now l.me, quiet_ok _ (all_append (λ (m : Post). NoBack m.kind) (to_one l.me kinds.Abort l.parent) _ (one_says NoBack l.me kinds.Abort l.parent tt) (rolls l)))
    keeps_on (steps.Drops_told {k = k} l live drops) new tops now = (gone k now l.me, quiet_ok _ (rolls l))
    keeps_on (steps.Drops_asked {k = k} l from live came parent) new tops now = (gone k now l.me, quiet_ok (post l.me from kinds.RolledBack ++ to_each l.me kinds.Rollback (children_of l)) (tt, rolls l))
    keeps_on (steps.Does s from nexts.Rest kept why) new tops now = (now, tt)
    keeps_on (steps.Leaves {k = k} n s d x call ends has live) new tops now = (gone k now x.live.me, quiet_ok _ (rolls x.live))
    keeps_on (steps.Sets_savepoint {k = k} n x name call has code live) new tops now = ((let is = branch_keeps k now x live in put k now x (marked k.sessions x name).work (work_is k x.live.me x live) x.live refl (record { noted = is.0.noted; last = is.0.last }, record { low = is.1.low; err = is.1.err; kept = is.1.kept; later = is.1.later })), tt)
    keeps_on (steps.Gives_up {k = k} n x gives has calls live) new tops now = ((let is = branch_keeps k now x live in put k now x (gives_up x).work (work_is k x.live.me x live) x.live refl (record { noted = is.0.noted; last = is.0.last }, rested x.live x.live x.work _ refl refl refl (omega arith) (λ i. omega arith) is.1 refl)), tt)
    keeps_on (steps.Gives_up_commit {k = k} n b (Some l) gives has calls live) new tops now = (gone k now l.me, quiet_ok _ (rolls l))
    keeps_on (steps.Does s from (nexts.End d) kept why) new tops now = (now, quiet_ok _ (passes_say NoBack decisions s d))
    keeps_on (steps.Does s from (nexts.Meet d mixed) kept why) new tops now = (now, quiet_ok _ (passes_say NoBack decisions s d))
    keeps_on (steps.Does s from nexts.AckToward kept why) new tops now = (now, quiet_ok _ (one_says NoBack s.me kinds.Ack s.toward tt))
    keeps_on (steps.Does s from nexts.Forget kept why) new tops now = (now, quiet_ok _ (each_says NoBack s.me kinds.Forgotten (map (λ b. b.branch) (beyond s)) tt))
    keeps_on (steps.Does s from nexts.SayForgotten kept why) new tops now = (now, (tt, tt))
    keeps_on (steps.Does s from nexts.SayAck kept why) new tops now = (now, (tt, tt))
    keeps_on (steps.Sends says why) new tops now = (now, quiet_ok says (says_quiet why))
    keeps_on _ new tops now = (now, tt)
