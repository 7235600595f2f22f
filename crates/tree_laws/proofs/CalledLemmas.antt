-- In every lawful run a live branch has called each of its children.
use Rattle.std.proofs.Common.{◌≡◌, ℕ, zero, suc, ◌+◌, ◌≤◌, List, [], ◌∷◌, ◌++◌, length, unwrap_or, Option, Some, None, refl, sym, ap, subst, ◌∙◌, arith}
use Rattle.std.specs.Prelude.{slice_get, slice_set}
use Rattle.std.specs.List.{AllByRecursion}
use Rattle.commit_forget.specs.declared.next.Next.TheVariants as nexts
use Rattle.node_rules.specs.Data.{BranchId, Live, Place, Input, Stmt}
use Rattle.node_rules.specs.declared.work.Errand.{Errand}
use Rattle.node_rules.specs.declared.work.Errand.TheVariants as errands
use Rattle.node_rules.specs.declared.work.Work.{Work}
use Rattle.node_rules.specs.Data.acts
use Rattle.node_rules.specs.Names.{passed_on}
use Rattle.session_tree.specs.Live.{new_edge}
use Rattle.node_rules.specs.Words.{numbered, set_numbered}
use Rattle.node_rules.specs.Words.{item_at}
use Rattle.node_rules.specs.NodeState.{NodeState, Branch, TurnDraft, live_id, work_or, branch_at, with_branch, with_live, without_branch}
use Rattle.node_rules.specs.declared.session.PendingCall.TheVariants as pending
use Rattle.node_rules.specs.Statement.{ran, answer_of_run}
use Rattle.node_rules.specs.Calls.{next_call, called, with_answer, with_edge, hears_reply, branch_ran, less_room}
use Rattle.node_rules.specs.Prepare.{ready}
use Rattle.node_rules.specs.Client.{begun_by, gives_up, marked}
use Rattle.node_rules.proofs.Steps as steps
use Rattle.node_rules.proofs.Steps.{Step, Asked, Goes_to, Calls_back}
use Rattle.node_rules.specs.LiveBranches.{EachLive, works_of}
use Rattle.node_rules.proofs.LiveLemmas.{none_live, each_put, each_changed, each_left, each_begun, branch_parts, work_is}
use Rattle.run_rules.proofs.AtNodeLemmas.{there_too}
use Rattle.run_base_laws.proofs.RootLemmas.{pends_so, begun_so, counted_so, back_so}
use Rattle.run_branch_laws.proofs.CallLemmas.{CallsSo, calls_keep, calls_fit_edges}
use Rattle.run_base_laws.proofs.NodeLemmas.{KeepsAlone, kept_alone}
use Rattle.tree_laws.specs.WeighLaws.{EdgesWereCalled}

-- ---- numbers of calls

-- a call was made over each edge
abbrev AreCalls : List ℕ → Type 0
AreCalls ns = AllByRecursion (λ n. 1 ≤ n) ns

set_at : (ns : List ℕ) (i n : ℕ) → 1 ≤ n → AreCalls ns → AreCalls (slice_set ns i n)
set_at [] i n some all = tt
set_at (m ∷ ns) zero n some all = (some, all.1)
set_at (m ∷ ns) (suc i) n some all = (all.0, set_at ns i n some all.1)

one_set : (ns : List ℕ) (i n : ℕ) → 1 ≤ n → AreCalls ns → AreCalls (set_numbered ns i n)
one_set ns zero n some all = all
one_set ns (suc i) n some all = set_at ns i n some all

last_at : (ns : List ℕ) (n : ℕ) → 1 ≤ n → AreCalls ns → AreCalls (slice_set (ns ++ 0 ∷ []) (length ns) n)
last_at [] n some all = (some, tt)
last_at (m ∷ ns) n some all = (all.0, last_at ns n some all.1)

number_at : (ns : List ℕ) (i n : ℕ) → AreCalls ns → slice_get ns i ≡ Some n → 1 ≤ n
number_at [] i n all at = absurd cc
number_at (m ∷ ns) zero n all at = (let it : Some m ≡ Some n = at in let here : m ≡ n = cc in subst (λ x. 1 ≤ x) here all.0)
number_at (m ∷ ns) (suc i) n all at = number_at ns i n all.1 at

called_at : (ns : List ℕ) (i n : ℕ) → AreCalls ns → numbered ns i ≡ Some n → 1 ≤ unwrap_or (numbered ns i) 0
called_at ns zero n all at = absurd cc
called_at ns (suc i) n all at = subst (λ o. 1 ≤ unwrap_or o 0) (sym at) (number_at ns i n all at)

-- ---- branches

abbrev Called : Live → Work → Type 0
Called l w = AreCalls w.calls

abbrev Nodes : NodeState → Type 0
Nodes k = EachLive Called k.lives k.works

-- as many calls as edges
branch_even : (k : NodeState) → CallsSo k → (x : Branch) → branch_at k x.live.me ≡ Some x → length x.work.calls ≡ length x.live.edges
branch_even k ss x live = let parts = branch_parts k x.live.me x live in ap (λ (w : Work). length w.calls) parts.1 ∙ (ss.1.each x.live.me x.live parts.0).numbers

begins_fit : (p : Place) (k : NodeState) (n : ℕ) (read_at : Option ℕ) → CallsSo k → CallsSo (begun_by p k n read_at None)
begins_fit p k n read_at ss =
    (begun_so k ss.0 p n read_at, each_begun _ _ k.lives k.works ss.1 _ (record { numbers = refl; waiting = λ waits. refl; root = λ none. refl }) (λ y v live any so. so))

module _ (k : NodeState) (now : Nodes k) where
  found_called : (x : Branch) → branch_at k x.live.me ≡ Some x → AreCalls x.work.calls
  found_called x live = let parts = branch_parts k x.live.me x live in subst (λ (w : Work). AreCalls w.calls) (sym parts.1) (now.each x.live.me x.live parts.0)

  asked_called : {input : Input} {x : Branch} {s : Stmt} {given : ℕ} → Asked k input x s given → AreCalls x.work.calls × (x.work.branch ≡ x.live.me)
  asked_called (steps.By_call n x s call rows has code live may) = (found_called x live, work_is k x.live.me x live)
  asked_called (steps.By_exec x from call given advice s came live runs) = (found_called x live, work_is k x.live.me x live)

  goes_called : {input : Input} {x : Branch} {step : ℕ} → Goes_to k input x step → AreCalls x.work.calls × (x.work.branch ≡ x.live.me)
  goes_called (steps.By_rollback_to n x name step call has code live set) = (found_called x live, work_is k x.live.me x live)
  goes_called (steps.By_back x from call keep came live runs) = (found_called x live, work_is k x.live.me x live)

  put : (l : Live) (w : Work) → w.branch ≡ l.me → AreCalls w.calls → EachLive Called (with_branch k (record { live = l; work = w })).lives (with_branch k (record { live = l; work = w })).works
  put l w mine so = each_put Called Called k.lives k.works now l w mine so (λ y v live other is. is)

  gone : (b : BranchId) → EachLive Called (without_branch k b).lives (without_branch k b).works
  gone b = each_left Called Called k.lives k.works now b (λ y v live other is. is)

  works_called : (b : BranchId) (o : Option Live) → item_at live_id k.lives b ≡ o → AreCalls (works_of k.works b).calls
  works_called b (Some l) is = now.each b l is
  works_called b None is = subst (λ w. AreCalls (work_or b w).calls) (sym (now.there b is)) tt

  stays : (l : Live) → EachLive Called (with_live k l).lives k.works
  stays l = each_changed Called Called k.lives k.works now l (works_called l.me (item_at live_id k.lives l.me) refl) (λ y v live other is. is)

  calls_again : (x : Branch) (i : ℕ) (e : Errand) → x.work.branch ≡ x.live.me → AreCalls x.work.calls → EachLive Called (with_branch k (called k.sessions x i e)).lives (with_branch k (called k.sessions x i e)).works
  calls_again x i e mine so = put x.live (called k.sessions x i e).work mine (one_set x.work.calls i (next_call x.work i) (omega arith) so)

  begins : (l : Live) → EachLive Called (k.lives ++ l ∷ []) k.works
  begins l = each_begun Called Called k.lives k.works now l tt (λ y v live any is. is)

  -- a branch makes its first call to a new child
  opened_calls : (x : Branch) (from : BranchId) (link : List ℕ) (strength : ℕ) (e : Errand) → branch_at k x.live.me ≡ Some x → length x.work.calls ≡ length x.live.edges
      → AreCalls (called k.sessions (with_edge x (new_edge from link strength)) (length x.live.edges + 1) e).work.calls
  opened_calls x from link strength e live even =
      let n : ℕ = next_call (with_edge x (new_edge from link strength)).work (length x.live.edges + 1) in
      let place : suc (length x.work.calls) ≡ length x.live.edges + 1 = omega (arith, even) in
      subst (λ m. AreCalls (set_numbered (x.work.calls ++ 0 ∷ []) m n)) place (last_at x.work.calls n (omega arith) (found_called x live))

-- a branch whose children are to go back
calling_called : {input : Input} (k : NodeState) → Nodes k → {x : Branch} {step from : ℕ} → Calls_back k input x step from → AreCalls x.work.calls × (x.work.branch ≡ x.live.me)
calling_called k now (steps.Has_gone j x step goes is) = goes_called j (subst Nodes is now) goes
calling_called k now (steps.Has_heard x weight count a i e g step answered going errand done) = (found_called k now x answered.live, work_is k x.live.me x answered.live)

-- each step keeps it
calls_on : (p : Place) (input : Input) {k : NodeState} {d : TurnDraft} → Step p input k d → CallsSo k → Nodes k → Nodes d.after
calls_on p input (steps.Begins {k = k} n s read_at call why fit none step) ss now = calls_on p input step (begins_fit p k n read_at ss) (begins k now _)
calls_on p input (steps.Counts_call {k = k} n s call counts step) ss now = calls_on p input step (counted_so k ss.0 n, ss.1) now
calls_on p input (steps.Goes_back {k = k} x step goes next) ss now = calls_on p input next (back_so k ss.0 x step, ss.1) now
calls_on p input (steps.Pends {k = k} n l given call has live code writer step) ss now = calls_on p input step (pends_so k ss.0 n pending.Commit, ss.1) now
calls_on p input (steps.Lets_reads_go l comment site_below live collects step) ss now = calls_on p input step (record { roots = ss.0.roots; above = ss.0.above }, ss.1) now
calls_on p input (steps.Counts_ack s from kept came counts step) ss now = calls_on p input step (record { roots = ss.0.roots; above = ss.0.above }, ss.1) now
calls_on p input (steps.Runs {k = k} x s given t asked way) ss now =
    let y : Branch = branch_ran k.sessions x t (ran p k x.live.me s t) in
    let is = asked_called k now asked in
    put k now y.live (with_answer y (answer_of_run (ran p k x.live.me s t))).work is.1 is.0
calls_on p input (steps.Goes_nowhere {k = k} x s given r asked way) ss now = (let is = asked_called k now asked in put k now x.live _ is.1 is.0)
calls_on p input (steps.Calls {k = k} x s given i table asked way) ss now = (let is = asked_called k now asked in calls_again k now x i (errands.Statement (passed_on s table) given) is.1 is.0)
calls_on p input (steps.Opens {k = k} x s given node link table asked way) ss now = (let is = asked_called k now asked in put k now x.live _ is.1 is.0)
calls_on p input (steps.Goes_on {k = k} x from strength g link opened) ss now =
    put k now (with_edge x (new_edge from link strength)).live _ (work_is k x.live.me x opened.live)
    (opened_calls k now x from link strength (less_room g.errand) opened.live (branch_even k ss x opened.live))
calls_on p input (steps.Hears_reply {k = k} x weight count a i e answered) ss now = put k now (hears_reply x i weight count e).live _ (work_is k x.live.me x answered.live) (found_called k now x answered.live)
calls_on p input (steps.Backs {k = k} x step from i calls next) ss now = (let is = calling_called k now calls in calls_again k now x i (errands.GoBack step) is.1 is.0)
calls_on p input (steps.Is_back {k = k} x step from calls none) ss now = (let is = calling_called k now calls in put k now x.live _ is.1 is.0)
calls_on p input (steps.Opens_branch {k = k} to parent edge root depth read_at came new) ss now = begins k now _
calls_on p input (steps.Acts {k = k} l site_below acts.Rest why) ss now = stays k now l
calls_on p input (steps.Acts {k = k} l site_below acts.AskDown why) ss now = stays k now l
calls_on p input (steps.Acts {k = k} l site_below acts.SayReady why) ss now = stays k now (ready l)
calls_on p input (steps.Acts {k = k} l site_below acts.SayReadOnly why) ss now = gone k now l.me
calls_on p input (steps.Acts {k = k} l site_below acts.Seal why) ss now = gone k now l.me
calls_on p input (steps.Acts {k = k} l site_below (acts.SealAndPass i) why) ss now = gone k now l.me
calls_on p input (steps.Acts {k = k} l site_below acts.Decide why) ss now = gone k now l.me
calls_on p input (steps.Acts {k = k} l site_below acts.Finish why) ss now = gone k now l.me
calls_on p input (steps.Acts {k = k} l site_below acts.Abandon why) ss now = gone k now l.me
calls_on p input (steps.Drops_told {k = k} l live drops) ss now = gone k now l.me
calls_on p input (steps.Drops_asked {k = k} l from live came parent) ss now = gone k now l.me
calls_on p input (steps.Does s from nexts.Rest kept why) ss now = now
calls_on p input (steps.Leaves {k = k} n s d x call ends has live) ss now = gone k now x.live.me
calls_on p input (steps.Sets_savepoint {k = k} n x name call has code live) ss now = put k now x.live (marked k.sessions x name).work (work_is k x.live.me x live) (found_called k now x live)
calls_on p input (steps.Gives_up {k = k} n x gives has calls live) ss now = put k now x.live (gives_up x).work (work_is k x.live.me x live) (found_called k now x live)
calls_on p input (steps.Gives_up_commit {k = k} n b (Some l) gives has calls live) ss now = gone k now l.me
calls_on p input _ ss now = now

abbrev AllCalled : NodeState → Type 0
AllCalled k = CallsSo k × Nodes k

called_keep : KeepsAlone AllCalled
called_keep = record {
  starts = λ s vs. (calls_keep.starts s vs, none_live Called);
  hears = λ k scn now. (calls_keep.hears k scn now.0, now.1);
  steps = λ p input k d step now. (calls_keep.steps p input k d step now.0, calls_on p input step now.0 now.1);
}

pub edges_were_called : EdgesWereCalled
edges_were_called t lawful n k up x found i e at =
    let so : AllCalled k = kept_alone AllCalled called_keep t lawful n k up in
    let number = there_too x.live.edges x.work.calls i e (sym (calls_fit_edges t lawful n k up x.live.me x found).numbers) at in
    called_at x.work.calls i number.0 (found_called k so.1 x found) number.1
