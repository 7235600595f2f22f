-- How far the call numbers of live branches rise in one step, and in one turn.
use Rattle.std.proofs.Common.{◌≡◌, ℕ, zero, suc, ◌+◌, ◌≤◌, List, [], ◌∷◌, ◌++◌, slice_get, slice_set, unwrap_or, Option, Some, None, refl, subst, arith}
use Rattle.std.specs.List.{AllByRecursion}
use Rattle.node_rules.specs.Data.{BranchId, Live, Stmt, Place, Input}
use Rattle.node_rules.specs.declared.work.Work.{Work}
use Rattle.node_rules.specs.Data.inputs
use Rattle.node_rules.specs.Data.acts
use Rattle.commit_forget.specs.declared.next.Next.TheVariants as nexts
use Rattle.node_rules.specs.Words.{numbered, set_numbered, put_item, drop_item, item_at}
use Rattle.node_rules.specs.NodeState.{NodeState, TurnDraft, Branch, work_id, work_at, work_or, with_work, live_at, branch_at}
use Rattle.node_rules.specs.Calls.{next_call}
use Rattle.node_rules.specs.Turn.{heard, turn_of}
use Rattle.node_rules.proofs.Steps as steps
use Rattle.node_rules.proofs.Steps.{Step, Asked, Goes_to, Calls_back}
use Rattle.node_rules.proofs.TurnLemmas.{step_of}
use Rattle.node_ready_laws.specs.Numbers.{CallsRiseByOne}
use Rattle.node_ready_laws.proofs.ListLemmas.{all_append, all_weaker, all_found, all_put, all_dropped}

-- call numbers are no greater than this
abbrev Below : ℕ → List ℕ → Type 0
Below n cs = AllByRecursion (λ c. c ≤ n) cs

abbrev WorksBelow : ℕ → List Work → Type 0
WorksBelow n ws = AllByRecursion (λ w. Below n w.calls) ws

higher : (n : ℕ) (cs : List ℕ) → Below n cs → Below (n + 1) cs
higher n cs all = all_weaker (λ c. c ≤ n) (λ c. c ≤ n + 1) (λ c low. omega (arith, low)) cs all

works_higher : (n : ℕ) (ws : List Work) → WorksBelow n ws → WorksBelow (n + 1) ws
works_higher n ws all = all_weaker (λ w. Below n w.calls) (λ w. Below (n + 1) w.calls) (λ w low. higher n w.calls low) ws all

got_below : (n : ℕ) (cs : List ℕ) (i : ℕ) → Below n cs → unwrap_or (slice_get cs i) 0 ≤ n
got_below n [] i all = omega arith
got_below n (c ∷ cs) zero all = all.0
got_below n (c ∷ cs) (suc i) all = got_below n cs i all.1

pub numbered_below : (n : ℕ) (cs : List ℕ) (i : ℕ) → Below n cs → unwrap_or (numbered cs i) 0 ≤ n
numbered_below n cs zero all = omega arith
numbered_below n cs (suc i) all = got_below n cs i all

put_below : (n : ℕ) (cs : List ℕ) (i x : ℕ) → Below n cs → x ≤ n → Below n (slice_set cs i x)
put_below n [] i x all low = tt
put_below n (c ∷ cs) zero x all low = (low, all.1)
put_below n (c ∷ cs) (suc i) x all low = (all.0, put_below n cs i x all.1 low)

set_below : (n : ℕ) (cs : List ℕ) (i x : ℕ) → Below n cs → x ≤ n → Below n (set_numbered cs i x)
set_below n cs zero x all low = all
set_below n cs (suc i) x all low = put_below n cs i x all low

-- with one call more over an edge
pub called_below : (n : ℕ) (w : Work) (i : ℕ) → Below n w.calls → Below (n + 1) (set_numbered w.calls i (next_call w i))
called_below n w i all = set_below (n + 1) w.calls i (next_call w i) (higher n w.calls all) (let low = numbered_below n w.calls i all in omega (arith, low))

module _ (n : ℕ) (k : NodeState) (all : WorksBelow n k.works) where
  pub work_by : (b : BranchId) (o : Option Work) → item_at work_id k.works b ≡ o → Below n (work_or b o).calls
  work_by b None is = tt
  work_by b (Some w) is = all_found (λ x. Below n x.calls) _ k.works w all is

  branch_by : (x : Branch) (o : Option Live) → with_work k o ≡ Some x → Below n x.work.calls
  branch_by x None is = absurd cc
  branch_by x (Some l) is =
      let it : Some (record { live = l; work = work_at k l.me }) ≡ Some x = is in
      subst (λ (y : Branch). Below n y.work.calls) (let here : record { live = l; work = work_at k l.me } ≡ x = cc in here) (work_by l.me (item_at work_id k.works l.me) refl)

  branch_below : (x : Branch) → branch_at k x.live.me ≡ Some x → Below n x.work.calls
  branch_below x is = branch_by x (live_at k x.live.me) is

  asked_below : {input : Input} {x : Branch} {s : Stmt} {given : ℕ} → Asked k input x s given → Below n x.work.calls
  asked_below (steps.By_call m x s call rows has code live may) = branch_below x live
  asked_below (steps.By_exec x from call given advice s came live runs) = branch_below x live

  goes_below : {input : Input} {x : Branch} {step : ℕ} → Goes_to k input x step → Below n x.work.calls
  goes_below (steps.By_rollback_to m x name step call has code live set) = branch_below x live
  goes_below (steps.By_back x from call keep came live runs) = branch_below x live

  more : WorksBelow (n + 1) k.works
  more = works_higher n k.works all

  -- a branch whose call numbers stay
  same_calls : (w : Work) → Below n w.calls → WorksBelow (n + 1) (put_item work_id k.works w)
  same_calls w low = all_put (λ x. Below (n + 1) x.calls) work_id k.works w more (higher n w.calls low)

  -- a branch that calls over an edge
  one_more : (w : Work) → Below (n + 1) w.calls → WorksBelow (n + 1) (put_item work_id k.works w)
  one_more w low = all_put (λ x. Below (n + 1) x.calls) work_id k.works w more low

  left : (b : BranchId) → WorksBelow (n + 1) (drop_item work_id k.works b)
  left b = all_dropped (λ x. Below (n + 1) x.calls) work_id k.works b more

-- a branch whose children are to go back
calling_below : (n : ℕ) (k : NodeState) → WorksBelow n k.works → {input : Input} {x : Branch} {step from : ℕ} → Calls_back k input x step from → Below n x.work.calls
calling_below n k all (steps.Has_gone j x step goes is) = goes_below n j (subst (λ i. WorksBelow n i.works) is all) goes
calling_below n k all (steps.Has_heard x weight count a i e g step answered going errand done) = branch_below n k all x answered.live

calls_on : (p : Place) (input : Input) (n : ℕ) {k : NodeState} {d : TurnDraft} → Step p input k d → WorksBelow n k.works → WorksBelow (n + 1) d.after.works
calls_on p input n (steps.Begins m s read_at call begins fit none step) all = calls_on p input n step all
calls_on p input n (steps.Counts_call m s call counts step) all = calls_on p input n step all
calls_on p input n (steps.Goes_back x step goes next) all = calls_on p input n next all
calls_on p input n (steps.Pends m l given call has live code writer step) all = calls_on p input n step all
calls_on p input n (steps.Lets_reads_go l comment site_below live begins step) all = calls_on p input n step all
calls_on p input n (steps.Counts_ack s from kept came counts step) all = calls_on p input n step all
calls_on p input n (steps.Runs {k = k} x s given t asked way) all = same_calls n k all _ (asked_below n k all asked)
calls_on p input n (steps.Goes_nowhere {k = k} x s given r asked way) all = same_calls n k all _ (asked_below n k all asked)
calls_on p input n (steps.Calls {k = k} x s given i table asked way) all = one_more n k all _ (called_below n x.work i (asked_below n k all asked))
calls_on p input n (steps.Opens {k = k} x s given node link table asked way) all = same_calls n k all _ (asked_below n k all asked)
calls_on p input n (steps.Goes_on {k = k} x from strength g link opened) all =
    one_more n k all _ (called_below n (record x.work { calls = x.work.calls ++ 0 ∷ [] }) _ (all_append (λ c. c ≤ n) x.work.calls (0 ∷ []) (branch_below n k all x opened.live) (omega arith, tt)))
calls_on p input n (steps.Hears_reply {k = k} x weight count a i e answered) all = same_calls n k all _ (branch_below n k all x answered.live)
calls_on p input n (steps.Backs {k = k} x step from i calls next) all = one_more n k all _ (called_below n x.work i (calling_below n k all calls))
calls_on p input n (steps.Is_back {k = k} x step from calls none) all = same_calls n k all _ (calling_below n k all calls)
calls_on p input n (steps.Acts {k = k} l site_below acts.Rest why) all = more n k all
calls_on p input n (steps.Acts {k = k} l site_below acts.AskDown why) all = more n k all
calls_on p input n (steps.Acts {k = k} l site_below acts.SayReady why) all = more n k all
calls_on p input n (steps.Acts {k = k} l site_below acts.SayReadOnly why) all = left n k all l.me
calls_on p input n (steps.Acts {k = k} l site_below acts.Seal why) all = left n k all l.me
calls_on p input n (steps.Acts {k = k} l site_below (acts.SealAndPass i) why) all = left n k all l.me
calls_on p input n (steps.Acts {k = k} l site_below acts.Decide why) all = left n k all l.me
calls_on p input n (steps.Acts {k = k} l site_below acts.Finish why) all = left n k all l.me
calls_on p input n (steps.Acts {k = k} l site_below acts.Abandon why) all = left n k all l.me
calls_on p input n (steps.Drops_told {k = k} l live drops) all = left n k all l.me
calls_on p input n (steps.Drops_asked {k = k} l from live came parent) all = left n k all l.me
calls_on p input n (steps.Does {k = k} s from nexts.Rest kept why) all = more n k all
calls_on p input n (steps.Does {k = k} s from nexts.AckToward kept why) all = more n k all
calls_on p input n (steps.Does {k = k} s from nexts.SayForgotten kept why) all = more n k all
calls_on p input n (steps.Does {k = k} s from nexts.SayAck kept why) all = more n k all
calls_on p input n (steps.Does {k = k} s from (nexts.End d) kept why) all = more n k all
calls_on p input n (steps.Does {k = k} s from (nexts.Meet d mixed) kept why) all = more n k all
calls_on p input n (steps.Does {k = k} s from nexts.Forget kept why) all = more n k all
calls_on p input n (steps.Leaves {k = k} m s d x call ends has live) all = left n k all x.live.me
calls_on p input n (steps.Sets_savepoint {k = k} m x name call has code live) all = same_calls n k all _ (branch_below n k all x live)
calls_on p input n (steps.Gives_up {k = k} m x gives has calls live) all = same_calls n k all _ (branch_below n k all x live)
calls_on p input n (steps.Gives_up_commit {k = k} m b (Some l) gives has calls live) all = left n k all l.me
calls_on p input n (steps.Gives_up_commit {k = k} m b None gives has calls live) all = more n k all
calls_on p input n {k = k} _ all = more n k all

heard_below : (n : ℕ) (k : NodeState) (input : Input) → WorksBelow n k.works → WorksBelow n (heard k input).works
heard_below n k (inputs.Message m) all = all
heard_below n k _ all = all

pub calls_rise_by_one : CallsRiseByOne
unfolding turn_of
calls_rise_by_one p k input n fit all = calls_on p input n (step_of p k input fit) (heard_below n k input all)
