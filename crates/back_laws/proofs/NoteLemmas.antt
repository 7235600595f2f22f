-- What a branch notes of its calls is so: no note has a greater number of calls over an edge than a later one, or than the branch has made, and
-- the last note has just these. Each step of a node keeps it.
use Rattle.std.proofs.Common.{◌≡◌, ◌≤◌, ◌+◌, ◌==◌, ℕ, zero, suc, Bool, true, false, if◌then◌else◌, List, [], ◌∷◌, ◌++◌, filter, nat_le, slice_get, unwrap_or, Option, Some, None, inl, inr, refl, sym, ap, subst, ◌∙◌, arith}
use Rattle.std.specs.List.{AllByRecursion}
use Rattle.std.proofs.lemmas.Bool.{eqb-true}
use Rattle.tran_ids.proofs.ListedLemmas.{item_is}
use Rattle.tran_ids.proofs.NumberedLemmas.{set_or_before}
use Rattle.commit_forget.specs.declared.next.Next.TheVariants as nexts
use Rattle.node_rules.specs.Data.{Act, BranchId, Live, Note, Marks, Place, Input, Stmt, Table}
use Rattle.node_rules.specs.Data.acts
use Rattle.node_rules.specs.declared.work.Errand.TheVariants as errands
use Rattle.node_rules.specs.declared.work.Errand.{Errand}
use Rattle.node_rules.specs.declared.work.Work.{Work}
use Rattle.node_rules.specs.Words.{set_numbered}
use Rattle.node_rules.specs.NodeState.{NodeState, Branch, TurnDraft, live_id, branch_at, with_branch, with_live, without_branch}
use Rattle.node_rules.specs.Statement.{StmtOutcome, Refuses, Reads, Writes, ran}
use Rattle.node_rules.specs.Calls.{with_answer, called, with_edge, branch_ran, less_room, calls_with, hears_reply}
use Rattle.node_rules.specs.Client.{gives_up, marked}
use Rattle.node_rules.specs.LiveBranches.{EachLive, works_of}
use Rattle.node_rules.specs.Marks.{marks_after, step_of, calls_until, kept_call, went_on, next_back}
use Rattle.node_rules.specs.Names.{passed_on}
use Rattle.node_rules.specs.Prepare.{ready}
use Rattle.node_rules.proofs.LiveLemmas.{none_live, each_put, each_changed, each_left, each_begun, branch_parts, work_is}
use Rattle.node_rules.proofs.StepLemmas.{acting_so}
use Rattle.node_rules.proofs.Steps as steps
use Rattle.node_rules.proofs.Steps.{Step, Asked, Acting, Goes_to, Calls_back}
use Rattle.run_base_laws.proofs.NodeLemmas.{KeepsAlone, kept_alone}
use Rattle.run_rules.proofs.ListLemmas.{all_weaker, all_append, all_filter}
use Rattle.savepoints.specs.Marks.{calls_in, is_until, notes_until, back_to}
use Rattle.session_tree.specs.Live.{new_edge}
use Rattle.back_laws.specs.BackLaws.{call_in, CallsAreNoted}
use Rattle.back_laws.proofs.StepLemmas.{until_is, is_up_to, filter_twice}

-- ---- notes of calls

-- no earlier note has more calls
abbrev pub Rise : List Note → Type 0
Rise [] = Unit {0}
Rise (n ∷ ns) = AllByRecursion (λ q. (i : ℕ) → call_in n.calls i ≤ call_in q.calls i) ns × Rise ns

-- none has more than these
abbrev pub Below : List ℕ → List Note → Type 0
Below calls ns = AllByRecursion (λ n. (i : ℕ) → call_in n.calls i ≤ call_in calls i) ns

-- Notes on the way back to a step: no note has more calls than a later one, or than there were.
pub record Noted (ns : List Note) (calls : List ℕ) : Type 0 where
  pub below : Below calls ns
  pub rise : Rise ns

-- And the last one has as many as there were.
pub record Fit (ns : List Note) (calls : List ℕ) : Type 0 where
  pub noted : Noted ns calls
  pub last : (i : ℕ) → call_in (calls_in [] ns) i ≡ call_in calls i

pub calls_last : (base : List ℕ) (ns : List Note) (n : Note) → calls_in base (ns ++ n ∷ []) ≡ n.calls
calls_last base [] n = refl
calls_last base (m ∷ ns) n = calls_last m.calls ns n

-- the last of these notes has no more than the branch
pub calls_below : (calls base : List ℕ) (ns : List Note) (i : ℕ) → call_in base i ≤ call_in calls i → Below calls ns → call_in (calls_in base ns) i ≤ call_in calls i
calls_below calls base [] i low below = low
calls_below calls base (n ∷ ns) i low below = calls_below calls n.calls ns i (below.0 i) below.1

rise_last : (ns : List Note) (n : Note) → Rise ns → AllByRecursion (λ q. (i : ℕ) → call_in q.calls i ≤ call_in n.calls i) ns → Rise (ns ++ n ∷ [])
rise_last [] n rise below = (tt, tt)
rise_last (m ∷ ns) n rise below = (
  all_append (λ q. (i : ℕ) → call_in m.calls i ≤ call_in q.calls i) ns (n ∷ []) rise.0 (below.0, tt),
  rise_last ns n rise.1 below.1,
)

rise_filter : (p : Note → Bool) (ns : List Note) → Rise ns → Rise (filter p ns)
rise_filter p [] rise = tt
rise_filter p (n ∷ ns) rise = by (p n) (rise_filter p ns rise.1)
  where
    by : (q : Bool) → Rise (filter p ns) → Rise (if q then n ∷ filter p ns else filter p ns)
    by true rest = (all_filter (λ (q : Note). (i : ℕ) → call_in n.calls i ≤ call_in q.calls i) (λ q. (i : ℕ) → call_in n.calls i ≤ call_in q.calls i) p (λ q passes so. so) ns rise.0, rest)
    by false rest = rest

-- more calls
pub higher_calls : (ns : List Note) (calls more : List ℕ) → ((i : ℕ) → call_in calls i ≤ call_in more i) → Noted ns calls → Noted ns more
higher_calls ns calls more up so = record {
  below = all_weaker (λ (n : Note). (i : ℕ) → call_in n.calls i ≤ call_in calls i) (λ n. (i : ℕ) → call_in n.calls i ≤ call_in more i) (λ n low i. (let one = low i in let two = up i in omega (arith, one, two))) ns so.below;
  rise = so.rise;
}

-- a note more, of the calls that there are
pub noted_now : (ns : List Note) (calls : List ℕ) (n : Note) → n.calls ≡ calls → Noted ns calls → Fit (ns ++ n ∷ []) calls
noted_now ns calls n its so = record {
  noted = record {
    below = all_append (λ (q : Note). (i : ℕ) → call_in q.calls i ≤ call_in calls i) ns (n ∷ []) so.below ((λ i. subst (λ xs. call_in xs i ≤ call_in calls i) (sym its) (omega arith)), tt);
    rise = rise_last ns n so.rise (subst (λ xs. AllByRecursion (λ (q : Note). (i : ℕ) → call_in q.calls i ≤ call_in xs i) ns) (sym its) so.below);
  };
  last = λ i. ap (λ xs. call_in xs i) (calls_last [] ns n ∙ its);
}

-- ---- more calls of a branch

pub set_higher : (calls : List ℕ) (j i : ℕ) → call_in calls i ≤ call_in (set_numbered calls j (call_in calls j + 1)) i
set_higher calls j i = elim (set_or_before calls j i (call_in calls j + 1)) [
  | inl same ↦ subst (λ o. call_in calls i ≤ unwrap_or o 0) (sym same) (omega arith)
  | inr set ↦ subst (λ o. call_in calls i ≤ unwrap_or o 0) (sym set.1) (subst (λ m. call_in calls i ≤ call_in calls m + 1) (sym set.0) (omega arith))
]

pub more_there : (calls more : List ℕ) (i : ℕ) → call_in calls i ≤ call_in (calls ++ more) i
more_there calls more zero = omega arith
more_there calls more (suc i) = by calls i
  where
    by : (xs : List ℕ) (j : ℕ) → unwrap_or (slice_get xs j) 0 ≤ unwrap_or (slice_get (xs ++ more) j) 0
    by [] j = omega arith
    by (x ∷ xs) zero = omega arith
    by (x ∷ xs) (suc j) = by xs j

-- ---- going back

-- where no child has to go back, the calls are those that stay
went_none : (m : Marks) (step i : ℕ) (calls : List ℕ) → went_on m step i calls ≡ None → (j c : ℕ) → slice_get calls j ≡ Some c → c ≡ kept_call m step (i + j)
went_none m step i [] none j c there = absurd cc
went_none m step i (call ∷ calls) none j c there = by (call == kept_call m step i) refl none (λ q. went_none m step (i + 1) calls q) j there
  where
    by : (q : Bool) → (call == kept_call m step i) ≡ q → (if q then went_on m step (i + 1) calls else Some i) ≡ None → (went_on m step (i + 1) calls ≡ None → (j c : ℕ) → slice_get calls j ≡ Some c → c ≡ kept_call m step (i + 1 + j))
        → (j : ℕ) → slice_get (call ∷ calls) j ≡ Some c → c ≡ kept_call m step (i + j)
    by false is none later j there = absurd cc
    by true is none later zero there = (let it : Some call ≡ Some c = there in let one : call ≡ c = cc in let same : i ≡ i + 0 = omega arith in sym one ∙ (eqb-true call (kept_call m step i) is ∙ ap (kept_call m step) same))
    by true is none later (suc j) there = (let one : i + 1 + j ≡ i + suc j = omega arith in later none j c there ∙ ap (kept_call m step) one)

pub noted_back : (m : Marks) (step : ℕ) (calls : List ℕ) → Noted m.notes calls → Noted (back_to m step).notes calls
noted_back m step calls so = record {
  below = all_filter (λ (n : Note). (i : ℕ) → call_in n.calls i ≤ call_in calls i) (λ n. (i : ℕ) → call_in n.calls i ≤ call_in calls i) (is_until step) (λ n passes low. low) m.notes so.below;
  rise = rise_filter (is_until step) m.notes so.rise;
}

pub back_fits : (m : Marks) (step : ℕ) (calls : List ℕ) → Noted m.notes calls → went_on (back_to m step) step 1 calls ≡ None → Fit (back_to m step).notes calls
back_fits m step calls so none = record { noted = noted_back m step calls so; last = last }
  where
    kept : calls_until (back_to m step) step ≡ calls_in [] (back_to m step).notes
    kept = ap (calls_in []) (filter_twice (is_until step) (is_until step) (λ n passes. passes) m.notes)

    last : (i : ℕ) → call_in (calls_in [] (back_to m step).notes) i ≡ call_in calls i
    last zero = refl
    last (suc j) = by (slice_get calls j) refl
      where
        by : (o : Option ℕ) → slice_get calls j ≡ o → call_in (calls_in [] (back_to m step).notes) (suc j) ≡ call_in calls (suc j)
        by (Some c) there =
            let its = went_none (back_to m step) step 1 calls none j c there in
            let number : 1 + j ≡ suc j = omega arith in
            ap (λ xs. call_in xs (suc j)) (sym kept) ∙ (ap (λ n. kept_call (back_to m step) step n) (sym number) ∙ (sym its ∙ sym (ap (λ o. unwrap_or o 0) there)))
        by None there =
            let low = calls_below calls [] (back_to m step).notes (suc j) (omega arith) (noted_back m step calls so).below in
            let nothing : call_in calls (suc j) ≡ 0 = ap (λ o. unwrap_or o 0) there in
            omega (arith, low, nothing)

-- ---- nodes

abbrev pub Fits : Live → Work → Type 0
Fits l w = Fit w.marks.notes w.calls

abbrev pub Nodes : NodeState → Type 0
Nodes k = EachLive Fits k.lives k.works

-- what is known of a branch that goes on
record Ready (x : Branch) : Type 0 where
  pub noted : Noted x.work.marks.notes x.work.calls
  pub mine : x.work.branch ≡ x.live.me

module _ (k : NodeState) (now : Nodes k) where
  branch_fits : (x : Branch) → branch_at k x.live.me ≡ Some x → Fits x.live x.work
  branch_fits x found = let parts = branch_parts k x.live.me x found in subst (λ (w : Work). Fit w.marks.notes w.calls) (sym parts.1) (now.each x.live.me x.live parts.0)

  asked_fits : {input : Input} {x : Branch} {s : Stmt} {given : ℕ} → Asked k input x s given → Fits x.live x.work × (x.work.branch ≡ x.live.me)
  asked_fits (steps.By_call n x s call rows has code live may) = (branch_fits x live, work_is k x.live.me x live)
  asked_fits (steps.By_exec x from call given advice s came live runs) = (let fits = branch_fits x live in record { noted = fits.noted; last = fits.last }, work_is k x.live.me x live)

  put : (x : Branch) (w : Work) → w.branch ≡ x.live.me → Fit w.marks.notes w.calls → (l : Live) → l.me ≡ x.live.me → EachLive Fits (with_branch k (record { live = l; work = w })).lives (with_branch k (record { live = l; work = w })).works
  put x w mine fits l me = each_put Fits Fits k.lives k.works now l w (mine ∙ sym me) fits (λ y v live other so. so)

  called_so : (x : Branch) (i : ℕ) (e : Errand) → Ready x → EachLive Fits (with_branch k (called k.sessions x i e)).lives (with_branch k (called k.sessions x i e)).works
  called_so x i e is =
      put x (called k.sessions x i e).work is.mine
      (noted_now x.work.marks.notes (calls_with x.work i) _ refl (higher_calls x.work.marks.notes x.work.calls (calls_with x.work i) (λ j. set_higher x.work.calls i j) is.noted)) x.live refl

  gone : (b : BranchId) → EachLive Fits (without_branch k b).lives (without_branch k b).works
  gone b = each_left Fits Fits k.lives k.works now b (λ y v live other so. so)

  acting_fits : {input : Input} {l : Live} {site_below : Bool} {a : Act} → Acting k input l site_below a → Fits l (works_of k.works l.me)
  acting_fits why = acting_so (λ l. Fits l (works_of k.works l.me)) (λ l comment site_below is. is) (λ l from v is. is) (λ b l found. subst (λ m. Fits l (works_of k.works m)) (sym (item_is live_id k.lives b l found)) (now.each b l found)) why

  stays : (l : Live) → Fits l (works_of k.works l.me) → EachLive Fits (with_live k l).lives k.works
  stays l is = each_changed Fits Fits k.lives k.works now l is (λ y v live other so. so)

goes_ready : (k : NodeState) → Nodes k → {input : Input} {x : Branch} {step : ℕ} → Goes_to k input x step → Ready x
goes_ready k now (steps.By_rollback_to n x name step call has code live set) = record { noted = (branch_fits k now x live).noted; mine = work_is k x.live.me x live }
goes_ready k now (steps.By_back x from call keep came live runs) = record { noted = (branch_fits k now x live).noted; mine = work_is k x.live.me x live }

-- a branch whose children are to go back
calling_ready : {input : Input} (k : NodeState) → Nodes k → {x : Branch} {step from : ℕ} → Calls_back k input x step from → Ready x
calling_ready k now (steps.Has_gone j x step goes is) =
    let was : Ready x = goes_ready j (subst Nodes is now) goes in record { noted = noted_back x.work.marks step x.work.calls was.noted; mine = was.mine }
calling_ready k now (steps.Has_heard x weight count a i e g step answered going errand done) = record { noted = (branch_fits k now x answered.live).noted; mine = work_is k x.live.me x answered.live }

-- one that is back has noted its calls
back_so : {input : Input} (k : NodeState) → Nodes k → {x : Branch} {step from : ℕ} → Calls_back k input x step from → next_back x.work step from ≡ None → Fits x.live x.work
back_so k now (steps.Has_gone j x step goes is) none = back_fits x.work.marks step x.work.calls (goes_ready j (subst Nodes is now) goes).noted none
back_so k now (steps.Has_heard x weight count a i e g step answered going errand done) none = (let fits = branch_fits k now x answered.live in record { noted = fits.noted; last = fits.last })

pub ran_fits : (w : Work) (step : ℕ) (t : Table) (r : StmtOutcome) → Fit w.marks.notes w.calls → Fit (marks_after w step t r).notes w.calls
ran_fits w step t (Refuses r) so = so
ran_fits w step t (Reads rows keys) so = noted_now w.marks.notes w.calls _ refl so.noted
ran_fits w step t (Writes d cs keys undo) so = noted_now w.marks.notes w.calls _ refl so.noted

pub fresh : Fit [] []
fresh = record { noted = record { below = tt; rise = tt }; last = λ i. refl }

-- each step keeps it
notes_on : (p : Place) (input : Input) {k : NodeState} {d : TurnDraft} → Step p input k d → Nodes k → Nodes d.after
notes_on p input (steps.Begins {k = k} n s read_at call begins fit none step) now = notes_on p input step (each_begun Fits Fits k.lives k.works now _ fresh (λ y v live any so. so))
notes_on p input (steps.Counts_call n s call counts step) now = notes_on p input step now
notes_on p input (steps.Goes_back x step goes next) now = notes_on p input next now
notes_on p input (steps.Pends n l given call has live code writer step) now = notes_on p input step now
notes_on p input (steps.Lets_reads_go l comment site_below live begins step) now = notes_on p input step now
notes_on p input (steps.Counts_ack s from kept came counts step) now = notes_on p input step now
notes_on p input (steps.Runs {k = k} x s given t asked way) now =
    (let is = asked_fits k now asked in let r : StmtOutcome = ran p k x.live.me s t in put k now x (with_answer (branch_ran k.sessions x t r) _).work is.1 (ran_fits x.work (step_of k.sessions x) t r is.0) (branch_ran k.sessions x t r).live refl)
notes_on p input (steps.Goes_nowhere {k = k} x s given r asked way) now = (let is = asked_fits k now asked in put k now x (with_answer x _).work is.1 (record { noted = is.0.noted; last = is.0.last }) x.live refl)
notes_on p input (steps.Calls {k = k} x s given i table asked way) now = (let is = asked_fits k now asked in called_so k now x i (errands.Statement (passed_on s table) given) (record { noted = is.0.noted; mine = is.1 }))
notes_on p input (steps.Opens {k = k} x s given node link table asked way) now = (let is = asked_fits k now asked in each_put Fits Fits k.lives k.works now x.live _ is.1 (record { noted = is.0.noted; last = is.0.last }) (λ y v live other so. so))
notes_on p input (steps.Goes_on {k = k} x from strength g link opened) now =
    called_so k now (with_edge x (new_edge from link strength)) _ (less_room g.errand)
    (record { noted = higher_calls x.work.marks.notes x.work.calls (x.work.calls ++ 0 ∷ []) (λ i. more_there x.work.calls (0 ∷ []) i) (branch_fits k now x opened.live).noted; mine = work_is k x.live.me x opened.live })
notes_on p input (steps.Hears_reply {k = k} x weight count a i e answered) now =
    (let fits = branch_fits k now x answered.live in put k now x (with_answer (hears_reply x i weight count e) _).work (work_is k x.live.me x answered.live) (record { noted = fits.noted; last = fits.last }) (hears_reply x i weight count e).live refl)
notes_on p input (steps.Backs {k = k} x step from i calls next) now = called_so k now x i (errands.GoBack step) (calling_ready k now calls)
notes_on p input (steps.Is_back {k = k} x step from calls none) now = (let fits = back_so k now calls none in put k now x (with_answer x _).work (calling_ready k now calls).mine (record { noted = fits.noted; last = fits.last }) x.live refl)
notes_on p input (steps.Opens_branch {k = k} to parent edge root depth read_at came new) now = each_begun Fits Fits k.lives k.works now _ fresh (λ y v live any so. so)
notes_on p input (steps.Acts {k = k} l site_below acts.Rest why) now = stays k now l (acting_fits k now why)
notes_on p input (steps.Acts {k = k} l site_below acts.AskDown why) now = stays k now l (acting_fits k now why)
notes_on p input (steps.Acts {k = k} l site_below acts.SayReady why) now = stays k now (ready l) (acting_fits k now why)
notes_on p input (steps.Acts {k = k} l site_below acts.SayReadOnly why) now = gone k now l.me
notes_on p input (steps.Acts {k = k} l site_below acts.Seal why) now = gone k now l.me
notes_on p input (steps.Acts {k = k} l site_below (acts.SealAndPass i) why) now = gone k now l.me
notes_on p input (steps.Acts {k = k} l site_below acts.Decide why) now = gone k now l.me
notes_on p input (steps.Acts {k = k} l site_below acts.Finish why) now = gone k now l.me
notes_on p input (steps.Acts {k = k} l site_below acts.Abandon why) now = gone k now l.me
notes_on p input (steps.Drops_told {k = k} l live drops) now = gone k now l.me
notes_on p input (steps.Drops_asked {k = k} l from live came parent) now = gone k now l.me
notes_on p input (steps.Does s from nexts.Rest kept why) now = now
notes_on p input (steps.Leaves {k = k} n s d x call ends has live) now = gone k now x.live.me
notes_on p input (steps.Sets_savepoint {k = k} n x name call has code live) now =
    (let fits = branch_fits k now x live in put k now x (marked k.sessions x name).work (work_is k x.live.me x live) (record { noted = fits.noted; last = fits.last }) x.live refl)
notes_on p input (steps.Gives_up {k = k} n x gives has calls live) now =
    (let fits = branch_fits k now x live in put k now x (gives_up x).work (work_is k x.live.me x live) (record { noted = fits.noted; last = fits.last }) x.live refl)
notes_on p input (steps.Gives_up_commit {k = k} n b (Some l) gives has calls live) now = gone k now l.me
notes_on p input _ now = now

pub notes_keep : KeepsAlone Nodes
notes_keep = record { starts = λ s vs. none_live Fits; hears = λ k scn now. now; steps = λ p input k d step now. notes_on p input step now }

-- ---- what it says of the calls that stay

-- the last note up to a step has no more calls than the last up to a later one
pub kept_rises : (ns : List Note) (base more : List ℕ) (c d i : ℕ) → c ≤ d → Rise ns → call_in base i ≤ call_in more i → AllByRecursion (λ (n : Note). (j : ℕ) → call_in more j ≤ call_in n.calls j) ns → AllByRecursion (λ (n : Note). (j : ℕ) → call_in base j ≤ call_in n.calls j) ns
    → call_in (calls_in base (filter (is_until c) ns)) i ≤ call_in (calls_in more (filter (is_until d) ns)) i
kept_rises [] base more c d i less rise low above under = low
kept_rises (n ∷ ns) base more c d i less rise low above under =
    by (nat_le n.step c) (nat_le n.step d) refl refl (kept_rises ns n.calls n.calls c d i less rise.1 (omega arith) rise.0 rise.0) (kept_rises ns base n.calls c d i less rise.1 (under.0 i) rise.0 under.1) (kept_rises ns base more c d i less rise.1 low above.1 under.1)
  where
    by : (q r : Bool) → nat_le n.step c ≡ q → nat_le n.step d ≡ r
        → call_in (calls_in n.calls (filter (is_until c) ns)) i ≤ call_in (calls_in n.calls (filter (is_until d) ns)) i
        → call_in (calls_in base (filter (is_until c) ns)) i ≤ call_in (calls_in n.calls (filter (is_until d) ns)) i
        → call_in (calls_in base (filter (is_until c) ns)) i ≤ call_in (calls_in more (filter (is_until d) ns)) i
        → call_in (calls_in base (if q then n ∷ filter (is_until c) ns else filter (is_until c) ns)) i ≤ call_in (calls_in more (if r then n ∷ filter (is_until d) ns else filter (is_until d) ns)) i
    by true true is its both one none = both
    by true false is its both one none = (let low = until_is n.step c is in let there = is_up_to n.step d (omega (arith, low, less)) in absurd (cc (there, its)))
    by false true is its both one none = one
    by false false is its both one none = none

pub none_low : (ns : List Note) → AllByRecursion (λ (n : Note). (j : ℕ) → call_in [] j ≤ call_in n.calls j) ns
none_low [] = tt
none_low (n ∷ ns) = ((λ j. by j n.calls), none_low ns)
  where
    by : (j : ℕ) (calls : List ℕ) → call_in [] j ≤ call_in calls j
    by zero calls = omega arith
    by (suc j) calls = omega arith

pub calls_are_noted : CallsAreNoted
calls_are_noted t lawful n k up b x found =
    let now : Nodes k = kept_alone Nodes notes_keep t lawful n k up in
    let parts = branch_parts k b x found in
    let fits : Fit x.work.marks.notes x.work.calls = subst (λ (w : Work). Fit w.marks.notes w.calls) (sym parts.1) (now.each b x.live parts.0) in
    record {
      rises = λ c d i less. kept_rises x.work.marks.notes [] [] c d i less fits.noted.rise (omega arith) (none_low x.work.marks.notes) (none_low x.work.marks.notes);
      most = λ c i. calls_below x.work.calls [] (notes_until x.work.marks c) i (by i) (noted_back x.work.marks c x.work.calls fits.noted).below;
      last = fits.last;
    }
  where
    by : (i : ℕ) → call_in [] i ≤ call_in x.work.calls i
    by zero = omega arith
    by (suc i) = omega arith
