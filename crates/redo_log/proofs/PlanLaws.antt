-- How runs of disk calls go by the disk's plan, and what they do to the disk.
use Rattle.std.proofs.Common.{◌≡◌, ◌≤◌, ◌||◌, ℕ, inl, inr, if◌then◌else◌, Bool, true, false, List, [], ◌∷◌, ◌++◌, Option, None, Some, refl, sym, subst, ap, ◌∙◌}
use Rattle.dtx_ports.specs.Causes.{Rose}
use Rattle.block_disk.specs.declared.disk.Disk.{Ghosts}
use Rattle.block_disk.specs.Counts.{next_count}
use Rattle.block_disk.specs.Plan.{FaultPlan, strikes, after_call}
use Rattle.redo_log.specs.Plans.{plan_after, strikes_any, CallsGoByPlan}
use Rattle.redo_log.specs.Runs.{call_count_after, write_count_next, write_count_after, CountSome, IsUntouched, HasRun, MetFault}

-- where there is no call the plan stays as it is
pub no_calls : (plan : Option FaultPlan) → CallsGoByPlan [] plan plan false
no_calls None = refl
no_calls (Some plan) = (refl, refl)

-- ---- one run behind another

-- the second goes by the plan that the first leaves
GoesOver : List Bool → List Bool → FaultPlan → Type 0
GoesOver calls more plan = (plan_after (calls ++ more) plan ≡ plan_after more (plan_after calls plan)) × (strikes_any (calls ++ more) plan ≡ strikes_any more (plan_after calls plan))

over_call : (struck : Bool) (next : FaultPlan) (calls more : List Bool) → (strikes_any calls next ≡ false → GoesOver calls more next) → (struck || strikes_any calls next) ≡ false
    → ((if struck then next else plan_after (calls ++ more) next) ≡ plan_after more (if struck then next else plan_after calls next))
    × ((struck || strikes_any (calls ++ more) next) ≡ strikes_any more (if struck then next else plan_after calls next))
unfolding GoesOver
over_call true next calls more others none = absurd cc
over_call false next calls more others none = others none

goes_over : (calls more : List Bool) (plan : FaultPlan) → strikes_any calls plan ≡ false → GoesOver calls more plan
unfolding GoesOver
goes_over [] more plan none = (refl, refl)
goes_over (is_write ∷ calls) more plan none = over_call (strikes plan is_write) (after_call plan is_write) calls more (goes_over calls more (after_call plan is_write)) none

-- a run of calls that no order strikes, and another behind it
pub one_after : (calls more : List Bool) (before mid now : Option FaultPlan) (fails : Bool) → CallsGoByPlan calls before mid false → CallsGoByPlan more mid now fails → CallsGoByPlan (calls ++ more) before now fails
unfolding GoesOver
one_after calls more None mid now fails first second = subst (λ (p : Option FaultPlan). CallsGoByPlan more p now fails) first second
one_after calls more (Some plan) mid now fails first second =
    let both = subst (λ (p : Option FaultPlan). CallsGoByPlan more p now fails) first.0 second in
    let over = goes_over calls more plan first.1 in
    (both.0 ∙ ap Some (sym over.0), over.1 ∙ both.1)

-- ---- a run that ends early

Struck : List Bool → List Bool → FaultPlan → Type 0
Struck calls more plan = (plan_after (calls ++ more) plan ≡ plan_after calls plan) × (strikes_any (calls ++ more) plan ≡ true)

struck_call : (struck : Bool) (next : FaultPlan) (calls more : List Bool) → (strikes_any calls next ≡ true → Struck calls more next) → (struck || strikes_any calls next) ≡ true
    → ((if struck then next else plan_after (calls ++ more) next) ≡ (if struck then next else plan_after calls next)) × ((struck || strikes_any (calls ++ more) next) ≡ true)
unfolding Struck
struck_call true next calls more others one = (refl, refl)
struck_call false next calls more others one = others one

struck_in : (calls more : List Bool) (plan : FaultPlan) → strikes_any calls plan ≡ true → Struck calls more plan
unfolding Struck
struck_in [] more plan one = absurd cc
struck_in (is_write ∷ calls) more plan one = struck_call (strikes plan is_write) (after_call plan is_write) calls more (struck_in calls more (after_call plan is_write)) one

-- a run of calls of which an order strikes one: those behind it are not made
pub none_after : (calls more : List Bool) (before now : Option FaultPlan) → CallsGoByPlan calls before now true → CallsGoByPlan (calls ++ more) before now true
unfolding Struck
none_after calls more None now goes = goes
none_after calls more (Some plan) now goes =
    let struck = struck_in calls more plan goes.1 in
    (goes.0 ∙ ap Some (sym struck.0), struck.1)

-- ---- the counts of one run behind another

calls_over : (run more : List Bool) (n : ℕ) → call_count_after (run ++ more) n ≡ call_count_after more (call_count_after run n)
calls_over [] more n = refl
calls_over (is_write ∷ run) more n = calls_over run more (next_count n)

writes_over : (run more : List Bool) (n : ℕ) → write_count_after (run ++ more) n ≡ write_count_after more (write_count_after run n)
writes_over [] more n = refl
writes_over (is_write ∷ run) more n = writes_over run more (write_count_next is_write n)

counts_over : (run more : List Bool) (calls writes calls_now writes_now : ℕ) → CountSome more (call_count_after run calls) (write_count_after run writes) calls_now writes_now → CountSome (run ++ more) calls writes calls_now writes_now
counts_over [] more calls writes calls_now writes_now count = count
counts_over (is_write ∷ run) more calls writes calls_now writes_now count = inr (counts_over run more (next_count calls) (write_count_next is_write writes) calls_now writes_now count)

counts_early : (run more : List Bool) (calls writes calls_now writes_now : ℕ) → CountSome run calls writes calls_now writes_now → CountSome (run ++ more) calls writes calls_now writes_now
counts_early [] more calls writes calls_now writes_now count = absurd count
counts_early (is_write ∷ run) more calls writes calls_now writes_now (inl here) = inl here
counts_early (is_write ∷ run) more calls writes calls_now writes_now (inr later) = inr (counts_early run more (next_count calls) (write_count_next is_write writes) calls_now writes_now later)

-- ---- what runs do to a disk

module _ {D : Type 0} (d : Ghosts D) where
  pub untouched_same : (before now : D) → now ≡ before → IsUntouched d before now
  untouched_same before now same = record { content = ap d.content same; faults = ap d.faults same; calls = ap d.calls same; writes = ap d.writes same; plan = ap d.plan same }

  pub none_run : (disk : D) → HasRun d [] disk disk
  none_run disk = record { faults = refl; calls = refl; writes = refl; plan = no_calls (d.plan disk) }

  -- a run, and then nothing
  pub run_untouched : (run : List Bool) (before mid now : D) → HasRun d run before mid → IsUntouched d mid now → HasRun d run before now
  run_untouched run before mid now first same = record {
    faults = same.faults ∙ first.faults;
    calls = same.calls ∙ first.calls;
    writes = same.writes ∙ first.writes;
    plan = subst (λ (p : Option FaultPlan). CallsGoByPlan run (d.plan before) p false) (sym same.plan) first.plan;
  }

  -- a run, and another behind it
  pub run_over : (run more : List Bool) (before mid now : D) → HasRun d run before mid → HasRun d more mid now → HasRun d (run ++ more) before now
  run_over run more before mid now first second = record {
    faults = second.faults ∙ first.faults;
    calls = second.calls ∙ (ap (λ (n : ℕ). call_count_after more n) first.calls ∙ sym (calls_over run more (d.calls before)));
    writes = second.writes ∙ (ap (λ (n : ℕ). write_count_after more n) first.writes ∙ sym (writes_over run more (d.writes before)));
    plan = one_after run more (d.plan before) (d.plan mid) (d.plan now) false first.plan second.plan;
  }

  -- a run, and a fault in the one behind it
  pub fault_over : (run more : List Bool) (before mid now : D) → HasRun d run before mid → MetFault d more mid now → MetFault d (run ++ more) before now
  fault_over run more before mid now first second = record {
    faults = subst (λ (n : ℕ). Rose n (d.faults now)) first.faults second.faults;
    later = subst (λ (n : ℕ). n ≤ d.faults now) first.faults second.later;
    counts = counts_over run more (d.calls before) (d.writes before) (d.calls now) (d.writes now)
        (subst (λ (n : ℕ). CountSome more n (write_count_after run (d.writes before)) (d.calls now) (d.writes now)) first.calls
        (subst (λ (n : ℕ). CountSome more (d.calls mid) n (d.calls now) (d.writes now)) first.writes second.counts));
    plan = one_after run more (d.plan before) (d.plan mid) (d.plan now) true first.plan second.plan;
  }

  -- a fault in a run, behind which another was to come
  pub fault_early : (run more : List Bool) (before now : D) → MetFault d run before now → MetFault d (run ++ more) before now
  fault_early run more before now met = record {
    faults = met.faults;
    later = met.later;
    counts = counts_early run more (d.calls before) (d.writes before) (d.calls now) (d.writes now) met.counts;
    plan = none_after run more (d.plan before) (d.plan now) met.plan;
  }
