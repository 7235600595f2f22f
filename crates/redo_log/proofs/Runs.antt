-- Runs of disk calls, one call after the other and one run behind another.
use Rattle.std.proofs.Common.{◌≡◌, ◌≤◌, ℕ, Bool, true, false, List, [], ◌∷◌, Option, Result, Ok, Err, OnOk, OnErr, inl, inr, refl, subst, ap, ◌∙◌}
use Rattle.dtx_ports.specs.Causes.{Rose, HasCause}
use Rattle.block_disk.specs.declared.disk.Disk.{Ghosts}
use Rattle.block_disk.specs.Counts.{next_count}
use Rattle.block_disk.specs.Plan.{FaultPlan, GoesByPlan}
use Rattle.redo_log.specs.Plans.{CallsGoByPlan}
use Rattle.redo_log.specs.Runs.{call_count_after, write_count_next, write_count_after, CountSome, HasRun, MetFault}
use Rattle.redo_log.proofs.Planned.{done, ends, goes_on}

module _ {D : Type 0} (d : Ghosts D) where
  no_calls : (disk : D) → HasRun d [] disk disk
  no_calls disk = record { faults = refl; calls = refl; writes = refl; plan = done (d.plan disk) }

  -- a call that fails is the last
  pub fault : (T E : Type 0) (before now : D) (is_write : Bool) (more : List Bool) (err : E) → HasCause {T = T} (d.faults before) (d.faults now) (Err err) → d.calls now ≡ next_count (d.calls before)
      → d.writes now ≡ write_count_next is_write (d.writes before) → GoesByPlan {T = T} (d.plan before) (d.plan now) is_write (Err err) → MetFault d (is_write ∷ more) before now
  fault T E before now is_write more err cause calls writes goes =
      record { faults = cause.failed; later = cause.later; counts = inl (calls, writes); plan = ends T E (d.plan before) (d.plan now) is_write more err goes }

  -- a call that succeeds, and others behind it
  module _ (T E : Type 0) (before mid now : D) (is_write : Bool) (more : List Bool) (value : T) (cause : HasCause {E = E} (d.faults before) (d.faults mid) (Ok value)) (calls : d.calls mid ≡ next_count (d.calls before))
      (writes : d.writes mid ≡ write_count_next is_write (d.writes before)) (goes : GoesByPlan {E = E} (d.plan before) (d.plan mid) is_write (Ok value)) where
    pub then_run : HasRun d more mid now → HasRun d (is_write ∷ more) before now
    then_run rest = record {
      faults = rest.faults ∙ cause.stays;
      calls = rest.calls ∙ ap (λ (n : ℕ). call_count_after more n) calls;
      writes = rest.writes ∙ ap (λ (n : ℕ). write_count_after more n) writes;
      plan = goes_on T E (d.plan before) (d.plan mid) (d.plan now) is_write more false value goes rest.plan;
    }

    pub then_fault : MetFault d more mid now → MetFault d (is_write ∷ more) before now
    then_fault rest = record {
      faults = subst (λ (n : ℕ). Rose n (d.faults now)) cause.stays rest.faults;
      later = subst (λ (n : ℕ). n ≤ d.faults now) cause.stays rest.later;
      counts = inr (subst (λ (n : ℕ). CountSome more n (write_count_next is_write (d.writes before)) (d.calls now) (d.writes now)) calls
          (subst (λ (n : ℕ). CountSome more (d.calls mid) n (d.calls now) (d.writes now)) writes rest.counts));
      plan = goes_on T E (d.plan before) (d.plan mid) (d.plan now) is_write more true value goes rest.plan;
    }

  -- the last call
  pub last_run : {T E : Type 0} (before now : D) (is_write : Bool) (result : Result T E) → HasCause (d.faults before) (d.faults now) result → d.calls now ≡ next_count (d.calls before)
      → d.writes now ≡ write_count_next is_write (d.writes before) → GoesByPlan (d.plan before) (d.plan now) is_write result → OnOk result (HasRun d (is_write ∷ []) before now)
  last_run before now is_write (Ok value) cause calls writes goes = then_run _ _ before now now is_write [] value cause calls writes goes (no_calls now)
  last_run before now is_write (Err err) cause calls writes goes = tt

  pub last_fault : {T E : Type 0} (before now : D) (is_write : Bool) (result : Result T E) → HasCause (d.faults before) (d.faults now) result → d.calls now ≡ next_count (d.calls before)
      → d.writes now ≡ write_count_next is_write (d.writes before) → GoesByPlan (d.plan before) (d.plan now) is_write result → OnErr result (MetFault d (is_write ∷ []) before now)
  last_fault before now is_write (Ok value) cause calls writes goes = tt
  last_fault before now is_write (Err err) cause calls writes goes = fault _ _ before now is_write [] err cause calls writes goes

  -- what was so of the disk before stays so while nothing is done to it but to make room
  module _ (before mid now : D) (run : List Bool) (faults : d.faults mid ≡ d.faults before) (calls : d.calls mid ≡ d.calls before) (writes : d.writes mid ≡ d.writes before) (plan : d.plan mid ≡ d.plan before) where
    pub run_with_room : HasRun d run mid now → HasRun d run before now
    run_with_room rest = record {
      faults = rest.faults ∙ faults;
      calls = rest.calls ∙ ap (λ (n : ℕ). call_count_after run n) calls;
      writes = rest.writes ∙ ap (λ (n : ℕ). write_count_after run n) writes;
      plan = subst (λ (p : Option FaultPlan). CallsGoByPlan run p (d.plan now) false) plan rest.plan;
    }

    pub fault_with_room : MetFault d run mid now → MetFault d run before now
    fault_with_room rest = record {
      faults = subst (λ (n : ℕ). Rose n (d.faults now)) faults rest.faults;
      later = subst (λ (n : ℕ). n ≤ d.faults now) faults rest.later;
      counts = subst (λ (n : ℕ). CountSome run n (d.writes before) (d.calls now) (d.writes now)) calls (subst (λ (n : ℕ). CountSome run (d.calls mid) n (d.calls now) (d.writes now)) writes rest.counts);
      plan = subst (λ (p : Option FaultPlan). CallsGoByPlan run p (d.plan now) true) plan rest.plan;
    }
