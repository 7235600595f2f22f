-- What takes the place of a list: how its calls run, and what a failed call leaves.
use Rattle.std.proofs.Common.{◌≡◌, ◌≢◌, inl, inr, ◌==◌, ◌+◌, ◌||◌, if◌then◌else◌, ℕ, zero, suc, Bool, true, false, List, [], ◌∷◌, length, take, drop, Option, Some, None, Result, OnOk, OnErr, refl, sym, ◌∙◌, ap, subst, arith}
use Rattle.std.proofs.lemmas.List.{length-take-le}
use Rattle.std.proofs.lemmas.Result.{on_ok_weaker, on_err_weaker}
use Rattle.block_disk.specs.declared.disk.Disk.{Ghosts}
use Rattle.block_disk.specs.Plan.{FaultPlan, strikes, after_call, left_by_plan}
use Rattle.redo_log.specs.Cells.{held, IsClosed, IsLogTo}
use Rattle.redo_log.specs.Log.{with_gate}
use Rattle.redo_log.specs.Plans.{plan_after, strikes_any, CallsGoByPlan, append_calls}
use Rattle.redo_log.specs.Restart.{shut_calls, restart_calls, is_shut, shuts_gate, IsShutByPlan, IsReplacedIf, IsReplacedByPlan}
use Rattle.redo_log.specs.Runs.{HasRun, MetFault}
use Rattle.redo_log.specs.Stands.{is_open, stands_by, IsStoredIf, IsStoredByPlan}
use Rattle.redo_log.proofs.PlanLaws.{run_over, fault_over}
use Rattle.redo_log.proofs.Runs.{run_with_room, fault_with_room}

-- ---- where a list ends

begins_open : (end : ℕ) (bytes rest : List ℕ) → take end bytes ≡ 1 ∷ rest → is_open bytes ≡ true
begins_open zero bytes rest is = absurd cc
begins_open (suc end) [] rest is = absurd cc
begins_open (suc end) (gate ∷ behind) rest is = let e : gate ≡ 1 = cc in ap (λ (g : ℕ). g == 1) e

ends_first : (end : ℕ) (bytes : List ℕ) → IsLogTo end [] bytes → end ≡ 0
ends_first end bytes is = omega (arith, ap (λ (l : List ℕ). length l) is.cells, length-take-le end bytes (omega (arith, is.within)))

-- a list that does not end at the first gate begins with an open gate
pub first_open : (end : ℕ) (list : List (List ℕ)) (bytes : List ℕ) → IsLogTo end list bytes → end ≢ 0 → is_open bytes ≡ true
first_open end [] bytes is some = absurd (some (ends_first end bytes is))
first_open end (body ∷ list) bytes is some = begins_open end bytes _ is.cells

-- and has bodies
pub has_bodies : (end : ℕ) (list : List (List ℕ)) (bytes : List ℕ) → IsLogTo end list bytes → end ≢ 0 → list ≢ []
has_bodies end list bytes is some none = some (ends_first end bytes (subst (λ (l : List (List ℕ)). IsLogTo end l bytes) none is))

-- ---- calls: a list with bodies is shut, and then bytes are stored

module _ {D : Type 0} (d : Ghosts D) (T E : Type 0) (result : Result T E) (list : List (List ℕ)) (full : list ≢ []) (before mid now : D) (shut : HasRun d shut_calls before mid) where
  pub full_run : OnOk result (HasRun d append_calls mid now) → OnOk result (HasRun d (restart_calls list) before now)
  full_run stored = by list full where
    by : (list : List (List ℕ)) → list ≢ [] → OnOk result (HasRun d (restart_calls list) before now)
    by [] none = absurd (none refl)
    by (first ∷ list) full = on_ok_weaker result (λ second. run_over d shut_calls append_calls before mid now shut second) stored

  pub full_fault : OnErr result (MetFault d append_calls mid now) → OnErr result (MetFault d (restart_calls list) before now)
  full_fault failed = by list full where
    by : (list : List (List ℕ)) → list ≢ [] → OnErr result (MetFault d (restart_calls list) before now)
    by [] none = absurd (none refl)
    by (first ∷ list) full = on_err_weaker result (λ second. fault_over d shut_calls append_calls before mid now shut second) failed

-- ---- what a failed call leaves

spared : (b c : Bool) → (b || c) ≡ false → b ≡ false
spared true c is = absurd cc
spared false c is = refl

-- where the list was to be shut
pub left_early : (plan last : Option FaultPlan) (list : List (List ℕ)) (behind before now : List ℕ) → list ≢ [] → CallsGoByPlan shut_calls plan last true → IsShutByPlan plan before now → IsReplacedByPlan plan list behind before now
left_early None last list behind before now full goes shut = tt
left_early (Some plan) last [] behind before now full goes shut = absurd (full refl)
left_early (Some plan) last (first ∷ list) behind before now full goes shut =
    subst (λ (b : Bool). IsReplacedIf (if b then false else stands_by (plan_after shut_calls plan)) (shuts_gate plan) behind before now) (sym goes.1) shut

shut_first : (before : List ℕ) (behind : List ℕ) → is_open before ≡ true → with_gate 1 0 behind (0 ∷ drop 1 before) ≡ with_gate 1 0 behind before
shut_first [] behind is = absurd cc
shut_first (gate ∷ rest) behind is = let e : 0 + 1 + length behind ≡ suc (length behind) = omega arith in rw e refl

still_shut : (now rest : List ℕ) → take 1 now ≡ 0 ∷ rest → IsClosed now
still_shut [] rest is = absurd cc
still_shut (gate ∷ behind) rest is = let e : gate ≡ 0 = cc in λ is_one. absurd (omega (arith, e, is_one))

stored_if : (stands : Bool) (behind before now : List ℕ) → is_open before ≡ true → IsStoredIf stands 0 behind (0 ∷ drop 1 before) now → IsReplacedIf stands true behind before now
stored_if true behind before now opens is = is ∙ shut_first before behind opens
stored_if false behind before now opens (inl front) = still_shut now [] front
stored_if false behind before now opens (inr stands) = subst IsClosed (sym stands.2) stands.1

-- where bytes were to be stored once it was shut
pub left_late : (plan mid : Option FaultPlan) (list : List (List ℕ)) (behind before shut now : List ℕ) → is_open before ≡ true → shut ≡ 0 ∷ drop 1 before → CallsGoByPlan shut_calls plan mid false → IsStoredByPlan mid 0 behind shut now
    → list ≢ [] → IsReplacedByPlan plan list behind before now
left_late None mid list behind before shut now opens is goes stored full = tt
left_late (Some plan) mid [] behind before shut now opens is goes stored full = absurd (full refl)
left_late (Some plan) mid (first ∷ list) behind before shut now opens is goes stored full =
    let next = plan_after shut_calls plan in
    let by_plan : IsStoredByPlan (Some next) 0 behind (0 ∷ drop 1 before) now =
    subst (λ (l : List ℕ). IsStoredByPlan (Some next) 0 behind l now) is (subst (λ (p : Option FaultPlan). IsStoredByPlan p 0 behind shut now) goes.0 stored) in
    let unstruck : strikes plan true ≡ false = spared (strikes plan true) (strikes_any (false ∷ []) (after_call plan true)) goes.1 in
    subst (λ (b : Bool). IsReplacedIf (if b then false else stands_by next) (shuts_gate plan) behind before now) (sym goes.1)
    (subst (λ (b : Bool). IsReplacedIf (stands_by next) (if b then is_shut (left_by_plan plan (0 ∷ [])) else true) behind before now) (sym unstruck)
    (stored_if (stands_by next) behind before now opens by_plan))

-- ---- once there is room

module _ {D : Type 0} (d : Ghosts D) (before mid now : D) (content : d.content mid ≡ d.content before) (faults : d.faults mid ≡ d.faults before) (calls : d.calls mid ≡ d.calls before) (writes : d.writes mid ≡ d.writes before) (plan : d.plan mid ≡ d.plan before) where
  pub run_anew : HasRun d (restart_calls (held (d.content mid))) mid now → HasRun d (restart_calls (held (d.content before))) before now
  run_anew run = subst (λ (l : List ℕ). HasRun d (restart_calls (held l)) before now) content (run_with_room d before mid now (restart_calls (held (d.content mid))) faults calls writes plan run)

  pub fault_anew : MetFault d (restart_calls (held (d.content mid))) mid now → MetFault d (restart_calls (held (d.content before))) before now
  fault_anew met = subst (λ (l : List ℕ). MetFault d (restart_calls (held l)) before now) content (fault_with_room d before mid now (restart_calls (held (d.content mid))) faults calls writes plan met)
