-- Disk calls one after the other, each of which goes by the plan, go by it together.
use Rattle.std.proofs.Common.{◌≡◌, ◌||◌, if◌then◌else◌, Bool, true, false, List, [], ◌∷◌, Option, Some, None, Ok, Err, refl, sym, subst}
use Rattle.block_disk.specs.Plan.{FaultPlan, after_call, GoesByPlan}
use Rattle.redo_log.specs.Plans.{plan_after, strikes_any, CallsGoByPlan}

-- no call is left
pub done : (plan : Option FaultPlan) → CallsGoByPlan [] plan plan false
done None = refl
done (Some plan) = (refl, refl)

-- a call that fails is the last
pub ends : (T E : Type 0) (before now : Option FaultPlan) (is_write : Bool) (calls : List Bool) (err : E) → GoesByPlan {T = T} before now is_write (Err err) → CallsGoByPlan (is_write ∷ calls) before now true
ends T E None now is_write calls err goes = goes
ends T E (Some plan) now is_write calls err goes =
    subst (λ b. (now ≡ Some (if b then after_call plan is_write else plan_after calls (after_call plan is_write))) × ((b || strikes_any calls (after_call plan is_write)) ≡ true))
    (sym goes.1) (goes.0, refl)

-- after a call that succeeds the others go by the plan that it leaves
pub goes_on : (T E : Type 0) (before mid now : Option FaultPlan) (is_write : Bool) (calls : List Bool) (fails : Bool) (value : T) → GoesByPlan {E = E} before mid is_write (Ok value) → CallsGoByPlan calls mid now fails → CallsGoByPlan (is_write ∷ calls) before now fails
goes_on T E None mid now is_write calls fails value goes others = subst (λ p. CallsGoByPlan calls p now fails) goes others
goes_on T E (Some plan) mid now is_write calls fails value goes others =
    let rest : CallsGoByPlan calls (Some (after_call plan is_write)) now fails = subst (λ p. CallsGoByPlan calls p now fails) goes.0 others in
    subst (λ b. (now ≡ Some (if b then after_call plan is_write else plan_after calls (after_call plan is_write))) × ((b || strikes_any calls (after_call plan is_write)) ≡ fails))
    (sym goes.1) rest
