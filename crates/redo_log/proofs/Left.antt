-- What a failed call leaves while bytes are stored behind a gate: whether they count is what the plan says.
use Rattle.std.proofs.Common.{◌≡◌, ◌≢◌, inl, inr, ◌+◌, ◌<◌, ◌≤◌, ◌==◌, ◌||◌, if◌then◌else◌, ℕ, Bool, true, false, List, [], ◌∷◌, ◌++◌, length, take, drop, Option, Some, None, Result, Ok, Err, OnErr, refl, sym, ◌∙◌, ap, subst, arith, append_assoc, take-append-drop}
use Rattle.std.proofs.lemmas.Bool.{cases_eq}
use Rattle.std.proofs.lemmas.Bool.Decides.{nat_tests}
use Rattle.std.proofs.lemmas.List.{append-nil, take_at, length-take, length-take-le}
use Rattle.block_disk.specs.Images.{IsWritten}
use Rattle.block_disk.specs.Plan.{FaultPlan, strikes, after_call, left_of, left_by_stop, left_by_plan, GoesByPlan, IsLeftByPlan}
use Rattle.block_disk.specs.declared.fault.Stop.{Stop}
use Rattle.block_disk.specs.declared.fault.How.{How}
use Rattle.block_disk.specs.declared.fault.How.TheVariants.{Keep, Leave}
use Rattle.redo_log.specs.Log.{with_gate}
use Rattle.redo_log.specs.Plans.{plan_after, strikes_any}
use Rattle.redo_log.specs.Stands.{is_open, opens_gate, body_calls, stands_by, IsStoredIf, IsStoredByPlan}
use Rattle.redo_log.proofs.Stored.{front, back}

-- a write leaves no more bytes than it has
left_of_fits : (how : How) (bytes : List ℕ) → length (left_of how bytes) ≤ length bytes
left_of_fits (Keep count) bytes = omega (arith, length-take count bytes)
left_of_fits (Leave others) bytes = omega (arith, length-take (length bytes) others.items)

left_fits : (plan : FaultPlan) (bytes : List ℕ) → length (left_by_plan plan bytes) ≤ length bytes
left_fits plan bytes = by plan.stopped plan.stop where
  struck : (b : Bool) (how : How) → length (if b then left_of how bytes else []) ≤ length bytes
  struck true how = left_of_fits how bytes
  struck false how = omega arith

  by : (b : Bool) (stop : Option Stop) → length (if b then [] else left_by_stop stop bytes) ≤ length bytes
  by true stop = omega arith
  by false None = omega arith
  by false (Some stop) = struck (stop.write == 1) stop.how

is_not : (a b : ℕ) → a ≢ b → (a == b) ≡ false
is_not a b differ = grind (arith, nat_tests)

-- what stands by a plan, by the call that is struck
struck_first : (plan : FaultPlan) → strikes plan true ≡ true → stands_by plan ≡ false
struck_first plan is = ap (λ (b : Bool). if b || strikes_any (false ∷ []) (after_call plan true) then false else opens_gate (plan_after body_calls plan)) is

struck_second : (plan : FaultPlan) → strikes plan true ≡ false → strikes (after_call plan true) false ≡ true → stands_by plan ≡ false
struck_second plan spared is =
    ap (λ (b : Bool). if b || strikes_any (false ∷ []) (after_call plan true) then false else opens_gate (plan_after body_calls plan)) spared
    ∙ ap (λ (b : Bool). if b || false then false else opens_gate (plan_after body_calls plan)) is

either : (b : Bool) (p : FaultPlan) → (if b then p else p) ≡ p
either true p = refl
either false p = refl

at_gate_then : (plan : FaultPlan) → strikes plan true ≡ false → strikes (after_call plan true) false ≡ false → stands_by plan ≡ opens_gate (after_call (after_call plan true) false)
at_gate_then plan spared spared_too =
    ap (λ (b : Bool). if b || strikes_any (false ∷ []) (after_call plan true) then false else opens_gate (plan_after body_calls plan)) spared
    ∙ ap (λ (b : Bool). if b || false then false else opens_gate (plan_after body_calls plan)) spared_too
    ∙ ap (λ (b : Bool). opens_gate (if b then after_call plan true else plan_after (false ∷ []) (after_call plan true))) spared
    ∙ ap opens_gate (either (strikes (after_call plan true) false) (after_call (after_call plan true) false))

module _ (T E : Type 0) (gate : ℕ) (behind before : List ℕ) (within : gate < length before) where
  -- bytes that were written behind the gate leave it as it was
  still : (part now : List ℕ) → IsWritten before (gate + 1) part now → take (gate + 1) now ≡ take (gate + 1) before
  still part now is =
      let rest = drop (gate + 1 + length part) before in
      ap (λ (l : List ℕ). take (gate + 1) l) (is ∙ append_assoc (take (gate + 1) before) part rest)
      ∙ take_at (take (gate + 1) before) (part ++ rest) (gate + 1) (length-take-le (gate + 1) before (omega (arith, within)))

  -- the first write fails
  pub first_left : (plan mid : Option FaultPlan) (err : E) (now : List ℕ) → GoesByPlan {T = T} plan mid true (Err err) → IsLeftByPlan plan (gate + 1) behind before now → IsStoredByPlan plan gate behind before now
  first_left None mid err now goes left = tt
  first_left (Some plan) mid err now goes left =
      subst (λ (b : Bool). IsStoredIf b gate behind before now) (sym (struck_first plan goes.1)) (inl (still (left_by_plan plan behind) now left))

  module _ (one : List ℕ) (wrote : IsWritten before (gate + 1) behind one) where
    -- the sync after it fails
    pub second_left : (plan mid last : Option FaultPlan) (value : T) (err : E) (now : List ℕ) → GoesByPlan {E = E} plan mid true (Ok value) → GoesByPlan {T = T} mid last false (Err err) → now ≡ one
        → IsStoredByPlan plan gate behind before now
    second_left None mid last value err now goes fails same = tt
    second_left (Some plan) mid last value err now goes fails same =
        let fact : GoesByPlan {T = T} (Some (after_call plan true)) last false (Err err) = subst (λ (p : Option FaultPlan). GoesByPlan {T = T} p last false (Err err)) goes.0 fails in
        subst (λ (b : Bool). IsStoredIf b gate behind before now) (sym (struck_second plan goes.1 fact.1)) (inl (still behind now (same ∙ wrote)))

    -- what was written in the gate's place is the gate of what was written behind it
    gate_of : (byte : ℕ) (now : List ℕ) → IsWritten one gate (byte ∷ []) now → now ≡ with_gate byte gate behind before
    gate_of byte now is =
        let rest = drop (gate + 1 + length behind) before in
        is
        ∙ append_assoc (take gate one) (byte ∷ []) (drop (gate + 1) one)
        ∙ ap (λ (l : List ℕ). take gate l ++ (byte ∷ drop (gate + 1) l)) wrote
        ∙ ap (λ (l : List ℕ). l ++ (byte ∷ drop (gate + 1) (take (gate + 1) before ++ behind ++ rest))) (front gate behind before within)
        ∙ ap (λ (l : List ℕ). take gate before ++ (byte ∷ l)) (back gate behind before within)
        ∙ sym (append_assoc (take gate before) (byte ∷ behind) rest)

    nothing : (now : List ℕ) → IsWritten one gate [] now → now ≡ one
    nothing now is = is ∙ (ap (λ (l : List ℕ). l ++ drop (gate + 0) one) (append-nil (take gate one)) ∙ (ap (λ (n : ℕ). take gate one ++ drop n one) (omega arith) ∙ take-append-drop gate one))

    at_gate : (part now : List ℕ) → length part ≤ 1 → IsWritten one gate part now → IsStoredIf (is_open part) gate behind before now
    at_gate [] now short is = inl (still behind now (nothing now is ∙ wrote))
    at_gate (byte ∷ []) now short is =
        elim (cases_eq byte 1) [
          | inl is_one ↦ subst (λ (b : ℕ). IsStoredIf (b == 1) gate behind before now) (sym is_one) (gate_of 1 now (subst (λ (b : ℕ). IsWritten one gate (b ∷ []) now) is_one is))
          | inr not_one ↦ subst (λ (b : Bool). IsStoredIf b gate behind before now) (sym (is_not byte 1 not_one)) (inr (byte, not_one, gate_of byte now is))
        ]
    at_gate (byte ∷ more ∷ rest) now short is = absurd (omega (arith, short))

    -- the body is written and synced
    reaches_gate : (plan : FaultPlan) (mid synced : Option FaultPlan) (value more : T) → GoesByPlan {E = E} (Some plan) mid true (Ok value) → GoesByPlan {E = E} mid synced false (Ok more)
        → (synced ≡ Some (after_call (after_call plan true) false)) × (stands_by plan ≡ opens_gate (after_call (after_call plan true) false))
    reaches_gate plan mid synced value more goes syncs =
        let fact : GoesByPlan {E = E} (Some (after_call plan true)) synced false (Ok more) = subst (λ (p : Option FaultPlan). GoesByPlan {E = E} p synced false (Ok more)) goes.0 syncs in
        (fact.0, at_gate_then plan goes.1 fact.1)

    module _ (plan mid synced last : Option FaultPlan) (value more : T) (wrote_by : GoesByPlan {E = E} plan mid true (Ok value)) (synced_by : GoesByPlan {E = E} mid synced false (Ok more)) (kept now : List ℕ) (same : kept ≡ one) where
      -- the write of the gate fails
      pub third_left : (err : E) → GoesByPlan {T = T} synced last true (Err err) → IsLeftByPlan synced gate (1 ∷ []) kept now → IsStoredByPlan plan gate behind before now
      third_left err fails left = by plan wrote_by where
        by : (plan : Option FaultPlan) → GoesByPlan {E = E} plan mid true (Ok value) → IsStoredByPlan plan gate behind before now
        by None goes = tt
        by (Some plan) goes =
            let at = reaches_gate plan mid synced value more goes synced_by in
            let next = after_call (after_call plan true) false in
            let fact : GoesByPlan {T = T} (Some next) last true (Err err) = subst (λ (p : Option FaultPlan). GoesByPlan {T = T} p last true (Err err)) at.0 fails in
            let part : IsLeftByPlan (Some next) gate (1 ∷ []) kept now = subst (λ (p : Option FaultPlan). IsLeftByPlan p gate (1 ∷ []) kept now) at.0 left in
            let is : stands_by plan ≡ is_open (left_by_plan next (1 ∷ [])) = at.1 ∙ ap (λ (b : Bool). if b then is_open (left_by_plan next (1 ∷ [])) else true) fact.1 in
            subst (λ (b : Bool). IsStoredIf b gate behind before now) (sym is)
            (at_gate (left_by_plan next (1 ∷ [])) now (left_fits next (1 ∷ [])) (subst (λ (l : List ℕ). IsWritten l gate (left_by_plan next (1 ∷ [])) now) same part))

      -- the last sync fails
      pub fourth_left : (set : T) (second : List ℕ) → GoesByPlan {E = E} synced last true (Ok set) → IsWritten kept gate (1 ∷ []) second → now ≡ second → IsStoredByPlan plan gate behind before now
      fourth_left set second opens wrote_gate same_now = by plan wrote_by where
        by : (plan : Option FaultPlan) → GoesByPlan {E = E} plan mid true (Ok value) → IsStoredByPlan plan gate behind before now
        by None goes = tt
        by (Some plan) goes =
            let at = reaches_gate plan mid synced value more goes synced_by in
            let next = after_call (after_call plan true) false in
            let fact : GoesByPlan {E = E} (Some next) last true (Ok set) = subst (λ (p : Option FaultPlan). GoesByPlan {E = E} p last true (Ok set)) at.0 opens in
            let is : stands_by plan ≡ true = at.1 ∙ ap (λ (b : Bool). if b then is_open (left_by_plan next (1 ∷ [])) else true) fact.1 in
            subst (λ (b : Bool). IsStoredIf b gate behind before now) (sym is) (same_now ∙ gate_of 1 second (subst (λ (l : List ℕ). IsWritten l gate (1 ∷ []) second) same wrote_gate))

-- what holds is told of a result
pub on_err : {T E : Type 0} (result : Result T E) (P : Type 0) → P → OnErr result P
on_err (Ok value) P holds = tt
on_err (Err err) P holds = holds
