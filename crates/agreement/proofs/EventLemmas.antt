-- What stands once stands for ever, and what is new is by the event.
use Rattle.std.proofs.Common.{Bool, ◌≡◌, ℕ, ◌⊎◌, List, ◌∷◌, Option, Some, None, refl, inl, inr, arith}
use Rattle.agreement.proofs.SameBranch.{same_reports}
use Rattle.agreement.specs.Data.{BranchId, Change, Decision}
use Rattle.agreement.specs.Events.{Exit, Sealed, Decided, Quiet, Dropped, Event, Seal, Decide, Answer_read_only, Drop, Force, Learn, first, only_at, exit_by, exit, learned_by, learned, forced_by, forced}

pub exit_stays : (s : Event) (t : List Event) (b : BranchId) (e : Exit) → exit t b ≡ Some e → exit (s ∷ t) b ≡ Some e
exit_stays s t b e p = rw p refl

pub learned_stays : (s : Event) (t : List Event) (b : BranchId) (e : Decision) → learned t b ≡ Some e → learned (s ∷ t) b ≡ Some e
learned_stays s t b e p = rw p refl

pub first_is : {A : Type 0} (o p : Option A) (a : A) → first o p ≡ Some a → (o ≡ Some a) ⊎ ((o ≡ None) × (p ≡ Some a))
first_is (Some b) p a h = inl h
first_is None p a h = inr (refl, h)

pub exit_new : (s : Event) (t : List Event) (b : BranchId) (e : Exit) → exit (s ∷ t) b ≡ Some e → (exit t b ≡ Some e) ⊎ ((exit t b ≡ None) × (exit_by s b ≡ Some e))
exit_new s t b e h = first_is (exit t b) (exit_by s b) e h

pub learned_new : (s : Event) (t : List Event) (b : BranchId) (e : Decision) → learned (s ∷ t) b ≡ Some e → (learned t b ≡ Some e) ⊎ ((learned t b ≡ None) × (learned_by s b ≡ Some e))
learned_new s t b e h = first_is (learned t b) (learned_by s b) e h

pub forced_new : (s : Event) (t : List Event) (b : BranchId) (e : Decision) → forced (s ∷ t) b ≡ Some e → (forced t b ≡ Some e) ⊎ ((forced t b ≡ None) × (forced_by s b ≡ Some e))
forced_new s t b e h = first_is (forced t b) (forced_by s b) e h

pub only_at_is : {A : Type 0} (c b : BranchId) (a x : A) → only_at c b a ≡ Some x → (c ≡ b) × (a ≡ x)
only_at_is c b a x h = grind (arith, same_reports)

pub sealed_by : (s : Event) (b : BranchId) (n : ℕ) → exit_by s b ≡ Some (Sealed n) → (g : BranchId) × (cs : List Change) × (s ≡ Seal b g n cs)
sealed_by (Seal c g m cs) b n h = let e = only_at_is c b (Sealed m) (Sealed n) h in (g, cs, cc (e.0, e.1))
sealed_by (Decide c g m cs) b n h = let e = only_at_is c b (Decided m) (Sealed n) h in absurd cc
sealed_by (Answer_read_only c) b n h = let e = only_at_is c b Quiet (Sealed n) h in absurd cc
sealed_by (Drop c) b n h = let e = only_at_is c b Dropped (Sealed n) h in absurd cc
sealed_by s b n h = absurd cc

pub decided_by : (s : Event) (b : BranchId) (n : ℕ) → exit_by s b ≡ Some (Decided n) → (g : BranchId) × (cs : List Change) × (s ≡ Decide b g n cs)
decided_by (Decide c g m cs) b n h = let e = only_at_is c b (Decided m) (Decided n) h in (g, cs, cc (e.0, e.1))
decided_by (Seal c g m cs) b n h = let e = only_at_is c b (Sealed m) (Decided n) h in absurd cc
decided_by (Answer_read_only c) b n h = let e = only_at_is c b Quiet (Decided n) h in absurd cc
decided_by (Drop c) b n h = let e = only_at_is c b Dropped (Decided n) h in absurd cc
decided_by s b n h = absurd cc

pub quiet_by : (s : Event) (b : BranchId) → exit_by s b ≡ Some Quiet → s ≡ Answer_read_only b
quiet_by (Answer_read_only c) b h = let e = only_at_is c b Quiet Quiet h in cc (e.0)
quiet_by (Seal c g m cs) b h = let e = only_at_is c b (Sealed m) Quiet h in absurd cc
quiet_by (Decide c g m cs) b h = let e = only_at_is c b (Decided m) Quiet h in absurd cc
quiet_by (Drop c) b h = let e = only_at_is c b Dropped Quiet h in absurd cc
quiet_by s b h = absurd cc

pub learn_by : (s : Event) (b : BranchId) (d : Decision) → learned_by s b ≡ Some d → (m : Option Bool) × (s ≡ Learn b d m)
learn_by (Learn c d m) b e h = let q = only_at_is c b d e h in (m, cc (q.0, q.1))
learn_by s b d h = absurd cc

pub force_by : (s : Event) (b : BranchId) (o : Decision) → forced_by s b ≡ Some o → s ≡ Force b o
force_by (Force c d) b e h = let q = only_at_is c b d e h in cc (q.0, q.1)
force_by s b d h = absurd cc

pub first_none : {A : Type 0} (o p : Option A) → first o p ≡ None → (o ≡ None) × (p ≡ None)
first_none (Some b) p h = absurd cc
first_none None p h = (refl, h)

pub only_at_same : {A : Type 0} (c b : BranchId) (a : A) → c ≡ b → only_at c b a ≡ Some a
only_at_same c b a e = grind (arith, same_reports)
