-- A branch that is dropped in a turn: no record ended it, and it did not say ReadOnly. What a whole turn leaves of a node's live branches.
use Rattle.std.proofs.Common.{◌≡◌, ℕ, ◌&&◌, ◌||◌, Bool, true, false, if◌then◌else◌, List, [], ◌∷◌, map, Option, Some, None, refl, sym, ap, subst, ◌∙◌}
use Rattle.std.specs.Prelude.{◌⊎◌}
use Rattle.std.specs.List.{list_any}
use Rattle.agreement.specs.Events.{Event, Sealed, Decided, Dropped, first, only_at, exit}
use Rattle.agreement.proofs.EventLemmas.{only_at_same}
use Rattle.node_rules.specs.Data.{BranchId, Live, Msg, RedoRecord, Sealed as SealedRecord, Decided as DecidedRecord}
use Rattle.node_rules.specs.Data.records
use Rattle.node_rules.specs.Words.{same, item_at}
use Rattle.node_rules.specs.NodeState.{live_id}
use Rattle.run_rules.specs.Branches.{is_among}
use Rattle.run_base_laws.specs.RunEvents.{with_event, wrote_event, with_leavers}
use Rattle.run_rules.specs.Trail.{is_quiet}
use Rattle.tree_laws.proofs.LeaveLemmas.{all_left, wrote_left}

-- ---- exits

-- who is dropped with others did not say ReadOnly
pub all_dropped : (after : List BranchId) (sent : List Msg) (bs : List BranchId) (x : BranchId) (t : List Event) → exit (with_leavers after sent bs t) x ≡ Some Dropped → (exit t x ≡ Some Dropped) ⊎ (list_any (is_quiet x) sent ≡ false)
all_dropped after sent bs x t is = all_left after sent false bs x t is

-- no record drops
pub wrote_dropped : (n : ℕ) (t : List Event) (w : Option RedoRecord) (b : BranchId) → exit (with_event (wrote_event n w) t) b ≡ Some Dropped → exit t b ≡ Some Dropped
wrote_dropped n t w b is = wrote_left false n t w b is

-- a seal and a decision end their branch
pub seal_ends : (n : ℕ) (t : List Event) (w : Option RedoRecord) (r : SealedRecord) (b : BranchId) → w ≡ Some (records.Sealed r) → r.me ≡ b → exit t b ≡ None → exit (with_event (wrote_event n w) t) b ≡ Some (Sealed r.scn)
seal_ends n t w r b wrote me none =
    subst (λ o. exit (with_event (wrote_event n o) t) b ≡ Some (Sealed r.scn)) (sym wrote) (ap (λ o. first o (only_at r.me b (Sealed r.scn))) none ∙ only_at_same r.me b (Sealed r.scn) me)

pub decision_ends : (n : ℕ) (t : List Event) (w : Option RedoRecord) (r : DecidedRecord) (b : BranchId) → w ≡ Some (records.Decided r) → r.me ≡ b → exit t b ≡ None → exit (with_event (wrote_event n w) t) b ≡ Some (Decided r.scn)
decision_ends n t w r b wrote me none =
    subst (λ o. exit (with_event (wrote_event n o) t) b ≡ Some (Decided r.scn)) (sym wrote) (ap (λ o. first o (only_at r.me b (Decided r.scn))) none ∙ only_at_same r.me b (Decided r.scn) me)

-- ---- lists

-- who is not among the live branches is not found there
pub none_found : (ls : List Live) (b : BranchId) → is_among b (map live_id ls) ≡ false → item_at live_id ls b ≡ None
none_found [] b is = refl
none_found (x ∷ ls) b is = by (same x.me b) is (none_found ls b)
  where
    by : (q : Bool) → (q || is_among b (map live_id ls)) ≡ false → (is_among b (map live_id ls) ≡ false → item_at live_id ls b ≡ None) → (if q then Some x else item_at live_id ls b) ≡ None
    by true none rest = absurd cc
    by false none rest = rest none

pub both_not : (p q : Bool) → p ≡ true → q ≡ true → (p && q) ≡ false → ⊥
both_not true true one two none = absurd cc
both_not true false one two none = absurd cc
both_not false q one two none = absurd cc
