-- A branch that leaves by the record of a turn was live as it began.
use Rattle.std.proofs.Common.{◌≡◌, ℕ, Bool, true, false, if◌then◌else◌, List, Option, Some, None, refl, sym, subst, ◌∙◌}
use Rattle.std.specs.Prelude.{IfSome}
use Rattle.tran_ids.proofs.BranchLemmas.{equal_from_same}
use Rattle.agreement.specs.Events.{Event, Exit, Sealed, Decided, first, exit}
use Rattle.node_rules.specs.Data.{BranchId, Live, RedoRecord, Input}
use Rattle.node_rules.specs.Data.records
use Rattle.node_rules.specs.Words.{same, item_at}
use Rattle.node_rules.specs.NodeState.{live_id}
use Rattle.run_base_laws.specs.RunEvents.{with_event, wrote_event}
use Rattle.run_rules.specs.Trail.{recorded_exit}
use Rattle.book_laws.specs.LeaveLaws.{LeavesOn}

pub first_by : (o p : Option Exit) → o ≡ None → first o p ≡ p
first_by None p is = refl
first_by (Some a) p is = absurd cc

-- the exit that a record makes is that of the record
pub wrote_exit : (n : ℕ) (e : List Event) (b : BranchId) (w : Option RedoRecord) (x : Exit) → exit e b ≡ None → exit (with_event (wrote_event n w) e) b ≡ Some x → recorded_exit b w ≡ Some x
wrote_exit n e b (Some (records.Sealed r)) x none is = sym (first_by (exit e b) (if same r.me b then Some (Sealed r.scn) else None) none) ∙ is
wrote_exit n e b (Some (records.Decided r)) x none is = sym (first_by (exit e b) (if same r.me b then Some (Decided r.scn) else None) none) ∙ is
wrote_exit n e b (Some (records.Ended c d)) x none is = sym (first_by (exit e b) None none) ∙ is
wrote_exit n e b (Some (records.Forced c d given)) x none is = sym (first_by (exit e b) None none) ∙ is
wrote_exit n e b (Some (records.Met c d mixed)) x none is = sym (first_by (exit e b) None none) ∙ is
wrote_exit n e b (Some (records.Forgot c)) x none is = sym (first_by (exit e b) None none) ∙ is
wrote_exit n e b (Some (records.Table table)) x none is = sym (first_by (exit e b) None none) ∙ is
wrote_exit n e b (Some _) x none is = absurd (cc (none, is))
wrote_exit n e b None x none is = absurd (cc (none, is))

-- its branch is live
pub exit_live : (lives : List Live) (input : Input) (b : BranchId) (w : Option RedoRecord) (x : Exit) → recorded_exit b w ≡ Some x → IfSome w (LeavesOn lives input) → (l : Live) × (item_at live_id lives b ≡ Some l)
exit_live lives input b (Some (records.Sealed r)) x is on = by (same r.me b) refl is
  where
    by : (q : Bool) → same r.me b ≡ q → (if q then Some (Sealed r.scn) else None) ≡ Some x → (l : Live) × (item_at live_id lives b ≡ Some l)
    by true here some = (on.0, subst (λ c. item_at live_id lives c ≡ Some on.0) (equal_from_same r.me b here) on.1)
    by false other some = absurd cc
exit_live lives input b (Some (records.Decided r)) x is on = by (same r.me b) refl is
  where
    by : (q : Bool) → same r.me b ≡ q → (if q then Some (Decided r.scn) else None) ≡ Some x → (l : Live) × (item_at live_id lives b ≡ Some l)
    by true here some = (on.0, subst (λ c. item_at live_id lives c ≡ Some on.0) (equal_from_same r.me b here) on.1)
    by false other some = absurd cc
exit_live lives input b (Some _) x is on = absurd cc
exit_live lives input b None x is on = absurd cc
