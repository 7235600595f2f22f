-- The nodes of the world have as many rows of DBA_2PC_PENDING as those of the facts.
use Rattle.std.proofs.Common.{◌≡◌, ◌∙◌, ℕ, suc, ◌+◌, List, [], ◌∷◌, length, Option, Some, refl, sym, ap, arith}
use Rattle.std.specs.Prelude.{slice_get, sum_by}
use Rattle.std.proofs.Math.Path.{ap₂}
use Rattle.std.proofs.lemmas.List.Sums.{sum_by-cons}
use Rattle.node_rules.specs.NodeState.{NodeState}
use Rattle.run_rules.specs.Facts.{flat}
use Rattle.run_trace.specs.Recorded.{past_of}
use Rattle.world.specs.declared.slot.NodeSlot.{NodeSlot}
use Rattle.world.specs.declared.world.World.{World}
use Rattle.world.specs.Linked.{IsLinked}
use Rattle.world.specs.NodeSlot.{site_kept}
use Rattle.world.specs.Pending.{pending_at, pending_in, pending_of}

-- lists of nodes that agree place by place
same_rows : (slots : List NodeSlot) (nodes : List (Option NodeState)) → length slots ≡ length nodes
    → ((i : ℕ) (slot : NodeSlot) → slice_get slots i ≡ Some slot → site_kept slot ≡ flat (slice_get nodes i))
    → sum_by pending_at slots ≡ sum_by pending_of nodes
same_rows [] [] long same = refl
same_rows [] (k ∷ nodes) long same = absurd (omega arith)
same_rows (slot ∷ slots) [] long same = absurd (omega arith)
same_rows (slot ∷ slots) (k ∷ nodes) long same =
    sum_by-cons pending_at slot slots
    ∙ (ap₂ (λ a b. a + b) (ap pending_of (same 0 slot refl)) (same_rows slots nodes (omega arith) (λ i s is. same (suc i) s is))
    ∙ sym (sum_by-cons pending_of k nodes))

pub pending_is : (w : World) → IsLinked w → sum_by pending_at w.slots.items ≡ pending_in (past_of w.trace).facts
pending_is w linked =
    same_rows w.slots.items (past_of w.trace).facts.nodes (linked.held.counted.slots ∙ sym linked.held.counted.nodes)
    (λ i slot is. (linked.held.slots (suc i) slot is).kept ∙ rw linked.upright refl)
