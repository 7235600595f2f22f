-- What is known where it is asked what is due, by the parts of the world.
use Rattle.std.proofs.Common.{◌≡◌, ℕ, List, length, Option, Some, None, refl, sym, ◌∙◌}
use Rattle.node_rules.specs.Words.{numbered}
use Rattle.node_rules.specs.NodeState.{NodeState}
use Rattle.run_rules.specs.Facts.{flat, node_at}
use Rattle.run_rules.proofs.AtNodeLemmas.{there_too}
use Rattle.run_trace.specs.Recorded.{past_of}
use Rattle.world.specs.declared.slot.NodeSlot.{NodeSlot}
use Rattle.world.specs.declared.world.World.{World}
use Rattle.world.specs.NodeSlot.{site_kept}
use Rattle.world.specs.Slots.{kept_at, kept_in_site}
use Rattle.world.specs.Linked.{IsLinked}

-- a node that is there keeps what the facts say
pub kept_there : (w : World) → IsLinked w → (n : ℕ) (slot : NodeSlot) → numbered w.slots.items n ≡ Some slot → site_kept slot ≡ node_at (past_of w.trace).facts n
kept_there w linked n slot there = rw (linked.upright) at ((linked.held.slots n slot there).kept)

-- where no site is, there is no node
no_node : (slots : List NodeSlot) (nodes : List (Option NodeState)) (n : ℕ) → length nodes ≡ length slots → numbered slots n ≡ None → (o : Option (Option NodeState)) → numbered nodes n ≡ o → flat o ≡ None
no_node slots nodes n even none None is = refl
no_node slots nodes n even none (Some x) is = let there = there_too nodes slots n x even is in absurd (some_none there.0 (sym there.1 ∙ none))
  where
    some_none : (slot : NodeSlot) → Some slot ≡ None → ⊥
    some_none slot same = absurd cc

-- a node of any number keeps what the facts say
pub kept_is : (w : World) → IsLinked w → (n : ℕ) → kept_at w.slots.items n ≡ node_at (past_of w.trace).facts n
kept_is w linked n = by_site (numbered w.slots.items n) refl
  where
    by_site : (o : Option NodeSlot) → numbered w.slots.items n ≡ o → kept_in_site o ≡ node_at (past_of w.trace).facts n
    by_site (Some slot) there = kept_there w linked n slot there
    by_site None none =
        let nodes = (past_of w.trace).facts.nodes in
        sym (no_node w.slots.items nodes n (linked.held.counted.nodes ∙ sym linked.held.counted.slots) none (numbered nodes n) refl)

pub ruleset due_steps = (kept_is)
