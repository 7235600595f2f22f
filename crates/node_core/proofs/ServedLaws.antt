-- What a draft tells once its messages have the clock of the node.
use Rattle.std.proofs.Common.{◌≡◌, ℕ, List, map, ap, ◌∙◌}
use Rattle.node_rules.specs.Data.{Msg}
use Rattle.node_rules.specs.NodeState.{NodeState, TurnDraft as DraftByRules}
use Rattle.node_rules.specs.Turn.{stamped, output_of}
use Rattle.node_memory.specs.declared.memory.Memory.{Memory}
use Rattle.node_memory.specs.Parts.{kept_in}
use Rattle.node_drafts.specs.declared.draft.TurnDraft.{TurnDraft}
use Rattle.node_drafts.specs.Gives.{GivesDraft}
use Rattle.node_core.specs.Serves.{Serves}

pub serves_so : (m : Memory) (scn : ℕ) (draft : TurnDraft) (sent : List Msg) → scn ≡ m.clock → sent ≡ map (stamped scn) draft.says → (d : DraftByRules) → GivesDraft d (kept_in m) draft
    → Serves (output_of d) (kept_in m) (record { wrote = draft.wrote; sent = sent; ended = draft.ended })
serves_so m scn draft sent clock is d gives = record {
  after = gives.after;
  wrote = gives.wrote;
  sent = is ∙ (ap (λ (n : ℕ). map (stamped n) draft.says) (clock ∙ ap (λ (k : NodeState). k.clock) gives.after) ∙ ap (map (stamped d.after.clock)) gives.says);
  ended = gives.ended;
}
