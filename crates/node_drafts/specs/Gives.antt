-- That a turn of a node gives what the rules say, and a live branch as its parts stand in memory.
use Rattle.std.specs.Prelude.{◌≡◌}
use Rattle.node_rules.specs.declared.work.Work.{Work}
use Rattle.node_rules.specs.Data.{Live}
use Rattle.node_rules.specs.NodeState.{NodeState, Branch, TurnDraft as DraftByRules}
use Rattle.node_drafts.specs.declared.draft.TurnDraft.{TurnDraft}

-- The state after a turn, its record, its messages and the calls that it ends are those of the rules.
pub record GivesDraft (d : DraftByRules) (new : NodeState) (draft : TurnDraft) : Type 0 where
  pub after : new ≡ d.after
  pub wrote : draft.wrote ≡ d.wrote
  pub says : draft.says ≡ d.says
  pub ended : draft.ended ≡ d.ended

-- a live branch with its calls
abbrev pub branch_with : Live → Work → Branch
branch_with l w = record { live = l; work = w }
