use Rattle.std.proofs.Common.{◌≡◌, List, Option, None, Some, IfSome, sym, ap, ◌∙◌, Bor}
use Rattle.std.specs.Option.{option_copied}
use Rattle.std.specs.Map.{lookup}
use Rattle.tran_ids.specs.declared.branch.BranchId.{BranchId}
use Rattle.tran_ids.specs.Listed.{item_at}
use Rattle.session_tree.specs.declared.live.Live.{Live}
use Rattle.node_rules.specs.NodeState.{live_id}
use Rattle.node_state.specs.ByBranch.{KeysAreBranches}
use Rattle.node_state.specs.Lives.{HasRoom}
use Rattle.node_state.proofs.BranchLaws.{found_as, found, holds_found}
use Rattle.node_state.proofs.lives.Lives.get.Goals as goal

room_there : (r : Option (Bor Live)) (k : BranchId) (es : List (BranchId × Live)) → option_copied r ≡ lookup (found_as k) es → KeysAreBranches live_id HasRoom es → IfSome r (λ x. HasRoom x.now)
room_there None k es is keyed = tt
room_there (Some x) k es is keyed = holds_found live_id HasRoom (found_as k) es x.now (sym is) keyed

pub returns-clause-live : goal.returns-clause-live
returns-clause-live c =
    let b = c.args.branch.now in
    let es = c.self.inside.lives.entries in
    c.get.ensures.value ∙ found live_id HasRoom b es c.self.invariant ∙ ap (λ ls. item_at live_id ls b) c.self.view_is

pub returns-clause-room : goal.returns-clause-room
returns-clause-room c = room_there c.get.result c.args.branch.now c.self.inside.lives.entries c.get.ensures.value c.self.invariant
