use Rattle.std.proofs.Common.{sym, ap, subst, ◌∙◌}
use Rattle.node_rules.specs.NodeState.{live_id}
use Rattle.node_state.specs.Lives.{with_changes}
use Rattle.node_state.proofs.LiveLaws.{has_room, still_with_changes}
use Rattle.node_state.specs.Changed.{change_item}
use Rattle.node_state.specs.Lives.{HasRoom}
use Rattle.node_state.proofs.BranchLaws.{still_keyed, holds_there, changed_is, unchanged_is}
use Rattle.node_state.proofs.lives.Lives.set_changed.Goals as goal

pub invariant_of-self : goal.invariant_of-self
invariant_of-self c =
    let es = c.self.inside.lives.entries in
    let x = c.index_mut.result.now in
    let there = c.index_mut.ensures.value in
    let keeps = still_with_changes x c.args.changed in
    still_keyed live_id HasRoom es c.in-Some.place x c.set_changed.new.live there (ap live_id c.set_changed.ensures ∙ keeps.me)
    (subst HasRoom (sym c.set_changed.ensures) (has_room x (with_changes c.args.changed x) keeps (holds_there live_id HasRoom es c.in-Some.place x there c.self.invariant))) c.self.invariant

pub returns-in-Some : goal.returns-in-Some
returns-in-Some c =
    let b = c.args.branch.now in
    let es = c.self.inside.lives.entries in
    let x = c.index_mut.result.now in
    let there = sym c.in-Some.ensures.value ∙ c.index_mut.ensures.value in
    let at = (sym c.in-Some.ensures.index) in
    let keeps = still_with_changes x c.args.changed in
    changed_is live_id HasRoom b (with_changes c.args.changed) es c.in-Some.place x c.set_changed.new.live at there c.set_changed.ensures keeps.me c.self.invariant
    ∙ ap (λ ls. change_item live_id (with_changes c.args.changed) ls b) c.self.view_is

pub returns-in_default : goal.returns-in_default
returns-in_default c =
    let b = c.args.branch.now in
    let es = c.self.inside.lives.entries in
    sym c.self.view_is
    ∙ unchanged_is live_id HasRoom b (with_changes c.args.changed) es c.self.invariant (c.in_default.ensures.found)
    ∙ ap (λ ls. change_item live_id (with_changes c.args.changed) ls b) c.self.view_is
