use Rattle.std.proofs.Common.{◌≡◌, ◌<◌, Option, Some, length, sym, ap, subst, ◌∙◌, refl}
use Rattle.std.specs.Prelude.{IfSome, OnErr, Result, Ok, Err}
use Rattle.std.specs.Map.{values_of}
use Rattle.indexmap.specs.Layout.{set_value_at}
use Rattle.dtx_values.specs.Limits.{link_limit}
use Rattle.tran_ids.specs.Listed.{item_at}
use Rattle.session_tree.specs.declared.live.Live.{Live}
use Rattle.session_tree.specs.Live.{add_edge}
use Rattle.node_rules.specs.NodeState.{live_id}
use Rattle.node_state.specs.ByBranch.{KeysAreBranches}
use Rattle.node_state.specs.Changed.{change_item}
use Rattle.node_state.specs.Lives.{HasRoom}
use Rattle.node_state.proofs.BranchLaws.{found, still_keyed, same_set, changed_is, unchanged_is}
use Rattle.node_state.proofs.LiveLaws.{room_added}
use Rattle.node_state.proofs.lives.Lives.add_edge.Goals as goal

on_err : {T E P : Type 0} (r : Result T E) → P → OnErr r P
on_err (Ok x) p = tt
on_err (Err e) p = p

-- what is asked of the branch's item holds of the one that is there
asked : (o : Option Live) (x : Live) → o ≡ Some x → IfSome o (λ live. length live.edges < link_limit) → length x.edges < link_limit
asked o x is room = subst (λ p. IfSome p (λ (live : Live). length live.edges < link_limit)) is room

pub add_edge-requires : goal.add_edge-requires
add_edge-requires c =
    let b = c.args.branch.now in
    let es = c.self.inside.lives.entries in
    let x = c.index_mut.result.now in
    let there = sym c.in-Some.ensures.value ∙ c.index_mut.ensures.value in
    let item : item_at live_id c.args.self.now b ≡ Some x = ap (λ ls. item_at live_id ls b) (sym c.self.view_is) ∙ sym (found live_id HasRoom b es c.self.invariant) ∙ there in
    asked (item_at live_id c.args.self.now b) x item c.requires

pub invariant_of-self : goal.invariant_of-self
invariant_of-self c =
    let es = c.self.inside.lives.entries in
    let back = ap (set_value_at es c.in-Some.place) c.in_err-add_edge.ensures.err ∙ same_set live_id HasRoom es c.in-Some.place c.index_mut.result.now c.index_mut.ensures.value in
    subst (KeysAreBranches live_id HasRoom) (sym back) c.self.invariant

pub returns-in_err-add_edge-clause-err : goal.returns-in_err-add_edge-clause-err
returns-in_err-add_edge-clause-err c =
    let es = c.self.inside.lives.entries in
    let back = ap (set_value_at es c.in-Some.place) c.in_err-add_edge.ensures.err ∙ same_set live_id HasRoom es c.in-Some.place c.index_mut.result.now c.index_mut.ensures.value in
    on_err c.from_residual.result (ap values_of back ∙ c.self.view_is)

pub invariant_of-self-2 : goal.invariant_of-self-2
invariant_of-self-2 c =
    let b = c.args.branch.now in
    let es = c.self.inside.lives.entries in
    let x = c.index_mut.result.now in
    let there = sym c.in-Some.ensures.value ∙ c.index_mut.ensures.value in
    let item : item_at live_id c.args.self.now b ≡ Some x = ap (λ ls. item_at live_id ls b) (sym c.self.view_is) ∙ sym (found live_id HasRoom b es c.self.invariant) ∙ there in
    let room = asked (item_at live_id c.args.self.now b) x item c.requires in
    still_keyed live_id HasRoom es c.in-Some.place x c.add_edge.new.live c.index_mut.ensures.value (ap live_id c.in_ok-add_edge.ensures.ok)
    (subst HasRoom (sym c.in_ok-add_edge.ensures.ok) (room_added x c.args.edge room)) c.self.invariant

pub returns-clause-ok : goal.returns-clause-ok
returns-clause-ok c =
    let b = c.args.branch.now in
    let es = c.self.inside.lives.entries in
    let x = c.index_mut.result.now in
    let there = sym c.in-Some.ensures.value ∙ c.index_mut.ensures.value in
    let at = (sym c.in-Some.ensures.index) in
    changed_is live_id HasRoom b (λ (l : Live). add_edge l c.args.edge) es c.in-Some.place x c.add_edge.new.live at there c.in_ok-add_edge.ensures.ok refl c.self.invariant
    ∙ ap (λ ls. change_item live_id (λ (l : Live). add_edge l c.args.edge) ls b) c.self.view_is

pub returns-in_default-clause-ok : goal.returns-in_default-clause-ok
returns-in_default-clause-ok c =
    let b = c.args.branch.now in
    let es = c.self.inside.lives.entries in
    sym c.self.view_is
    ∙ unchanged_is live_id HasRoom b (λ (l : Live). add_edge l c.args.edge) es c.self.invariant (c.in_default.ensures.found)
    ∙ ap (λ ls. change_item live_id (λ (l : Live). add_edge l c.args.edge) ls b) c.self.view_is
