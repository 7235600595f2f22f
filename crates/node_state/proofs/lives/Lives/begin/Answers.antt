use Rattle.std.proofs.Common.{List, [], ◌∷◌, ◌++◌, sym, ap, subst, ◌∙◌}
use Rattle.std.specs.Map.{values_of}
use Rattle.indexmap.proofs.CallerLemmas.{insert_entry-new}
use Rattle.tran_ids.specs.Listed.{item_at}
use Rattle.session_tree.specs.declared.live.Live.{Live}
use Rattle.node_rules.specs.NodeState.{live_id}
use Rattle.node_state.specs.ByBranch.{KeysAreBranches}
use Rattle.node_state.specs.Lives.{HasRoom}
use Rattle.node_state.proofs.BranchLaws.{found_as, put_is, put_absent, absent_from, keyed_push}
use Rattle.node_state.proofs.lives.Lives.begin.Goals as goal

pub invariant_of-self-2 : goal.invariant_of-self-2
invariant_of-self-2 c =
    let x = c.args.live in
    let es = c.self.inside.lives.entries in
    let absent = absent_from live_id HasRoom x.me es c.self.invariant (ap (λ ls. item_at live_id ls x.me) c.self.view_is ∙ c.requires.new) in
    let all = c.in_ok-insert.ensures.entries ∙ insert_entry-new found_as c.self.inside.lives x.me x absent in
    subst (KeysAreBranches live_id HasRoom) (sym all) (keyed_push live_id HasRoom es x c.requires.room c.self.invariant)

pub returns-clause-ok : goal.returns-clause-ok
returns-clause-ok c =
    let x = c.args.live in
    let es = c.self.inside.lives.entries in
    let none = ap (λ ls. item_at live_id ls x.me) c.self.view_is ∙ c.requires.new in
    ap values_of c.in_ok-insert.ensures.entries ∙ put_is live_id HasRoom x es c.self.invariant
    ∙ put_absent live_id HasRoom (values_of es) x none ∙ ap (λ (ls : List Live). ls ++ x ∷ []) c.self.view_is
