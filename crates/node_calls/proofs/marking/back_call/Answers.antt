-- A session without a transaction has no savepoint.
use Rattle.std.proofs.Common.{List, sym, ap, ◌∙◌}
use Rattle.node_rules.specs.declared.session.Session.{Session}
use Rattle.node_rules.specs.NodeState.{NodeState}
use Rattle.node_rules.specs.Client.{counted}
use Rattle.node_memory.specs.Parts.{kept_in}
use Rattle.node_calls.proofs.SavepointLaws.{no_root}
use Rattle.node_calls.proofs.marking.back_call.Goals as goal

pub returns-in_ok-draft-in-None-clause-gives : goal.returns-in_ok-draft-in-None-clause-gives
returns-in_ok-draft-in-None-clause-gives c =
    let a = c.args in
    let k : NodeState = kept_in a.memory.now in
    let m : NodeState = record k { sessions = c.count.new.self } in
    no_root (counted k a.session) m a.session a.name.now _ (ap (λ (ss : List Session). record k { sessions = ss }) c.in_ok-count.ensures.ok)
    (ap (λ (s : Session). s.root) (sym c.at.ensures) ∙ c.in-None.is) (c.in_ok-draft-in-None.ensures m)
