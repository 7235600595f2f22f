-- A transaction has begun already.
use Rattle.std.proofs.Common.{sym, ap, ◌∙◌}
use Rattle.node_rules.specs.declared.session.Session.{Session}
use Rattle.node_memory.specs.Parts.{kept_in}
use Rattle.node_calls.proofs.RootLaws.{begun_already}
use Rattle.node_calls.proofs.read_only.set_read_only.Goals as goal

pub returns-in_ok-draft-in-Some-clause-gives : goal.returns-in_ok-draft-in-Some-clause-gives
returns-in_ok-draft-in-Some-clause-gives c =
    let a = c.args in
    begun_already a.memory.now.place (kept_in a.memory.now) a.session _ _ (ap (λ (s : Session). s.root) (sym c.at.ensures) ∙ c.in-Some.is) (c.in_ok-draft-in-Some.ensures (kept_in a.memory.now))
