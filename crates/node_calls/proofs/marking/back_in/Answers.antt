-- A root that is not live has no savepoint.
use Rattle.std.proofs.Common.{sym}
use Rattle.node_rules.specs.Sessions.{session_at}
use Rattle.node_memory.specs.Parts.{kept_in}
use Rattle.node_calls.proofs.SavepointLaws.{back_nobody}
use Rattle.node_calls.proofs.marking.back_in.Goals as goal

pub returns-in_ok-draft-in-None-clause-gives : goal.returns-in_ok-draft-in-None-clause-gives
returns-in_ok-draft-in-None-clause-gives c =
    let a = c.args in
    back_nobody (kept_in a.memory.now) a.session a.name.now a.root.now (session_at a.memory.now.sessions a.session).code _ (sym c.in-None.ensures.live) (c.in_ok-draft-in-None.ensures (kept_in a.memory.now))
