use Rattle.std.proofs.Common.{◌≡◌, replicate}
use Rattle.node_rules.specs.Sessions.{fresh_session}
use Rattle.node_state.proofs.sessions.Sessions.new.Given as goal

-- the sessions that were made so far
abbrev pub invariant-loop : goal.invariant-loop
invariant-loop l = l.sessions.items ≡ replicate l.counter fresh_session
