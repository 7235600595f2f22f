-- Client sessions after a statement of their own.
use Rattle.std.specs.Prelude.{ℕ, List, Option}
use Rattle.dtx_values.specs.declared.advice.Advice.{Advice}
use Rattle.tran_ids.specs.Listed.{set_numbered}
use Rattle.node_rules.specs.declared.session.Session.{Session}
use Rattle.node_rules.specs.Sessions.{session_at, no_transaction}

-- with a session's advice
abbrev pub with_advice : List Session → ℕ → Option Advice → List Session
with_advice ss n a = set_numbered ss n (record (session_at ss n) { advice = a })

-- with a session whose transaction has ended
abbrev pub transaction_ended : List Session → ℕ → List Session
transaction_ended ss n = set_numbered ss n (no_transaction (session_at ss n))
