-- Client sessions, from number 1: the transaction of each, its pending call, and what is answered to a COMMIT. (Database
-- Administrator's Guide, "Distributed Transactions Concepts": the session that begins a distributed transaction.)
use Rattle.std.specs.Prelude.{ℕ, ◌+◌, ◌&&◌, Bool, true, false, if◌then◌else◌, List, [], ◌∷◌, unwrap_or, Option, Some, None}
use Rattle.node_rules.specs.Data.{Answer, BranchId, PendingCall, Session, Finished}
use Rattle.node_rules.specs.Data.answers
use Rattle.node_rules.specs.Data.dones
use Rattle.node_rules.specs.Data.pending
use Rattle.session_tree.specs.Live.{is_branch}
use Rattle.node_rules.specs.Words.{numbered, set_numbered, one}
use Rattle.node_rules.specs.Refusals.{ora}
use Rattle.node_rules.specs.Ids.{local_text}

-- a session that has done nothing
abbrev pub fresh_session : Session
fresh_session = record { seq = 0; root = None; advice = None; calls = 0; code = None; call = pending.NoCall }

-- the session of a number
abbrev pub session_at : List Session → ℕ → Session
session_at ss n = unwrap_or (numbered ss n) fresh_session

-- with this call pending
abbrev pub with_call : List Session → ℕ → PendingCall → List Session
with_call ss n c = set_numbered ss n (record (session_at ss n) { call = c })

-- with a new transaction, of which no call was counted
abbrev pub with_root : List Session → ℕ → BranchId → List Session
with_root ss n root = set_numbered ss n (record (session_at ss n) { seq = root.seq; root = Some root; calls = 0 })

-- with one call more, in a session that has a transaction
abbrev pub with_call_of : List Session → ℕ → Option BranchId → List Session
with_call_of ss n None = ss
with_call_of ss n (Some root) = set_numbered ss n (record (session_at ss n) { calls = (session_at ss n).calls + 1 })

-- from this answer on the transaction can only be rolled back
abbrev pub needs_rollback : List Session → ℕ → ℕ → List Session
needs_rollback ss n code = set_numbered ss n (record (session_at ss n) { code = Some code })

-- a session whose transaction has ended
abbrev pub no_transaction : Session → Session
no_transaction s = record s { root = None; code = None; call = pending.NoCall }

-- whether a pending call is COMMIT
abbrev pub is_commit : PendingCall → Bool
is_commit pending.Commit = true
is_commit _ = false

-- whether the COMMIT of this root is pending
abbrev pub commit_is_pending : List Session → BranchId → Bool
commit_is_pending ss root = is_branch root (session_at ss root.session).root && is_commit (session_at ss root.session).call

-- the COMMIT of this root ends, where it is pending
abbrev pub commit_ended : List Session → BranchId → List Session
commit_ended ss root = if commit_is_pending ss root then set_numbered ss root.session (no_transaction (session_at ss root.session)) else ss

-- and is answered
abbrev pub commit_answer : List Session → BranchId → Answer → List Finished
commit_answer ss root a = if commit_is_pending ss root then (record { session = root.session; answer = a }) ∷ [] else []

-- Commit complete.
abbrev pub commit_complete : Answer
commit_complete = answers.Did dones.Committed 0

-- a refusal that names the root
abbrev pub tran_refusal : ℕ → BranchId → Answer
tran_refusal code root = answers.Refused (ora code (one (local_text root)))
