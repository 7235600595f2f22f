-- What ends a statement that waits, tried on the script of TriedAnswers: as R's count of S waits, with HOLD on, R has sent its second
-- Exec to A, and the first Reply of A comes once more, which answers the INSERT before.
use Rattle.std.specs.Prelude.{◌≡◌, ℕ, codes, List, [], ◌∷◌, replicate, option_map, Option, Some, None}
use Rattle.node_rules.specs.Data.{Answer, BranchId, Input}
use Rattle.node_rules.specs.Data.answers
use Rattle.node_rules.specs.Data.dones
use Rattle.node_rules.specs.Data.inputs
use Rattle.node_rules.specs.Data.kinds
use Rattle.node_rules.specs.Data.tasks
use Rattle.node_rules.specs.declared.session.Finished.{Finished}
use Rattle.node_rules.specs.declared.session.PendingCall.{PendingCall}
use Rattle.node_rules.specs.declared.session.PendingCall.TheVariants as pending
use Rattle.node_rules.specs.NodeState.{NodeState}
use Rattle.node_rules.specs.Refusals.{dtx}
use Rattle.node_rules.specs.Sessions.{session_at}
use Rattle.node_rules.specs.Turn.{turn_of}
use Rattle.node_rules.specs.Words.{one}
use Rattle.run_rules.specs.Due.{runs_on}
use Rattle.run_rules.specs.Facts.{Facts, node_at, place_at}
use Rattle.run_rules.specs.Calls.{call_at}
use Rattle.run_rules.specs.RunReport.{Call, Past, start}
use Rattle.run_base_laws.specs.InTurnLaws.{said_in}
use Rattle.answer_laws.specs.StatementEnds.{last_sent_down}
use Rattle.answer_laws.specs.TriedAnswers.{places, asked, count}

-- what so many happenings leave
abbrev pub past : ℕ → Past
past n = runs_on places asked (replicate n 0) (start places)

-- the facts of that
abbrev pub after : ℕ → Facts
after n = (past n).facts

-- the command whose call is pending for R's session 1
abbrev pub its_command : Past → Option ℕ
its_command p = option_map (λ (c : Call). c.command) (call_at p.run_report 1 1)

-- R's transaction
abbrev pub root : BranchId
root = record { node = 1; boot = 1; session = 1; seq = 1 }

-- its branch at A
abbrev pub child : BranchId
child = record { node = 2; boot = 1; session = 65; seq = 1 }

-- the call of R's session 1
abbrev pub its_call : Facts → Option PendingCall
its_call f = option_map (λ (k : NodeState). (session_at k.sessions 1).call) (node_at f 1)

-- a Reply of A to R
abbrev pub reply : ℕ → Answer → Input
reply call a = inputs.Message (record { from = child; to = root; scn = 0; kind = kinds.Reply call None 1 a })

-- the calls that R would end, if this came while the count waits
abbrev pub would_end : Input → Option (List Finished)
would_end input = option_map (λ (k : NodeState). (turn_of (place_at places 1) k input).ended) (node_at (after 27) 1)

-- an answer of the session
abbrev pub ends_with : Answer → Option (List Finished)
ends_with a = Some ((record { session = 1; answer = a }) ∷ [])

-- The count waits for its own Reply alone: the other one changes nothing, and each of the causes ends it.
pub record TheTriedStatementEnds : Type 0 where
  pub waits : its_call (after 27) ≡ Some pending.Statement
  pub sent : last_sent_down root None (said_in (after 27)) ≡ Some (record { from = root; to = child; kind = kinds.Exec 2 (tasks.Run 253 None (count (codes "U"))) })
  pub still : its_call (after 28) ≡ Some pending.Statement  -- the first Reply has come once more
  pub old : would_end (reply 1 (answers.Did dones.Created 1)) ≡ Some []
  pub answered : would_end (reply 2 (answers.Did dones.Created 1)) ≡ ends_with (answers.Did dones.Created 1)
  pub gone : would_end (reply 2 (answers.Refused (dtx 8 []))) ≡ ends_with (answers.Refused (dtx 8 (one (codes "LA"))))
  pub given_up : would_end (inputs.GiveUp 1) ≡ ends_with (answers.Refused (dtx 3 (one (codes "LA"))))
  pub over : its_call (after 33) ≡ Some pending.NoCall
  pub command : its_command (past 27) ≡ Some 11
  pub no_more : its_command (past 33) ≡ None
