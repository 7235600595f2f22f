-- How far the numbers of a lawful run go: clocks, the SCNs of messages and of records, sessions that were opened, transactions,
-- calls and starts are no more than the happenings so far. So they stay below the limits of a node's turns.
use Rattle.std.specs.Prelude.{◌≡◌, ℕ, ◌+◌, ◌-◌, ◌^◌, ◌<◌, ◌≤◌, List, length, max, Some}
use Rattle.std.specs.List.{AllByRecursion}
use Rattle.node_rules.specs.Data.{RedoRecord, Msg}
use Rattle.node_rules.specs.NodeState.{NodeState}
use Rattle.node_rules.specs.Records.{nothing_stored, stored_by}
use Rattle.node_rules.specs.Turn.{kind_scn}
use Rattle.node_core.specs.Able.{given_limit}
use Rattle.run_rules.specs.Facts.{node_at, records_at}
use Rattle.run_rules.specs.Lawful.{History, IsLawfulRun, boots, facts_at}
use Rattle.run_rules.specs.Reported.{past_of}
use Rattle.run_rules.specs.Scripts.{IsTheRunOf}
use Rattle.node_ready_laws.specs.Ready.{IsWithin}
use Rattle.run_trace.specs.Recorded.{happening_limit}

-- ---- by the happenings so far

-- a message has no greater SCN
abbrev pub IsToldWithin : ℕ → Msg → Type 0
IsToldWithin n m = max m.scn (kind_scn m.kind) ≤ n

-- What the records of a node tell: no greater SCN, those that users gave apart, and no more starts than this and the first.
pub record IsWrittenWithin (n : ℕ) (rs : List RedoRecord) : Type 0 where
  pub scn : (stored_by nothing_stored rs).scn ≤ n
  pub starts : boots rs ≤ n + 1

-- In every lawful run the numbers of each node that is up are no more than the happenings so far.
abbrev pub NumbersAreWithin : Type 0
NumbersAreWithin = (t : History) → IsLawfulRun t → (n : ℕ) (k : NodeState) → node_at (facts_at t) n ≡ Some k → IsWithin (length t.trace) k

-- So are the SCNs of each message that was sent.
abbrev pub MessagesAreWithin : Type 0
MessagesAreWithin = (t : History) → IsLawfulRun t → AllByRecursion (λ x. IsToldWithin (length t.trace) x.msg) (facts_at t).net.packets

-- So are the SCNs and the starts on each disk.
abbrev pub DisksAreWithin : Type 0
DisksAreWithin = (t : History) → IsLawfulRun t → (n : ℕ) → IsWrittenWithin (length t.trace) (records_at (facts_at t) n)

-- What is stored of a node's last start is how often it started.
abbrev pub StartsAreCounted : Type 0
StartsAreCounted = (t : History) → IsLawfulRun t → (n : ℕ) → (stored_by nothing_stored (records_at (facts_at t) n)).durable.boot ≡ boots (records_at (facts_at t) n)

-- ---- of the run of a script

-- no more happenings than a trace takes
abbrev pub HasFewHappenings : History → Type 0
HasFewHappenings t = length t.trace ≤ happening_limit

-- What a node has given out, and its clock, below the limits of its next turn.
pub record IsBelowLimits (k : NodeState) : Type 0 where
  pub opens : length k.opens ≤ given_limit
  pub seqs : AllByRecursion (λ s. s.seq ≤ given_limit) k.sessions
  pub calls : AllByRecursion (λ w. AllByRecursion (λ c. c ≤ given_limit) w.calls) k.works
  pub clock : k.clock < 2 ^ 48 - 1

-- In the run of a script, as far as it has few happenings, the numbers of each node that is up are below the limits of a turn.
abbrev pub NumbersAreBelowLimits : Type 0
NumbersAreBelowLimits = (t : History) → HasFewHappenings t → IsTheRunOf t → (n : ℕ) (k : NodeState) → node_at (past_of t).facts n ≡ Some k → IsBelowLimits k

-- So are the SCNs that messages bring.
abbrev pub MessagesAreBelowLimits : Type 0
MessagesAreBelowLimits = (t : History) → HasFewHappenings t → IsTheRunOf t → AllByRecursion (λ x. max x.msg.scn (kind_scn x.msg.kind) < 2 ^ 48 - 1) (past_of t).facts.net.packets

-- How often a node started, by its records: as often as is stored of its last start, and seldom.
pub record StartsSeldom (rs : List RedoRecord) : Type 0 where
  pub counted : (stored_by nothing_stored rs).durable.boot ≡ boots rs
  pub few : boots rs + 1 < 2 ^ 32

-- So each node starts seldom.
abbrev pub EachStartsSeldom : Type 0
EachStartsSeldom = (t : History) → HasFewHappenings t → IsTheRunOf t → (n : ℕ) → StartsSeldom (records_at (past_of t).facts n)
