-- What the source and the sink in memory hold, and which of their calls fail.
use Rattle.std.specs.Prelude.{ℕ, List, Contains}
use Rattle.dtx_ports.specs.Causes.{risen}

-- the numbers of the calls that fail, counted from 1, and how many calls were made
pub record Calls : Type 0 where
  pub fail : List ℕ
  pub made : ℕ

-- one more call was made
abbrev pub next_call : Calls → Calls
next_call calls = record { fail = calls.fail; made = risen calls.made }

-- the next call is one of those that fail
abbrev pub IsNextListed : Calls → Type 0
IsNextListed calls = Contains calls.fail (risen calls.made)

-- a source in memory: the bytes that it has yet to give, its calls, and the count of its faults
pub record SourceState : Type 0 where
  pub left : List ℕ
  pub calls : Calls
  pub faults : ℕ

-- a sink in memory: the bytes that it holds, how many more it can take, its calls, and the count of its faults
pub record SinkState : Type 0 where
  pub written : List ℕ
  pub room : ℕ
  pub calls : Calls
  pub faults : ℕ
