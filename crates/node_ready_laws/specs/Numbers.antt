-- How far the numbers rise that a node gives out: in one turn by one at most.
use Rattle.std.specs.Prelude.{ℕ, ◌+◌, ◌≤◌, length}
use Rattle.std.specs.List.{AllByRecursion}
use Rattle.node_rules.specs.Data.{Place, Input}
use Rattle.node_rules.specs.NodeState.{NodeState}
use Rattle.node_rules.specs.Inputs.{IsFit}
use Rattle.node_rules.specs.Turn.{turn_of, heard}

-- the clock rises by one at most, once it has met what the input brings
abbrev pub ClocksRiseByOne : Type 0
ClocksRiseByOne = (p : Place) (k : NodeState) (input : Input) → IsFit input → (turn_of p k input).after.clock ≤ (heard k input).clock + 1

-- a turn answers one Open more at most, so it gives out one session at most
abbrev pub OneOpenATurn : Type 0
OneOpenATurn = (p : Place) (k : NodeState) (input : Input) → IsFit input → length (turn_of p k input).after.opens ≤ length k.opens + 1

-- the numbers of sessions' transactions rise by one at most
abbrev pub SeqsRiseByOne : Type 0
SeqsRiseByOne = (p : Place) (k : NodeState) (input : Input) (n : ℕ) → IsFit input → AllByRecursion (λ s. s.seq ≤ n) k.sessions
    → AllByRecursion (λ s. s.seq ≤ n + 1) (turn_of p k input).after.sessions

-- call numbers rise by one at most
abbrev pub CallsRiseByOne : Type 0
CallsRiseByOne = (p : Place) (k : NodeState) (input : Input) (n : ℕ) → IsFit input → AllByRecursion (λ w. AllByRecursion (λ c. c ≤ n) w.calls) k.works
    → AllByRecursion (λ w. AllByRecursion (λ c. c ≤ n + 1) w.calls) (turn_of p k input).after.works
