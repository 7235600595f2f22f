-- What holds of a node between its turns, in one word, and what its inputs have to bring.
use Rattle.std.specs.Prelude.{ℕ, ◌+◌, ◌≤◌, List, [], ◌∷◌, ◌++◌, length, max, IfSome}
use Rattle.std.specs.List.{AllByRecursion}
use Rattle.node_rules.specs.Data.{RedoRecord, Place, Input}
use Rattle.node_rules.specs.Data.records
use Rattle.node_rules.specs.Data.inputs
use Rattle.node_rules.specs.NodeState.{NodeState}
use Rattle.node_rules.specs.Records.{nothing_stored, stored_by}
use Rattle.node_rules.specs.Inputs.{IsFit}
use Rattle.node_rules.specs.Turn.{turn_of, start_of, kind_scn}
use Rattle.node_ready_laws.specs.Rows.{HasRows, BringsWhole}
use Rattle.node_ready_laws.specs.Shapes.{HasShape, BringsFew}
use Rattle.node_ready_laws.specs.Names.{HasNames, BringsNamed}
use Rattle.node_ready_laws.specs.Ids.{HasOwnIds}
use Rattle.node_ready_laws.specs.Following.{MayAllFollow}
use Rattle.node_ready_laws.specs.Sound.{IsSound, AreSound, IsNext}

-- A node that is ready for its next turn: its rows are of its tables, its links and synonyms have names, its live branches have
-- their shape, and their ids are their own.
pub record IsReady (p : Place) (k : NodeState) : Type 0 where
  pub rows : HasRows k
  pub names : HasNames k
  pub shape : HasShape p k
  pub ids : HasOwnIds k

-- An input that a node is ready for: a call is of one of the sessions, the table that it makes is whole, the link or the
-- synonym has names, and a Reply tells of few branches.
pub record IsExpected (input : Input) : Type 0 where
  pub fit : IsFit input
  pub whole : BringsWhole input
  pub named : BringsNamed input
  pub few : BringsFew input

-- each turn leaves the node ready, and its record may stand next
abbrev pub TurnsStayReady : Type 0
TurnsStayReady = (p : Place) (k : NodeState) (input : Input) → IsExpected input → IsReady p k
    → IsReady p (turn_of p k input).after × IfSome (turn_of p k input).wrote (IsNext k.stored)

-- a node starts ready from records of which each may stand next, with one more for this start
abbrev pub StartsAreReady : Type 0
StartsAreReady = (p : Place) (rs : List RedoRecord) (boot : ℕ) → MayAllFollow nothing_stored rs → AreSound nothing_stored rs → IsSound (stored_by nothing_stored rs) (records.Boot boot)
    → IsReady p (start_of (rs ++ records.Boot boot ∷ []))

-- The numbers that a node gives out, no greater than this one.
pub record IsWithin (n : ℕ) (k : NodeState) : Type 0 where
  pub clock : k.clock ≤ n
  pub opens : length k.opens ≤ n
  pub seqs : AllByRecursion (λ s. s.seq ≤ n) k.sessions
  pub calls : AllByRecursion (λ w. AllByRecursion (λ c. c ≤ n) w.calls) k.works

-- a message has no greater SCN
abbrev pub BringsWithin : ℕ → Input → Type 0
BringsWithin n (inputs.Message m) = max m.scn (kind_scn m.kind) ≤ n
BringsWithin n _ = Unit {0}

-- one turn raises them by one at most
abbrev pub NumbersStayWithin : Type 0
NumbersStayWithin = (p : Place) (k : NodeState) (input : Input) (n : ℕ) → IsFit input → BringsWithin n input → IsWithin n k → IsWithin (n + 1) (turn_of p k input).after
