-- What cuts a turn: a crash-test comment, or an order that strikes its append; and the orders and points that a turn
-- leaves. (Database Administrator's Guide, "Managing Distributed Transactions": simulating distributed transaction failure.)
use Rattle.std.specs.Prelude.{ℕ, Bool, true, false, if◌then◌else◌, List, [], ◌∷◌, ◌++◌, map, is_some, is_none, Option, Some, None}
use Rattle.node_rules.specs.Data.{RedoRecord, BranchId, Input}
use Rattle.node_rules.specs.Data.stmts
use Rattle.node_rules.specs.Data.inputs
use Rattle.node_rules.specs.Sessions.{session_at}
use Rattle.node_rules.specs.NodeState.{NodeState, TurnOutput}
use Rattle.node_rules.specs.Points.{Point, Passes, point_of, passes, is_armed, reaches}
use Rattle.run_rules.specs.Disks.{Strike, struck, after_append}
use Rattle.run_rules.specs.Calls.{call_at}
use Rattle.run_rules.specs.RunReport.{Call, RunReport, orders_at, with_orders}

-- What cuts a turn: a point before its record, an order that strikes its append, a point after it.
pub data Cut_by : Type 0 where
  By_nothing : Cut_by  -- the turn is whole
  By_point : (root : BranchId) (numbers : List ℕ) (stands : Bool) → Cut_by  -- a crash-test comment's point was reached, and the record stands or not
  By_strike : (stands : Bool) → Cut_by  -- an order struck the append, and the record stands or not

-- a point after the record
abbrev pub cut_after : RunReport → Option Passes → Cut_by
cut_after t None = By_nothing
cut_after t (Some x) = if reaches t.points x.root x.after then By_point x.root x.after true else By_nothing

-- an order that strikes the append, or else a point after it
abbrev pub cut_append : RunReport → Option Passes → Option Strike → Cut_by
cut_append t x None = cut_after t x
cut_append t x (Some s) = By_strike s.stands

-- only a turn with a record makes an append
abbrev pub cut_write : RunReport → ℕ → Option Passes → Option RedoRecord → Cut_by
cut_write t n x None = By_nothing
cut_write t n x (Some r) = cut_append t x (struck 0 (orders_at t n))

-- a point before the record
abbrev pub cut_before : RunReport → ℕ → Option RedoRecord → Option Passes → Cut_by
cut_before t n wrote None = cut_write t n None wrote
cut_before t n wrote (Some x) = if reaches t.points x.root x.before then By_point x.root x.before false else cut_write t n (Some x) wrote

-- what cuts this turn of a node
unfoldable pub cut_by : RunReport → ℕ → NodeState → Input → TurnOutput → Cut_by
cut_by t n k input o = cut_before t n o.wrote (passes k input o)

-- the points of these numbers are reached, each once
abbrev pub reach : BranchId → List ℕ → Point → Point
reach root numbers x = if is_armed root numbers x then record x { reached = true } else x

-- the orders on a node's disk after an append that was made after so many other calls
abbrev pub appends : RunReport → ℕ → ℕ → RunReport
appends t n before = with_orders t n (after_append before (orders_at t n))

-- the same where an append was made
abbrev pub appends_if : RunReport → ℕ → Bool → RunReport
appends_if t n writes = if writes then appends t n 0 else t

-- a turn with a record makes one append, unless a point before it was reached
abbrev pub cut_appends : RunReport → ℕ → Bool → Cut_by → RunReport
cut_appends t n writes By_nothing = appends_if t n writes
cut_appends t n writes (By_strike stands) = appends_if t n writes
cut_appends t n writes (By_point root numbers stands) = record (appends_if t n stands) { points = map (reach root numbers) t.points }

-- the point of a COMMIT's comment
abbrev pub arms_point : RunReport → Option BranchId → Option Call → Option ℕ → RunReport
arms_point t (Some root) (Some c) (Some number) = record t { points = t.points ++ (record { root = root; number = number; command = c.command; reached = false }) ∷ [] }
arms_point t _ _ _ = t

-- a COMMIT with a crash-test comment arms its point, unless it is refused
abbrev pub arms : RunReport → ℕ → NodeState → Input → RunReport
arms t n k (inputs.Call session (Some (stmts.Commit (Some comment)))) =
    if is_none (session_at k.sessions session).code then arms_point t (session_at k.sessions session).root (call_at t n session) (point_of comment) else t
arms t n k _ = t

-- the disk's orders and the points after a turn that came to this
abbrev pub turn_appends : RunReport → ℕ → Input → Option NodeState → Option TurnOutput → RunReport
turn_appends t n input (Some k) (Some o) = arms (cut_appends t n (is_some o.wrote) (cut_by t n k input o)) n k input
turn_appends t n input _ _ = t
