-- The orders that stop a node in a disk write or let a disk call fail, and which turn or start they strike.
-- An append writes length, body and a closed gate, syncs, opens its own gate, syncs. A start syncs, asks the length and reads first.
use Rattle.std.specs.Prelude.{ℕ, ◌+◌, ◌-◌, ◌==◌, Bool, true, false, if◌then◌else◌, nat_le, nat_lt, List, [], ◌∷◌, Option, Some, None}
use Rattle.run_rules.specs.Data.{How}
use Rattle.run_rules.specs.Data.hows

-- An order to stop in a write, and whether what it leaves opens the log's gate.
pub record Stop_order : Type 0 where
  pub write : ℕ  -- counted from now
  pub opens : Bool

-- The orders that have not struck a disk.
pub record DiskOrders : Type 0 where
  pub stop : Option Stop_order
  pub fault : Option ℕ

-- no order
abbrev pub no_orders : DiskOrders
no_orders = record { stop = None; fault = None }

-- whether the first byte that a write leaves is that of an open gate: an open gate is a byte 1
abbrev pub is_open : List ℕ → Bool
is_open [] = false
is_open (b ∷ bs) = b == 1

-- whether a write leaves an open gate
abbrev pub opens_gate : How → Bool
opens_gate (hows.Keep count) = nat_lt 0 count
opens_gate (hows.Leave bytes) = is_open bytes

-- Which call of an append, made after so many others, an order strikes, and whether it is a stop.
pub record Strike : Type 0 where
  pub call : ℕ
  pub is_stop : Bool
  pub stands : Bool  -- whether the record of the append stands

-- a strike of this call
abbrev pub strike : ℕ → Bool → Bool → Option Strike
strike call is_stop stands = Some (record { call = call; is_stop = is_stop; stands = stands })

-- the strike of a stop: the first write of an append is its first call, the second its third
abbrev pub stop_in : ℕ → Option Stop_order → Option Strike
stop_in before None = None
stop_in before (Some o) =
    if o.write == 1 then strike (before + 1) true false else (if o.write == 2 then strike (before + 3) true o.opens else None)

-- the strike of a fault
abbrev pub fault_in : ℕ → Option ℕ → Option Strike
fault_in before None = None
fault_in before (Some c) = if nat_le c (before + 4) then strike c false (c == before + 4) else None

-- where both strike one call, the stop counts
abbrev pub first_strike : Option Strike → Option Strike → Option Strike
first_strike None f = f
first_strike (Some s) None = Some s
first_strike (Some s) (Some f) = if nat_le s.call f.call then Some s else Some f

-- the order that strikes an append first
unfoldable pub struck : ℕ → DiskOrders → Option Strike
struck before orders = first_strike (stop_in before orders.stop) (fault_in before orders.fault)

-- the orders that are left after so many calls, of which so many were writes
abbrev pub stop_left : ℕ → Option Stop_order → Option Stop_order
stop_left writes None = None
stop_left writes (Some o) = if nat_lt writes o.write then Some (record o { write = o.write - writes }) else None

-- a fault that has not struck yet
abbrev pub fault_left : ℕ → Option ℕ → Option ℕ
fault_left calls None = None
fault_left calls (Some c) = if nat_lt calls c then Some (c - calls) else None

-- how many of these calls are writes
abbrev pub writes_by : ℕ → ℕ → ℕ
writes_by before call = (if nat_le (before + 1) call then 1 else 0) + (if nat_le (before + 3) call then 1 else 0)

-- the calls that were made, up to the one that an order struck
abbrev pub calls_made : ℕ → Option Strike → ℕ
calls_made before None = before + 4
calls_made before (Some s) = s.call

-- the orders that are left
abbrev pub orders_left : ℕ → DiskOrders → ℕ → DiskOrders
orders_left before orders calls = record { stop = stop_left (writes_by before calls) orders.stop; fault = fault_left calls orders.fault }

-- the orders that an append leaves
unfoldable pub after_append : ℕ → DiskOrders → DiskOrders
after_append before orders = orders_left before orders (calls_made before (struck before orders))
