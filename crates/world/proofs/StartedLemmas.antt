-- A start of a node over its disk: it is up where no order strikes, and else its disk is left, with the record of the start where
-- the definitions of a run say so.
use Rattle.std.proofs.Common.{◌≡◌, ℕ, Bool, true, false, if◌then◌else◌, List, [], ◌∷◌, ◌++◌, is_some, is_none, option_map, ◌≤◌, IfSome, Option, Some, None, refl, sym, ap, subst, ◌∙◌}
use Rattle.block_disk.specs.MemDisk.{DiskState}
use Rattle.block_disk.specs.Orders.{plan_of, powered}
use Rattle.block_disk.specs.Plan.{FaultPlan, free}
use Rattle.block_disk.specs.declared.fault.Stop.{Stop}
use Rattle.block_disk.specs.declared.faults.DiskFaults.{DiskFaults}
use Rattle.redo_log.specs.Cells.{bodies, bodies_within}
use Rattle.redo_log.specs.Plans.{CallsGoByPlan, append_calls, begin_calls, load_calls}
use Rattle.redo_log.specs.Stands.{stands_after}
use Rattle.record_log.specs.Held.{HoldRecords, with_record_if}
use Rattle.record_log.specs.Records.{bodies_of}
use Rattle.node_rules.specs.Data.{RedoRecord, Place}
use Rattle.node_rules.specs.Turn.{start_of}
use Rattle.node_rules.specs.NodeState.{NodeState}
use Rattle.node_disk.specs.Starts.{CanBeStarted, StartIsLeft, next_boot}
use Rattle.node_disk.specs.OnDisk.{disk_of, kept_of, place_of, IsRunning}
use Rattle.node_disk.specs.declared.node.Node.{Node}
use Rattle.run_rules.specs.Disks.{DiskOrders, Strike, no_orders, struck}
use Rattle.world.specs.declared.slot.NodeSlot.{NodeSlot}
use Rattle.world.specs.declared.slot.NodeSlot.TheVariants.{Up}
use Rattle.world_parts.specs.Orders.{HasOrders, OrdersLeft, orders_as, stop_as}
use Rattle.world.specs.NodeSlot.{site_kept, site_disk, bytes_of, images_of}
use Rattle.world_parts.specs.Orders.{stands_in}
use Rattle.world.specs.Started.{StartIsTried}
use Rattle.world_parts.proofs.CallRuns.{looks}
use Rattle.world_parts.proofs.StartOrders.{GoAs, some_plan, start_goes, start_stands}
use Rattle.world.proofs.SlotLemmas.{down_runs}

-- bytes that hold records are some
no_bytes : (rs : List RedoRecord) → HoldRecords rs [] → ⊥
unfolding bodies bodies_within
no_bytes rs holds = let held : None ≡ Some (bodies_of rs) = holds.held in absurd cc

loads_by : (rs : List RedoRecord) (bytes : List ℕ) → HoldRecords rs bytes → load_calls bytes ≡ looks
loads_by rs [] holds = absurd (no_bytes rs holds)
loads_by rs (byte ∷ bytes) holds = refl

struck_none : (o : Option Strike) → is_some o ≡ false → o ≡ None
struck_none None is = refl
struck_none (Some s) is = absurd cc

down_by : (o : Option Strike) (k : Option NodeState) → is_some o ≡ true → None ≡ (if is_none o then k else None)
down_by None k is = absurd cc
down_by (Some s) k is = refl

-- with the power on again a disk has the orders that are left
pub powered_has : {d : DiskOrders} (o : DiskFaults) (disk : DiskState) → disk.orders ≡ powered o → OrdersLeft d o → HasOrders d disk
powered_has {d} o disk is left = record {
  running = ap (λ (x : DiskFaults). x.stopped) is;
  left = record {
    are = ap orders_as is ∙ left.are;
    write = subst (λ (x : DiskFaults). IfSome x.stop (λ s. 1 ≤ s.write)) (sym is) left.write;
    call = subst (λ (x : DiskFaults). IfSome x.fault (λ c. 1 ≤ c)) (sym is) left.call;
  };
}

module _ (place : Place) (disk : DiskState) (d : DiskOrders) (rs : List RedoRecord) (has : HasOrders d disk) (holds : HoldRecords rs (bytes_of disk)) where
  goes_by : (after : DiskFaults) (fails : Bool) → CallsGoByPlan (load_calls (bytes_of disk) ++ append_calls) (Some (plan_of disk.orders)) (Some (plan_of after)) fails → GoAs 3 d after fails
  goes_by after fails goes =
      start_goes disk.orders after has.running d has.left fails
      (subst (λ (calls : List Bool). CallsGoByPlan (calls ++ append_calls) (Some (plan_of disk.orders)) (Some (plan_of after)) fails) (loads_by rs (bytes_of disk) holds) goes)

  -- no order struck, and the node is up
  pub tried_up : (node : Node DiskState) → kept_of node ≡ start_of (rs ++ next_boot rs ∷ []) → place_of node ≡ place → HoldRecords (rs ++ next_boot rs ∷ []) (bytes_of (disk_of node))
      → IsRunning bytes_of images_of node → CanBeStarted place.undo bytes_of images_of (disk_of node)
      → CallsGoByPlan (load_calls (bytes_of disk) ++ append_calls) (Some (plan_of disk.orders)) (Some (plan_of (disk_of node).orders)) false → StartIsTried place d rs (Up node)
  tried_up node kept at stored running starts goes =
      let go = goes_by (disk_of node).orders false goes in
      let none : struck 3 d ≡ None = struck_none (struck 3 d) go.struck in
      record {
        kept = ap (λ (k : NodeState). Some k) kept ∙ sym (ap (λ (o : Option Strike). if is_none o then Some (start_of (rs ++ next_boot rs ∷ [])) else None) none);
        runs = (running, at);
        holds = subst (λ (o : Option Strike). HoldRecords (with_record_if (stands_in o) rs (next_boot rs)) (bytes_of (disk_of node))) (sym none) stored;
        starts = starts;
        orders = record { running = go.running refl; left = go.left };
      }

  -- an order struck, and the disk is left, with the power on again
  pub tried_down : (left : DiskState) (now : NodeSlot) → site_kept now ≡ None → bytes_of (site_disk now) ≡ bytes_of left → CanBeStarted place.undo bytes_of images_of (site_disk now) → (site_disk now).orders ≡ powered left.orders
      → CallsGoByPlan (load_calls (bytes_of disk) ++ append_calls) (Some (plan_of disk.orders)) (Some (plan_of left.orders)) true → StartIsLeft (Some (plan_of disk.orders)) (bytes_of disk) (bytes_of left) → StartIsTried place d rs now
  tried_down left now down same starts power goes stands =
      let go = goes_by left.orders true goes in
      let stood : stands_after (load_calls (bytes_of disk)) (plan_of disk.orders) ≡ stands_in (struck 3 d) =
      ap (λ (calls : List Bool). stands_after calls (plan_of disk.orders)) (loads_by rs (bytes_of disk) holds) ∙ start_stands disk.orders has.running d has.left in
      record {
        kept = down ∙ down_by (struck 3 d) (Some (start_of (rs ++ next_boot rs ∷ []))) go.struck;
        runs = down_runs place now down;
        holds = subst (λ (bytes : List ℕ). HoldRecords (with_record_if (stands_in (struck 3 d)) rs (next_boot rs)) bytes) (sym same)
            (subst (λ (b : Bool). HoldRecords (with_record_if b rs (next_boot rs)) (bytes_of left)) stood (stands rs holds));
        starts = starts;
        orders = powered_has left.orders (site_disk now) power go.left;
      }

-- a node that was made on an empty disk without orders has none
pub made_without : (disk : DiskState) → CallsGoByPlan (begin_calls ++ append_calls) (Some free) (Some (plan_of disk.orders)) false → HasOrders no_orders disk
made_without disk goes =
    let is : plan_of disk.orders ≡ free = some_plan (plan_of disk.orders) free goes.0 in
    let stop : disk.orders.stop ≡ None = ap (λ (p : FaultPlan). p.stop) is in
    let fault : disk.orders.fault ≡ None = ap (λ (p : FaultPlan). p.fault) is in
    record {
      running = ap (λ (p : FaultPlan). p.stopped) is;
      left = record {
        are = ap (λ (s : Option Stop). record { stop = option_map stop_as s; fault = disk.orders.fault }) stop ∙ ap (λ (f : Option ℕ). record { stop = None; fault = f }) fault;
        write = subst (λ (s : Option Stop). IfSome s (λ x. 1 ≤ x.write)) (sym stop) tt;
        call = subst (λ (f : Option ℕ). IfSome f (λ c. 1 ≤ c)) (sym fault) tt;
      };
    }

pub ruleset start_leaves = (tried_up, tried_down)
