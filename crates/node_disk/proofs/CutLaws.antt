-- Turns that go uncut, and those that are cut.
use Rattle.std.proofs.Common.{◌≡◌, ◌≤◌, ℕ, false, List, Option, Some, None, refl, sym, ap, subst, ◌∙◌}
use Rattle.std.specs.Prelude.{option_map, Result, Ok, Err, IfErr, IfOk, OnOk, IsErrOf}
use Rattle.std.specs.List.{AllByRecursion}
use Rattle.block_disk.specs.declared.disk.Disk.{Ghosts}
use Rattle.block_disk.specs.Images.{AtEachMoment, IsOnly, AddsNone}
use Rattle.redo_log.specs.Runs.{IsUntouched}
use Rattle.node_ready_laws.specs.Ready.{IsReady}
use Rattle.node_undo_laws.specs.Kept.{HasUndo}
use Rattle.node_rules.specs.Data.{Place, RedoRecord}
use Rattle.node_rules.specs.NodeState.{NodeState}
use Rattle.node_rules.specs.Points.{Point, passes}
use Rattle.node_rules.specs.Turn.{turn_of}
use Rattle.node_points.specs.declared.places.Passes.{Passes}
use Rattle.node_points.specs.Passing.{passes_as}
use Rattle.node_points.specs.declared.point.Side.TheVariants as sides
use Rattle.node_disk.specs.declared.effects.DurableTurn.{DurableTurn}
use Rattle.node_disk.specs.declared.err.CutAt.{CutAt}
use Rattle.node_disk.specs.declared.err.CutAt.TheVariants as cuts
use Rattle.node_disk.specs.declared.err.TurnErr.{TurnErr}
use Rattle.node_disk.specs.declared.err.TurnErr.TheVariants as errs
use Rattle.node_disk.specs.declared.incoming.Incoming.{Incoming}
use Rattle.node_disk.specs.Incoming.{IsReadAs}
use Rattle.node_disk.specs.Effects.{Tells, TellsPasses, IsMailed, GoesUncut, IsCut}
use Rattle.node_disk.specs.Cuts.{stops, AtCut, CutsShort, Stops, IsTried, CutStores, CutByPlan, CutStands}
use Rattle.node_disk.specs.Calls.{TellsTurn, HasWritten, TakesNext, CutLeaves, EndsEarly}
use Rattle.node_disk.specs.declared.node.Node.{Node}
use Rattle.node_disk.specs.Starts.{IsStartable, CanBeStarted}
use Rattle.node_disk.specs.OnDisk.{place_of, kept_of, disk_of, turn_at, IsRunning}

-- no point before the record stops the node, and none after it
pub goes_uncut : (points : List Point) (p : Option Passes) → stops points sides.Before p ≡ false → stops points sides.After p ≡ false → GoesUncut points p
goes_uncut points None before after = tt
goes_uncut points (Some p) before after = record { before = before; after = after }

-- what a cut turn gives is what the rules say of it
is_cut : (k new : NodeState) (place : Place) (incoming : Incoming) (e : DurableTurn) (err : TurnErr) → IsReadAs incoming e.input → Tells (turn_of place k e.input) new e → TellsPasses k (turn_of place k e.input) e → CutsShort e err
    → IsCut k place incoming err
is_cut k new place incoming e (errs.Cut c) reads tells passed short =
    let tried : c.tried ≡ (turn_of place k e.input).wrote = short.1 ∙ tells.wrote in
    record {
      input = subst (λ i. IsReadAs incoming i) (sym short.0) reads;
      tried = subst (λ i. c.tried ≡ (turn_of place k i).wrote) (sym short.0) tried;
      passed = subst (λ i. option_map passes_as c.passes ≡ passes k i (turn_of place k i)) (sym short.0) (ap (λ (p : Option Passes). option_map passes_as p) short.2 ∙ passed);
    }
is_cut k new place incoming e errs.NoMemory reads tells passed short = tt

-- ---- what a turn answers, from what its write does

module _ {D : Type 0} (d : Ghosts D) where
  -- it told what the rules say, and its record stands
  pub tells_if : {E : Type 0} (r : Result DurableTurn E) (before now : Node D) (incoming : Incoming) (points : List Point) (e : DurableTurn) → IfOk r (λ x. x ≡ e) → OnOk r (GoesUncut points e.passes) → IsReadAs incoming e.input
      → Tells (turn_at before e.input) (kept_of now) e → TellsPasses (kept_of before) (turn_at before e.input) e → AllByRecursion IsMailed e.sent → IfOk r (TellsTurn before now incoming points)
  tells_if (Ok x) before now incoming points e same uncut reads tells passed mailed =
      subst (TellsTurn before now incoming points) (sym same) (record { input = reads; tells = tells; passes = passed; mailed = mailed; uncut = uncut })
  tells_if (Err err) before now incoming points e same uncut reads tells passed mailed = tt

  pub written_if : {E : Type 0} (r : Result DurableTurn E) (before now : D) (e : DurableTurn) → IfOk r (λ x. x ≡ e) → OnOk r (HasWritten d e.wrote before now) → IfOk r (λ x. HasWritten d x.wrote before now)
  written_if (Ok x) before now e same written = subst (λ (y : DurableTurn). HasWritten d y.wrote before now) (sym same) written
  written_if (Err err) before now e same written = tt

  -- or it came to no end
  pub ends_if : {T : Type 0} (r : Result T TurnErr) (before now : Node D) (new : NodeState) (incoming : Incoming) (points : List Point) (e : DurableTurn) → IsReadAs incoming e.input → Tells (turn_at before e.input) new e
      → TellsPasses (kept_of before) (turn_at before e.input) e → IfErr r (CutsShort e) → IfErr r (AtCut (λ at wrote passes. Stops points at passes))
      → IfErr r (AtCut (λ at wrote passes. CutLeaves d at wrote (disk_of before) (disk_of now))) → (IsErrOf r errs.NoMemory → IsUntouched d (disk_of before) (disk_of now)) → IfErr r (EndsEarly d before now incoming points)
  ends_if (Ok v) before now new incoming points e reads tells passed short stops leaves refused = tt
  ends_if (Err (errs.Cut c)) before now new incoming points e reads tells passed short stops leaves refused =
      record { turn = is_cut (kept_of before) new (place_of before) incoming e (errs.Cut c) reads tells passed short; stops = stops; leaves = leaves }
  ends_if (Err errs.NoMemory) before now new incoming points e reads tells passed short stops leaves refused = refused refl

  -- there was no memory to decide it
  pub ends_undecided : (before now : Node D) (incoming : Incoming) (points : List Point) (err : TurnErr) → err ≡ errs.NoMemory → disk_of now ≡ disk_of before → EndsEarly d before now incoming points err
  ends_undecided before now incoming points (errs.Cut c) why same = absurd (cc)
  ends_undecided before now incoming points errs.NoMemory why same =
      record { content = ap d.content same; faults = ap d.faults same; calls = ap d.calls same; writes = ap d.writes same; plan = ap d.plan same }

  -- and at Ok the node can take the next turn
  pub takes_next : {T E : Type 0} (r : Result T E) (node : Node D) → OnOk r (IsRunning d.content d.images node) → IsReady (place_of node) (kept_of node) → HasUndo (place_of node) (kept_of node) → OnOk r (TakesNext d node)
  takes_next (Ok v) node running ready undo = record { running = running; ready = ready; undo = undo }
  takes_next (Err err) node running ready undo = tt

-- ---- a cut, part by part

-- What a turn leaves that came to no end: the record that was tried, what stands of it, and how its calls went by the plan.
pub record EndParts {D : Type 0} (d : Ghosts D) (before now : Node D) (incoming : Incoming) (points : List Point) (err : TurnErr) : Type 0 where
  pub is_cut : IsCut (kept_of before) (place_of before) incoming err
  pub stops : AtCut (λ at wrote passes. Stops points at passes) err
  pub tried : AtCut (λ at wrote passes. IsTried at wrote) err
  pub stored : AtCut (λ at wrote passes. CutStores at wrote (d.content (disk_of before)) (d.content (disk_of now))) err
  pub goes : AtCut (λ at wrote passes. CutByPlan at wrote (d.plan (disk_of before)) (d.plan (disk_of now))) err
  pub stands : AtCut (λ at wrote passes. CutStands at wrote (d.plan (disk_of before)) (d.content (disk_of before)) (d.content (disk_of now))) err

module _ {D : Type 0} (d : Ghosts D) (before now : D) where
  tried_so : (at : CutAt) (wrote : Option RedoRecord) → CutLeaves d at wrote before now → IsTried at wrote
  tried_so cuts.BeforeRecord wrote leaves = tt
  tried_so cuts.InAppend None leaves = absurd leaves
  tried_so cuts.InAppend (Some r) leaves = refl
  tried_so cuts.AfterRecord wrote leaves = tt

  stored_so : (at : CutAt) (wrote : Option RedoRecord) → CutLeaves d at wrote before now → CutStores at wrote (d.content before) (d.content now)
  stored_so cuts.BeforeRecord wrote leaves = leaves.content
  stored_so cuts.InAppend wrote leaves = tt
  stored_so cuts.AfterRecord wrote leaves = leaves.stored

  goes_so : (at : CutAt) (wrote : Option RedoRecord) → CutLeaves d at wrote before now → CutByPlan at wrote (d.plan before) (d.plan now)
  goes_so cuts.BeforeRecord wrote leaves = leaves.plan
  goes_so cuts.InAppend None leaves = absurd leaves
  goes_so cuts.InAppend (Some r) leaves = leaves.run.plan
  goes_so cuts.AfterRecord wrote leaves = leaves.run.plan

  stands_so : (at : CutAt) (wrote : Option RedoRecord) → CutLeaves d at wrote before now → CutStands at wrote (d.plan before) (d.content before) (d.content now)
  stands_so cuts.BeforeRecord wrote leaves = tt
  stands_so cuts.InAppend None leaves = tt
  stands_so cuts.InAppend (Some r) leaves = leaves.left
  stands_so cuts.AfterRecord wrote leaves = tt

pub end_parts : {D : Type 0} (d : Ghosts D) (before now : Node D) (incoming : Incoming) (points : List Point) (err : TurnErr) → EndsEarly d before now incoming points err → EndParts d before now incoming points err
end_parts d before now incoming points (errs.Cut c) ends = record {
  is_cut = ends.turn;
  stops = ends.stops;
  tried = tried_so d (disk_of before) (disk_of now) c.at c.tried ends.leaves;
  stored = stored_so d (disk_of before) (disk_of now) c.at c.tried ends.leaves;
  goes = goes_so d (disk_of before) (disk_of now) c.at c.tried ends.leaves;
  stands = stands_so d (disk_of before) (disk_of now) c.at c.tried ends.leaves;
}
end_parts d before now incoming points errs.NoMemory ends = record { is_cut = tt; stops = tt; tried = tt; stored = tt; goes = tt; stands = tt }

-- ---- what a node can start from

module _ {D : Type 0} (undo : ℕ) (content : D → List ℕ) (images : D → List ℕ → Type 0) where
  -- a disk from whose every moment a node can start
  pub can_start : (moment : D → ℕ) (images_since : D → ℕ → List ℕ → Type 0) → ((d : D) → images d (content d)) → ((d : D) (m : ℕ) (image : List ℕ) → m ≤ moment d → images d image → images_since d m image)
      → (old now : D) → AtEachMoment moment images_since old now (IsStartable undo) → CanBeStarted undo content images now
  can_start moment images_since reads counts old now each =
      let crashed : (image : List ℕ) → images now image → IsStartable undo image = λ image is. each.each image (counts now (moment old) image each.later is) in
      record { now = crashed (content now) (reads now); crashed = crashed }

  -- one of which a crash leaves what it holds
  pub starts_if_only : (disk : D) → IsOnly (content disk) (images disk) → IsStartable undo (content disk) → CanBeStarted undo content images disk
  starts_if_only disk only start = record { now = start; crashed = λ image is. subst (IsStartable undo) (sym (only image is)) start }

  -- one that holds what another did, and of which a crash leaves no other bytes
  pub starts_still : (old now : D) → content now ≡ content old → AddsNone (images old) (images now) → CanBeStarted undo content images old → CanBeStarted undo content images now
  starts_still old now same adds can = record { now = subst (IsStartable undo) (sym same) can.now; crashed = λ image is. can.crashed image (adds image is) }

-- the disk of a node that is running
pub starts_running : {D : Type 0} (content : D → List ℕ) (images : D → List ℕ → Type 0) (node : Node D) → IsRunning content images node → CanBeStarted (place_of node).undo content images (disk_of node)
starts_running content images node runs = starts_if_only (place_of node).undo content images (disk_of node) runs.durable (runs.stands.0, runs.stands.1, runs.stands.2)
