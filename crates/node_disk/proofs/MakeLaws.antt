-- A node that is made: it has no record, and then that of its first start.
use Rattle.std.proofs.Common.{◌≡◌, ℕ, List, [], ◌∷◌, ◌++◌, inl, inr, refl, sym, subst, arith}
use Rattle.block_disk.specs.Images.{AtEachMoment, IsOnly}
use Rattle.redo_log.specs.Cells as cells
use Rattle.redo_log.specs.Log.{MayBeBegun}
use Rattle.redo_log.proofs.Moments.{followed_by}
use Rattle.record_log.specs.Held.{HoldRecords, HoldWithOrWithout}
use Rattle.node_rules.specs.Data.{Place}
use Rattle.node_rules.specs.Data.records
use Rattle.node_rules.specs.NodeState.{NodeState}
use Rattle.node_rules.specs.Records.{stored_by}
use Rattle.node_rules.specs.Turn.{start_of, made}
use Rattle.node_ready_laws.specs.Following.{MayAllFollow}
use Rattle.node_ready_laws.specs.Sound.{AreSound}
use Rattle.node_ready_laws.specs.Ready.{IsReady, StartsAreReady}
use Rattle.node_undo_laws.specs.Fits.{AllFitDoubts}
use Rattle.node_undo_laws.specs.Kept.{HasUndo}
use Rattle.node_undo_laws.specs.Laws.{StartsHaveUndo}
use Rattle.node_memory.specs.declared.memory.Memory.{Memory}
use Rattle.node_memory.specs.Parts.{stored_in, kept_in}
use Rattle.node_disk.specs.Starts.{MayBeHad, last_boot, next_boot, MayBeMade}
use Rattle.node_disk.specs.OnDisk.{StandsOn}
use Rattle.node_disk.proofs.MomentLaws.{weaker}
use Rattle.node_disk.proofs.StartLaws.{ready_started, undo_started, stands_started}

pub none_booted : last_boot [] ≡ 0
unfolding stored_by
none_booted = refl

pub none_had : (undo : ℕ) → MayBeHad undo []
unfolding MayAllFollow AreSound AllFitDoubts
none_had undo = record { follow = tt; sound = tt; fit = tt }

-- the first start is the next one of no records
pub made_so : start_of ([] ++ next_boot [] ∷ []) ≡ made
unfolding stored_by
made_so = refl

pub holds_first : (n : ℕ) (bytes : List ℕ) → n ≡ 1 → HoldRecords (records.Boot n ∷ []) bytes → HoldRecords (records.Boot 1 ∷ []) bytes
holds_first n bytes is hold = subst (λ (m : ℕ). HoldRecords (records.Boot m ∷ []) bytes) is hold

pub ready_made : StartsAreReady → (p : Place) (k : NodeState) → k ≡ made → IsReady p k
unfolding stored_by
ready_made law p k kept = ready_started law p [] k (none_had p.undo) kept

pub undo_made : StartsHaveUndo → (p : Place) (k : NodeState) → k ≡ made → HasUndo p k
unfolding stored_by
undo_made law p k kept = undo_started law p [] k (none_had p.undo) kept

pub stands_made : (undo : ℕ) (m : Memory) (bytes : List ℕ) → HoldRecords (records.Boot 1 ∷ []) bytes → kept_in m ≡ made → StandsOn undo bytes (stored_in m)
unfolding stored_by
stands_made undo m bytes hold kept = stands_started undo [] m bytes hold (none_had undo) kept

-- no bytes are no log yet
nothing_begun : MayBeBegun []
unfolding cells.bodies cells.bodies_within
nothing_begun = record { short = omega arith; empty = refl }

module _ {D : Type 0} (moment : D → ℕ) (images_since : D → ℕ → List ℕ → Type 0) where
  -- a disk with nothing on it that is left alone
  pub may_be_empty : (disk : D) (images : List ℕ → Type 0) → IsOnly [] images → AtEachMoment moment images_since disk disk images → AtEachMoment moment images_since disk disk MayBeMade
  may_be_empty disk images only own =
      weaker moment images_since disk disk images MayBeMade own (λ image is. inl (subst MayBeBegun (sym (only image is)) nothing_begun))

  -- while the log is created
  pub may_be_begun : (old now : D) → AtEachMoment moment images_since old now MayBeBegun → AtEachMoment moment images_since old now MayBeMade
  may_be_begun old now own = weaker moment images_since old now MayBeBegun MayBeMade own (λ image may. inl may)

  -- and then the first record is written
  pub may_be_made : (old mid now : D) (n : ℕ) → AtEachMoment moment images_since old mid MayBeBegun → n ≡ 1 → AtEachMoment moment images_since mid now (HoldWithOrWithout [] (records.Boot n))
      → AtEachMoment moment images_since old now MayBeMade
  may_be_made old mid now n first is second =
      followed_by moment images_since old mid now MayBeMade (HoldWithOrWithout [] (records.Boot 1)) (may_be_begun old mid first)
      (subst (λ (m : ℕ). AtEachMoment moment images_since mid now (HoldWithOrWithout [] (records.Boot m))) is second) (λ image may. inr may)
