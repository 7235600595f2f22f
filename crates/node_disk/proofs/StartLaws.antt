-- A start: its record may stand next, and what the node keeps is what all its records say.
use Rattle.std.proofs.Common.{◌≡◌, ℕ, ◌+◌, ◌<◌, ◌^◌, if◌then◌else◌, Bool, true, false, List, [], ◌∷◌, ◌++◌, Option, Some, None, inl, inr, refl, sym, subst, ap, ◌∙◌, arith}
use Rattle.block_disk.specs.Images.{AtEachMoment}
use Rattle.block_disk.specs.Plan.{FaultPlan}
use Rattle.redo_record.specs.Durable.{durable_after}
use Rattle.redo_log.specs.Plans.{CallsGoByPlan, load_calls, plan_after, strikes_any}
use Rattle.redo_log.specs.Stands.{stands_by as stands_by_plan, stands_after}
use Rattle.redo_log.proofs.Moments.{followed_by}
use Rattle.redo_codec.specs.Record.{record_format}
use Rattle.record_log.specs.Held.{HoldRecords, HoldWithOrWithout, GrowsByPlan, with_record_if}
use Rattle.node_rules.specs.Data.{RedoRecord, Place}
use Rattle.node_rules.specs.Data.records
use Rattle.node_rules.specs.NodeState.{Stored, NodeState}
use Rattle.read_only_tx.specs.Versions.{Versions, versions_from}
use Rattle.node_rules.specs.Records.{nothing_stored, applied, stored_by, versions_read, versions_in, with_record}
use Rattle.node_rules.specs.Turn.{start_of, kept_by}
use Rattle.node_ready_laws.specs.Following.{MayFollow}
use Rattle.node_ready_laws.specs.Ready.{IsReady, StartsAreReady}
use Rattle.node_undo_laws.specs.Fits.{FitsDoubts, AllFitDoubts}
use Rattle.node_undo_laws.specs.Kept.{HasUndo}
use Rattle.node_undo_laws.specs.Laws.{SealsHaveRoom, StartsHaveUndo}
use Rattle.node_undo_laws.proofs.StartLemmas.{left_by, none_left}
use Rattle.node_memory.specs.declared.memory.Memory.{Memory}
use Rattle.node_memory.specs.Parts.{stored_in, kept_in}
use Rattle.node_memory.specs.Room.{HasRoomFor, at_start, AllHaveRoom}
use Rattle.node_disk.specs.Starts.{MayBeHad, MayBeNext, IsStartable, CanBeStarted, IsButForAcks, StartIsLeft, last_boot, next_boot}
use Rattle.node_disk.specs.OnDisk.{StandsOn}
use Rattle.node_disk.proofs.TurnLaws.{stored_last, had_next}

-- ---- the record of a start

-- it can be written
pub boot_spelled : (n : ℕ) → n < 2 ^ 32 → record_format.Fits (records.Boot n)
boot_spelled n low = (tt, low)

-- it may follow any
pub boot_may_follow : (s : Stored) (n : ℕ) → MayFollow s (records.Boot n)
boot_may_follow s n = record { listed = tt; stored = tt }

-- it puts no branch in doubt
boot_next : (undo : ℕ) (rs : List RedoRecord) → MayBeHad undo rs → MayBeNext undo (stored_by nothing_stored rs) (next_boot rs)
boot_next undo rs had =
    let room = (left_by undo nothing_stored rs had.follow had.fit (none_left undo)).stands.room in
    ((record { listed = tt; stored = tt }, omega arith), record { free = tt; room = omega (arith, room) })

-- at a start there is room for the undo of each branch that its record puts in doubt
has_room : SealsHaveRoom → (undo : ℕ) (s : Stored) (r : RedoRecord) → FitsDoubts undo s r → HasRoomFor (at_start undo s) r
has_room law undo s (records.Sealed r) fits = law undo s r fits
has_room law undo s _ fits = tt

pub all_have_room : SealsHaveRoom → (undo : ℕ) (s : Stored) (rs : List RedoRecord) → AllFitDoubts undo s rs → AllHaveRoom undo s rs
unfolding AllFitDoubts AllHaveRoom
all_have_room law undo s [] fit = tt
all_have_room law undo s (r ∷ rs) fit = (has_room law undo s r fit.0, all_have_room law undo (applied s r) rs fit.1)

-- with it a node has records that it may have
pub had_started : (undo : ℕ) (rs : List RedoRecord) → MayBeHad undo rs → MayBeHad undo (rs ++ next_boot rs ∷ [])
had_started undo rs had = had_next undo rs (next_boot rs) had (boot_next undo rs had)

-- ---- what the node keeps

-- a node that starts keeps what it would with the record of the start behind the others
kept_started : (s : Stored) (vs : Versions) (n : ℕ) → with_record (kept_by s vs) (records.Boot n) ≡ kept_by (applied s (records.Boot n)) vs
unfolding applied durable_after
kept_started s vs n = refl

-- and it is no commit
versions_started : (s : Stored) (vs : Versions) (rs : List RedoRecord) (n : ℕ) → versions_in s vs (rs ++ records.Boot n ∷ []) ≡ versions_in s vs rs
versions_started s vs [] n = refl
versions_started s vs (r ∷ rs) n = versions_started (applied s r) (versions_read s vs r) rs n

pub started_so : (rs : List RedoRecord) (m : Memory) → kept_in m ≡ start_of rs → with_record (kept_in m) (records.Boot (m.boot + 1)) ≡ start_of (rs ++ next_boot rs ∷ [])
unfolding start_of
started_so rs m kept =
    ap (λ (k : NodeState). with_record k (records.Boot (k.stored.durable.boot + 1))) kept
    ∙ (kept_started (stored_by nothing_stored rs) (versions_in nothing_stored (versions_from 0) rs) (last_boot rs + 1)
    ∙ (λ i. kept_by (sym (stored_last nothing_stored rs (next_boot rs)) i) (sym (versions_started nothing_stored (versions_from 0) rs (last_boot rs + 1)) i)))

-- the number of the last start
pub boot_so : (rs : List RedoRecord) (m : Memory) → kept_in m ≡ start_of rs → m.boot ≡ last_boot rs
unfolding start_of
boot_so rs m kept = ap (λ (k : NodeState). k.stored.durable.boot) kept

-- that of this start is one more
pub boot_started : (rs : List RedoRecord) (m : Memory) → kept_in m ≡ start_of (rs ++ next_boot rs ∷ []) → m.boot ≡ last_boot rs + 1
unfolding applied durable_after
boot_started rs m kept = boot_so (rs ++ next_boot rs ∷ []) m kept ∙ ap (λ (s : Stored). s.durable.boot) (stored_last nothing_stored rs (next_boot rs))

-- it is ready for its next turn
pub ready_started : StartsAreReady → (p : Place) (rs : List RedoRecord) (k : NodeState) → MayBeHad p.undo rs → k ≡ start_of (rs ++ next_boot rs ∷ []) → IsReady p k
ready_started law p rs k had kept = subst (λ (x : NodeState). IsReady p x) (sym kept) (law p rs (last_boot rs + 1) had.follow had.sound (omega arith))

-- and has its undo
pub undo_started : StartsHaveUndo → (p : Place) (rs : List RedoRecord) (k : NodeState) → MayBeHad p.undo rs → k ≡ start_of (rs ++ next_boot rs ∷ []) → HasUndo p k
undo_started law p rs k had kept = subst (λ (x : NodeState). HasUndo p x) (sym kept) (law p rs (last_boot rs + 1) had.follow had.fit)

-- its records say what it stores
stands_by : (undo : ℕ) (rs : List RedoRecord) (m : Memory) (bytes : List ℕ) → HoldRecords rs bytes → MayBeHad undo rs → kept_in m ≡ start_of rs → StandsOn undo bytes (stored_in m)
unfolding start_of
stands_by undo rs m bytes hold had kept =
    (rs, hold, had, subst (λ (s : Stored). IsButForAcks (stored_by nothing_stored rs) s) (sym (ap (λ (k : NodeState). k.stored) kept)) refl)

pub stands_started : (undo : ℕ) (rs : List RedoRecord) (m : Memory) (bytes : List ℕ) → HoldRecords (rs ++ next_boot rs ∷ []) bytes → MayBeHad undo rs → kept_in m ≡ start_of (rs ++ next_boot rs ∷ []) → StandsOn undo bytes (stored_in m)
stands_started undo rs m bytes hold had kept = stands_by undo (rs ++ next_boot rs ∷ []) m bytes hold (had_started undo rs had) kept

-- ---- what was loaded

pub had_of : {D : Type 0} (undo : ℕ) (content : D → List ℕ) (images : D → List ℕ → Type 0) (disk : D) (found : List RedoRecord) → CanBeStarted undo content images disk
    → ((rs : List RedoRecord) → HoldRecords rs (content disk) → found ≡ rs) → MayBeHad undo found
had_of undo content images disk found can only = subst (MayBeHad undo) (sym (only can.now.0 can.now.1)) can.now.2

-- ---- what a fault leaves

-- a record that is appended after these calls stands where no order strikes one of them, and it stands by the plan that they leave
stands_behind : (calls : List Bool) (plan : FaultPlan) (struck : Bool) → strikes_any calls plan ≡ struck → stands_after calls plan ≡ (if struck then false else stands_by_plan (plan_after calls plan))
stands_behind calls plan struck is = ap (λ (b : Bool). if b then false else stands_by_plan (plan_after calls plan)) is

-- where the load met the fault, nothing is written
pub left_loading : (plan now : Option FaultPlan) (before after : List ℕ) → after ≡ before → CallsGoByPlan (load_calls before) plan now true → StartIsLeft plan before after
left_loading None now before after same goes = tt
left_loading (Some plan) now before after same goes = λ rs hold.
    subst (λ (stands : Bool). HoldRecords (with_record_if stands rs (next_boot rs)) after) (sym (stands_behind (load_calls before) plan true goes.1)) (subst (λ (bytes : List ℕ). HoldRecords rs bytes) (sym same) hold)

-- where the append met it, the record of the start stands by the plan
pub left_writing : (plan mid : Option FaultPlan) (before loaded after : List ℕ) (found : List RedoRecord) → ((rs : List RedoRecord) → HoldRecords rs before → found ≡ rs) → loaded ≡ before
    → CallsGoByPlan (load_calls before) plan mid false → GrowsByPlan mid (next_boot found) loaded after → StartIsLeft plan before after
left_writing None mid before loaded after found only same goes grows = tt
left_writing (Some plan) mid before loaded after found only same goes grows = λ rs hold.
    let calls = load_calls before in
    let own : GrowsByPlan (Some (plan_after calls plan)) (next_boot found) loaded after = subst (λ (p : Option FaultPlan). GrowsByPlan p (next_boot found) loaded after) goes.0 grows in
    let held = own rs (subst (λ (bytes : List ℕ). HoldRecords rs bytes) (sym same) hold) in
    subst (λ (stands : Bool). HoldRecords (with_record_if stands rs (next_boot rs)) after) (sym (stands_behind calls plan false goes.1))
    (subst (λ (xs : List RedoRecord). HoldRecords (with_record_if (stands_by_plan (plan_after calls plan)) rs (next_boot xs)) after) (only rs hold) held)

-- ---- at each moment

module _ {D : Type 0} (undo : ℕ) (moment : D → ℕ) (images_since : D → ℕ → List ℕ → Type 0) where
  startable_boot : (rs : List RedoRecord) → MayBeHad undo rs → (image : List ℕ) → HoldWithOrWithout rs (next_boot rs) image → IsStartable undo image
  startable_boot rs had image may = elim may [
    | inl hold ↦ (rs, hold, had)
    | inr hold ↦ (rs ++ next_boot rs ∷ [], hold, had_started undo rs had)
  ]

  -- while the record of a start is written
  pub startable_begun : (old now : D) (rs : List RedoRecord) (boot : ℕ) → MayBeHad undo rs → boot ≡ last_boot rs + 1 → AtEachMoment moment images_since old now (HoldWithOrWithout rs (records.Boot boot))
      → AtEachMoment moment images_since old now (IsStartable undo)
  startable_begun old now rs boot had is moments =
      let own = subst (λ (n : ℕ). AtEachMoment moment images_since old now (HoldWithOrWithout rs (records.Boot n))) is moments in
      record {
        later = own.later;
        each = λ image since. startable_boot rs had image (own.each image since);
        earlier = λ m image le since. elim (own.earlier m image le since) [
          | inl before ↦ inl before
          | inr here ↦ inr (startable_boot rs had image here)
        ];
      }

  -- while nothing is written
  pub startable_left : (old now : D) (rs : List RedoRecord) → MayBeHad undo rs → AtEachMoment moment images_since old now (HoldRecords rs) → AtEachMoment moment images_since old now (IsStartable undo)
  startable_left old now rs had own = record {
    later = own.later;
    each = λ image since. (rs, own.each image since, had);
    earlier = λ m image le since. elim (own.earlier m image le since) [
      | inl before ↦ inl before
      | inr here ↦ inr (rs, here, had)
    ];
  }

  -- while the log is loaded
  pub startable_loaded : (old now : D) (images : List ℕ → Type 0) → ((image : List ℕ) → images image → IsStartable undo image) → AtEachMoment moment images_since old now images
      → AtEachMoment moment images_since old now (IsStartable undo)
  startable_loaded old now images all own = record {
    later = own.later;
    each = λ image since. all image (own.each image since);
    earlier = λ m image le since. elim (own.earlier m image le since) [
      | inl before ↦ inl before
      | inr here ↦ inr (all image here)
    ];
  }

  -- and then a record is written
  pub startable_again : (old mid now : D) (images : List ℕ → Type 0) → ((image : List ℕ) → images image → IsStartable undo image) → AtEachMoment moment images_since old mid images
      → AtEachMoment moment images_since mid now (IsStartable undo) → AtEachMoment moment images_since old now (IsStartable undo)
  startable_again old mid now images all first second =
      followed_by moment images_since old mid now (IsStartable undo) (IsStartable undo) (startable_loaded old mid images all first) second (λ image is. is)
