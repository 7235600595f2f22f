-- Why records are not loaded: the disk holds a log.
use Rattle.std.proofs.Common.{◌≡◌, List, subst, refl}
use Rattle.block_disk.specs.declared.disk.Disk.{Ghosts}
use Rattle.redo_log.specs.Calls.{LoadFails}
use Rattle.redo_log.specs.declared.err.LoadWhy.{LoadWhy as BodiesWhy}
use Rattle.redo_log.specs.declared.err.LoadWhy.TheVariants as of_bodies
use Rattle.redo_record.specs.declared.record.RedoRecord.{RedoRecord}
use Rattle.record_log.specs.declared.err.LoadWhy.{LoadWhy}
use Rattle.record_log.specs.declared.err.LoadWhy.TheVariants as loads
use Rattle.record_log.specs.Calls.{NotLoaded}
use Rattle.record_log.specs.Held.{HoldRecords}

module _ {D : Type 0} (d : Ghosts D) where
  -- a load of bodies that failed is one of records that did
  pub not_loaded : (result : LoadWhy) (why : BodiesWhy) (before now : D) → (result ≡ loads.Fault → why ≡ of_bodies.Fault) → (result ≡ loads.NoMemory → why ≡ of_bodies.NoMemory) → LoadFails d why before now
      → NotLoaded d result before now
  not_loaded loads.Fault why before now fault memory fails = subst (λ (w : BodiesWhy). LoadFails d w before now) (fault refl) fails
  not_loaded loads.NoMemory why before now fault memory fails = subst (λ (w : BodiesWhy). LoadFails d w before now) (memory refl) fails

  -- it is no lack of a log
  pub holds_a_log : (why : BodiesWhy) (before now : D) → ((rs : List RedoRecord) × HoldRecords rs (d.content before)) → LoadFails d why before now → why ≡ of_bodies.NotALog → ⊥
  holds_a_log why before now hold fails is =
      let none = subst (λ (w : BodiesWhy). LoadFails d w before now) is fails in
      let some = hold.1.held in
      absurd (cc)
