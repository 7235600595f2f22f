-- A node that started again is ready and can take its next turn, and a crash at any moment leaves a disk to start from.
use Rattle.std.proofs.Common.{ℕ, ◌∷◌, [], ◌++◌, ◌∙◌, sym, subst}
use Rattle.redo_record.specs.declared.record.RedoRecord.TheVariants as records
use Rattle.redo_log.specs.Runs.{LeavesByPlan}
use Rattle.record_log.specs.Held.{HoldRecords, GrowsByPlan}
use Rattle.record_log.specs.Log.{disk_of as disk_of_log}
use Rattle.block_disk.specs.Images.{AtEachMoment}
use Rattle.node_rules.specs.Data.{Place}
use Rattle.node_disk.specs.Starts.{MayBeHad, IsStartable}
use Rattle.node_disk.specs.OnDisk.{place_of, kept_of, disk_of}
use Rattle.redo_log.proofs.PlanLaws.{untouched_same}
use Rattle.node_disk.proofs.StartLaws.{ready_started, undo_started, stands_started, startable_begun, startable_left}
use Rattle.node_disk.proofs.starting.begin_again.Goals as goal

pub returns-in-Ok-begin-clause-stored : goal.returns-in-Ok-begin-clause-stored
returns-in-Ok-begin-clause-stored g c =
    let rs = c.args.records.now in
    subst (λ (n : ℕ). HoldRecords (rs ++ records.Boot n ∷ []) (g.D.Disk.content (disk_of c.in-Ok-begin.node))) c.in-Ok.ensures.boot (c.in-Ok-begin.ensures.written.stored rs c.requires.held)

pub returns-in-Ok-begin-clause-next : goal.returns-in-Ok-begin-clause-next
returns-in-Ok-begin-clause-next g c =
    let rs = c.args.records.now in
    let node = c.in-Ok-begin.node in
    let began = c.in-Ok-begin.ensures in
    let bytes = g.D.Disk.content (disk_of node) in
    let hold = subst (λ (n : ℕ). HoldRecords (rs ++ records.Boot n ∷ []) bytes) c.in-Ok.ensures.boot (began.written.stored rs c.requires.held) in
    let kept = began.kept ∙ c.in-Ok.ensures.kept in
    let had = subst (λ (p : Place). MayBeHad p.undo rs) (sym (began.place ∙ c.in-Ok.ensures.place)) c.requires.had in
    record {
      running = record {
        usable = began.ready.usable;
        intact = began.ready.intact;
        durable = began.ready.durable;
        stands = stands_started (place_of node).undo rs node.memory bytes hold had kept;
      };
      ready = ready_started c.starts_are_ready.ensures (place_of node) rs (kept_of node) had kept;
      undo = undo_started c.starts_have_undo.ensures (place_of node) rs (kept_of node) had kept;
    }

pub returns-in-Ok-begin-clause-startable : goal.returns-in-Ok-begin-clause-startable
returns-in-Ok-begin-clause-startable g c =
    let d = g.D.Disk in
    let rs = c.args.records.now in
    startable_begun c.args.place.undo d.moment d.images_since (disk_of_log c.args.log) (disk_of c.in-Ok-begin.node) rs c.in-Ok.memory.boot c.requires.had c.in-Ok.ensures.boot (c.in-Ok-begin.ensures.any_moment rs c.requires.held)

pub returns-in-Err-begin-clause-startable : goal.returns-in-Err-begin-clause-startable
returns-in-Err-begin-clause-startable g c =
    let d = g.D.Disk in
    let rs = c.args.records.now in
    startable_begun c.args.place.undo d.moment d.images_since (disk_of_log c.args.log) c.in-Err-begin.err.disk rs c.in-Ok.memory.boot c.requires.had c.in-Ok.ensures.boot (c.in-Err-begin.ensures.any_moment rs c.requires.held)

pub returns-in-Err-begin-clause-failed : goal.returns-in-Err-begin-clause-failed
returns-in-Err-begin-clause-failed g c is =
    subst (λ (n : ℕ). LeavesByPlan g.D.Disk (λ plan. GrowsByPlan plan (records.Boot n)) (disk_of_log c.args.log) c.in-Err-begin.err.disk) c.in-Ok.ensures.boot (c.in-Err-begin.ensures.failed is)

pub returns-in-Err-clause-refused : goal.returns-in-Err-clause-refused
returns-in-Err-clause-refused g c is = untouched_same g.D.Disk (disk_of_log c.args.log) c.into_disk.result c.into_disk.ensures

pub returns-in-Err-clause-startable : goal.returns-in-Err-clause-startable
returns-in-Err-clause-startable g c =
    let d = g.D.Disk in
    let disk = disk_of_log c.args.log in
    let rs = c.args.records.now in
    subst (λ x. AtEachMoment d.moment d.images_since disk x (IsStartable c.args.place.undo)) (sym c.into_disk.ensures) (startable_left c.args.place.undo d.moment d.images_since disk disk rs c.requires.had (c.leave.ensures rs c.requires.held))
