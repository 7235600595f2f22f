-- The record of a start stands, or it does not as the append says.
use Rattle.std.proofs.Common.{Err, sym, subst, ap}
use Rattle.redo_record.specs.declared.record.RedoRecord.TheVariants as records
use Rattle.redo_log.specs.Runs.{IsUntouched, LeavesByPlan}
use Rattle.block_disk.specs.Images.{AtEachMoment}
use Rattle.record_log.specs.Held.{GrowsByPlan, HoldWithOrWithout}
use Rattle.record_log.specs.Log.{disk_of}
use Rattle.node_disk.proofs.starting.begin.Goals as goal

pub returns-in-Ok-clause-written : goal.returns-in-Ok-clause-written
returns-in-Ok-clause-written g c =
    let grown = c.in-Ok.ensures.acknowledged in
    record { stored = grown.grows.stored; run = grown.run }

pub returns-in-Ok-clause-any_moment : goal.returns-in-Ok-clause-any_moment
returns-in-Ok-clause-any_moment g c = λ rs hold. c.in-Ok.ensures.any_moment c.requires.intact rs hold

pub returns-in-Err-clause-any_moment : goal.returns-in-Err-clause-any_moment
returns-in-Err-clause-any_moment g c =
    let d = g.D.Disk in
    let old = disk_of c.args.log in
    λ rs hold. subst (λ x. AtEachMoment d.moment d.images_since old x (HoldWithOrWithout rs (records.Boot c.args.memory.boot))) (sym c.into_disk.ensures) (c.in-Err.ensures.any_moment c.requires.intact rs hold)

pub returns-in-Err-clause-failed : goal.returns-in-Err-clause-failed
returns-in-Err-clause-failed g c is =
    subst (LeavesByPlan g.D.Disk (λ plan. GrowsByPlan plan (records.Boot c.args.memory.boot)) (disk_of c.args.log)) (sym c.into_disk.ensures)
    (c.in-Err.ensures.failed (ap Err (c.append_why.ensures.fault is)) c.requires.intact)

pub returns-in-Err-clause-refused : goal.returns-in-Err-clause-refused
returns-in-Err-clause-refused g c is = subst (IsUntouched g.D.Disk (disk_of c.args.log)) (sym c.into_disk.ensures) (c.in-Err.ensures.refused (ap Err (c.append_why.ensures.memory is)))
