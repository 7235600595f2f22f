-- What is proved of the bodies of the log holds of its records.
use Rattle.std.proofs.Common.{ap, Err, ◌∙◌}
use Rattle.redo_log.specs.declared.err.LogErr.{LogErr}
use Rattle.redo_log.specs.Log.{disk_of}
use Rattle.record_log.proofs.Held.{holds_more, grows_by_plan, grows_exactly}
use Rattle.record_log.proofs.Moments.{while_appended}
use Rattle.record_log.proofs.log.RecordLog.append.Goals as goal

pub returns-in-Ok-clause-acknowledged : goal.returns-in-Ok-clause-acknowledged
returns-in-Ok-clause-acknowledged g c =
    let d = g.D.Disk in
    let before = d.content (disk_of c.args.self.now.log) in
    let now = d.content (disk_of c.append.new.self) in
    let is = c.as_slice.ensures ∙ c.in_ok-body.ensures.body in
    let grown = c.in-Ok.ensures.acknowledged in
    record {
      grows = record {
        stored = λ rs hold. holds_more rs c.args.redo.now c.as_slice.result.now before now c.in_ok-body.ensures.spelled is hold grown.grows.stored;
        exact = grows_exactly c.args.redo.now c.as_slice.result.now before now c.in_ok-body.ensures.spelled is grown.grows.exact;
      };
      durable = grown.durable;
      run = grown.run;
    }

pub returns-in-Err-Fault-clause-any_moment : goal.returns-in-Err-Fault-clause-any_moment
returns-in-Err-Fault-clause-any_moment g c =
    let d = g.D.Disk in
    let log = c.args.self.now.log in
    λ intact rs hold.
    while_appended d.moment d.images_since (disk_of log) (disk_of c.append.new.self) rs c.args.redo.now c.as_slice.result.now (d.content (disk_of log)) c.in_ok-body.ensures.spelled
    (c.as_slice.ensures ∙ c.in_ok-body.ensures.body) hold (c.append.ensures.any_moment (c.requires.usable intact).intact)

pub returns-in-Err-Fault-clause-failed : goal.returns-in-Err-Fault-clause-failed
returns-in-Err-Fault-clause-failed g c =
    let d = g.D.Disk in
    let log = c.args.self.now.log in
    λ failed intact.
    let own = c.in-Err-Fault.ensures.failed (ap (λ (e : LogErr). Err e) c.in-Err-Fault.field-0-is) (c.requires.usable intact).intact in
    record {
      run = own.run;
      left = grows_by_plan (d.plan (disk_of log)) c.args.redo.now c.as_slice.result.now (d.content (disk_of log)) (d.content (disk_of c.append.new.self)) c.in_ok-body.ensures.spelled
          (c.as_slice.ensures ∙ c.in_ok-body.ensures.body) own.left;
    }
