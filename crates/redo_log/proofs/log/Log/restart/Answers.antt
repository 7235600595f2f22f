-- What is proved of the disk's content holds of the log's bodies, since the log was settled.
use Rattle.std.proofs.Common.{◌∙◌, refl, arith}
use Rattle.redo_log.proofs.Anew.{at_start, with_room, while_replaced, stored, settled_anew, left}
use Rattle.redo_log.proofs.Restarted.{run_anew, fault_anew}
use Rattle.redo_log.proofs.Settled.{not_both}
use Rattle.redo_log.proofs.log.Log.restart.Goals as goal

pub returns-in_err-check-clause-any_moment : goal.returns-in_err-check-clause-any_moment
returns-in_err-check-clause-any_moment g c = λ intact. at_start _ _ _ (c.requires.usable intact) _ _ _ (g.met.D.Disk.only_now _)

pub returns-in_err-room-clause-any_moment : goal.returns-in_err-room-clause-any_moment
returns-in_err-room-clause-any_moment g c =
    λ intact. with_room _ _ _ (c.requires.usable intact) _ _ _ (g.met.D.Disk.only_now _) _ c.room.ensures.images c.room.ensures.time

pub returns-in_err-behind-clause-any_moment : goal.returns-in_err-behind-clause-any_moment
returns-in_err-behind-clause-any_moment g c =
    λ intact. with_room _ _ _ (c.requires.usable intact) _ _ _ (g.met.D.Disk.only_now _) _ c.room.ensures.images c.room.ensures.time

pub returns-in-Ok-clause-any_moment : goal.returns-in-Ok-clause-any_moment
returns-in-Ok-clause-any_moment g c =
    λ intact. while_replaced _ _ _ (c.requires.usable intact) _ _ _ (g.met.D.Disk.only_now _) _ _ _ c.room.ensures.images c.room.ensures.time
    c.room.ensures.content (c.deref.ensures.value ∙ c.in_ok-behind.ensures) (omega (arith, c.in_ok-check.ensures.ok.1)) c.replace.ensures.any_moment

pub returns-clause-any_moment : goal.returns-clause-any_moment
returns-clause-any_moment g c =
    λ intact. while_replaced _ _ _ (c.requires.usable intact) _ _ _ (g.met.D.Disk.only_now _) _ _ _ c.room.ensures.images c.room.ensures.time
    c.room.ensures.content (c.deref.ensures.value ∙ c.in_ok-behind.ensures) (omega (arith, c.in_ok-check.ensures.ok.1)) c.replace.ensures.any_moment

pub returns-in-Ok-clause-acknowledged : goal.returns-in-Ok-clause-acknowledged
returns-in-Ok-clause-acknowledged g c =
    let is = c.requires.usable c.in_ok-check.ensures.ok.0 in
    let staged = c.deref.ensures.value ∙ c.in_ok-behind.ensures in
    record {
      fits = c.in_ok-check.ensures.ok.1;
      stored = stored _ _ _ is _ _ _ _ c.room.ensures.content staged (omega (arith, c.in_ok-check.ensures.ok.1)) c.in-Ok.ensures.stored;
      durable = c.in-Ok.ensures.durable;
      run = run_anew g.D.Disk _ _ _ c.room.ensures.content c.room.ensures.faults c.room.ensures.calls c.room.ensures.writes c.room.ensures.plan c.in-Ok.ensures.run;
    }

pub returns-clause-failed : goal.returns-clause-failed
returns-clause-failed g c =
    λ failed intact. record {
      run = fault_anew g.D.Disk _ _ _ c.room.ensures.content c.room.ensures.faults c.room.ensures.calls c.room.ensures.writes c.room.ensures.plan c.in-Err.ensures.failed;
      left = left g.D.Disk.content g.D.Disk.images _ (c.requires.usable intact) _ _ _ _ _ _ c.room.ensures.plan c.room.ensures.content (c.deref.ensures.value ∙ c.in_ok-behind.ensures) (omega (arith, c.in_ok-check.ensures.ok.1)) c.in-Err.ensures.left;
    }

pub returns-in-Ok-clause-after : goal.returns-in-Ok-clause-after
returns-in-Ok-clause-after g c = record {
  usable = λ intact. settled_anew _ _ _ (c.requires.usable intact) _ _ _ _ c.room.ensures.content (c.deref.ensures.value ∙ c.in_ok-behind.ensures) (omega (arith, c.in_ok-check.ensures.ok.1)) c.in-Ok.ensures.stored
      _ refl (omega (arith, c.in_ok-check.ensures.ok.1)) c.in-Ok.ensures.durable;
  breaks = c.in_ok-check.ensures.ok.0;
  stays_broken = λ is. absurd (not_both _ is c.in_ok-check.ensures.ok.0);
  untouched = λ is. absurd (not_both _ is c.in_ok-check.ensures.ok.0);
}
