-- The node is up where no order struck, and else its disk is left.
use Rattle.std.proofs.Common.{rules}
use Rattle.world.proofs.StartedLemmas.{tried_down, tried_up}
use Rattle.world.proofs.slot.start_disk.Goals as goal

pub returns-in-Ok : goal.returns-in-Ok
returns-in-Ok c =
    record {
      tried = λ d rs has holds.
          let started = c.in-Ok.ensures.started rs holds in
          tried_up c.args.place c.args.disk d rs has holds c.in-Ok.node started.kept started.place_is started.stored started.next.running c.in-Ok.ensures.startable started.run.plan;
    }

pub returns-in-Err-Fault : goal.returns-in-Err-Fault
returns-in-Err-Fault c =
    record {
      tried = λ d rs has holds. tried_down c.args.place c.args.disk d rs has holds c.in-Err-Fault.field-0.disk c.rested.result c.rested.ensures.kept c.rested.ensures.bytes (c.rested.ensures.starts c.args.place.undo c.in-Err-Fault.ensures.startable) c.rested.ensures.power
          (c.in-Err-Fault.ensures.failed (search rules)).run.plan (c.in-Err-Fault.ensures.failed (search rules)).left;
    }
