-- What was read is what the disk holds.
use Rattle.std.proofs.Common.{List, ℕ, refl, sym, subst}
use Rattle.redo_log.specs.Cells.{IsLogTo}
use Rattle.redo_log.proofs.Settled.{settled, log_holds}
use Rattle.redo_log.proofs.log.Log.load.Goals as goal

pub returns-in-Ok-clause-loaded : goal.returns-in-Ok-clause-loaded
returns-in-Ok-clause-loaded g c =
    let d = g.D.Disk in
    record {
      loaded = log_holds c.in-Ok.end c.in-Ok.bodies (d.content c.args.disk) c.in-Ok.ensures.log;
      settled = settled d.content d.images _ c.in-Ok.bodies (subst (λ (l : List ℕ). IsLogTo c.in-Ok.end c.in-Ok.bodies l) (sym c.read_log.ensures.read.content) c.in-Ok.ensures.log) c.in-Ok.ensures.durable;
      intact = refl;
      run = c.in-Ok.ensures.run;
    }
