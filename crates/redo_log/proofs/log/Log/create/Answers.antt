-- A closed gate alone is the log of no body.
use Rattle.std.proofs.Common.{[], ◌∷◌, arith, refl}
use Rattle.redo_log.proofs.Settled.{settled, is_log, log_holds}
use Rattle.redo_log.proofs.log.Log.create.Goals as goal

pub returns-in-Ok-clause-made : goal.returns-in-Ok-clause-made
returns-in-Ok-clause-made g c =
    let d = g.D.Disk in
    let content = d.content c.lay_gate.new.disk in
    let log = is_log 0 [] (0 ∷ []) content c.in-Ok.ensures.laid (omega arith) tt refl in
    record {
      made = log_holds 0 [] content log;
      exact = c.in-Ok.ensures.laid;
      settled = settled d.content d.images _ [] log c.in-Ok.ensures.durable;
      intact = refl;
      run = c.in-Ok.ensures.run;
    }
