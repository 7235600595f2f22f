-- At each moment there is at most one byte, which holds no body.
use Rattle.redo_log.proofs.Begun.{with_room, while_written, until_synced}
use Rattle.redo_log.proofs.make.lay_gate.Goals as goal

pub returns-in_err-room-clause-any_moment : goal.returns-in_err-room-clause-any_moment
returns-in_err-room-clause-any_moment g c = λ only. with_room g.D.Disk.images _ _ _ _ (g.met.D.Disk.only_now _) only c.room.ensures.images c.room.ensures.time

pub returns-in_err-write_at-clause-any_moment : goal.returns-in_err-write_at-clause-any_moment
returns-in_err-write_at-clause-any_moment g c =
    λ only. while_written g.D.Disk.images _ _ _ _ (g.met.D.Disk.only_now _) only c.room.ensures.images c.room.ensures.time
    _ c.write_at.ensures.images c.write_at.ensures.time

pub returns-in_err-sync-clause-any_moment : goal.returns-in_err-sync-clause-any_moment
returns-in_err-sync-clause-any_moment g c =
    λ only. until_synced g.D.Disk.images _ _ _ _ (g.met.D.Disk.only_now _) only c.room.ensures.images c.room.ensures.time
    _ c.write_at.ensures.images c.write_at.ensures.time _ c.sync.ensures.images c.sync.ensures.time

pub returns-clause-any_moment : goal.returns-clause-any_moment
returns-clause-any_moment g c =
    λ only. until_synced g.D.Disk.images _ _ _ _ (g.met.D.Disk.only_now _) only c.room.ensures.images c.room.ensures.time
    _ c.write_at.ensures.images c.write_at.ensures.time _ c.sync.ensures.images c.sync.ensures.time
