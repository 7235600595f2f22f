-- At each moment, either nothing before the gate's end has changed or the bytes follow it.
use Rattle.std.proofs.Common.{true, false, [], ◌∷◌}
use Rattle.std.proofs.lemmas.Result.{on_ok_weaker, on_err_weaker}
use Rattle.redo_log.proofs.Stored.{while_opened, until_synced}
use Rattle.redo_log.proofs.Runs.{fault, then_fault, then_run, last_fault, last_run}
use Rattle.redo_log.proofs.Left.{on_err, third_left, fourth_left}
use Rattle.redo_log.proofs.log.store.Goals as goal

pub returns-in_err-write_at-2-clause-any_moment : goal.returns-in_err-write_at-2-clause-any_moment
returns-in_err-write_at-2-clause-any_moment g c =
    while_opened g.D.Disk.images _ _ _ _ _ _ c.requires.gate _ _ _ _ (g.met.D.Disk.only_now _) c.requires.durable c.write_at.ensures.images c.write_at.ensures.time
    c.sync.ensures.images c.sync.ensures.time c.in_ok-write_at.ensures.written c.in_ok-sync.ensures.durable c.write_at-2.ensures.images c.write_at-2.ensures.time

pub returns-clause-any_moment : goal.returns-clause-any_moment
returns-clause-any_moment g c =
    until_synced g.D.Disk.images _ _ _ _ _ _ c.requires.gate _ _ _ _ (g.met.D.Disk.only_now _) c.requires.durable c.write_at.ensures.images c.write_at.ensures.time
    c.sync.ensures.images c.sync.ensures.time c.in_ok-write_at.ensures.written c.in_ok-sync.ensures.durable c.write_at-2.ensures.images c.write_at-2.ensures.time
    _ c.sync-2.ensures.images c.sync-2.ensures.time

pub returns-in_err-write_at-clause-failed : goal.returns-in_err-write_at-clause-failed
returns-in_err-write_at-clause-failed g c =
    on_err _ _ (fault g.D.Disk _ _ _ _ true (false ∷ true ∷ false ∷ []) _ c.in_err-write_at.ensures.cause c.write_at.ensures.calls c.write_at.ensures.writes c.in_err-write_at.ensures.plan)

pub returns-in_err-sync-clause-failed : goal.returns-in_err-sync-clause-failed
returns-in_err-sync-clause-failed g c =
    on_err _ _
    (then_fault g.D.Disk _ _ _ _ _ true (false ∷ true ∷ false ∷ []) _ c.in_ok-write_at.ensures.cause c.write_at.ensures.calls c.write_at.ensures.writes c.in_ok-write_at.ensures.plan
    (fault g.D.Disk _ _ _ _ false (true ∷ false ∷ []) _ c.in_err-sync.ensures.cause c.sync.ensures.calls c.sync.ensures.writes c.in_err-sync.ensures.plan))

pub returns-in_err-write_at-2-clause-failed : goal.returns-in_err-write_at-2-clause-failed
returns-in_err-write_at-2-clause-failed g c =
    on_err _ _
    (then_fault g.D.Disk _ _ _ _ _ true (false ∷ true ∷ false ∷ []) _ c.in_ok-write_at.ensures.cause c.write_at.ensures.calls c.write_at.ensures.writes c.in_ok-write_at.ensures.plan
    (then_fault g.D.Disk _ _ _ _ _ false (true ∷ false ∷ []) _ c.in_ok-sync.ensures.cause c.sync.ensures.calls c.sync.ensures.writes c.in_ok-sync.ensures.plan
    (fault g.D.Disk _ _ _ _ true (false ∷ []) _ c.in_err-write_at-2.ensures.cause c.write_at-2.ensures.calls c.write_at-2.ensures.writes c.in_err-write_at-2.ensures.plan)))

pub returns-clause-failed : goal.returns-clause-failed
returns-clause-failed g c =
    on_err_weaker c.sync-2.result
    (λ last. then_fault g.D.Disk _ _ _ _ _ true (false ∷ true ∷ false ∷ []) _ c.in_ok-write_at.ensures.cause c.write_at.ensures.calls c.write_at.ensures.writes c.in_ok-write_at.ensures.plan
    (then_fault g.D.Disk _ _ _ _ _ false (true ∷ false ∷ []) _ c.in_ok-sync.ensures.cause c.sync.ensures.calls c.sync.ensures.writes c.in_ok-sync.ensures.plan
    (then_fault g.D.Disk _ _ _ _ _ true (false ∷ []) _ c.in_ok-write_at-2.ensures.cause c.write_at-2.ensures.calls c.write_at-2.ensures.writes c.in_ok-write_at-2.ensures.plan last)))
    (last_fault g.D.Disk _ _ false _ c.sync-2.ensures.cause c.sync-2.ensures.calls c.sync-2.ensures.writes c.sync-2.ensures.plan)

pub returns-clause-run : goal.returns-clause-run
returns-clause-run g c =
    on_ok_weaker c.sync-2.result
    (λ last. then_run g.D.Disk _ _ _ _ _ true (false ∷ true ∷ false ∷ []) _ c.in_ok-write_at.ensures.cause c.write_at.ensures.calls c.write_at.ensures.writes c.in_ok-write_at.ensures.plan
    (then_run g.D.Disk _ _ _ _ _ false (true ∷ false ∷ []) _ c.in_ok-sync.ensures.cause c.sync.ensures.calls c.sync.ensures.writes c.in_ok-sync.ensures.plan
    (then_run g.D.Disk _ _ _ _ _ true (false ∷ []) _ c.in_ok-write_at-2.ensures.cause c.write_at-2.ensures.calls c.write_at-2.ensures.writes c.in_ok-write_at-2.ensures.plan last)))
    (last_run g.D.Disk _ _ false _ c.sync-2.ensures.cause c.sync-2.ensures.calls c.sync-2.ensures.writes c.sync-2.ensures.plan)

pub returns-in_err-write_at-2-clause-left : goal.returns-in_err-write_at-2-clause-left
returns-in_err-write_at-2-clause-left g c =
    on_err _ _
    (third_left _ _ _ _ _ c.requires.gate _ c.in_ok-write_at.ensures.written _ _ _ _ _ _ c.in_ok-write_at.ensures.plan c.in_ok-sync.ensures.plan _ _ c.sync.ensures.content
    _ c.in_err-write_at-2.ensures.plan c.in_err-write_at-2.ensures.left)

pub returns-clause-left : goal.returns-clause-left
returns-clause-left g c =
    on_err _ _
    (fourth_left _ _ _ _ _ c.requires.gate _ c.in_ok-write_at.ensures.written _ _ _ _ _ _ c.in_ok-write_at.ensures.plan c.in_ok-sync.ensures.plan _ _ c.sync.ensures.content
    _ _ c.in_ok-write_at-2.ensures.plan c.in_ok-write_at-2.ensures.written c.sync-2.ensures.content)
