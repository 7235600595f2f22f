-- The other log is empty or of a lower generation until it has the image, whose generation is the next.
use Rattle.std.proofs.lemmas.Result.{on_ok_weaker}
use Rattle.redo_log.specs.Restart.{HasRestarted}
use Rattle.checkpoint.proofs.Swapped.{swap_first, swap_second, swapped_second}
use Rattle.checkpoint.proofs.two_logs.TwoLogs.swap.Goals as goal

pub returns-then-self-2-clause-any_moment : goal.returns-then-self-2-clause-any_moment
returns-then-self-2-clause-any_moment g c =
    λ whole. swap_first _ _ _ g.D.Disk.images _ (c.requires.ready whole) _ _ c.requires.next c.if-self-2.true (c.restart-begun.ensures.any_moment (c.requires.ready whole).first_intact)

pub returns-else-self-2-clause-any_moment : goal.returns-else-self-2-clause-any_moment
returns-else-self-2-clause-any_moment g c =
    λ whole. swap_second _ _ _ g.D.Disk.images _ (c.requires.ready whole) _ _ c.requires.next c.if-self-2.false (c.restart-begun-else-self-2.ensures.any_moment (c.requires.ready whole).second_intact)

pub returns-else-self-2-clause-durable : goal.returns-else-self-2-clause-durable
returns-else-self-2-clause-durable g c =
    on_ok_weaker c.restart-begun-else-self-2.result (λ (done : HasRestarted g.D.Disk c.args.image.now _ _). swapped_second g.D.Disk.moment g.D.Disk.images_since _ g.D.Disk.images _ (c.requires.ready c.if-self.false) _ _ c.requires.next c.if-self-2.false done.stored) c.restart-begun-else-self-2.ensures.acknowledged
