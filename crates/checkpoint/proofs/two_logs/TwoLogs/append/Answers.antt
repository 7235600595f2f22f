-- One more body leaves the active log active.
use Rattle.checkpoint.proofs.Swapped.{append_first, append_second}
use Rattle.checkpoint.proofs.two_logs.TwoLogs.append.Goals as goal

pub returns-then-self-2-clause-any_moment : goal.returns-then-self-2-clause-any_moment
returns-then-self-2-clause-any_moment g c =
    λ whole. append_second _ _ _ g.D.Disk.images _ (c.requires.ready whole) _ _ c.if-self-2.true (c.append-appended.ensures.any_moment (c.requires.ready whole).second_intact)

pub returns-else-self-2-clause-any_moment : goal.returns-else-self-2-clause-any_moment
returns-else-self-2-clause-any_moment g c =
    λ whole. append_first _ _ _ g.D.Disk.images _ (c.requires.ready whole) _ _ c.if-self-2.false (c.append-appended-else-self-2.ensures.any_moment (c.requires.ready whole).first_intact)
