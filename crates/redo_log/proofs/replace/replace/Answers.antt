-- A list that does not end at the first gate has bodies, and is shut first.
use Rattle.std.proofs.lemmas.Result.{on_err_weaker}
use Rattle.redo_log.proofs.Left.{on_err}
use Rattle.redo_log.proofs.Restarted.{first_open, has_bodies, full_run, full_fault, left_early, left_late}
use Rattle.redo_log.proofs.replace.replace.Goals as goal

pub shut-requires-clause-open : goal.shut-requires-clause-open
shut-requires-clause-open g c = first_open _ _ _ c.requires.list c.if-end-eq0.false

pub returns-in_err-shut-clause-left : goal.returns-in_err-shut-clause-left
returns-in_err-shut-clause-left g c =
    on_err _ _ (left_early _ _ _ _ _ _ (has_bodies _ _ _ c.requires.list c.if-end-eq0.false) c.in_err-shut.ensures.failed.plan c.in_err-shut.ensures.left)

pub returns-clause-run : goal.returns-clause-run
returns-clause-run g c = full_run g.D.Disk _ _ _ _ (has_bodies _ _ _ c.requires.list c.if-end-eq0.false) _ _ _ c.in_ok-shut.ensures.run c.store-2.ensures.run

pub returns-clause-failed : goal.returns-clause-failed
returns-clause-failed g c = full_fault g.D.Disk _ _ _ _ (has_bodies _ _ _ c.requires.list c.if-end-eq0.false) _ _ _ c.in_ok-shut.ensures.run c.store-2.ensures.failed

pub returns-clause-left : goal.returns-clause-left
returns-clause-left g c =
    on_err_weaker c.store-2.result
    (λ stored. left_late _ _ _ _ _ _ _ (first_open _ _ _ c.requires.list c.if-end-eq0.false) c.in_ok-shut.ensures.shut c.in_ok-shut.ensures.run.plan stored (has_bodies _ _ _ c.requires.list c.if-end-eq0.false))
    c.store-2.ensures.left
