use Rattle.std.proofs.Common.{refl, ap, ◌∙◌}
use Rattle.row_locks.specs.Locks.{in_doubt_from_now}
use Rattle.row_locks.specs.Numbered.{doubtful}
use Rattle.row_locks.proofs.LinkLaws.{mark_is, changed_linked}
use Rattle.row_locks.proofs.locks.Locks.mark_in_doubt.Goals as goal

pub invariant_of-self : goal.invariant_of-self
invariant_of-self c =
    let s = c.self.inside in
    changed_linked doubtful (λ h. refl) c.numbers-numbers.result.now s.locks c.mark_in_doubt_all.new.locks s.by_branch c.self.invariant c.mark_in_doubt_all.ensures

pub returns : goal.returns
returns c =
    let s = c.self.inside in
    mark_is c.args.branch.now c.numbers-numbers.result.now s.locks c.mark_in_doubt_all.new.locks s.by_branch c.self.invariant c.numbers-numbers.ensures c.mark_in_doubt_all.ensures
    ∙ ap (λ ls. in_doubt_from_now ls c.args.branch.now) c.self.view_is
