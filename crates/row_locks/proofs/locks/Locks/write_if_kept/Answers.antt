use Rattle.std.proofs.Common.{refl, ap, ◌∙◌}
use Rattle.row_locks.specs.Back.{kept_if, with_kept}
use Rattle.row_locks.proofs.LinkLaws.{changed_linked}
use Rattle.row_locks.proofs.BackLaws.{kept_is}
use Rattle.row_locks.proofs.locks.Locks.write_if_kept.Goals as goal

pub invariant_of-self : goal.invariant_of-self
invariant_of-self c =
    let s = c.self.inside in
    changed_linked (kept_if c.args.notes.now c.args.changes.now) (λ h. refl) c.numbers-numbers.result.now s.locks c.write_all_kept.new.locks s.by_branch c.self.invariant c.write_all_kept.ensures

pub returns : goal.returns
returns c =
    let s = c.self.inside in
    kept_is c.args.notes.now c.args.changes.now c.args.branch.now c.numbers-numbers.result.now s.locks c.write_all_kept.new.locks s.by_branch c.self.invariant c.numbers-numbers.ensures c.write_all_kept.ensures
    ∙ ap (λ ls. with_kept ls c.args.branch.now c.args.notes.now c.args.changes.now) c.self.view_is
