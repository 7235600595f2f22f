use Rattle.std.proofs.Common.{[], ◌∷◌, true, refl, sym, ◌∙◌}
use Rattle.row_locks.specs.Numbered.{written}
use Rattle.row_locks.proofs.LinkLaws.{changed_linked, err_so}
use Rattle.row_locks.proofs.TakeLaws.{held_by_nobody, taken_to_write}
use Rattle.row_locks.proofs.locks.Locks.hold.Goals as goal

pub add-requires : goal.add-requires
add-requires c =
    held_by_nobody c.args.branch.now c.args.table.now c.args.key.now c.self.inside.locks c.args.self.now c.self.view_is (sym c.holder.ensures.holder ∙ c.in_default.is)

pub returns-in_default-clause-memory : goal.returns-in_default-clause-memory
returns-in_default-clause-memory c =
    err_so c.add.result (held_by_nobody c.args.branch.now c.args.table.now c.args.key.now c.self.inside.locks c.args.self.now c.self.view_is (sym c.holder.ensures.holder ∙ c.in_default.is))

pub invariant_of-self : goal.invariant_of-self
invariant_of-self c =
    changed_linked written (λ h. refl) (c.in-Some.holder.number ∷ []) c.self.inside.locks c.mark_written.new.self c.self.inside.by_branch c.self.invariant c.mark_written.ensures

pub returns-clause-held : goal.returns-clause-held
returns-clause-held c =
    taken_to_write c.args.branch.now c.args.table.now c.args.key.now c.self.inside.locks c.args.self.now c.self.view_is c.in-Some.holder (sym c.holder.ensures.holder ∙ c.in-Some.is) c.mark_written.new.self true c.self.invariant.own c.mark_written.ensures refl
