use Rattle.std.proofs.Common.{◌≡◌, [], ◌∷◌, None, refl, sym, ap, ◌∙◌}
use Rattle.std.specs.Prelude.{Result, Ok, Err, IsErrAnd}
use Rattle.row_locks.specs.declared.lock_err.LockErr.{LockErr}
use Rattle.row_locks.specs.declared.lock_err.LockErr.TheVariants.{NoMemory}
use Rattle.row_locks.specs.Locks.{holder_in, named_holder}
use Rattle.row_locks.specs.Numbered.{written}
use Rattle.row_locks.proofs.LinkLaws.{changed_linked}
use Rattle.row_locks.proofs.TakeLaws.{held_by_nobody, free_for_all, held_by_other, held_by_own, taken_to_write, taken_to_read}
use Rattle.row_locks.proofs.locks.Locks.take.Goals as goal

named_none : {A : Type 0} (r : Result A LockErr) → IsErrAnd r (λ e. e ≡ NoMemory) → named_holder r ≡ None
named_none (Ok x) h = refl
named_none (Err e) h = ap holder_in h

pub add-requires : goal.add-requires
add-requires c =
    held_by_nobody c.args.branch.now c.args.table.now c.args.key.now c.self.inside.locks c.args.self.now c.self.view_is (sym c.holder.ensures.holder ∙ c.in_default.is)

pub returns-in_err-add-clause-held : goal.returns-in_err-add-clause-held
returns-in_err-add-clause-held c =
    named_none c.from_residual.result c.from_residual.ensures.1 ∙ free_for_all c.args.branch.now c.args.table.now c.args.key.now c.self.inside.locks c.args.self.now c.self.view_is (sym c.holder.ensures.holder ∙ c.in_default.is)

pub returns-in_err-add-clause-memory : goal.returns-in_err-add-clause-memory
returns-in_err-add-clause-memory c =
    λ _. held_by_nobody c.args.branch.now c.args.table.now c.args.key.now c.self.inside.locks c.args.self.now c.self.view_is (sym c.holder.ensures.holder ∙ c.in_default.is)

pub returns-in_default-clause-held : goal.returns-in_default-clause-held
returns-in_default-clause-held c =
    free_for_all c.args.branch.now c.args.table.now c.args.key.now c.self.inside.locks c.args.self.now c.self.view_is (sym c.holder.ensures.holder ∙ c.in_default.is)

pub returns-then-not-is-clause-held : goal.returns-then-not-is-clause-held
returns-then-not-is-clause-held c =
    held_by_other c.args.branch.now c.args.table.now c.args.key.now c.self.inside.locks c.args.self.now c.self.view_is c.in-Some.holder (sym c.holder.ensures.holder ∙ c.in-Some.is) (sym c.is.ensures ∙ c.if-not-is.true)

pub invariant_of-self : goal.invariant_of-self
invariant_of-self c =
    changed_linked written (λ h. refl) (c.in-Some.holder.number ∷ []) c.self.inside.locks c.mark_written.new.self c.self.inside.by_branch c.self.invariant c.mark_written.ensures

pub returns-then-writes-clause-taken : goal.returns-then-writes-clause-taken
returns-then-writes-clause-taken c =
    taken_to_write c.args.branch.now c.args.table.now c.args.key.now c.self.inside.locks c.args.self.now c.self.view_is c.in-Some.holder (sym c.holder.ensures.holder ∙ c.in-Some.is) c.mark_written.new.self c.args.writes c.self.invariant.own c.mark_written.ensures c.if-writes.true

pub returns-then-writes-clause-held : goal.returns-then-writes-clause-held
returns-then-writes-clause-held c =
    held_by_own c.args.branch.now c.args.table.now c.args.key.now c.self.inside.locks c.args.self.now c.self.view_is c.in-Some.holder (sym c.holder.ensures.holder ∙ c.in-Some.is) (sym c.is.ensures ∙ c.if-not-is.false)

pub returns-else-writes-clause-taken : goal.returns-else-writes-clause-taken
returns-else-writes-clause-taken c =
    taken_to_read c.args.branch.now c.args.table.now c.args.key.now c.self.inside.locks c.args.self.now c.self.view_is c.in-Some.holder (sym c.holder.ensures.holder ∙ c.in-Some.is) c.args.writes c.if-writes.false

pub returns-else-writes-clause-held : goal.returns-else-writes-clause-held
returns-else-writes-clause-held c =
    held_by_own c.args.branch.now c.args.table.now c.args.key.now c.self.inside.locks c.args.self.now c.self.view_is c.in-Some.holder (sym c.holder.ensures.holder ∙ c.in-Some.is) (sym c.is.ensures ∙ c.if-not-is.false)
