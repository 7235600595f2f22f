use Rattle.std.proofs.Common.{◌≡◌, Some, sym, ap, ◌∙◌}
use Rattle.std.specs.declared.borrow.Cow.TheVariants.{Borrowed}
use Rattle.std.specs.Option.{option_copied, option_map}
use Rattle.row_locks.specs.declared.held_key.HeldKey.{HeldKey}
use Rattle.row_locks.specs.declared.lock_key.LockKey.{LockKey}
use Rattle.row_locks.specs.Numbered.{holder_in, holder_on, number_on}
use Rattle.row_locks.proofs.FindLaws.{lookup_is}
use Rattle.row_locks.proofs.KeptLaws.{nobody_on, lock_on}
use Rattle.row_locks.proofs.numbered_locks.NumberedLocks.holder.Goals as goal

pub returns-in_err-number-clause-holder : goal.returns-in_err-number-clause-holder
returns-in_err-number-clause-holder c =
    let s = c.self.inside in
    let table = c.args.table.now in
    let key = c.args.key.now in
    let asked : LockKey = record { table = Borrowed c.args.table; key = Borrowed c.args.key } in
    let none = sym (lookup_is asked s.numbers.entries) ∙ sym c.get.ensures.value ∙ ap option_copied c.in_err-number.was in
    c.from_residual.ensures
    ∙ ap (option_map holder_in) (sym (nobody_on s.locks.entries s.numbers.entries s.next s.doubts table key c.self.invariant none))
    ∙ ap (λ es. holder_on es table key) c.self.view_is

pub returns-in_err-lock-clause-holder : goal.returns-in_err-lock-clause-holder
returns-in_err-lock-clause-holder c =
    let s = c.self.inside in
    let table = c.args.table.now in
    let key = c.args.key.now in
    let n = c.in_ok-number.field-0.now in
    let asked : LockKey = record { table = Borrowed c.args.table; key = Borrowed c.args.key } in
    let number : number_on s.locks.entries table key ≡ Some n =
    sym (c.self.invariant.found table key) ∙ sym (lookup_is asked s.numbers.entries) ∙ sym c.get.ensures.value ∙ ap option_copied c.in_ok-number.was in
    let none = sym c.get-2.ensures.value ∙ ap option_copied c.in_err-lock.was in
    c.from_residual-in_err-lock.ensures
    ∙ ap (option_map holder_in) (sym (lock_on table key n s.locks.entries c.self.invariant.apart.numbers number ∙ ap (option_map (λ (h : HeldKey). (n, h))) none))
    ∙ ap (λ es. holder_on es table key) c.self.view_is

pub returns-clause-holder : goal.returns-clause-holder
returns-clause-holder c =
    let s = c.self.inside in
    let table = c.args.table.now in
    let key = c.args.key.now in
    let n = c.in_ok-number.field-0.now in
    let asked : LockKey = record { table = Borrowed c.args.table; key = Borrowed c.args.key } in
    let number : number_on s.locks.entries table key ≡ Some n =
    sym (c.self.invariant.found table key) ∙ sym (lookup_is asked s.numbers.entries) ∙ sym c.get.ensures.value ∙ ap option_copied c.in_ok-number.was in
    let there = sym c.get-2.ensures.value ∙ ap option_copied c.in_ok-lock.was in
    ap (option_map holder_in) (sym (lock_on table key n s.locks.entries c.self.invariant.apart.numbers number ∙ ap (option_map (λ (h : HeldKey). (n, h))) there))
    ∙ ap (λ es. holder_on es table key) c.self.view_is
