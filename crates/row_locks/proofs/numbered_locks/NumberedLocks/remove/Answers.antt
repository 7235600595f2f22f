use Rattle.std.proofs.Common.{◌≡◌, ◌-◌, ◌≤◌, List, [], ◌∷◌, Some, sym, ap, subst, ◌∙◌, arith}
use Rattle.std.specs.Map.{lookup}
use Rattle.row_locks.specs.Numbered.{Numbered, is_number, without_numbers}
use Rattle.row_locks.proofs.NumberLaws.{removed}
use Rattle.row_locks.proofs.LessLaws.{one_if}
use Rattle.row_locks.proofs.KeptLaws.{one_less, some_doubted}
use Rattle.row_locks.proofs.numbered_locks.NumberedLocks.remove.Goals as goal

pub overflow_sub-self : goal.overflow_sub-self
overflow_sub-self c =
    let s = c.self.inside in
    let there : lookup (is_number c.args.number) s.locks.entries ≡ Some c.in-Some.lock = sym c.remove.ensures.value ∙ c.in-Some.is in
    let some = some_doubted c.in-Some.lock c.args.number s.locks.entries c.self.invariant.apart.numbers there c.if-lock.true in
    subst (λ m. 1 ≤ m) (sym c.self.invariant.counted) some

pub invariant_of-self : goal.invariant_of-self
invariant_of-self c =
    let s = c.self.inside in
    let h = c.in-Some.lock in
    let there : lookup (is_number c.args.number) s.locks.entries ≡ Some h = sym c.remove.ensures.value ∙ c.in-Some.is in
    let least = subst (λ m. 1 ≤ m) (sym c.self.invariant.counted) (some_doubted h c.args.number s.locks.entries c.self.invariant.apart.numbers there c.if-lock.true) in
    let one : one_if h.in_doubt ≡ 1 = ap one_if c.if-lock.true in
    one_less h c.args.number s.next s.doubts (s.doubts - 1) s.locks.entries c.remove.new.self.entries s.numbers.entries c.forget.new.numbers.entries c.self.invariant there
    c.remove.ensures.entries (omega arith) c.forget.ensures

pub returns-then-lock : goal.returns-then-lock
returns-then-lock c =
    c.remove.ensures.entries ∙ removed c.args.number c.self.inside.locks.entries c.self.invariant.apart.numbers ∙ ap (λ (es : List Numbered). without_numbers (c.args.number ∷ []) es) c.self.view_is

pub invariant_of-self-else-lock : goal.invariant_of-self-else-lock
invariant_of-self-else-lock c =
    let s = c.self.inside in
    let h = c.in-Some.lock in
    let there : lookup (is_number c.args.number) s.locks.entries ≡ Some h = sym c.remove.ensures.value ∙ c.in-Some.is in
    let none : one_if h.in_doubt ≡ 0 = ap one_if c.if-lock.false in
    one_less h c.args.number s.next s.doubts s.doubts s.locks.entries c.remove.new.self.entries s.numbers.entries c.forget.new.numbers.entries c.self.invariant there
    c.remove.ensures.entries (omega arith) c.forget.ensures

pub returns-in-Some : goal.returns-in-Some
returns-in-Some c =
    c.remove.ensures.entries ∙ removed c.args.number c.self.inside.locks.entries c.self.invariant.apart.numbers ∙ ap (λ (es : List Numbered). without_numbers (c.args.number ∷ []) es) c.self.view_is

pub returns : goal.returns
returns c =
    c.remove.ensures.entries ∙ removed c.args.number c.self.inside.locks.entries c.self.invariant.apart.numbers ∙ ap (λ (es : List Numbered). without_numbers (c.args.number ∷ []) es) c.self.view_is
