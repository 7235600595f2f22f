use Rattle.std.proofs.Common.{List, ℕ, [], unwrap_or, sym, ap, ◌∙◌}
use Rattle.row_locks.specs.Locks.{without}
use Rattle.row_locks.specs.Numbered.{without_numbers}
use Rattle.row_locks.proofs.NumberLaws.{all_left}
use Rattle.row_locks.proofs.LinkLaws.{release_is, release_linked}
use Rattle.row_locks.proofs.locks.Locks.release.Goals as goal

pub invariant_of-self : goal.invariant_of-self
invariant_of-self c =
    let s = c.self.inside in
    let its = sym (ap (λ o. unwrap_or o []) c.in-Some.is) ∙ c.remove.ensures.numbers in
    release_linked c.args.branch.now c.in-Some.numbers s.locks c.remove_all.new.locks s.by_branch c.self.invariant its c.remove.new.self
    (c.remove_all.ensures ∙ ap (λ (ns : List ℕ). without_numbers ns s.locks) c.as_slice.ensures) c.remove.ensures.dropped

pub returns-in-Some : goal.returns-in-Some
returns-in-Some c =
    let s = c.self.inside in
    let its = sym (ap (λ o. unwrap_or o []) c.in-Some.is) ∙ c.remove.ensures.numbers in
    release_is c.args.branch.now c.in-Some.numbers s.locks c.remove_all.new.locks s.by_branch c.self.invariant its
    (c.remove_all.ensures ∙ ap (λ (ns : List ℕ). without_numbers ns s.locks) c.as_slice.ensures)
    ∙ ap (λ ls. without ls c.args.branch.now) c.self.view_is

pub returns-in_default : goal.returns-in_default
returns-in_default c =
    let s = c.self.inside in
    let its = sym (ap (λ o. unwrap_or o []) c.in_default.is) ∙ c.remove.ensures.numbers in
    release_is c.args.branch.now [] s.locks s.locks s.by_branch c.self.invariant its (sym (all_left s.locks)) ∙ ap (λ ls. without ls c.args.branch.now) c.self.view_is
