-- drop_last
use Rattle.std.proofs.Common.{◌-◌, List, take, length, sym, ap, ◌∙◌}
use Rattle.row_locks.specs.Locks.{Lock}
use Rattle.row_locks.proofs.LastLaws.{last_less, last_linked, none_last}
use Rattle.row_locks.proofs.locks.Locks.drop_last.Goals as goal

pub invariant_of-self : goal.invariant_of-self
invariant_of-self c =
    let s = c.self.inside in
    last_linked s.locks c.remove.new.self c.in-Some.last s.by_branch c.pop.new.self (sym c.last.ensures.holder ∙ c.in-Some.is) c.self.invariant c.remove.ensures c.pop.ensures

pub returns-in-Some : goal.returns-in-Some
returns-in-Some c =
    let s = c.self.inside in
    last_less s.locks c.remove.new.self c.in-Some.last (sym c.last.ensures.holder ∙ c.in-Some.is) c.self.invariant.own c.remove.ensures
    ∙ ap (λ (ls : List Lock). take (length ls - 1) ls) c.self.view_is

pub returns-in_default : goal.returns-in_default
returns-in_default c =
    sym c.self.view_is ∙ none_last c.self.inside.locks (sym c.last.ensures.holder ∙ c.in_default.is) ∙ ap (λ (ls : List Lock). take (length ls - 1) ls) c.self.view_is
