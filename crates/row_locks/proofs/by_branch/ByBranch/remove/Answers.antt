use Rattle.std.proofs.Common.{List, [], cond, None, unwrap_or, ap, ◌∙◌}
use Rattle.tran_ids.specs.Branch.{same}
use Rattle.row_locks.specs.ByBranch.{numbers_at}
use Rattle.row_locks.proofs.MapLaws.{Entry, numbers_are, updated}
use Rattle.row_locks.proofs.by_branch.ByBranch.remove.Goals as goal

pub returns-clause-numbers : goal.returns-clause-numbers
returns-clause-numbers c =
    let es = c.self.inside.numbers.entries in
    ap (λ o. unwrap_or o []) (c.swap_remove.ensures.value)
    ∙ numbers_are c.args.branch.now es ∙ ap (λ (fs : List Entry). numbers_at fs c.args.branch.now) c.self.view_is

pub returns-clause-dropped : goal.returns-clause-dropped
returns-clause-dropped c =
    let b = c.args.branch.now in
    let es = c.self.inside.numbers.entries in
    λ b'.
    updated b None es c.swap_remove.new.self.entries (λ q. c.swap_remove.ensures.updates.0 q) b'
    ∙ ap (λ (fs : List Entry). cond (same b b') [] (numbers_at fs b')) c.self.view_is
