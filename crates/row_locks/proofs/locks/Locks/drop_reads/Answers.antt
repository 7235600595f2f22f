use Rattle.std.proofs.Common.{ap, ◌∙◌}
use Rattle.row_locks.specs.Locks.{without_reads}
use Rattle.row_locks.proofs.LinkLaws.{reads_is, reads_linked}
use Rattle.row_locks.proofs.locks.Locks.drop_reads.Goals as goal

pub invariant_of-self : goal.invariant_of-self
invariant_of-self c =
    let s = c.self.inside in
    reads_linked c.args.branch.now c.numbers-numbers.result.now s.locks c.remove_reads.new.locks s.by_branch c.self.invariant c.numbers-numbers.ensures c.keep.new.self c.remove_reads.ensures c.keep.ensures

pub returns : goal.returns
returns c =
    let s = c.self.inside in
    reads_is c.args.branch.now c.numbers-numbers.result.now s.locks c.remove_reads.new.locks s.by_branch c.self.invariant c.numbers-numbers.ensures c.remove_reads.ensures
    ∙ ap (λ ls. without_reads ls c.args.branch.now) c.self.view_is
