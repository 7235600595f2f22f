use Rattle.std.proofs.Common.{[], ap, ◌∙◌}
use Rattle.row_locks.specs.Locks.{without_reads}
use Rattle.row_locks.specs.Back.{with_kept}
use Rattle.row_locks.proofs.BackLaws.{back_is}
use Rattle.row_locks.proofs.locks.Locks.go_back.Goals as goal

pub returns : goal.returns
returns c =
    let b = c.args.branch.now in
    let notes = c.args.notes.now in
    let changes = c.args.changes.now in
    c.write_if_kept-2.ensures
    ∙ ap (λ ls. with_kept ls b [] changes) (c.drop_reads.ensures ∙ ap (λ ls. without_reads ls b) c.write_if_kept.ensures)
    ∙ back_is notes changes b c.args.self.now
