use Rattle.std.proofs.Common.{sym, ◌∙◌}
use Rattle.row_locks.proofs.NumberLaws.{read_removed, read_kept}
use Rattle.row_locks.proofs.numbered_locks.NumberedLocks.remove_read.Goals as goal

pub returns-then-is_read : goal.returns-then-is_read
returns-then-is_read c =
    c.remove.ensures ∙ read_removed c.args.number c.args.self.now c.is_read.ensures.apart.numbers (sym c.is_read.ensures.read ∙ c.if-is_read.true)

pub returns-else-is_read : goal.returns-else-is_read
returns-else-is_read c =
    sym (read_kept c.args.number c.args.self.now c.is_read.ensures.apart.numbers (sym c.is_read.ensures.read ∙ c.if-is_read.false))
