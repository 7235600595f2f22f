use Rattle.std.proofs.Common.{map, take}
use Rattle.std.proofs.Transfers.{starts_with_of_append, starts_with_trans}
use Rattle.report.specs.Report.{numbered, printed}
use Rattle.report.proofs.numbered.put_numbered.Goals as goal

pub returns-in_err-put_line-clause-kept : goal.returns-in_err-put_line-clause-kept
returns-in_err-put_line-clause-kept c =
    let start = c.args.out.now.items in
    let there = c.loop-line.out.items in
    let lines = printed (map (numbered c.args.command) (take c.loop-line.line-index c.args.lines.now)) in
    starts_with_trans c.put_line.new.out.items there start c.put_line.ensures.kept
    (starts_with_of_append there start lines c.loop-line.invariant)
